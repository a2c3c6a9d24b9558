-- What is put stands within the text.
use Rattle.std.proofs.Common.{◌≤◌, length}
use Rattle.limits.proofs.put_vertices.Given as goal

abbrev pub invariant-loop-v : goal.invariant-loop-v
invariant-loop-v l = l.at ≤ length l.text
