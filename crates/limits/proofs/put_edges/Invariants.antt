-- What is put stands within the text.
use Rattle.std.proofs.Common.{◌≤◌, length}
use Rattle.limits.proofs.put_edges.Given as goal

abbrev pub invariant-loop-e : goal.invariant-loop-e
invariant-loop-e l = l.at ≤ length l.text
