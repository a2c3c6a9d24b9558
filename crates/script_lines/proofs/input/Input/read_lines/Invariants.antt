-- What is kept stands within the text.
use Rattle.std.proofs.Common.{length, ◌≤◌}
use Rattle.script_lines.proofs.input.Input.read_lines.Given as goal

abbrev pub invariant-loop-left : goal.invariant-loop-left
invariant-loop-left l = l.length ≤ length l.text
