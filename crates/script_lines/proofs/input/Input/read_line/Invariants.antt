-- What is kept stands within the line.
use Rattle.std.proofs.Common.{length, ◌≤◌}
use Rattle.script_lines.proofs.input.Input.read_line.Given as goal

abbrev pub invariant-loop-byte : goal.invariant-loop-byte
invariant-loop-byte l = l.length ≤ length l.line
