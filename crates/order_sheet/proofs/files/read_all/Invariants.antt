-- The bytes read stand within the space.
use Rattle.std.proofs.Common.{length, ◌-◌, ◌≤◌}
use Rattle.order_sheet.proofs.files.read_all.Given as goal

abbrev pub invariant-loop-at : goal.invariant-loop-at
invariant-loop-at g l = l.at ≤ length l.initial.space

abbrev pub decreases-loop-at : goal.decreases-loop-at
decreases-loop-at g l = length l.initial.space - l.at
