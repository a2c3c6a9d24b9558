use Rattle.std.proofs.Common.{◌-◌}
use Rattle.grow.proofs.PushedAll.{Pushing}
use Rattle.grow.proofs.push_choices.Given as goal

abbrev pub invariant-loop-edge : goal.invariant-loop-edge
invariant-loop-edge l = Pushing l.fn.s l.initial.words l.node l.vertex l.cost l.initial.place l.end l.words l.place

abbrev pub decreases-loop-edge : goal.decreases-loop-edge
decreases-loop-edge l = l.end - l.place
