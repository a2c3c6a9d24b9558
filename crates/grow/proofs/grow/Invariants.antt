use Rattle.grow.proofs.Growing.{Growing}
use Rattle.grow.proofs.grow.Given as goal

abbrev pub invariant-loop-left : goal.invariant-loop-left
invariant-loop-left l = Growing l.initial.words l.slot l.goals l.bound l.s l.words l.left l.tickets

-- proposed from the loop's first test
abbrev pub decreases-loop-left : goal.decreases-loop-left
decreases-loop-left l = l.left
