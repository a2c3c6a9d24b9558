use Rattle.unchecked.proofs.Underway.{Underway}
use Rattle.unchecked.proofs.solve.Given as goal

abbrev pub invariant-loop-waits : goal.invariant-loop-waits
invariant-loop-waits l = Underway l.initial.words l.initial.next l.steps l.words l.next l.waits l.tickets
