use Rattle.entry_turns.proofs.Walked.{Walked}
use Rattle.entry_turns.proofs.step_trees.Given as goal

abbrev pub invariant-loop-i : goal.invariant-loop-i
invariant-loop-i l = Walked l.initial.words l.fn.search l.words l.next l.tickets l.i
