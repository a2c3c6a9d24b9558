use Rattle.paths.proofs.Counted.{Counted}
use Rattle.paths.proofs.moves.Given as goal

abbrev pub invariant-loop-at : goal.invariant-loop-at
invariant-loop-at l = Counted l.tree l.node l.moves l.at

-- proposed from the loop's first test
abbrev pub decreases-loop-at : goal.decreases-loop-at
decreases-loop-at l = l.at
