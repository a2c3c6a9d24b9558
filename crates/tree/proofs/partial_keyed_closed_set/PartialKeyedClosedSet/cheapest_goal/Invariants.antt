use Rattle.layout.specs.Read.{read_cache}
use Rattle.tree.proofs.Goals.{Cheapest}
use Rattle.tree.proofs.partial_keyed_closed_set.PartialKeyedClosedSet.cheapest_goal.Given as goal

abbrev pub invariant-loop-goal : goal.invariant-loop-goal
invariant-loop-goal l = Cheapest (read_cache l.words).domain l.words l.self.edges l.self.tree.now l.goals l.best l.goal-index
