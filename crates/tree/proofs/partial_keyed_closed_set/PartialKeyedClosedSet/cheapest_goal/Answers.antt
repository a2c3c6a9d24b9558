use Rattle.std.proofs.Common.{rules}
use Rattle.tree.proofs.Goals.{cheapest-more, cheapest-all}
use Rattle.tree.proofs.partial_keyed_closed_set.PartialKeyedClosedSet.cheapest_goal.Goals as goal

pub loop-goal-preserved : goal.loop-goal-preserved
loop-goal-preserved c = search (rules, cheapest-more)

pub returns : goal.returns
returns c = search (rules, cheapest-all)
