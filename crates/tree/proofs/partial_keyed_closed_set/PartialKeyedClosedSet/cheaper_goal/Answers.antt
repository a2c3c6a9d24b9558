use Rattle.std.proofs.Common.{rules}
use Rattle.tree.proofs.Goals.{goal-open, goal-first, goal-cheaper, goal-dearer}
use Rattle.tree.proofs.partial_keyed_closed_set.PartialKeyedClosedSet.cheaper_goal.Goals as goal

pub returns-in_default : goal.returns-in_default
returns-in_default c = search (rules, goal-open)

pub returns-in-None : goal.returns-in-None
returns-in-None c = search (rules, goal-first)

pub returns-in-Some-best : goal.returns-in-Some-best
returns-in-Some-best c = search (rules, goal-cheaper)

pub returns-in-Some-2 : goal.returns-in-Some-2
returns-in-Some-2 c = search (rules, goal-dearer)
