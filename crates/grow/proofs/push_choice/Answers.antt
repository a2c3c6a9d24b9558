use Rattle.std.proofs.Common.{tests, rules}
use Rattle.grow.proofs.Pushed.{cost-fits, can-push, pushed}
use Rattle.grow.proofs.push_choice.Goals as goal

pub overflow_add-child : goal.overflow_add-child
overflow_add-child c = search (rules, tests, cost-fits)

pub push_node-requires : goal.push_node-requires
push_node-requires c = search (rules, tests, can-push)

pub returns : goal.returns
returns c = search (rules, tests, pushed)
