use Rattle.std.proofs.Common.{tests, rules}
use Rattle.grow.proofs.PushedAll.{pushing-none, pushing-end, can-push-next, pushing-one}
use Rattle.grow.proofs.push_choices.Goals as goal

pub loop-edge-init : goal.loop-edge-init
loop-edge-init c = search (rules, tests, pushing-none)

pub returns : goal.returns
returns c = search (rules, tests, pushing-end)

pub push_choice-requires : goal.push_choice-requires
push_choice-requires c = search (rules, tests, can-push-next)

pub loop-edge-preserved : goal.loop-edge-preserved
loop-edge-preserved c = search (rules, tests, pushing-one)
