use Rattle.std.proofs.Common.{tests, rules}
use Rattle.grow.proofs.Visited.{can-close, visit-closed, can-push-choices, visit-open}
use Rattle.grow.proofs.visit.Goals as goal

pub close-requires : goal.close-requires
close-requires c = search (rules, tests, can-close)

pub returns-in-Rejected : goal.returns-in-Rejected
returns-in-Rejected c = search (rules, tests, visit-closed, visit-open)

pub push_choices-requires : goal.push_choices-requires
push_choices-requires c = search (rules, tests, can-push-choices)

pub returns : goal.returns
returns c = search (rules, tests, visit-open)
