use Rattle.std.proofs.Common.{tests, rules}
use Rattle.grow.proofs.Growing.{growing-none, growing-all, growing-dry, can-visit-first, growing-on, growing-found, growing-over}
use Rattle.grow.proofs.grow.Goals as goal

pub loop-left-init : goal.loop-left-init
loop-left-init c = search (rules, tests, growing-none)

pub returns-in_default : goal.returns-in_default
returns-in_default c = search (rules, tests, growing-dry, growing-all)

pub visit-requires : goal.visit-requires
visit-requires c = search (rules, tests, can-visit-first)

pub loop-left-preserved : goal.loop-left-preserved
loop-left-preserved c = search (rules, tests, growing-on)

pub returns-in-Found : goal.returns-in-Found
returns-in-Found c = search (rules, tests, growing-found)

pub returns-in-Over : goal.returns-in-Over
returns-in-Over c = search (rules, tests, growing-all, growing-over)

pub returns : goal.returns
returns c = search (rules, tests, growing-all)
