use Rattle.std.proofs.Common.{rules}
use Rattle.opening.proofs.Opened.{no-slots, can-plant, is-opened}
use Rattle.opening.proofs.open_search.Goals as goal

pub returns-then-unused-plan : goal.returns-then-unused-plan
returns-then-unused-plan c = search (rules, no-slots)

pub plant_all-requires : goal.plant_all-requires
plant_all-requires c = search (rules, can-plant)

pub returns : goal.returns
returns c = search (rules, is-opened)
