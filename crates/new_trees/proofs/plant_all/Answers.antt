use Rattle.std.proofs.Common.{rules}
use Rattle.new_trees.proofs.Planting.{planting-none, can-plant-next, planting-next}
use Rattle.new_trees.proofs.plant_all.Goals as goal

pub loop-start-init : goal.loop-start-init
loop-start-init c = search (rules, planting-none)

pub plant-requires : goal.plant-requires
plant-requires c = search (rules, can-plant-next)

pub loop-start-preserved : goal.loop-start-preserved
loop-start-preserved c = search (rules, planting-next)
