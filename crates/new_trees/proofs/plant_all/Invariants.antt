use Rattle.new_trees.specs.Plant.{PlantsAll}
use lib.ListN.{take}
use Rattle.new_trees.proofs.plant_all.Given as goal

abbrev pub invariant-loop-start : goal.invariant-loop-start
invariant-loop-start l = PlantsAll l.initial.words (take l.start-index l.starts) l.words
