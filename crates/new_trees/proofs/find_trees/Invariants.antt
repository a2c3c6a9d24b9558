use Rattle.layout.specs.Read.{read_cache}
use Rattle.new_trees.specs.Plant.{SlotTable}
use lib.ListN.{take}
use Rattle.new_trees.proofs.find_trees.Given as goal

abbrev pub invariant-loop-slot : goal.invariant-loop-slot
invariant-loop-slot l = SlotTable (take l.slot (read_cache l.words).trees) l.table
