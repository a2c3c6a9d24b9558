use lib.ListN.{take}
use Rattle.layout.specs.Planted.{planted_in}
use Rattle.new_trees.proofs.Roots.{Matches}
use Rattle.new_trees.proofs.plan.Given as goal

abbrev pub invariant-loop-root : goal.invariant-loop-root
invariant-loop-root l = Matches l.words (planted_in l.words (take l.root-index l.roots)) l.root-index l.plan l.table
