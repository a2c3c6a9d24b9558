use Rattle.std.proofs.Common.{arith, refl}
use Rattle.sound.proofs.InUse.{has-slot, words-used, words-node-fits, words-solution}
use Rattle.memory.proofs.Kept.{kept-node}
use Rattle.memory.proofs.held_node.HeldNode.solution_cost.Goals as goal

pub slot_words-tree-requires : goal.slot_words-tree-requires
slot_words-tree-requires c = has-slot (kept-node c.args.self.held).used

pub solution_cost-requires : goal.solution_cost-requires
solution_cost-requires c =
    let a = kept-node c.args.self.held in
    let own = c.slot_words-tree.ensures in
    (omega (arith, a.node, words-used a.used own refl), omega (arith, words-node-fits a.used own refl _ a.node))

pub returns : goal.returns
returns c =
    let a = kept-node c.args.self.held in
    words-solution a.used c.slot_words-tree.ensures refl _ a.node _ c.solution_cost.ensures
