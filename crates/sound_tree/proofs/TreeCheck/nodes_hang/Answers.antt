use Rattle.std.proofs.Common.{rules, arith, sym, refl}
use borrow.Author.Tests.{tests}
use Rattle.layout.proofs.Trees.{tree-nodes}
use Rattle.sound_tree.proofs.Ranges.{all_above}
use Rattle.sound_tree.proofs.TreeCheck.nodes_hang.Goals as goal

pub returns : goal.returns
returns c =
    all_above c.all.ensures.ran _ _ (λ x b q k. search (rules, tests)) refl (omega (arith, c.args.self.counted.some_node))
    (sym (tree-nodes c.args.self.words.now c.args.self.vertices c.args.self.edges c.args.self.tree.now))
