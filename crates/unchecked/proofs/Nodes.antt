-- A node of the tree in a slot, read in the slot's words: its cost and its moves.
-- Assumes nothing.
use mathlib.Core.Path.{◌≡◌, refl, sym, ap, ap₂, ◌∙◌, subst}
use mathlib.Core.List.{List}
use Prim.Native.Nat.{ℕ, ◌-◌}
use native.Mathlib.Omega.{arith}
use lib.ListN.{length}
use Rattle.model.specs.Tree.{Node, Tree, node}
use Rattle.model.specs.Sound.{Sound, tree}
use Rattle.model.specs.Path.{moves_of}
use Rattle.layout.specs.Layout.{closed_words_at, NodeFits, cost_in, edges_in, vertices_in}
use Rattle.layout.specs.Read.{tree_in, domain_of, read_cache}
use Rattle.layout.specs.Slots.{slot_words}
use Rattle.sound.proofs.Facts.{tree-read}
use Rattle.sound.proofs.InUse.{words-formed, words-tree, words-used, words-node-fits, words-cost}
use Rattle.memory.specs.Memory.{HasNode}
use Rattle.paths.specs.Path.{nodes_of, Hung, MovesIs}
use Rattle.paths.proofs.Hung.{sound-hung}

-- the nodes that words hold are those of the tree that they hold
nodes-of : (ws : List ℕ) (m l : ℕ) (t : List ℕ) → nodes_of ws t ≡ (tree_in ws m l t).nodes
unfolding tree_in
nodes-of ws m l t = refl

-- t: the slot's words; w: the node's number
module _ {ws : List ℕ} {i n : ℕ} (u : HasNode ws i n) {t : List ℕ} (et : t ≡ slot_words (vertices_in ws) (edges_in ws) i ws) {w : ℕ} (is : w ≡ n) where
  abbrev ns : List Node
  ns = (tree (read_cache ws).trees i).nodes

  pub node-fits : NodeFits (length t) w
  node-fits = omega (arith, is, words-node-fits u.used et refl n u.node)

  -- s: the slot's words in the hands of node j
  pub cost-is : {s : List ℕ} {j k : ℕ} → s ≡ t → j ≡ w → k ≡ cost_in s j → k ≡ (node ns n).cost
  cost-is own at z = z ∙ ap₂ (λ (x : List ℕ) (y : ℕ). cost_in x y) own (at ∙ is) ∙ words-cost u.used et refl n u.node

  pub nodes-are : nodes_of ws t ≡ ns
  nodes-are = nodes-of ws (length t - closed_words_at (edges_in ws)) (edges_in ws) t ∙ ap (λ (x : Tree). x.nodes) (words-tree u.used et refl)

  pub is-hung : Hung t w
  is-hung =
      let d = domain_of (vertices_in ws) (edges_in ws) ws in
      let same = words-tree u.used et refl ∙ tree-read ws u.used.slot in
      sound-hung d ws t (edges_in ws) (length t - closed_words_at (edges_in ws)) w (words-formed u.used et refl)
      (subst (Sound d) (sym same) (u.used.sound.sound i u.used.slot)) (omega (arith, is, u.node, words-used u.used et refl))

  pub moves-are : {k : ℕ} → MovesIs t w k → k ≡ moves_of ns n
  moves-are z = z ws ∙ ap₂ (λ (x : List Node) (y : ℕ). moves_of x y) nodes-are is
