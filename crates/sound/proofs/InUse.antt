-- A slot in use, read: its own words are there, are formed, hold the slot's tree, and the tree's nodes are of the vertices.
-- Assumes nothing.
use mathlib.Core.Path.{◌≡◌, refl, sym, ap, ap₂, ◌∙◌}
use mathlib.Core.List.{List}
use Prim.Native.Nat.{ℕ, ◌-◌, ◌<◌}
use native.Mathlib.Omega.{arith}
use borrow.Rule.Slice.PartMut.{mid_of}
use lib.ListN.{length}
use Rattle.model.specs.Graph.{Domain}
use Rattle.model.specs.Worth.{solution_cost}
use Rattle.model.specs.Tree.{Node, Tree, node}
use Rattle.model.specs.Sound.{tree}
use Rattle.model.proofs.Least.{node-inside}
use Rattle.layout.specs.declared.slots.Slot.{Slot}
use Rattle.layout.specs.Layout.{NodeFits, slot_at, closed_words_at, tree_words, cost_in, edges_in, slots_in, trees_in, used_in, vertex_in, vertices_in}
use Rattle.layout.specs.Read.{read_cache}
use Rattle.layout.specs.Slots.{slot_words, slot_of, SlotIs, words_in, tree_at, HasSlot}
use Rattle.layout.proofs.Places.{part_length}
use Rattle.layout.proofs.SlotWords.{slot-words-length}
use Rattle.layout.proofs.Trees.{tree-nodes, tree-node}
use Rattle.graph.proofs.Parts.{mid_at}
use Rattle.tree.specs.Tree.{tree_of, Formed, HasVertex, SolutionCostIs}
use Rattle.tree.proofs.Same.{tree-of}
use Rattle.sound.specs.Facts.{SoundWords, InUse, Ready}
use Rattle.sound.proofs.Facts.{trees-length, tree-read, sound-accepted, sound-cache, vertices-read}
use Rattle.sound.proofs.Slots.{slot-before}

module _ {ws : List ℕ} {i : ℕ} (u : InUse ws i) where
  -- what `slot_words` asks for
  pub has-slot : HasSlot ws i
  has-slot =
      let below : i < slots_in ws = omega (arith, u.slot, u.sound.used) in
      record {
        numbered = record { header = u.sound.header; sized = u.sound.held.sized; few = omega (arith, u.sound.slots) };
        fits = omega (arith, u.sound.fits, slot-before (vertices_in ws) (edges_in ws) below);
      }

  pub node-below : (k : ℕ) → k < length (tree (read_cache ws).trees i).nodes → (node (tree (read_cache ws).trees i).nodes k).vertex < vertices_in ws
  node-below k h =
      let sound = (sound-cache ws u.sound).trees.each i (omega (arith, trees-length ws, u.slot)) in
      omega (arith, vertices-read u.sound, node-inside (read_cache ws).domain (sound-accepted ws u.sound) (tree (read_cache ws).trees i) sound k h)

  -- t: the slot's words, as `slot_words` hands them out; l: the edges of the header
  module _ {t : List ℕ} (et : t ≡ slot_words (vertices_in ws) (edges_in ws) i ws) where
    pub words-length : length t ≡ tree_words (vertices_in ws) (edges_in ws)
    words-length = ap length et ∙ slot-words-length has-slot

    module _ {l : ℕ} (el : l ≡ edges_in ws) where
      pub words-formed : Formed l t
      words-formed = rw (el, et) (u.sound.formed i u.slot)

      pub words-tree : tree_of ws l t ≡ tree (read_cache ws).trees i
      words-tree =
          let own = slot_words (vertices_in ws) (edges_in ws) i ws in
          ap₂ (λ (x : ℕ) (y : List ℕ). tree_of ws x y) el et ∙ tree-of ws (vertices_in ws) (edges_in ws) own (slot-words-length has-slot) ∙ sym (tree-read ws u.slot)

      -- what was read of the words was read of the slot's tree
      pub words-value : {A : Type 0} (f : Tree → A) {r : A} → r ≡ f (tree_of ws l t) → r ≡ f (tree (read_cache ws).trees i)
      words-value f e = e ∙ ap f words-tree

      -- the nodes used, and one of them
      pub words-used : used_in t ≡ length (tree (read_cache ws).trees i).nodes
      words-used = sym (tree-nodes ws (length t - closed_words_at l) l t) ∙ ap (λ (x : Tree). length x.nodes) words-tree

      module _ (k : ℕ) (h : k < length (tree (read_cache ws).trees i).nodes) where
        pub words-node-fits : NodeFits (length t) k
        words-node-fits = omega (arith, words-used, words-formed.used, words-formed.fits)

        pub words-cost : cost_in t k ≡ (node (tree (read_cache ws).trees i).nodes k).cost
        words-cost =
            sym (ap (λ (x : Node). x.cost) (tree-node ws (length t - closed_words_at l) l t k (omega (arith, words-used))))
            ∙ ap (λ (x : Tree). (node x.nodes k).cost) words-tree

        pub words-solution : (d : Domain) {r : ℕ} → SolutionCostIs d ws t k r → r ≡ solution_cost d (tree (read_cache ws).trees i).nodes k
        words-solution d e = e (length t - closed_words_at l) l ∙ ap (λ (x : Tree). solution_cost d x.nodes k) words-tree

      pub words-vertex : (k : ℕ) → k < used_in t → HasVertex l t (vertex_in ws t k)
      words-vertex k h =
          omega (
            arith,
            words-length,
            el,
            node-below k (omega (arith, words-used)),
            ap (λ (x : Tree). (node x.nodes k).vertex) words-tree,
            ap (λ (x : Node). x.vertex) (tree-node ws (length t - closed_words_at l) l t k h),
          )

-- ---- a slot by its places

pub slot-ready : (ws : List ℕ) (i : ℕ) → SoundWords ws → i < trees_in ws → Ready (slot_of ws i) ws
slot-ready ws i ok used =
    let has : HasSlot ws i = has-slot (record { sound = ok; slot = used }) in
    record {
      vertices = refl;
      edges = refl;
      slot = record { few = has.numbered.few; at = refl; end = refl };
      held = ok.held;
      fits = has.fits;
      formed = ok.formed i used;
    }

-- what `slot_words` asks for, and hands out
pub ready-slot : {s : Slot} {ws : List ℕ} → Ready s ws → HasSlot ws s.number
ready-slot {s} {ws} r = record {
  numbered = record { header = omega (arith, r.held.fits); sized = rw (← r.vertices, ← r.edges) r.held.sized; few = r.slot.few };
  fits = rw (← r.vertices, ← r.edges) (omega (arith, r.fits, r.slot.end));
}

pub ready_words : {s : Slot} {ws t : List ℕ} → Ready s ws → t ≡ slot_words (vertices_in ws) (edges_in ws) s.number ws → t ≡ words_in s ws
ready_words {s} {ws} r e = e ∙ ap₂ (λ (m l : ℕ). slot_words m l s.number ws) (sym r.vertices) (sym r.edges)

-- the part that is lent
pub mid-slot : {s : Slot} → SlotIs s → (ws : List ℕ) → mid_of s.at (s.end - s.at) ws ≡ words_in s ws
mid-slot {s} h ws = mid_at ws (tree_words s.vertices s.edges) h.at (omega (arith, h.at, h.end))

pub ready-length : {s : Slot} {ws : List ℕ} → Ready s ws → length (words_in s ws) ≡ tree_words s.vertices s.edges
ready-length {s} {ws} r =
    part_length (slot_at s.vertices s.edges s.number) (tree_words s.vertices s.edges) ws (omega (arith, r.fits, r.slot.end))

pub tree_lent : {s : Slot} {ws : List ℕ} → Ready s ws → tree_of ws s.edges (mid_of s.at (s.end - s.at) ws) ≡ tree_at s ws
tree_lent {s} {ws} r = ap (tree_of ws s.edges) (mid-slot r.slot ws) ∙ tree-of ws s.vertices s.edges (words_in s ws) (ready-length r)
