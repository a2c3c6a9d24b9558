-- A slot that holds another sound tree of the same start: the words stay sound, and the cache that they hold differs in that tree alone.
-- Assumes nothing.
use mathlib.Core.Path.{◌≡◌, refl, sym, ap, ◌∙◌}
use mathlib.Core.Logic.{inl, inr, ◌≢◌}
use mathlib.Core.List.{List}
use Prim.Native.Nat.{ℕ, ◌+◌, ◌<◌}
use native.Mathlib.Omega.{arith}
use native.Mathlib.Decide.{ℕ_discrete, dec_lt}
use lib.ListN.{get_or, set, length-set}
use lib.Seq.{ext_get_or, get_or-set_same, get_or-set_other}
use Rattle.model.specs.Tree.{Tree}
use Rattle.model.specs.Sound.{Sound, no_tree}
use Rattle.model.specs.Calls.{with_trees}
use Rattle.layout.specs.Layout.{direction_at, vertex_count_at, edge_count_at, slot_count_at, tree_count_at, tree_words, slots_at, slot_at, edges_in, slots_in, start_in, trees_in, vertices_in}
use Rattle.layout.specs.Read.{tree_in, read_trees, domain_of, read_cache}
use Rattle.layout.specs.Slots.{slot_words, slot_of, tree_at}
use Rattle.layout.proofs.Trees.{GraphStays, tree-graph}
use Rattle.tree.specs.Tree.{Formed}
use Rattle.tree.proofs.Same.{part_same}
use Rattle.sound.specs.Facts.{SoundIn, SoundWords, Ready}
use Rattle.sound.proofs.Slots.{slot-before, tree-in-at, trees-in-length}
use Rattle.sound.proofs.InUse.{slot-ready}
use Rattle.grow.specs.Grow.{SlotHolds}
use Rattle.grow.proofs.Slots.{ready-after, domain-after}

module _ (ws left : List ℕ) (i : ℕ) (u : Tree) (ok : SoundWords ws) (used : i < trees_in ws) (h : SlotHolds (slot_of ws i) ws left u) where
  abbrev m : ℕ
  m = vertices_in ws

  abbrev l : ℕ
  l = edges_in ws

  ready : Ready (slot_of ws i) ws
  ready = slot-ready ws i ok used

  below : (j : ℕ) → j < slots_at m l → get_or left j 0 ≡ get_or ws j 0
  below j b = h.outside.word j (inl (omega arith))

  graph : GraphStays m l ws left
  graph j ne b = below j b

  -- a tree's words, read with the words left
  read_left : (t : List ℕ) → tree_in left m l t ≡ tree_in ws m l t
  read_left t = tree-graph m l ws left t graph

  other : (j : ℕ) → j ≢ i → slot_words m l j left ≡ slot_words m l j ws
  other j ne = part_same (slot_at m l j) (tree_words m l) ws left h.outside.len (λ n b. h.outside.word (slot_at m l j + n) (elim (dec_lt j i) [
    | yes k ↦ inl (omega (arith, slot-before m l k))
    | no k ↦ let more : i < j = omega arith in inr (omega (arith, slot-before m l more))
  ]))

  -- what is known of the words of each slot: of slot i as it is, of the others as it was
  at_slot : (P : ℕ → List ℕ → Type 0) → P i (slot_words m l i left) → ((j : ℕ) → j < trees_in ws → P j (slot_words m l j ws)) → (j : ℕ) → j < trees_in ws → P j (slot_words m l j left)
  at_slot P p q j b = elim (ℕ_discrete j i) [ yes e ↦ rw e p | no ne ↦ rw (other j ne) (q j b) ]

  module _ (good : Sound (domain_of m l ws) u) (start : u.start ≡ (tree_at (slot_of ws i) ws).start) where
    domain : domain_of m l left ≡ domain_of m l ws
    domain = domain-after ready h

    starts : (j : ℕ) → j < trees_in ws → start_in (slot_words m l j left) ≡ start_in (slot_words m l j ws)
    unfolding tree_in
    starts j b = at_slot (λ (x : ℕ) (t : List ℕ). start_in t ≡ start_in (slot_words m l x ws)) (ap (λ (t : Tree). t.start) h.tree ∙ start) (λ x c. refl) j b

    kept-sound : SoundIn m l (slots_in ws) (trees_in ws) left
    kept-sound =
        record {
          header = omega (arith, ok.header, h.outside.len);
          direction = rw (below direction_at (omega arith)) ok.direction;
          some_slot = ok.some_slot;
          slots = ok.slots;
          used = ok.used;
          fits = omega (arith, ok.fits, h.outside.len);
          held = (ready-after ready h).held;
          differ = λ x y a b e. ok.differ x y a b (sym (starts x a) ∙ e ∙ starts y b);
          formed = at_slot (λ (x : ℕ) (t : List ℕ). Formed l t) h.formed ok.formed;
          sound = rw domain (at_slot (λ (x : ℕ) (t : List ℕ). Sound (domain_of m l ws) (tree_in left m l t)) (rw h.tree good) (λ x c. rw (read_left (slot_words m l x ws)) (ok.sound x c)));
          spare = λ j a b. h.outside.word j (inr (omega (arith, slot-before m l used))) ∙ ok.spare j a b;
        }

    kept-words : SoundWords left
    kept-words = rw (below vertex_count_at (omega arith), below edge_count_at (omega arith), below slot_count_at (omega arith), below tree_count_at (omega arith)) kept-sound

    kept-trees : read_trees m l (trees_in ws) left ≡ set (read_trees m l (trees_in ws) ws) i u
    kept-trees =
        let n : ℕ = trees_in ws in
        let old : List Tree = read_trees m l n ws in
        ext_get_or no_tree (read_trees m l n left) (set old i u) (trees-in-length m l n left ∙ sym (length-set old i u ∙ trees-in-length m l n ws)) (λ j b.
        let c : j < n = omega (arith, trees-in-length m l n left) in
        tree-in-at m l left c
        ∙ elim (ℕ_discrete j i) [
          | yes e ↦ rw e (h.tree ∙ sym (get_or-set_same old i u no_tree (omega (arith, trees-in-length m l n ws))))
          | no ne ↦ ap (tree_in left m l) (other j ne) ∙ read_left (slot_words m l j ws) ∙ sym (get_or-set_other old i j u no_tree ne ∙ tree-in-at m l ws c)
        ])

    kept-cache : read_cache left ≡ with_trees (read_cache ws) (set (read_cache ws).trees i u)
    unfolding read_cache
    kept-cache =
        rw (below vertex_count_at (omega arith), below edge_count_at (omega arith), below slot_count_at (omega arith), below tree_count_at (omega arith))
        (λ x. record { domain = domain x; slots = slots_in ws; trees = kept-trees x })

    pub kept : SoundWords left × (read_cache left ≡ with_trees (read_cache ws) (set (read_cache ws).trees i u))
    kept = (kept-words, kept-cache)
