-- The test of a cache's words passes exactly if the words are sound, and sound words hold a sound cache.
-- Assumes nothing.
use mathlib.Core.Path.{◌≡◌, sym, ap, ◌∙◌}
use mathlib.Core.Bool.{true, ◌&&◌}
use mathlib.Core.List.{List}
use Prim.Native.Nat.{ℕ, ◌+◌, ◌-◌, ◌<◌, ◌≤◌}
use native.Mathlib.Decide.{ℕ_discrete}
use native.Mathlib.Omega.{arith}
use lib.ListN.{length, get_or}
use Rattle.model.specs.Lists.{allb}
use Rattle.model.specs.Graph.{Domain, Accepted, vertex_count}
use Rattle.model.specs.Sound.{Sound, tree, starts, soundb}
use Rattle.model.specs.Calls.{SoundCache}
use Rattle.model.proofs.Bools.{and-true, true-and, all_true, true-given, upto-at, at-upto}
use Rattle.model.proofs.Tests.{sound-at, at-sound, distinct-at, at-distinct}
use Rattle.layout.specs.Layout.{Sized, closed_words_at, tree_words, slot_at, needed, edges_in, slots_in, trees_in, used_in, vertices_in}
use Rattle.layout.specs.Read.{tree_in, read_trees, domain_of, read_cache}
use Rattle.layout.specs.Sound.{header_tests, graph_tests, formedb, tree_wordsb, trees_tests, sound_wordsb}
use Rattle.layout.proofs.Edges.{vertex-count-in}
use Rattle.layout.proofs.Trees.{tree-nodes, tree-closed}
use Rattle.layout.specs.Slots.{slot_words}
use Rattle.tree.specs.Tree.{Formed}
use Rattle.tree.proofs.Parts.{zeros-at, at-zeros}
use Rattle.tree.proofs.Form.{formed-at, at-formed}
use Rattle.sound.specs.Facts.{SoundWords}
use Rattle.sound.proofs.Header.{headed, at-headed}
use Rattle.sound.proofs.Held.{held_at, at_held}
use Rattle.sound.proofs.Slots.{slot-length, tree-in-at, start-in-at, trees-in-length, starts-in-length}

-- ---- one tree's words

module _ (d : Domain) (ws : List ℕ) (m l : ℕ) (t : List ℕ) where
  -- a closed word of a sound tree is 0, or one more than a node
  closers : length t ≡ tree_words m l → Sound d (tree_in ws m l t) → (v : ℕ) → closed_words_at l + v < length t → get_or t (closed_words_at l + v) 0 ≤ used_in t
  closers len ok v h = elim (ℕ_discrete w 0) [
    | yes z ↦ omega arith
    | no nz ↦ omega (arith, (ok.closer v (w - 1) (tree-closed ws m l t v (omega arith) ∙ omega arith)).0, tree-nodes ws m l t)
  ]
    where
      w : ℕ
      w = get_or t (closed_words_at l + v) 0

  pub tree-words-at : Sized m l → length t ≡ tree_words m l → tree_wordsb d ws m l t ≡ true → Formed l t × Sound d (tree_in ws m l t)
  unfolding tree_wordsb
  tree-words-at sized len e =
      let r = and-true (formedb ws l t) (soundb d (tree_in ws m l t)) e in
      let ok : Sound d (tree_in ws m l t) = sound-at d (tree_in ws m l t) r.1 in
      (formed-at ws l t sized.edges (omega arith) (omega (arith, sized.vertices)) (closers len ok) r.0, ok)

  at-tree-words : Formed l t → Sound d (tree_in ws m l t) → tree_wordsb d ws m l t ≡ true
  unfolding tree_wordsb
  at-tree-words formed ok = true-and (formedb ws l t) (soundb d (tree_in ws m l t)) (at-formed ws l t formed) (at-sound d (tree_in ws m l t) ok)

-- ---- the whole

module _ (ws : List ℕ) where
  abbrev m : ℕ
  m = vertices_in ws

  abbrev l : ℕ
  l = edges_in ws

  abbrev u : ℕ
  u = trees_in ws

  pub sound-words-at : sound_wordsb ws ≡ true → SoundWords ws
  unfolding sound_wordsb
  sound-words-at e =
      let p = and-true (allb (header_tests ws)) (allb (graph_tests (read_cache ws).domain ws) && allb (trees_tests ws)) e in
      let q = and-true (allb (graph_tests (read_cache ws).domain ws)) (allb (trees_tests ws)) p.1 in
      let h = headed ws p.0 in
      let t = all_true (trees_tests ws) q.1 in
      let len : (i : ℕ) → i < u → length (slot_words m l i ws) ≡ tree_words m l = λ i k. slot-length m l ws {n = slots_in ws} (omega (arith, h.used)) h.fits in
      let tree-at : (i : ℕ) → i < u → Formed l (slot_words m l i ws) × Sound (domain_of m l ws) (tree_in ws m l (slot_words m l i ws)) =
      λ i k. tree-words-at (domain_of m l ws) ws m l (slot_words m l i ws) h.sized (len i k) (upto-at _ u t.1.0 i k) in
      record {
        header = h.header;
        direction = h.direction;
        some_slot = h.some_slot;
        slots = h.slots;
        used = h.used;
        fits = h.fits;
        held = held_at ws p.0 q.0;
        differ = λ i j a b s.
            let n = starts-in-length m l u ws in
            distinct-at (starts (read_trees m l u ws)) t.0 i j (omega arith) (omega arith) (start-in-at m l ws a ∙ s ∙ sym (start-in-at m l ws b));
        formed = λ i k. (tree-at i k).0;
        sound = λ i k. (tree-at i k).1;
        spare = zeros-at ws (slot_at m l u) (needed m l (slots_in ws)) t.1.1.0;
      }

  module _ (ok : SoundWords ws) where
    header-passes : allb (header_tests ws) ≡ true
    header-passes = at-headed ws (record {
      header = ok.header;
      direction = ok.direction;
      sized = ok.held.sized;
      some_slot = ok.some_slot;
      slots = ok.slots;
      used = ok.used;
      fits = ok.fits;
    })

    trees-pass : allb (trees_tests ws) ≡ true
    unfolding read_cache
    trees-pass =
        let n = starts-in-length m l u ws in
        true-given (trees_tests ws)
        (at-distinct (starts (read_trees m l u ws)) (λ i j a b s.
        let h : i < u = omega arith in
        let k : j < u = omega arith in
        ok.differ i j h k (sym (start-in-at m l ws h) ∙ s ∙ start-in-at m l ws k)))
        (at-upto _ u (λ i k. at-tree-words (domain_of m l ws) ws m l (slot_words m l i ws) (ok.formed i k) (ok.sound i k)))
        (at-zeros ws (slot_at m l u) (needed m l (slots_in ws)) ok.spare)

    pub at-sound-words : sound_wordsb ws ≡ true
    unfolding sound_wordsb
    at-sound-words =
        true-and (allb (header_tests ws)) (allb (graph_tests (read_cache ws).domain ws) && allb (trees_tests ws)) header-passes
        (true-and (allb (graph_tests (read_cache ws).domain ws)) (allb (trees_tests ws)) (at_held ws ok.held) trees-pass)

  -- ---- the cache that sound words hold

  pub trees-length : length (read_cache ws).trees ≡ u
  unfolding read_cache
  trees-length = trees-in-length m l u ws

  pub tree-read : {i : ℕ} → i < u → tree (read_cache ws).trees i ≡ tree_in ws m l (slot_words m l i ws)
  unfolding read_cache
  tree-read h = tree-in-at m l ws h

  pub sound-accepted : SoundWords ws → Accepted (read_cache ws).domain.graph
  unfolding read_cache
  sound-accepted ok = ok.held.accepted

  pub sound-cache : SoundWords ws → SoundCache (read_cache ws)
  unfolding read_cache tree_in
  sound-cache ok = record {
    within = omega (arith, trees-in-length m l u ws, ok.used);
    trees = record {
      differ = λ i j a b s.
          let n = trees-in-length m l u ws in
          let h : i < u = omega arith in
          let k : j < u = omega arith in
          ok.differ i j h k (ap (λ t. t.start) (sym (tree-in-at m l ws h)) ∙ s ∙ ap (λ t. t.start) (tree-in-at m l ws k));
      each = λ i a.
          let n = trees-in-length m l u ws in
          let h : i < u = omega arith in
          rw (tree-in-at m l ws h) (ok.sound i h);
    };
  }

-- the vertices of the cache that sound words hold
pub vertices-read : {ws : List ℕ} → SoundWords ws → vertex_count (read_cache ws).domain.graph ≡ vertices_in ws
unfolding read_cache
vertices-read {ws} ok = vertex-count-in (vertices_in ws) (edges_in ws) ws (omega (arith, ok.held.fits))
