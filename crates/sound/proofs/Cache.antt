-- The check of a whole cache: what is known at each of its calls, and what it answers.
-- Assumes nothing.
use mathlib.Core.Path.{◌≡◌, refl, sym, ap, ◌∙◌}
use mathlib.Core.Bool.{Bool, true, false, not, ◌&&◌, true≢false}
use mathlib.Core.List.{List, [], ◌∷◌, ◌++◌, map}
use Prim.Native.Nat.{ℕ, ◌+◌, ◌-◌, ◌<◌, ◌≤◌}
use native.Mathlib.Numerals.{add-one}
use native.Mathlib.Omega.{arith}
use borrow.Author.Tests.{not-true, not-false}
use borrow.Rule.Slice.PartMut.{mid_of}
use lib.ListN.{length, get_or, set, replicate}
use Rattle.model.specs.Lists.{allb, upto, mem, numbers}
use Rattle.model.specs.Graph.{Domain, absent, vertex_count}
use Rattle.model.specs.Tree.{Tree}
use Rattle.model.specs.Sound.{starts, distinctb}
use Rattle.model.proofs.Bools.{and-true, true-and, upto-at}
use Rattle.model.proofs.Lists.{numbers-snoc}
use Rattle.model.proofs.Tests.{distinct-at, at-distinct}
use Rattle.layout.specs.Layout.{edges_at, slot_at, direction_in, edges_in, initial_in, slots_in, start_in, trees_in, vertices_in}
use Rattle.layout.specs.Read.{direction_of, graph_in, domain_in, domain_of, tree_in, read_trees, read_cache}
use Rattle.layout.specs.Sound.{header_tests, initialb, edge_tests, indexb, graph_tests, zerosb, tree_wordsb, trees_tests}
use Rattle.layout.proofs.Edges.{vertex-count-in, edge-count-in}
use Rattle.layout.specs.Slots.{slot_words, HasSlot}
use Rattle.layout.proofs.SlotWords.{slot-words-length}
use Rattle.graph.specs.Write.{WritesIndex}
use Rattle.sound_tree.specs.Check.{Marked}
use Rattle.sound.specs.Check.{HasGraph, CanCheckTrees, TreesIn, treesb}
use Rattle.model.proofs.InTurn.{one_more, all-passed}
use Rattle.sound.proofs.Header.{headed}
use Rattle.sound_tree.proofs.Marks.{distinct_snoc, marked-none, marked_more}
use Rattle.sound.proofs.Held.{held_at, initials-as, edges-from, edges-to}
use Rattle.sound.proofs.Slots.{slot-order, slot-before, start-in-at, starts-in-length}
use Rattle.sound.proofs.Facts.{tree-words-at}

-- a test that cannot pass
fails : (b : Bool) → (b ≡ true → ⊥) → false ≡ b
fails true f = absurd (f refl)
fails false f = refl

-- ---- the graph

module _ (ws : List ℕ) (header : allb (header_tests ws) ≡ true) where
  pub has-initials : {m : ℕ} → m ≡ vertices_in ws → edges_at m ≤ length ws
  has-initials e = omega (arith, (headed ws header).fits)

  module _ {m l : ℕ} (em : m ≡ vertices_in ws) (el : l ≡ edges_in ws) where
    pub has-graph : HasGraph m l ws
    has-graph = rw (em, el) (record { sized = (headed ws header).sized; fits = omega (arith, (headed ws header).fits) })

    abbrev d : Domain
    d = (read_cache ws).domain

    vertices : vertex_count d.graph ≡ m
    unfolding read_cache
    vertices = vertex-count-in (vertices_in ws) (edges_in ws) ws (has-initials refl) ∙ sym em

    -- each test, as the graph has it
    initials : upto (λ v. initialb (initial_in ws v)) m ≡ get_or (graph_tests d ws) 0 true
    unfolding read_cache
    initials =
        initials-as m l ws (has-initials em)
        ∙ (λ i. upto (λ v. initialb (get_or (graph_in (em i) (el i) ws).initial v absent)) (sym vertices i))

    edges : upto (λ e. allb (edge_tests (graph_in m l ws) e)) l ≡ get_or (graph_tests d ws) 1 true
    unfolding read_cache
    edges = (λ i. upto (λ e. allb (edge_tests (graph_in (em i) (el i) ws) e)) (el i)) ∙ ap (upto _) (sym (edge-count-in (vertices_in ws) (edges_in ws) ws))

    index : indexb (domain_in (direction_of (direction_in ws)) m l ws) ws ≡ get_or (graph_tests d ws) 2 true
    unfolding read_cache
    index = λ i. indexb (domain_in (direction_of (direction_in ws)) (em i) (el i) ws) ws

    pub can-index : upto (λ e. allb (edge_tests (graph_in m l ws) e)) l ≡ true → WritesIndex ws m l
    can-index passed = record {
      sized = has-graph.sized;
      fits = omega (arith, (headed ws header).fits);
      from = edges-from m l ws (has-initials em) passed;
      to = edges-to m l ws (has-initials em) passed;
    }

    pub graph-reads : allb (graph_tests d ws)
        ≡ allb (upto (λ v. initialb (initial_in ws v)) m ∷ upto (λ e. allb (edge_tests (graph_in m l ws) e)) l ∷ indexb (domain_in (direction_of (direction_in ws)) m l ws) ws ∷ [])
    graph-reads = λ i. allb (sym initials i ∷ sym edges i ∷ sym index i ∷ [])

-- ---- the trees in use, one after the other

starts-snoc : (f : ℕ → Tree) (xs : List ℕ) (x : ℕ) → starts (map f (xs ++ (x ∷ []))) ≡ starts (map f xs) ++ ((f x).start ∷ [])
starts-snoc f [] x = refl
starts-snoc f (y ∷ ys) x = ap (λ (l : List ℕ). (f y).start ∷ l) (starts-snoc f ys x)

module _ (ws : List ℕ) where
  abbrev own : ℕ → List ℕ
  own i = slot_words (vertices_in ws) (edges_in ws) i ws

  abbrev treeb : ℕ → Bool
  treeb i = tree_wordsb (domain_of (vertices_in ws) (edges_in ws) ws) ws (vertices_in ws) (edges_in ws) (own i)

  -- the vertices at which the first n trees start
  abbrev starts_to : ℕ → List ℕ
  starts_to n = starts (read_trees (vertices_in ws) (edges_in ws) n ws)

  starts_more : (i : ℕ) → starts_to (i + 1) ≡ starts_to i ++ (start_in (own i) ∷ [])
  unfolding tree_in
  starts_more i =
      ap (λ (xs : List ℕ). starts (map (λ j. tree_in ws (vertices_in ws) (edges_in ws) (own j)) xs)) (ap numbers (add-one i) ∙ numbers-snoc i)
      ∙ starts-snoc (λ j. tree_in ws (vertices_in ws) (edges_in ws) (own j)) (numbers i) i

  -- fewer trees pass too
  trees-less : (i n : ℕ) → i ≤ n → treesb n ws ≡ true → treesb i ws ≡ true
  unfolding treesb
  trees-less i n h e =
      let r = and-true (distinctb (starts_to n)) (upto treeb n) e in
      let fewer = starts-in-length (vertices_in ws) (edges_in ws) i ws in
      let all = starts-in-length (vertices_in ws) (edges_in ws) n ws in
      let start : (j : ℕ) → j < i → get_or (starts_to i) j 0 ≡ get_or (starts_to n) j 0 =
      λ j k. start-in-at (vertices_in ws) (edges_in ws) ws k ∙ sym (start-in-at (vertices_in ws) (edges_in ws) ws {n = n} (omega arith)) in
      true-and (distinctb (starts_to i)) (upto treeb i)
      (at-distinct (starts_to i) (λ a b ha hb s. distinct-at (starts_to n) r.0 a b (omega arith) (omega arith) (sym (start a (omega arith)) ∙ s ∙ start b (omega arith))))
      (sym (all-passed treeb i n r.1 h))

  pub trees-none : treesb 0 ws ≡ true
  unfolding treesb
  trees-none = refl

pub starts_none : {marks : List Bool} → marks ≡ replicate 1024 false → Marked marks 1024 []
starts_none e = rw e (marked-none 1024)

-- slot i of n
module _ {i n : ℕ} {ws : List ℕ} (ok : TreesIn n ws) (h : i < n) where
  pub has-slot : HasSlot ws i
  has-slot = record {
    numbered = record { header = ok.header; sized = ok.held.sized; few = omega (arith, ok.few) };
    fits = omega (arith, ok.fits, slot-before (vertices_in ws) (edges_in ws) h);
  }

  -- the counts are read as m and l, the slot's words as t
  module _ {m l : ℕ} {t : List ℕ} (em : m ≡ vertices_in ws) (el : l ≡ edges_in ws) (et : t ≡ own ws i) where
    module _ {r : Bool} (er : r ≡ tree_wordsb (domain_of m l ws) ws m l t) where
      answer : r ≡ treeb ws i
      answer = er ∙ (λ j. tree_wordsb (domain_of (em j) (el j) ws) ws (em j) (el j) (et j))

      pub tree-fails : not r ≡ true → false ≡ treesb n ws
      unfolding treesb
      tree-fails e = fails _ (λ p.
          let passed = upto-at (treeb ws) n (and-true (distinctb (starts_to ws n)) (upto (treeb ws) n) p).1 i h in
          true≢false (sym passed ∙ sym answer ∙ not-true r e))

      -- the tree passes, and starts at s
      module _ (e : not r ≡ false) {s : ℕ} (es : s ≡ start_in t) where
        start_is : start_in (own ws i) ≡ s
        start_is = sym (es ∙ ap start_in et)

        start_small : s < 1024
        unfolding tree_in
        start_small =
            let sound = (tree-words-at (domain_of (vertices_in ws) (edges_in ws) ws) ws (vertices_in ws) (edges_in ws) (own ws i) ok.held.sized (slot-words-length has-slot) (sym answer ∙ not-false r e)).1 in
            omega (arith, sound.inside, vertex-count-in (vertices_in ws) (edges_in ws) ws (omega (arith, ok.held.fits)), ok.held.sized.vertices, start_is)

        module _ {marks : List Bool} (marked : Marked marks 1024 (starts_to ws i)) where
          pub has-mark : s < length marks
          has-mark = omega (arith, start_small, marked.len)

          distinct : distinctb (starts_to ws (i + 1)) ≡ (distinctb (starts_to ws i) && not (get_or marks s false))
          distinct =
              ap distinctb (starts_more ws i)
              ∙ distinct_snoc _ (starts_to ws i)
              ∙ ap (λ (b : Bool). distinctb (starts_to ws i) && not b) (ap (λ (x : ℕ). mem x (starts_to ws i)) start_is ∙ sym (marked.mark s start_small))

          pub start-twice : get_or marks s false ≡ true → false ≡ treesb n ws
          unfolding treesb
          start-twice y = fails _ (λ p.
              let q = (and-true _ (upto (treeb ws) (i + 1)) (trees-less ws (i + 1) n (omega arith) p)).0 in
              let new = (and-true (distinctb (starts_to ws i)) _ (sym distinct ∙ q)).1 in
              true≢false (sym y ∙ not-true _ new))

          pub trees-more : treesb i ws ≡ true → get_or marks s false ≡ false → treesb (i + 1) ws ≡ true
          unfolding treesb
          trees-more p new =
              let q = and-true (distinctb (starts_to ws i)) (upto (treeb ws) i) p in
              true-and (distinctb (starts_to ws (i + 1))) (upto (treeb ws) (i + 1))
              (distinct ∙ true-and (distinctb (starts_to ws i)) _ q.0 (ap not new))
              (one_more (treeb ws) i r q.1 answer e)

          pub starts-marked : Marked (set marks s true) 1024 (starts_to ws (i + 1))
          starts-marked = rw (starts_more ws i, start_is) (marked_more marked start_small)

-- ---- all slots

two_and_one : (a b c : Bool) → allb (a ∷ b ∷ c ∷ []) ≡ ((a && b) && c)
two_and_one true true true = refl
two_and_one true true false = refl
two_and_one true false c = refl
two_and_one false b c = refl

module _ {ws : List ℕ} (can : CanCheckTrees ws) where
  pub trees-few : {u : ℕ} → u ≡ trees_in ws → u ≤ 64
  trees-few eu = let h = headed ws can.header in rw eu (omega (arith, h.used, h.slots))

  -- u of s slots are in use
  module _ {u : ℕ} (eu : u ≡ trees_in ws) where
    pub trees-in : TreesIn u ws
    trees-in =
        let h = headed ws can.header in
        rw eu (record {
          header = h.header;
          held = held_at ws can.header can.graph;
          few = trees-few refl;
          fits = omega (arith, h.fits, slot-order (vertices_in ws) (edges_in ws) h.used);
        })

  module _ {m l u : ℕ} (em : m ≡ vertices_in ws) (el : l ≡ edges_in ws) (eu : u ≡ trees_in ws) where
    -- the slots not in use stand from `at` up to `end`
    module _ {s at end : ℕ} (es : s ≡ slots_in ws) (ea : at ≡ slot_at m l u) (ee : end ≡ slot_at m l s) where
      spare : zerosb (mid_of at (end - at) ws) ≡ get_or (trees_tests ws) 2 true
      spare =
          (λ i. zerosb (mid_of (ea i) (ee i - ea i) ws))
          ∙ (λ i. zerosb (mid_of (slot_at (em i) (el i) (eu i)) (slot_at (em i) (el i) (es i) - slot_at (em i) (el i) (eu i)) ws))

      pub trees-reads : allb (trees_tests ws) ≡ (treesb u ws && zerosb (mid_of at (end - at) ws))
      unfolding treesb read_cache
      trees-reads =
          two_and_one (get_or (trees_tests ws) 0 true) (get_or (trees_tests ws) 1 true) (get_or (trees_tests ws) 2 true)
          ∙ (λ i. treesb (sym eu i) ws && sym spare i)

    pub spare-from : {s at end : ℕ} → s ≡ slots_in ws → at ≡ slot_at m l u → end ≡ slot_at m l s → at ≤ end
    spare-from {s} es ea ee = let used : u ≤ s = omega (arith, (headed ws can.header).used) in omega (arith, slot-order m l used)
