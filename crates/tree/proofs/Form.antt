-- The test of a tree's own words passes exactly if the words are formed.
-- Assumes nothing.
use mathlib.Core.Path.{◌≡◌, refl, sym, ap, ap₂, ◌∙◌}
use mathlib.Core.Logic.{inl, inr}
use mathlib.Core.Bool.{true, false, not, ◌&&◌, ◌||◌}
use mathlib.Core.List.{List, [], ◌∷◌}
use Prim.Native.Nat.{ℕ, zero, suc, ◌+◌, ◌-◌, ◌/◌, ◌<◌, ◌≤◌}
use native.Mathlib.Omega.{arith}
use native.Mathlib.Decide.{ℕ_discrete, dec_lt}
use lib.Dec.{eqb, ltb}
use lib.ListN.{length, get_or}
use borrow.Author.Tests.{ltb-true, ltb-false, leb-true, eqb-true, not-true, lt-ltb, le-ltb, le-leb, eq-eqb, ne_eqb}
use Rattle.model.specs.Lists.{up_from, numbers, those, mem, all_below}
use Rattle.model.specs.Tree.{evaluation_of, evaluation, precedes}
use Rattle.model.specs.Sound.{distinctb}
use Rattle.model.proofs.Lists.{up_mem, up-length, those-none, those-length, those-split}
use Rattle.model.proofs.Bools.{and-true, or_cases, true-or-left, true-or-right, all_true, true-given, upto-at, at-upto}
use Rattle.layout.specs.Layout.{node_at, queue_at, closed_words_at, queued_in, used_in, queue_word_in, closed_word_in}
use Rattle.layout.specs.Read.{nodes_in, tree_in}
use Rattle.layout.specs.Sound.{queue_in, heapb, queue_tests, spare_tests, form_tests, formedb}
use Rattle.layout.proofs.Places.{part_at, part_length}
use Rattle.layout.proofs.Trees.{node_at_lem}
use Rattle.queue.specs.Queue.{evaluation_in, key, rank, times, Heap}
use Rattle.queue.proofs.Keys.{key-less, key_more, key-tie, node-evaluation}
use Rattle.tree.specs.Tree.{tree_of, Formed}
use Rattle.tree.proofs.Parts.{zeros-at, at-zeros, below_at, at-below, times-once, once-distinct}
use Rattle.tree.proofs.Closed.{queue-fits}

-- ---- the queue's order

pub precedes-key : (ws t : List ℕ) (a b : ℕ) → used_in t ≤ 4294967295 → a < used_in t → b < used_in t
    → precedes (nodes_in ws (used_in t) t) a b ≡ ltb (key t a) (key t b)
precedes-key ws t a b few ha hb = go _ _ (cost a ha) (cost b hb)
  where
    cost : (k : ℕ) → k < used_in t → evaluation (nodes_in ws (used_in t) t) k ≡ evaluation_in t k
    cost k h = ap evaluation_of (node_at_lem ws (used_in t) t k h) ∙ node-evaluation ws t k

    go : (x y : ℕ) → x ≡ evaluation_in t a → y ≡ evaluation_in t b → (ltb x y || (eqb x y && ltb a b)) ≡ ltb (key t a) (key t b)
    go x y ex ey = elim (dec_lt x y) [
      | yes h ↦ rw (lt-ltb x y h) (key-less t a b x y (omega arith) (omega arith) ex ey h)
      | no n ↦ elim (dec_lt y x) [
        | yes k ↦ rw (le-ltb x y (omega arith), ne_eqb x y (omega arith)) (key_more t a b x y (omega arith) (omega arith) ex ey k)
        | no m ↦ rw (le-ltb x y (omega arith), eq-eqb x y (omega arith)) (key-tie t a b x y (omega arith) (omega arith) ex ey (omega arith) (omega arith))
      ]
    ]

-- heap order
module _ (ws : List ℕ) (l : ℕ) (t : List ℕ) (fits : queue_at l + queued_in t ≤ length t) (few : used_in t ≤ 4294967295)
    (below : (i : ℕ) → i < queued_in t → queue_word_in l t i < used_in t) where
  all : length (queue_in l t) ≡ queued_in t
  all = part_length (queue_at l) (queued_in t) t fits

  ranks : (i j : ℕ) → i < queued_in t → j < queued_in t
      → precedes (nodes_in ws (used_in t) t) (get_or (queue_in l t) i 0) (get_or (queue_in l t) j 0) ≡ ltb (rank t (queue_at l) i) (rank t (queue_at l) j)
  unfolding rank
  ranks i j h k =
      ap₂ (precedes (nodes_in ws (used_in t) t)) (part_at (queue_at l) (queued_in t) t i h) (part_at (queue_at l) (queued_in t) t j k)
      ∙ precedes-key ws t _ _ few (below i h) (below j k)

  pub heap-at : heapb (nodes_in ws (used_in t) t) (queue_in l t) ≡ true → Heap (rank t (queue_at l)) (queued_in t)
  heap-at e i pos h = elim (or_cases (eqb i 0) _ (upto-at _ (length (queue_in l t)) e i (omega (arith, all)))) [
    | inl z ↦ absurd (omega (arith, eqb-true i 0 z))
    | inr z ↦ ltb-false _ _ (sym (ranks i ((i - 1) / 2) h (omega arith)) ∙ not-true _ z)
  ]

  at-heap : Heap (rank t (queue_at l)) (queued_in t) → heapb (nodes_in ws (used_in t) t) (queue_in l t) ≡ true
  at-heap heap = at-upto _ (length (queue_in l t)) (λ i h.
      let k : i < queued_in t = omega (arith, all) in
      elim (ℕ_discrete i 0) [
        | yes z ↦ true-or-left (eqb i 0) _ (eq-eqb i 0 z)
        | no z ↦ true-or-right (eqb i 0) _ (ap not (ranks i ((i - 1) / 2) k (omega arith) ∙ le-ltb _ _ (heap i (omega arith) k)))
      ])

-- ---- the waiting nodes

-- of k numbers from n on: a test that fails at each of them takes none, and one is x
single : (x k n : ℕ) → n ≤ x → x < n + k → length (those (λ y. eqb y x) (up_from k n)) ≡ 1
unfolding those
single x zero n h g = absurd (omega arith)
single x (suc k) n h g = elim (ℕ_discrete n x) [
  | yes e ↦ rw (eq-eqb n x e) (ap (λ (l : List ℕ). suc (length l)) (those-none (λ y. eqb y x) (up_from k (suc n)) (λ y m. ne_eqb y x (omega (arith, up_mem k (suc n) y m)))))
  | no ne ↦ rw (ne_eqb n x ne) (single x k (suc n) (omega arith) (omega arith))
]

-- of the numbers below u, as many are in a list as it has elements
listed-length : (u : ℕ) (xs : List ℕ) → all_below u xs ≡ true → distinctb xs ≡ true → length (those (λ n. mem n xs) (numbers u)) ≡ length xs
unfolding mem distinctb
listed-length u [] b d = ap length (those-none (λ n. false) (numbers u) (λ y m. refl))
listed-length u (x ∷ xs) b d =
    let low = and-true (ltb x u) (all_below u xs) b in
    let new = and-true (not (mem x xs)) (distinctb xs) d in
    let less : x < u = ltb-true x u low.0 in
    omega (
      arith,
      those-split (λ n. mem n xs) (λ n. eqb n x) (λ n. mem n (x ∷ xs)) (λ n. elim (ℕ_discrete n x) [
        | yes e ↦ inr (ap (λ (y : ℕ). mem y xs) e ∙ not-true _ new.0, eq-eqb n x e, rw (eq-eqb n x e))
        | no ne ↦ inl (ne_eqb n x ne, rw (ne_eqb n x ne))
      ]) (numbers u),
      single x u 0 (omega arith) (omega arith),
      listed-length u xs low.1 new.1,
    )

module _ (ws : List ℕ) (l : ℕ) (t : List ℕ) (fits : queue_at l + queued_in t ≤ length t)
    (below : (i : ℕ) → i < queued_in t → queue_word_in l t i < used_in t) (once : (x : ℕ) → times t (queue_at l) (queued_in t) x ≤ 1) where
  pub waiting-length : length (tree_of ws l t).waiting ≡ queued_in t
  unfolding tree_in
  waiting-length =
      listed-length (used_in t) (queue_in l t) (at-below t (queue_at l) (queued_in t) (used_in t) fits below) (once-distinct t (queue_at l) (queued_in t) fits once)
      ∙ part_length (queue_at l) (queued_in t) t fits

  -- no more nodes wait than there are
  waiting-fit : queued_in t ≤ used_in t
  unfolding tree_in
  waiting-fit = omega (arith, waiting-length, those-length (λ n. mem n (queue_in l t)) (numbers (used_in t)), up-length (used_in t) 0)

-- ---- the whole

pub formed-at : (ws : List ℕ) (l : ℕ) (t : List ℕ) → l ≤ 2048 → closed_words_at l ≤ length t → length t ≤ closed_words_at l + 1024
    → ((v : ℕ) → closed_words_at l + v < length t → closed_word_in l t v ≤ used_in t) → formedb ws l t ≡ true → Formed l t
unfolding formedb
formed-at ws l t edges fits vertices closers e =
    let r = all_true (form_tests ws l t) e in
    let queue = all_true (queue_tests ws l t (queued_in t)) r.1.1.0 in
    let spare = all_true (spare_tests l t) r.1.1.1.0 in
    let used : used_in t ≤ 1 + l = leb-true _ _ r.0 in
    let room : queued_in t ≤ 1 + l = leb-true _ _ r.1.0 in
    let fit : queue_at l + queued_in t ≤ length t = omega arith in
    let below : (i : ℕ) → i < queued_in t → queue_word_in l t i < used_in t = below_at t (queue_at l) (queued_in t) (used_in t) fit queue.0 in
    let once : (x : ℕ) → times t (queue_at l) (queued_in t) x ≤ 1 = times-once t (queue_at l) (queued_in t) fit queue.1.0 in
    record {
      edges = edges;
      fits = fits;
      vertices = vertices;
      used = used;
      queued = waiting-fit ws l t fit below once;
      nodes = below;
      once = once;
      heap = heap-at ws l t fit (omega arith) below queue.1.1.0;
      closers = closers;
      spare_nodes = zeros-at t (node_at (used_in t)) (queue_at l) spare.0;
      spare_queue = zeros-at t (queue_at l + queued_in t) (closed_words_at l) spare.1.0;
    }

pub at-formed : (ws : List ℕ) (l : ℕ) (t : List ℕ) → Formed l t → formedb ws l t ≡ true
unfolding formedb
at-formed ws l t f =
    let fit : queue_at l + queued_in t ≤ length t = queue-fits f in
    true-given (form_tests ws l t)
    (le-leb _ _ f.used)
    (le-leb (queued_in t) (1 + l) (omega (arith, f.queued, f.used)))
    (true-given (queue_tests ws l t (queued_in t))
    (at-below t (queue_at l) (queued_in t) (used_in t) fit f.nodes)
    (once-distinct t (queue_at l) (queued_in t) fit f.once)
    (at-heap ws l t fit (omega (arith, f.used, f.edges)) f.nodes f.heap))
    (true-given (spare_tests l t)
    (at-zeros t (node_at (used_in t)) (queue_at l) f.spare_nodes)
    (at-zeros t (queue_at l + queued_in t) (closed_words_at l) f.spare_queue))
