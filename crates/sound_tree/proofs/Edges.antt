-- The edges that leave closed vertices: their words, how many they are, and whether each leads on.
-- Assumes nothing.
use mathlib.Core.Path.{◌≡◌, refl, sym, ap, ◌∙◌}
use mathlib.Core.Logic.{◌⊎◌, inl, inr, ◌≢◌}
use mathlib.Core.Bool.{Bool, true, false, not, cond, ◌&&◌, ◌||◌}
use mathlib.Core.List.{List, []}
use Prim.Native.Nat.{ℕ, zero, suc, ◌+◌, ◌-◌, ◌<◌, ◌≤◌}
use native.Mathlib.Omega.{arith}
use native.Mathlib.Decide.{ℕ_discrete, dec_lt}
use native.Mathlib.Numerals.{add-one}
use lib.Dec.{eqb, leb, ltb}
use lib.ListN.{length, get_or, length-append}
use borrow.Author.Tests.{ltb-true, le-leb, lt-leb, eq-eqb, ne_eqb}
use Rattle.model.specs.Lists.{numbers, keep, those, all_in, upto}
use Rattle.model.specs.Graph.{from, to, cost, vertex_count, edge_count, edges_in_use}
use Rattle.model.specs.Tree.{Tree, node, closed_at, evaluation, weight}
use Rattle.model.specs.Sound.{closed_edges, closedb, reachedb, closerb, onwardb}
use Rattle.model.proofs.Worth.{evaluation-small, weight-small}
use Rattle.model.proofs.Bools.{and-true, all_true, upto-at, at-upto, all-in-at, at-all-in}
use Rattle.model.proofs.Lists.{numbers-mem, numbers-has, numbers-snoc, those-snoc}
use Rattle.layout.specs.Layout.{node_end, closed_words_at, cost_in, edge_cost_in, from_in, queued_in, to_in, used_in}
use Rattle.layout.specs.Read.{tree_in, domain_of}
use Rattle.layout.specs.Held.{Held}
use Rattle.layout.proofs.Edges.{from-word, to_word, cost-word, vertex-count-in, edge-count-in}
use Rattle.layout.proofs.Trees.{tree-nodes, tree-closed}
use Rattle.layout.specs.Sound.{queue_tests}
use Rattle.queue.specs.Queue.{figures, evaluation_in, WeightIs}
use Rattle.tree.proofs.Closed.{node-cost}
use Rattle.sound_tree.specs.Check.{CanCheck, no_cost, LeadsOn}
use Rattle.model.proofs.InTurn.{same_tests}
use Rattle.sound_tree.proofs.LeastCosts.{waits-within}

-- ---- an edge's words

module _ {m l : ℕ} {ws : List ℕ} (h : Held m l ws) {e : ℕ} (k : e < l) where
  usable : e < edge_count (domain_of m l ws).graph
  usable = omega (arith, edge-count-in m l ws)

  all : vertex_count (domain_of m l ws).graph ≡ m
  all = vertex-count-in m l ws (omega (arith, h.fits))

  pub edge-from : {x : ℕ} → x ≡ from_in m ws e → (x ≡ from (domain_of m l ws).graph e) × (x < m)
  edge-from {x} q =
      let same : x ≡ from (domain_of m l ws).graph e = q ∙ sym (from-word m l ws e k) in
      (same, omega (arith, all, h.accepted.leaves e usable))

  edge_to : {x : ℕ} → x ≡ to_in m ws e → (x ≡ to (domain_of m l ws).graph e) × (x < m)
  edge_to {x} q =
      let same : x ≡ to (domain_of m l ws).graph e = q ∙ sym (to_word m l ws e k) in
      (same, omega (arith, all, h.accepted.enters e usable))

  edge-cost : {x : ℕ} → x ≡ edge_cost_in m ws e → (x ≡ cost (domain_of m l ws).graph e) × (x ≤ 999999)
  edge-cost {x} q =
      let same : x ≡ cost (domain_of m l ws).graph e = q ∙ sym (cost-word m l ws e k) in
      (same, omega (arith, h.accepted.costs e usable))

-- the closed word of the vertex that an edge leaves is there; f is read as the vertex, a as where closed words begin
module _ {m l : ℕ} {ws t : List ℕ} (can : CanCheck m l ws t) {e : ℕ} (k : e < l) {a f : ℕ} (p : a ≡ closed_words_at l) (q : f ≡ from_in m ws e) where
  pub closed-there : a + f < length t
  closed-there = omega (arith, can.len, edge-from can.held k q)

-- the closed word of vertex v, as the code reads it
pub closed-word : (ws : List ℕ) (m l : ℕ) {a x v : ℕ} (t : List ℕ) → a ≡ closed_words_at l → x ≡ v → x < m → get_or t (a + x) 0 ≡ closed_at (tree_in ws m l t).closed v
closed-word ws m l t p q h = rw (p, ← q) (sym (tree-closed ws m l t _ h))

-- ---- how many

abbrev leaves_closed : ℕ → ℕ → List ℕ → List ℕ → ℕ → Bool
leaves_closed m l ws t e = not (eqb (closed_at (tree_in ws m l t).closed (from (domain_of m l ws).graph e)) 0)

-- so many of the first n edges leave closed vertices
pub leaving : ℕ → ℕ → List ℕ → List ℕ → ℕ → ℕ
leaving m l ws t n = length (those (leaves_closed m l ws t) (numbers n))

pub leaving_none : (m l : ℕ) (ws t : List ℕ) → leaving m l ws t 0 ≡ 0
unfolding leaving those
leaving_none m l ws t = refl

pub leaving_next : (m l : ℕ) (ws t : List ℕ) (n : ℕ) → CanCheck m l ws t → n < l
    → leaving m l ws t (n + 1) ≡ leaving m l ws t n + cond (eqb (get_or t (closed_words_at l + from_in m ws n) 0) 0) 0 1
unfolding leaving
leaving_next m l ws t n can k =
    let ends = edge-from can.held k refl in
    let word = closed-word ws m l t refl ends.0 ends.1 in
    rw (add-one, numbers-snoc n, those-snoc (leaves_closed m l ws t) (numbers n) n, length-append, ← word) (ap (λ (x : ℕ). length (those (leaves_closed m l ws t) (numbers n)) + x) (one (eqb (get_or t (closed_words_at l + from_in m ws n) 0) 0)))
  where
    one : (b : Bool) → length (keep (not b) n []) ≡ cond b 0 1
    one true = refl
    one false = refl

pub leaving_all : (m l : ℕ) (ws t : List ℕ) → length (closed_edges (domain_of m l ws).graph (tree_in ws m l t).closed) ≡ leaving m l ws t l
unfolding leaving closed_edges
leaving_all m l ws t = rw (edge-count-in m l ws)

-- ---- closed words

named : (n : ℕ) (p : ℕ → Bool) (w : ℕ) → closedb (λ i. ltb i n && p i) w ≡ true → w ≢ 0 → w - 1 < n
named n p zero e z = absurd (z refl)
named n p (suc i) e z = omega (arith, ltb-true i n (and-true (ltb i n) (p i) e).0)

module _ {m l : ℕ} {ws t costs : List ℕ} (h : LeadsOn m l ws t costs) {a x : ℕ} (p : a ≡ closed_words_at l) (k : x < m) where
  abbrev u : Tree
  u = tree_in ws m l t

  abbrev word : ℕ
  word = get_or t (a + x) 0

  word-is : word ≡ closed_at u.closed x
  word-is = closed-word ws m l t p refl k

  -- x is closed
  module _ (n : word ≢ 0) where
    is-suc : closed_at u.closed x ≡ suc (word - 1)
    is-suc = omega (arith, word-is)

    closer : word - 1 < used_in t
    closer =
        let r = and-true (closedb (λ i. ltb i (length u.nodes) && eqb (node u.nodes i).vertex x) (closed_at u.closed x)) _
        (upto-at (closerb u) m h.closers x k) in
        rw (word-is, ← tree-nodes ws m l t) (named (length u.nodes) (λ i. eqb (node u.nodes i).vertex x) (closed_at u.closed x) r.0 (rw word-is at n))

    closer-words : node_end (word - 1) ≤ length t
    closer-words = omega (arith, closer, h.hung.counted.used, h.hung.counted.can.len)

    closer-cost : evaluation u.nodes (word - 1) ≡ evaluation_in t (word - 1)
    closer-cost = node-cost ws m l t (word - 1) closer

    closer-small : evaluation_in t (word - 1) < 9223372036854775808
    closer-small =
        evaluation-small (figures (cost_in t (word - 1)))
        (omega (arith, h.hung.cost (word - 1) closer, closer, h.hung.counted.used, h.hung.counted.can.held.sized.edges))

  -- x is closed at more than s, or open: then a node has to wait
  reached-waits : {s : ℕ} → s < no_cost → (word ≡ 0) ⊎ ((word ≢ 0) × (s < evaluation_in t (word - 1)))
      → leb (get_or costs x 0) s ≡ reachedb u.nodes u.waiting u.closed x s
  unfolding reachedb
  reached-waits {s} small c =
      waits-within m l ws t x s small costs (all_true (queue_tests ws l t (queued_in t)) h.queue).0 h.least (omega (arith, k, h.hung.counted.can.held.sized.vertices))
      ∙ sym (elim c [ inl z ↦ rw (sym word-is ∙ z) | inr z ↦ rw (is-suc z.0, closer-cost z.0, lt-leb (evaluation_in t (word - 1)) s z.1) ])

  reached-shut : {s : ℕ} → word ≢ 0 → evaluation_in t (word - 1) ≤ s → reachedb u.nodes u.waiting u.closed x s ≡ true
  unfolding reachedb
  reached-shut {s} n b = rw (is-suc n, closer-cost n, le-leb (evaluation_in t (word - 1)) s b)

  reached-reads : {s : ℕ} → s < no_cost → reachedb u.nodes u.waiting u.closed x s ≡ ((not (eqb word 0) && leb (evaluation_in t (word - 1)) s) || leb (get_or costs x 0) s)
  reached-reads {s} small = elim (ℕ_discrete word 0) [
    | yes z ↦ sym (reached-waits small (inl z)) ∙ ap (λ (b : Bool). (not b && leb (evaluation_in t (word - 1)) s) || leb (get_or costs x 0) s) (sym (eq-eqb word 0 z))
    | no n ↦ elim (dec_lt s (evaluation_in t (word - 1))) [
      | yes c ↦
          sym (reached-waits small (inr (n, c)))
          ∙ (λ i. (not (sym (ne_eqb word 0 n) i) && sym (lt-leb (evaluation_in t (word - 1)) s c) i) || leb (get_or costs x 0) s)
      | no c ↦
          reached-shut n (omega arith)
          ∙ (λ i. (not (sym (ne_eqb word 0 n) i) && sym (le-leb (evaluation_in t (word - 1)) s (omega arith)) i) || leb (get_or costs x 0) s)
    ]
  ]

-- ---- whether an edge leads on

-- edge e leaves a closed vertex: it leads on if its end o is reached at no more than the sum s. a: where the closed words begin
pub record Sum (m l : ℕ) (ws t costs : List ℕ) (e a o s : ℕ) : Type 0 where
  on : LeadsOn m l ws t costs
  words : a ≡ closed_words_at l
  enters : o < m
  small : s < no_cost
  leads : onwardb (domain_of m l ws) (tree_in ws m l t) e ≡ reachedb (tree_in ws m l t).nodes (tree_in ws m l t).waiting (tree_in ws m l t).closed o s

module _ {m l e : ℕ} {ws t costs : List ℕ} (h : LeadsOn m l ws t costs) (k : e < l) {a f : ℕ} (p : a ≡ closed_words_at l) (q : f ≡ from_in m ws e) where
  leaves : (f ≡ from (domain_of m l ws).graph e) × (f < m)
  leaves = edge-from h.hung.counted.can.held k q

  pub onward-place : a + f < length t
  onward-place = closed-there h.hung.counted.can k p q

  pub onward-open : get_or t (a + f) 0 ≡ 0 → true ≡ onwardb (domain_of m l ws) (tree_in ws m l t) e
  onward-open z = sym (rw (← leaves.0, ← word-is h p leaves.1, z))

  module _ (n : get_or t (a + f) 0 ≢ 0) where
    pub onward-closer : node_end (get_or t (a + f) 0 - 1) ≤ length t
    onward-closer = closer-words h p leaves.1 n

    -- x: the evaluation of the node that closed its first end, y: what the edge weighs
    module _ {x y₀ y : ℕ} (i : x ≡ evaluation_in t (get_or t (a + f) 0 - 1)) (j₀ : y₀ ≡ edge_cost_in m ws e) (j : WeightIs y₀ y) where
      costs-are : (y₀ ≡ cost (domain_of m l ws).graph e) × (y₀ ≤ 999999)
      costs-are = edge-cost h.hung.counted.can.held k j₀

      weighs : y ≡ weight (domain_of m l ws) e
      weighs = j (domain_of m l ws) e (sym costs-are.0)

      small-sum : x + y < no_cost
      small-sum = omega (arith, i, weighs, costs-are, closer-small h p leaves.1 n, weight-small (domain_of m l ws) e (omega (arith, costs-are)))

      pub sum_fits : x + y < 18446744073709551616
      sum_fits = omega (arith, small-sum)

      pub sums : {o : ℕ} → o ≡ to_in m ws e → Sum m l ws t costs e a o (x + y)
      sums r =
          let enters = edge_to h.hung.counted.can.held k r in
          record {
            on = h;
            words = p;
            enters = enters.1;
            small = small-sum;
            leads = rw (← leaves.0, is-suc h p leaves.1 n, closer-cost h p leaves.1 n, ← weighs, ← enters.0, ← i);
          }

module _ {m l : ℕ} {ws t costs : List ℕ} {e a o s : ℕ} (w : Sum m l ws t costs e a o s) where
  pub reached-place : a + o < length t
  reached-place = omega (arith, w.enters, w.words, w.on.hung.counted.can.len)

  pub has-least : o < length costs
  has-least = omega (arith, w.enters, w.on.least.len, w.on.hung.counted.can.held.sized.vertices)

  pub reached-closer : get_or t (a + o) 0 ≢ 0 → node_end (get_or t (a + o) 0 - 1) ≤ length t
  reached-closer n = closer-words w.on w.words w.enters n

  pub onward-reads : onwardb (domain_of m l ws) (tree_in ws m l t) e ≡ ((not (eqb (get_or t (a + o) 0) 0) && leb (evaluation_in t (get_or t (a + o) 0 - 1)) s) || leb (get_or costs o 0) s)
  onward-reads = w.leads ∙ reached-reads w.on w.words w.enters w.small

-- ---- whether each does

pub all_edges : (m l : ℕ) (ws : List ℕ) (p : ℕ → Bool) → all_in p (edges_in_use (domain_of m l ws).graph) ≡ upto p l
all_edges m l ws p =
    ap (λ (n : ℕ). all_in p (numbers n)) (edge-count-in m l ws)
    ∙ same_tests _ _ (λ e. at-upto p l (λ i h. all-in-at p (numbers l) e i (numbers-has l i h)))
    (λ e. at-all-in p (numbers l) (λ i h. upto-at p l e i (numbers-mem l i h)))
