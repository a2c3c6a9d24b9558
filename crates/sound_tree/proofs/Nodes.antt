-- A tree's counts, its root and its other nodes, word by word: the tests of them, and what is so if all pass.
-- Assumes nothing.
use mathlib.Core.Path.{◌≡◌, refl, sym, ap, ◌∙◌}
use mathlib.Core.Logic.{◌≢◌}
use mathlib.Core.Bool.{Bool, true, not}
use mathlib.Core.List.{List, [], ◌∷◌}
use Prim.Native.Nat.{ℕ, suc, ◌+◌, ◌<◌, ◌≤◌}
use native.Mathlib.Numerals.{add-one}
use native.Mathlib.Decide.{ℕ_discrete, dec_lt}
use native.Mathlib.Omega.{arith}
use borrow.Author.Tests.{ltb-true, eqb-true, eqb-false, not-true, le-ltb, ne_eqb}
use lib.Dec.{eqb, ltb}
use lib.ListN.{length, get_or}
use Rattle.model.specs.Lists.{allb}
use Rattle.model.specs.Graph.{Graph, Domain, Accepted, from, to, cost, absent, vertex_count, edge_count, root_cost, initial_cost}
use Rattle.model.specs.Tree.{Tree, Node, node, closed_at}
use Rattle.model.specs.Sound.{Hangs, hang_tests, hangsb, root_tests, hang_allb}
use Rattle.model.proofs.Bools.{AllTrue, all_true}
use Rattle.model.proofs.Tests.{all-hang}
use Rattle.model.proofs.Least.{hung-inside}
use Rattle.model.proofs.Room.{initial-bound, hung-cost}
use Rattle.layout.specs.Layout.{initial_at, closed_words_at, cost_in, direction_in, edge_cost_in, edge_in, from_in, initial_in, parent_in, start_in, to_in, used_in, vertex_in}
use Rattle.layout.specs.Read.{node_in, graph_in, direction_of, tree_in, domain_of}
use Rattle.layout.proofs.Edges.{initial-word, vertex-count-in, edge-count-in, from-word, to_word, cost-word}
use Rattle.layout.proofs.Trees.{tree-nodes, tree-node}
use Rattle.sound_tree.specs.Check.{Counted, Hung}
use Rattle.model.proofs.InTurn.{all-fails}
use Rattle.sound_tree.proofs.Edges.{edge-from, closed-word}

-- ---- the root

pub start-cost : (m l : ℕ) (ws : List ℕ) (v : ℕ) → v < m → initial_at + m ≤ length ws
    → initial_cost (domain_of m l ws) v ≡ root_cost (direction_of (direction_in ws)) (initial_in ws v)
unfolding initial_cost
start-cost m l ws v h fits = ap (root_cost (direction_of (direction_in ws))) (initial-word m l ws v absent h fits)

vertices : {m l : ℕ} {ws t : List ℕ} → Counted m l ws t → vertex_count (graph_in m l ws) ≡ m
vertices {m} {l} {ws} h = vertex-count-in m l ws (omega (arith, h.can.held.fits))

-- the tests as the words have them
abbrev root_words : ℕ → List ℕ → List ℕ → List Bool
root_words m ws t =
    let c = root_cost (direction_of (direction_in ws)) (initial_in ws (start_in t)) in
    ltb (start_in t) m ∷ not (eqb c absent) ∷ eqb (vertex_in ws t 0) (start_in t) ∷ eqb (cost_in t 0) c ∷ eqb (parent_in t 0) absent ∷ eqb (edge_in t 0) absent ∷ []

pub root_reads : (m l : ℕ) (ws t : List ℕ) → Counted m l ws t → allb (root_tests (domain_of m l ws) (tree_in ws m l t)) ≡ allb (root_words m ws t)
unfolding tree_in
root_reads m l ws t h = elim (dec_lt (start_in t) m) [
  | yes inside ↦ λ i. allb (tests (vertices h i) (start-cost m l ws (start_in t) inside (omega (arith, h.can.held.fits)) i) (tree-node ws m l t 0 h.some_node i))
  | no outside ↦
      all-fails (root_tests (domain_of m l ws) (tree_in ws m l t)) 0 (le-ltb (start_in t) (vertex_count (graph_in m l ws)) (omega (arith, vertices h)))
      ∙ sym (all-fails (root_words m ws t) 0 (le-ltb (start_in t) m (omega arith)))
]
  where
    -- by the count of vertices, the start's cost and the root
    tests : ℕ → ℕ → Node → List Bool
    tests n c x = ltb (start_in t) n ∷ not (eqb c absent) ∷ eqb x.vertex (start_in t) ∷ eqb x.cost c ∷ eqb x.parent absent ∷ eqb x.edge absent ∷ []

-- ---- the other nodes

-- the tests of node i as the words have them, its closed word by the vertex that its edge leaves
abbrev hang_words : ℕ → ℕ → List ℕ → List ℕ → ℕ → List Bool
hang_words m l ws t i =
    let p = parent_in t i in
    let e = edge_in t i in
    ltb p i
    ∷ ltb e l
    ∷ eqb (from_in m ws e) (vertex_in ws t p)
    ∷ eqb (to_in m ws e) (vertex_in ws t i)
    ∷ eqb (cost_in t i) (cost_in t p + edge_cost_in m ws e)
    ∷ eqb (get_or t (closed_words_at l + from_in m ws e) 0) (p + 1)
    ∷ []

module _ {m l i : ℕ} {ws t : List ℕ} (h : Counted m l ws t) (o : i < used_in t) where
  abbrev g : Graph
  g = graph_in m l ws

  abbrev ns : List Node
  ns = (tree_in ws m l t).nodes

  abbrev cl : List ℕ
  cl = (tree_in ws m l t).closed

  abbrev tests : List Bool
  tests = hang_tests (domain_of m l ws) ns cl i

  abbrev p : ℕ
  p = parent_in t i

  abbrev e : ℕ
  e = edge_in t i

  this : node ns i ≡ node_in ws t i
  this = tree-node ws m l t i o

  number : (node ns i).parent ≡ p
  number = ap (λ (x : Node). x.parent) this

  edge : (node ns i).edge ≡ e
  edge = ap (λ (x : Node). x.edge) this

  above : i ≤ p → allb tests ≡ allb (hang_words m l ws t i)
  above a = all-fails tests 0 (le-ltb (node ns i).parent i (omega (arith, number))) ∙ sym (all-fails (hang_words m l ws t i) 0 (le-ltb p i a))

  outside : l ≤ e → allb tests ≡ allb (hang_words m l ws t i)
  outside a =
      all-fails tests 1 (le-ltb (node ns i).edge (edge_count g) (omega (arith, edge, edge-count-in m l ws)))
      ∙ sym (all-fails (hang_words m l ws t i) 1 (le-ltb e l a))

  module _ (op : p < i) (oe : e < l) where
    -- by the closed word, and the number that it has to be
    abbrev words : ℕ → ℕ → List Bool
    words c n = ltb p i ∷ ltb e l ∷ eqb (from_in m ws e) (vertex_in ws t p) ∷ eqb (to_in m ws e) (vertex_in ws t i) ∷ eqb (cost_in t i) (cost_in t p + edge_cost_in m ws e) ∷ eqb c n ∷ []

    inside : tests ≡ words (closed_at cl (vertex_in ws t p)) (suc p)
    inside = λ k.
        all (number k) (edge k) (edge-count-in m l ws k)
        ((ap (from g) edge ∙ from-word m l ws e oe) k) ((ap (to g) edge ∙ to_word m l ws e oe) k) ((ap (cost g) edge ∙ cost-word m l ws e oe) k) (this k) (parent k)
      where
        parent : node ns (node ns i).parent ≡ node_in ws t p
        parent = ap (node ns) number ∙ tree-node ws m l t p (omega arith)

        -- by the parent's number, the edge's, the number of edges; the edge's words; the node, the parent
        all : ℕ → ℕ → ℕ → ℕ → ℕ → ℕ → Node → Node → List Bool
        all k j n a b c x y =
            ltb k i ∷ ltb j n ∷ eqb a y.vertex ∷ eqb b x.vertex ∷ eqb x.cost (y.cost + c) ∷ eqb (closed_at cl y.vertex) (suc k) ∷ []

    within : allb tests ≡ allb (hang_words m l ws t i)
    within = ap allb inside ∙ elim (ℕ_discrete (from_in m ws e) (vertex_in ws t p)) [
      | yes q ↦ λ k. allb (words (sym (closed-word ws m l t refl q (edge-from h.can.held oe refl).1) k) (sym (add-one p) k))
      | no q ↦
          let other = ne_eqb (from_in m ws e) (vertex_in ws t p) q in
          all-fails (words (closed_at cl (vertex_in ws t p)) (suc p)) 2 other ∙ sym (all-fails (hang_words m l ws t i) 2 other)
    ]

pub hang_reads : (m l : ℕ) (ws t : List ℕ) (i : ℕ) → Counted m l ws t → i < used_in t
    → hangsb (domain_of m l ws) (tree_in ws m l t).nodes (tree_in ws m l t).closed i ≡ allb (hang_words m l ws t i)
unfolding hangsb
hang_reads m l ws t i h o = elim (dec_lt (parent_in t i) i) [
  | no a ↦ above h o (omega arith)
  | yes op ↦ elim (dec_lt (edge_in t i) l) [ no a ↦ outside h o (omega arith) | yes oe ↦ within h o op oe ]
]

-- ---- what is so if all pass

pub hung_at : (m l : ℕ) (ws t : List ℕ) → Counted m l ws t → allb (root_tests (domain_of m l ws) (tree_in ws m l t)) ≡ true
    → hang_allb (domain_of m l ws) (tree_in ws m l t) ≡ true → Hung m l ws t
unfolding tree_in
hung_at m l ws t h root hang =
    record {
      counted = h;
      start = start;
      vertex = λ k o. omega (
        arith,
        vertices h,
        ap (λ (x : Node). x.vertex) (tree-node ws m l t k o),
        hung-inside d acc u.nodes u.closed root_vertex hangs k (omega (arith, tree-nodes ws m l t)),
      );
      cost = λ k o. omega (
        arith,
        ap (λ (x : Node). x.cost) (tree-node ws m l t k o),
        hung-cost d acc u.nodes u.closed root-cost hangs k (omega (arith, tree-nodes ws m l t)),
      );
    }
  where
    d : Domain
    d = domain_of m l ws

    u : Tree
    u = tree_in ws m l t

    acc : Accepted d.graph
    acc = h.can.held.accepted

    tests : AllTrue (root_tests d u)
    tests = all_true (root_tests d u) root

    root_vertex : (node u.nodes 0).vertex < vertex_count d.graph
    root_vertex = let e : (node u.nodes 0).vertex ≡ u.start = eqb-true _ _ tests.1.1.0 in rw e (ltb-true _ _ tests.0)

    root-cost : (node u.nodes 0).cost ≤ 999999
    root-cost =
        let e : (node u.nodes 0).cost ≡ initial_cost d u.start = eqb-true _ _ tests.1.1.1.0 in
        rw e (initial-bound d acc u.start (eqb-false _ _ (not-true _ tests.1.0)))

    hangs : (i : ℕ) → i ≢ 0 → i < length u.nodes → Hangs d u.nodes u.closed i
    hangs = all-hang d u.nodes u.closed (length u.nodes) hang

    start : start_in t < m
    start = omega (arith, vertices h, ltb-true (start_in t) (vertex_count d.graph) tests.0)
