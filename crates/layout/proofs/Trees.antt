-- The tree that words hold, word by word: what its nodes and counts are by their words, and the words by them.
-- Assumes nothing.
use mathlib.Core.Path.{◌≡◌, refl, sym, ap, ◌∙◌}
use mathlib.Core.Logic.{◌≢◌}
use mathlib.Core.List.{List, map}
use Prim.Native.Nat.{ℕ, ◌+◌, ◌-◌, ◌/◌, ◌<◌, ◌≤◌}
use native.Mathlib.Nat.{add-zero}
use native.Mathlib.Decide.{ℕ_discrete}
use native.Mathlib.Omega.{arith}
use lib.ListN.{length, get_or, length-map}
use lib.Seq.{ext_get_or}
use Rattle.model.specs.Lists.{numbers}
use Rattle.model.specs.Tree.{Node, no_node, node, closed_at}
use Rattle.model.proofs.Lists.{up-length, map-up-at}
use Rattle.layout.specs.Layout.{start_at, used_at, queued_at, start_in, used_in, queued_in, vertex_in, cost_in, parent_in, edge_in, nodes_at, node_size, node_at, node_end, node_cost_at, node_parent_at, node_edge_at, closed_words_at, closed_word_in, slots_at, tree_count_at}
use Rattle.layout.specs.Words.{node_words}
use Rattle.layout.specs.Read.{node_in, nodes_in, tree_in}
use Rattle.layout.proofs.Places.{part_at, part_length}

-- each word before the slots is as it was, but the count of trees in use
abbrev pub GraphStays : ℕ → ℕ → List ℕ → List ℕ → Type 0
GraphStays m l ws left = (j : ℕ) → j ≢ tree_count_at → j < slots_at m l → get_or left j 0 ≡ get_or ws j 0

pub nodes-in-length : (ws : List ℕ) (n : ℕ) (t : List ℕ) → length (nodes_in ws n t) ≡ n
nodes-in-length ws n t = length-map (numbers n) (node_in ws t) ∙ up-length n 0

-- node k of the n that stand in a tree's words
pub node_at_lem : (ws : List ℕ) (n : ℕ) (t : List ℕ) (k : ℕ) → k < n → node (nodes_in ws n t) k ≡ node_in ws t k
node_at_lem ws n t k h = map-up-at (node_in ws t) no_node n 0 k h ∙ ap (node_in ws t) (omega arith)

-- ---- a node's vertex: nothing else looks into `vertex_in`

-- it is the first of the node's words
pub vertex-word : (ws t : List ℕ) (k : ℕ) → vertex_in ws t k ≡ get_or t (node_at k) 0
unfolding vertex_in
vertex-word ws t k = refl

-- the node's words stayed
vertex-same : (ws s t : List ℕ) (k : ℕ) → ((j : ℕ) → node_at k ≤ j → j < node_end k → get_or t j 0 ≡ get_or s j 0) → vertex_in ws t k ≡ vertex_in ws s k
vertex-same ws s t k f = vertex-word ws t k ∙ f (node_at k) (omega arith) (omega arith) ∙ sym (vertex-word ws s k)

-- before the slots the cache's words stayed, the count of trees apart
vertex-graph : (m l : ℕ) (ws left t : List ℕ) (k : ℕ) → GraphStays m l ws left → vertex_in left t k ≡ vertex_in ws t k
vertex-graph m l ws left t k same = vertex-word left t k ∙ sym (vertex-word ws t k)

-- ---- the words of a node

-- words that hold those of x
pub words-node : (ws t : List ℕ) (k : ℕ) (x : Node) → ((i : ℕ) → i < node_size → get_or t (node_at k + i) 0 ≡ get_or (node_words x) i 0) → node_in ws t k ≡ x
words-node ws t k x f = λ i. record {
  vertex = (vertex-word ws t k ∙ ap (λ (j : ℕ). get_or t j 0) (sym (add-zero (node_at k))) ∙ f 0 (omega arith)) i;
  cost = f node_cost_at (omega arith) i;
  parent = f node_parent_at (omega arith) i;
  edge = f node_edge_at (omega arith) i;
}

-- words that stayed hold the same node
pub node-same : (ws s t : List ℕ) (k : ℕ) → ((j : ℕ) → node_at k ≤ j → j < node_end k → get_or t j 0 ≡ get_or s j 0) → node_in ws t k ≡ node_in ws s k
node-same ws s t k f = λ i. record {
  vertex = vertex-same ws s t k f i;
  cost = f (node_at k + node_cost_at) (omega arith) (omega arith) i;
  parent = f (node_at k + node_parent_at) (omega arith) (omega arith) i;
  edge = f (node_at k + node_edge_at) (omega arith) (omega arith) i;
}

pub nodes-same : (ws : List ℕ) (n : ℕ) (s t : List ℕ) → ((j : ℕ) → nodes_at ≤ j → j < node_at n → get_or t j 0 ≡ get_or s j 0) → nodes_in ws n t ≡ nodes_in ws n s
nodes-same ws n s t f =
    ext_get_or no_node (nodes_in ws n t) (nodes_in ws n s) (nodes-in-length ws n t ∙ sym (nodes-in-length ws n s)) (λ k b.
    let h : k < n = omega (arith, nodes-in-length ws n t) in
    node_at_lem ws n t k h ∙ node-same ws s t k (λ j low high. f j (omega arith) (omega arith)) ∙ sym (node_at_lem ws n s k h))

-- the node fixes its words
pub node-words : (ws s t : List ℕ) (k j : ℕ) → node_at k ≤ j → j < node_end k → node_in ws s k ≡ node_in ws t k → get_or s j 0 ≡ get_or t j 0
node-words ws s t k j low high e = elim (ℕ_discrete j (node_at k)) [
  | yes q ↦ rw q (sym (vertex-word ws s k) ∙ ap (λ (x : Node). x.vertex) e ∙ vertex-word ws t k)
  | no n0 ↦ elim (ℕ_discrete j (node_at k + node_cost_at)) [
    | yes q ↦ rw q (ap (λ (x : Node). x.cost) e)
    | no n1 ↦ elim (ℕ_discrete j (node_at k + node_parent_at)) [
      | yes q ↦ rw q (ap (λ (x : Node). x.parent) e)
      | no n2 ↦ let q : j ≡ node_at k + node_edge_at = omega arith in rw q (ap (λ (x : Node). x.edge) e)
    ]
  ]
]

-- each place behind the header is one of a node's
pub node_of : (j : ℕ) → nodes_at ≤ j → (k : ℕ) × ((node_at k ≤ j) × (j < node_end k))
node_of j h = ((j - nodes_at) / node_size, (omega arith, omega arith))

-- ---- a tree's own words

pub header-words : (s t : List ℕ) → start_in s ≡ start_in t → used_in s ≡ used_in t → (j : ℕ) → j < nodes_at → (j ≡ queued_at → queued_in s ≡ queued_in t)
    → get_or s j 0 ≡ get_or t j 0
header-words s t start used j h queued = elim (ℕ_discrete j start_at) [
  | yes e ↦ rw e start
  | no n0 ↦ elim (ℕ_discrete j used_at) [ yes e ↦ rw e used | no n1 ↦ let e : j ≡ queued_at = omega arith in rw e (queued e) ]
]

module _ (ws : List ℕ) (m l : ℕ) (t : List ℕ) where
  pub tree-nodes : length (tree_in ws m l t).nodes ≡ used_in t
  unfolding tree_in
  tree-nodes = nodes-in-length ws (used_in t) t

  pub tree-node : (k : ℕ) → k < used_in t → node (tree_in ws m l t).nodes k ≡ node_in ws t k
  unfolding tree_in
  tree-node k h = node_at_lem ws (used_in t) t k h

  pub tree-closed : (v : ℕ) → v < m → closed_at (tree_in ws m l t).closed v ≡ closed_word_in l t v
  unfolding tree_in
  tree-closed v h = part_at (closed_words_at l) m t v h

  pub tree-closed-length : closed_words_at l + m ≤ length t → length (tree_in ws m l t).closed ≡ m
  unfolding tree_in
  tree-closed-length h = part_length (closed_words_at l) m t h

-- ---- a tree's words beside other words of the cache

node-graph : (m l : ℕ) (ws left t : List ℕ) (k : ℕ) → GraphStays m l ws left → node_in left t k ≡ node_in ws t k
node-graph m l ws left t k same = λ i. record { vertex = vertex-graph m l ws left t k same i; cost = cost_in t k; parent = parent_in t k; edge = edge_in t k }

-- before the slots the cache's words stayed: they hold the same tree
pub tree-graph : (m l : ℕ) (ws left t : List ℕ) → GraphStays m l ws left → tree_in left m l t ≡ tree_in ws m l t
unfolding tree_in
tree-graph m l ws left t same = λ i. record {
  start = start_in t;
  nodes = map (λ k. node-graph m l ws left t k same i) (numbers (used_in t));
  waiting = (tree_in ws m l t).waiting;
  closed = (tree_in ws m l t).closed;
}
