-- When a tree, and the trees of a cache, are sound: 01's sentence "A book is sound if ..", clause by clause. A record of facts, and a test.
-- On words, "in heap order" and "Unused words .. are 0" come on top; a queue is read as the ascending list of its nodes.
-- Assumes nothing.
use Rattle.std.specs.Prelude.{◌≡◌, ◌⊎◌, ◌≢◌, Bool, true, not, ◌&&◌, ◌||◌, ℕ, zero, suc, ◌+◌, ◌<◌, ◌≤◌, eqb, leb, ltb, length, get_or}
use mathlib.Core.List.{List, [], ◌∷◌, Memᴰ, map}
use Rattle.model.specs.Lists.{those, mem, allb, upto, all_in, any_in, Ascends, ascendsb}
use Rattle.model.specs.Graph.{Graph, Domain, from, to, cost, absent, vertex_count, Usable, usableb, edges_in_use, initial_cost}
use Rattle.model.specs.Tree.{Tree, Node, node, closed_at, closed_within, evaluation, weight}

abbrev pub no_tree : Tree
no_tree = record { start = 0; nodes = []; waiting = []; closed = [] }

abbrev pub tree : List Tree → ℕ → Tree
tree ts i = get_or ts i no_tree

-- ---- facts

-- "each other node hangs by a link on the closed node of its parent's motif, a lower number, and costs the parent's cost plus picks"
pub record Hangs (d : Domain) (ns : List Node) (cl : List ℕ) (i : ℕ) : Type 0 where
  pub lower : (node ns i).parent < i
  pub real : Usable d.graph (node ns i).edge
  pub leaves : from d.graph (node ns i).edge ≡ (node ns (node ns i).parent).vertex
  pub enters : to d.graph (node ns i).edge ≡ (node ns i).vertex
  pub costs : (node ns i).cost ≡ (node ns (node ns i).parent).cost + cost d.graph (node ns i).edge
  pub closer : closed_at cl (node ns (node ns i).parent).vertex ≡ suc (node ns i).parent

-- vertex v is "closed, or waiting, at no more than" k
pub data Reached (ns : List Node) (q cl : List ℕ) (v k : ℕ) : Type 0 where
  shut : (i : ℕ) → closed_at cl v ≡ suc i → evaluation ns i ≤ k → Reached ns q cl v k
  waits : (i : ℕ) → Memᴰ i q → (node ns i).vertex ≡ v → evaluation ns i ≤ k → Reached ns q cl v k

-- "the links leaving closed motifs"
unfoldable pub closed_edges : Graph → List ℕ → List ℕ
unfolding those
closed_edges g cl = those (λ l. not (eqb (closed_at cl (from g l)) 0)) (edges_in_use g)

pub record Sound (d : Domain) (t : Tree) : Type 0 where
  -- "node 0 is the root with its start cost, never `-` (backward 0)"
  pub some_node : 0 < length t.nodes
  pub inside : t.start < vertex_count d.graph
  pub allowed : initial_cost d t.start ≢ absent
  pub root_vertex : (node t.nodes 0).vertex ≡ t.start
  pub root-cost : (node t.nodes 0).cost ≡ initial_cost d t.start
  pub root_parent : (node t.nodes 0).parent ≡ absent
  pub root_edge : (node t.nodes 0).edge ≡ absent
  -- "each other node hangs .."
  pub hangs : (i : ℕ) → i ≢ 0 → i < length t.nodes → Hangs d t.nodes t.closed i
  -- "queue words are distinct nodes"
  pub queue : (i : ℕ) → Memᴰ i t.waiting → i < length t.nodes
  pub ascends : Ascends 0 t.waiting
  -- "a closed word names a node of that motif costing no more than any waiting node"
  pub sized : length t.closed ≡ vertex_count d.graph
  pub closer : (v i : ℕ) → closed_at t.closed v ≡ suc i → (i < length t.nodes) × ((node t.nodes i).vertex ≡ v)
  pub cheapest : (v i j : ℕ) → closed_at t.closed v ≡ suc i → Memᴰ j t.waiting → evaluation t.nodes i ≤ evaluation t.nodes j
  -- "nodes used are at most 1 plus the links leaving closed motifs"
  pub few : length t.nodes ≤ suc (length (closed_edges d.graph t.closed))
  -- "the root's motif is closed or the root waits"
  pub begun : (closed_at t.closed t.start ≢ 0) ⊎ Memᴰ 0 t.waiting
  -- "each link leaving a closed motif reaches a motif closed, or waiting, at no more than the sum"
  pub onward : (v i l : ℕ) → closed_at t.closed v ≡ suc i → Usable d.graph l → from d.graph l ≡ v
      → Reached t.nodes t.waiting t.closed (to d.graph l) (evaluation t.nodes i + weight d l)

-- "start motifs differ, and in each tree: .."
pub record SoundTrees (d : Domain) (ts : List Tree) : Type 0 where
  pub differ : (i j : ℕ) → i < length ts → j < length ts → (tree ts i).start ≡ (tree ts j).start → i ≡ j
  pub each : (i : ℕ) → i < length ts → Sound d (tree ts i)

-- ---- tests

-- a closed word w: 0, or one more than the node at which p passes
abbrev pub closedb : (ℕ → Bool) → ℕ → Bool
closedb p zero = true
closedb p (suc i) = p i

unfoldable pub reachedb : List Node → List ℕ → List ℕ → ℕ → ℕ → Bool
unfolding any_in
reachedb ns q cl v k = closed_within ns k (closed_at cl v) || any_in (λ i. eqb (node ns i).vertex v && leb (evaluation ns i) k) q

abbrev pub hang_tests : Domain → List Node → List ℕ → ℕ → List Bool
hang_tests d ns cl i =
    let x = node ns i in
    let p = node ns x.parent in
    ltb x.parent i
    ∷ usableb d.graph x.edge
    ∷ eqb (from d.graph x.edge) p.vertex
    ∷ eqb (to d.graph x.edge) x.vertex
    ∷ eqb x.cost (p.cost + cost d.graph x.edge)
    ∷ eqb (closed_at cl p.vertex) (suc x.parent)
    ∷ []

unfoldable pub hangsb : Domain → List Node → List ℕ → ℕ → Bool
hangsb d ns cl i = allb (hang_tests d ns cl i)

-- "node 0 is the root with its start cost, never `-` (backward 0)", of a tree that has a node
abbrev pub root_tests : Domain → Tree → List Bool
root_tests d t =
    let x = node t.nodes 0 in
    ltb t.start (vertex_count d.graph)
    ∷ not (eqb (initial_cost d t.start) absent)
    ∷ eqb x.vertex t.start
    ∷ eqb x.cost (initial_cost d t.start)
    ∷ eqb x.parent absent
    ∷ eqb x.edge absent
    ∷ []

-- "each other node hangs .."
abbrev pub hang_allb : Domain → Tree → Bool
hang_allb d t = upto (λ i. eqb i 0 || hangsb d t.nodes t.closed i) (length t.nodes)

-- "queue words are distinct nodes"
abbrev pub waiting_tests : Tree → List Bool
waiting_tests t = all_in (λ i. ltb i (length t.nodes)) t.waiting ∷ ascendsb 0 t.waiting ∷ []

-- "a closed word names a node of that motif costing no more than any waiting node"
abbrev pub closerb : Tree → ℕ → Bool
closerb t v =
    closedb (λ i. ltb i (length t.nodes) && eqb (node t.nodes i).vertex v) (closed_at t.closed v)
    && closedb (λ i. all_in (λ j. leb (evaluation t.nodes i) (evaluation t.nodes j)) t.waiting) (closed_at t.closed v)

-- "nodes used are at most 1 plus the links leaving closed motifs"
abbrev pub fewb : Domain → Tree → Bool
fewb d t = leb (length t.nodes) (suc (length (closed_edges d.graph t.closed)))

-- "the root's motif is closed or the root waits"
abbrev pub begunb : Tree → Bool
begunb t = not (eqb (closed_at t.closed t.start) 0) || mem 0 t.waiting

-- "each link leaving a closed motif reaches a motif closed, or waiting, at no more than the sum": of link l, and of all
abbrev pub onwardb : Domain → Tree → ℕ → Bool
onwardb d t l =
    closedb (λ i. reachedb t.nodes t.waiting t.closed (to d.graph l) (evaluation t.nodes i + weight d l)) (closed_at t.closed (from d.graph l))

abbrev pub onward_allb : Domain → Tree → Bool
onward_allb d t = all_in (onwardb d t) (edges_in_use d.graph)

abbrev pub sound_tests : Domain → Tree → List Bool
sound_tests d t =
    ltb 0 (length t.nodes)
    ∷ allb (root_tests d t)
    ∷ hang_allb d t
    ∷ allb (waiting_tests t)
    ∷ eqb (length t.closed) (vertex_count d.graph)
    ∷ upto (closerb t) (length t.closed)
    ∷ fewb d t
    ∷ begunb t
    ∷ onward_allb d t
    ∷ []

unfoldable pub soundb : Domain → Tree → Bool
unfolding upto all_in ascendsb reachedb hangsb closed_edges initial_cost mem
soundb d t = allb (sound_tests d t)

abbrev pub starts : List Tree → List ℕ
starts ts = map (λ (t : Tree). t.start) ts

-- no number stands twice
unfoldable pub distinctb : List ℕ → Bool
unfolding mem
distinctb [] = true
distinctb (x ∷ xs) = not (mem x xs) && distinctb xs

unfoldable pub sound_treesb : Domain → List Tree → Bool
unfolding soundb distinctb upto
sound_treesb d ts = distinctb (starts ts) && upto (λ i. soundb d (tree ts i)) (length ts)
