-- When the words of a cache are sound: 01's sentence "A book is sound if ..", clause by clause, as tests on the words.
-- Assumes nothing.
use Rattle.std.specs.Prelude.{Bool, true, false, not, ◌&&◌, ◌||◌, List, [], ◌∷◌, ℕ, ◌+◌, ◌-◌, ◌/◌, eqb, leb, ltb, length, get_or}
use Rattle.model.specs.Limits.{vertex_limit, edge_limit, cost_limit, slot_limit}
use Rattle.model.specs.Lists.{allb, all_below, upto}
use Rattle.model.specs.Graph.{Graph, Domain, from, to, cost, absent, vertex_count, edge_count, edge_numbers}
use Rattle.model.specs.Tree.{Node, precedes}
use Rattle.model.specs.Sound.{soundb, starts, distinctb}
use Rattle.layout.specs.Layout.{header_words, places_at, numbers_at, node_at, queue_at, closed_words_at, slot_at, needed, part, direction_in, edges_in, queued_in, slots_in, trees_in, used_in, vertex_in, vertices_in}
use Rattle.layout.specs.Words.{first_places}
use Rattle.layout.specs.Read.{nodes_in, tree_in, read_cache}
use Rattle.layout.specs.Slots.{slot_words}

-- two lists are one
unfoldable pub sameb : List ℕ → List ℕ → Bool
sameb [] [] = true
sameb [] (y ∷ ys) = false
sameb (x ∷ xs) [] = false
sameb (x ∷ xs) (y ∷ ys) = eqb x y && sameb xs ys

-- "Unused words, emptied queue words too, are 0, also in a sound book."
unfoldable pub zerosb : List ℕ → Bool
zerosb [] = true
zerosb (x ∷ xs) = eqb x 0 && zerosb xs

-- ---- "header and chart words are such as opening writes"

-- direction, M, L and T within their limits, trees in use at most T; "the slice is too short for its header" or for the formula
abbrev pub header_tests : List ℕ → List Bool
header_tests ws =
    leb header_words (length ws)
    ∷ leb (direction_in ws) 1
    ∷ leb (vertices_in ws) vertex_limit
    ∷ leb (edges_in ws) edge_limit
    ∷ leb 1 (slots_in ws)
    ∷ leb (slots_in ws) slot_limit
    ∷ leb (trees_in ws) (slots_in ws)
    ∷ leb (needed (vertices_in ws) (edges_in ws) (slots_in ws)) (length ws)
    ∷ []

-- an initial cost: "4294967295 for `-`", or at most 999,999
abbrev pub initialb : ℕ → Bool
initialb c = eqb c absent || leb c cost_limit

-- an edge: its ends are vertices, its cost is at most 999,999
abbrev pub edge_tests : Graph → ℕ → List Bool
edge_tests g e = ltb (from g e) (vertex_count g) ∷ ltb (to g e) (vertex_count g) ∷ leb (cost g e) cost_limit ∷ []

-- first places and edge numbers are those of the edges that stand before them
abbrev pub index_tests : Domain → List ℕ → List Bool
index_tests d ws =
    let m = vertex_count d.graph in
    let l = edge_count d.graph in
    sameb (part (places_at m l) (m + 1) ws) (first_places d)
    ∷ sameb (part (numbers_at m l) l ws) (edge_numbers d)
    ∷ []

unfoldable pub indexb : Domain → List ℕ → Bool
unfolding sameb first_places edge_numbers
indexb d ws = allb (index_tests d ws)

abbrev pub graph_tests : Domain → List ℕ → List Bool
graph_tests d ws =
    upto (λ v. initialb (get_or d.graph.initial v absent)) (vertex_count d.graph)
    ∷ upto (λ e. allb (edge_tests d.graph e)) (edge_count d.graph)
    ∷ indexb d ws
    ∷ []

-- ---- one tree: what is asked of its words t beside the tree read off them; ws: the words of its cache

-- the queue words in use
abbrev pub queue_in : ℕ → List ℕ → List ℕ
queue_in l t = part (queue_at l) (queued_in t) t

-- "in heap order by cost, then number": no word goes before the word at place (i - 1) / 2
abbrev pub heapb : List Node → List ℕ → Bool
heapb ns q = upto (λ i. eqb i 0 || not (precedes ns (get_or q i 0) (get_or q ((i - 1) / 2) 0))) (length q)

-- the first n queue words: "queue words are distinct nodes in heap order by cost, then number"
abbrev pub queue_tests : List ℕ → ℕ → List ℕ → ℕ → List Bool
queue_tests ws l t n =
    let q = part (queue_at l) n t in
    all_below (used_in t) q
    ∷ distinctb q
    ∷ heapb (nodes_in ws (used_in t) t) q
    ∷ []

-- unused nodes, unused queue words
abbrev pub spare_tests : ℕ → List ℕ → List Bool
spare_tests l t =
    zerosb (part (node_at (used_in t)) (queue_at l - node_at (used_in t)) t)
    ∷ zerosb (part (queue_at l + queued_in t) (closed_words_at l - (queue_at l + queued_in t)) t)
    ∷ []

-- nodes used and queue length are within their areas
abbrev pub form_tests : List ℕ → ℕ → List ℕ → List Bool
form_tests ws l t =
    leb (used_in t) (1 + l)
    ∷ leb (queued_in t) (1 + l)
    ∷ allb (queue_tests ws l t (queued_in t))
    ∷ allb (spare_tests l t)
    ∷ []

unfoldable pub formedb : List ℕ → ℕ → List ℕ → Bool
unfolding upto distinctb zerosb
formedb ws l t = allb (form_tests ws l t)

-- "in each tree: ..": its words are formed, and the tree read off them is sound
unfoldable pub tree_wordsb : Domain → List ℕ → ℕ → ℕ → List ℕ → Bool
unfolding formedb soundb tree_in
tree_wordsb d ws m l t = formedb ws l t && soundb d (tree_in ws m l t)

-- ---- the whole

-- "start motifs differ, and in each tree: .."; the words of slots not in use are 0
abbrev pub trees_tests : List ℕ → List Bool
trees_tests ws =
    let c = read_cache ws in
    let m = vertices_in ws in
    let l = edges_in ws in
    let used = trees_in ws in
    distinctb (starts c.trees)
    ∷ upto (λ i. tree_wordsb c.domain ws m l (slot_words m l i ws)) used
    ∷ zerosb (part (slot_at m l used) (needed m l (slots_in ws) - slot_at m l used) ws)
    ∷ []

unfoldable pub sound_wordsb : List ℕ → Bool
unfolding upto sameb zerosb distinctb indexb tree_wordsb read_cache vertex_in
sound_wordsb ws = allb (header_tests ws) && (allb (graph_tests (read_cache ws).domain ws) && allb (trees_tests ws))
