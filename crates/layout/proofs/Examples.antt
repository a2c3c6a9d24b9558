-- Sound words by computation: 01's chart, a tree grown by one ticket, a new tree and an unused slot; and for each clause of
-- the definition words that this clause alone refuses. A clause that others imply has its example on the list of tests in which it stands.
-- Assumes nothing.
use mathlib.Core.Path.{◌≡◌, refl}
use mathlib.Core.Bool.{true, false}
use mathlib.Core.List.{List, [], ◌∷◌, ◌++◌}
use Prim.Native.Nat.{ℕ}
use lib.ListN.{set, take, replicate}
use Rattle.model.specs.Lists.{numbers, allb, upto}
use Rattle.model.specs.Worth.{evaluation_of, weight}
use Rattle.model.specs.Graph.{Domain, forward}
use Rattle.model.specs.Tree.{Tree}
use Rattle.model.specs.Sound.{sound_tests, soundb, distinctb}
use Rattle.layout.specs.Read.{graph_in}
use Rattle.layout.specs.Sound.{zerosb, header_tests, edge_tests, form_tests, sound_wordsb}

unfoldable pub sample : List ℕ
sample =
    -- header: forward, 4 vertices, 3 edges, 3 slots, 2 trees
    0 ∷ 4 ∷ 3 ∷ 3 ∷ 2
    -- initial costs
    ∷ 0 ∷ 5 ∷ 4294967295 ∷ 4294967295
    -- edges
    ∷ 0 ∷ 1 ∷ 4 ∷ 1 ∷ 2 ∷ 3 ∷ 0 ∷ 2 ∷ 9
    -- first places
    ∷ 0 ∷ 2 ∷ 3 ∷ 3 ∷ 3
    -- edge numbers
    ∷ 0 ∷ 2 ∷ 1
    -- the tree that starts at 0: 3 nodes, 2 of them wait
    ∷ 0 ∷ 3 ∷ 2
    -- its nodes, its queue words, its closed words
    ∷ 0 ∷ 0 ∷ 4294967295 ∷ 4294967295 ∷ 1 ∷ 4 ∷ 0 ∷ 0 ∷ 2 ∷ 9 ∷ 0 ∷ 2 ∷ 0 ∷ 0 ∷ 0 ∷ 0
    ∷ 1 ∷ 2 ∷ 0 ∷ 0
    ∷ 1 ∷ 0 ∷ 0 ∷ 0
    -- the tree that starts at 1: its root waits
    ∷ 1 ∷ 1 ∷ 1
    ∷ 1 ∷ 5 ∷ 4294967295 ∷ 4294967295 ∷ 0 ∷ 0 ∷ 0 ∷ 0 ∷ 0 ∷ 0 ∷ 0 ∷ 0 ∷ 0 ∷ 0 ∷ 0 ∷ 0
    ∷ 0 ∷ 0 ∷ 0 ∷ 0
    ∷ 0 ∷ 0 ∷ 0 ∷ 0
    -- a slot that is not in use
    ∷ 0 ∷ 0 ∷ 0 ∷ 0 ∷ 0 ∷ 0 ∷ 0 ∷ 0 ∷ 0 ∷ 0 ∷ 0 ∷ 0 ∷ 0 ∷ 0 ∷ 0 ∷ 0 ∷ 0 ∷ 0 ∷ 0 ∷ 0 ∷ 0 ∷ 0 ∷ 0 ∷ 0 ∷ 0 ∷ 0 ∷ 0
    ∷ []

sample-sound : sound_wordsb sample ≡ true
unfolding sound_wordsb sample evaluation_of weight
sample-sound = refl

-- "words past that are never written", and are not looked at
past-the-formula : sound_wordsb (sample ++ (7 ∷ [])) ≡ true
unfolding sound_wordsb sample evaluation_of weight
past-the-formula = refl

-- one vertex, closed by the root of its tree; in docs/DIFFERENCES.md the words of entry 8
smallest : List ℕ
smallest = 0 ∷ 1 ∷ 0 ∷ 1 ∷ 1 ∷ 0 ∷ 0 ∷ 0 ∷ 0 ∷ 1 ∷ 0 ∷ 0 ∷ 0 ∷ 4294967295 ∷ 4294967295 ∷ 0 ∷ 1 ∷ []

smallest-sound : sound_wordsb smallest ≡ true
unfolding sound_wordsb smallest
smallest-sound = refl

-- one vertex with an edge to itself at cost 0, closed by the root; on the root hangs node 1 by the edge
looped : List ℕ
looped =
    0 ∷ 1 ∷ 1 ∷ 1 ∷ 1
    ∷ 0
    ∷ 0 ∷ 0 ∷ 0
    ∷ 0 ∷ 1
    ∷ 0
    ∷ 0 ∷ 2 ∷ 0
    ∷ 0 ∷ 0 ∷ 4294967295 ∷ 4294967295 ∷ 0 ∷ 0 ∷ 0 ∷ 0
    ∷ 0 ∷ 0
    ∷ 1
    ∷ []

looped-sound : sound_wordsb looped ≡ true
unfolding sound_wordsb looped evaluation_of weight
looped-sound = refl

-- m vertices, l edges and t slots, and n words 0 behind the header
abbrev zeros : ℕ → ℕ → ℕ → ℕ → List ℕ
zeros m l t n = 0 ∷ m ∷ l ∷ t ∷ 0 ∷ replicate n 0

-- ---- the header

-- "the slice is too short for its header": then it is too short for the formula too
short-header : header_tests (take 4 sample) ≡ false ∷ true ∷ true ∷ true ∷ true ∷ true ∷ true ∷ false ∷ []
unfolding sample
short-header = refl

header-alone : header_tests (take 5 sample) ≡ true ∷ true ∷ true ∷ true ∷ true ∷ true ∷ true ∷ false ∷ []
unfolding sample
header-alone = refl

one-word-short : sound_wordsb (take 106 sample) ≡ false
unfolding sound_wordsb sample
one-word-short = refl

-- direction: 0 or 1
backward : sound_wordsb (set smallest 0 1) ≡ true
unfolding sound_wordsb smallest
backward = refl

no-direction : sound_wordsb (set smallest 0 2) ≡ false
unfolding sound_wordsb smallest
no-direction = refl

-- "At most 1,024 motifs and 2,048 links"
within-limits : allb (header_tests (zeros 1024 2048 1 21513)) ≡ true
within-limits = refl

more-vertices : sound_wordsb (zeros 1025 0 1 3084) ≡ false
unfolding sound_wordsb
more-vertices = refl

-- 2,049 edges of one vertex
more_edges : sound_wordsb (0 ∷ 1 ∷ 2049 ∷ 1 ∷ 0 ∷ (replicate 6149 0 ++ (2049 ∷ (numbers 2049 ++ replicate 10254 0)))) ≡ false
unfolding sound_wordsb
more_edges = refl

-- "T tree slots, 1 to 64"
no_slot : sound_wordsb (zeros 1 0 0 3) ≡ false
unfolding sound_wordsb
no_slot = refl

slots-64 : sound_wordsb (zeros 0 0 64 513) ≡ true
unfolding sound_wordsb
slots-64 = refl

slots-65 : sound_wordsb (zeros 0 0 65 521) ≡ false
unfolding sound_wordsb
slots-65 = refl

-- trees in use: at most T; the words of the second and third slot stay where they are
trees-at-slots : sound_wordsb (set sample 3 2) ≡ true
unfolding sound_wordsb sample evaluation_of weight
trees-at-slots = refl

trees-past-slots : sound_wordsb (set sample 3 1) ≡ false
unfolding sound_wordsb sample
trees-past-slots = refl

-- ---- the graph

-- "start cost and picks at most 999,999"
initial-at-limit : sound_wordsb (set sample 7 999999) ≡ true
unfolding sound_wordsb sample evaluation_of weight
initial-at-limit = refl

initial-over-limit : sound_wordsb (set sample 7 1000000) ≡ false
unfolding sound_wordsb sample
initial-over-limit = refl

cost-at-limit : sound_wordsb (set sample 14 999999) ≡ true
unfolding sound_wordsb sample evaluation_of weight
cost-at-limit = refl

cost-over-limit : sound_wordsb (set sample 14 1000000) ≡ false
unfolding sound_wordsb sample
cost-over-limit = refl

-- an edge's ends are vertices
edge-to-nowhere : sound_wordsb (set sample 13 4) ≡ false
unfolding sound_wordsb sample
edge-to-nowhere = refl

-- an edge that leaves no vertex: then it is missing among the edge numbers too
edge-from-nowhere : edge_tests (graph_in 4 3 (set sample 12 4)) 1 ≡ false ∷ true ∷ true ∷ []
unfolding graph_in sample
edge-from-nowhere = refl

-- first places and edge numbers
wrong-place : sound_wordsb (set sample 19 1) ≡ false
unfolding sound_wordsb sample
wrong-place = refl

wrong-number : sound_wordsb (set (set sample 23 2) 24 0) ≡ false
unfolding sound_wordsb sample
wrong-number = refl

-- ---- the trees

-- "start motifs differ": tree 1 is made to start at 0 too
start-repeated : sound_wordsb (set (set (set sample 53 0) 56 0) 57 0) ≡ false
unfolding sound_wordsb sample
start-repeated = refl

-- "node 0 is the root with its start cost, never `-`"
root-elsewhere : sound_wordsb (set sample 56 2) ≡ false
unfolding sound_wordsb sample
root-elsewhere = refl

root-dear : sound_wordsb (set sample 57 6) ≡ false
unfolding sound_wordsb sample
root-dear = refl

root-with-parent : sound_wordsb (set sample 58 0) ≡ false
unfolding sound_wordsb sample
root-with-parent = refl

root-with-edge : sound_wordsb (set sample 59 0) ≡ false
unfolding sound_wordsb sample
root-with-edge = refl

start-without-cost : sound_wordsb (set (set (set sample 53 2) 56 2) 57 4294967295) ≡ false
unfolding sound_wordsb sample
start-without-cost = refl

-- backward, where no start cost is looked at: the root waits at a vertex that is none
start-past-vertices : sound_wordsb (set (set (set (set (set smallest 0 1) 8 1) 10 1) 11 1) 16 0) ≡ false
unfolding sound_wordsb smallest
start-past-vertices = refl

-- "each other node hangs by a link on the closed node of its parent's motif, a lower number, and costs the parent's cost plus picks"
parent-not-lower : sound_wordsb (set (set looped 21 1) 25 2) ≡ false
unfolding sound_wordsb looped
parent-not-lower = refl

edge-past-edges : sound_wordsb (set looped 22 1) ≡ false
unfolding sound_wordsb looped
edge-past-edges = refl

parent-not-closed : sound_wordsb (set looped 25 2) ≡ false
unfolding sound_wordsb looped
parent-not-closed = refl

edge-leaves-elsewhere : sound_wordsb (set (set (set (set sample 40 1) 38 3) 45 2) 46 1) ≡ false
unfolding sound_wordsb sample evaluation_of weight
edge-leaves-elsewhere = refl

-- the edge of node 2, which is at 2, goes from 0 to 0
edge-enters-elsewhere : sound_wordsb (set sample 16 0) ≡ false
unfolding sound_wordsb sample evaluation_of weight
edge-enters-elsewhere = refl

cost-wrong : sound_wordsb (set sample 38 8) ≡ false
unfolding sound_wordsb sample evaluation_of weight
cost-wrong = refl

-- "queue words are distinct nodes in heap order by cost, then number"
queue-word-no-node : sound_wordsb (set (set sample 55 2) 72 1) ≡ false
unfolding sound_wordsb sample
queue-word-no-node = refl

queue-word-twice : sound_wordsb (set (set sample 28 3) 47 2) ≡ false
unfolding sound_wordsb sample
queue-word-twice = refl

not-in-heap-order : sound_wordsb (set (set sample 45 2) 46 1) ≡ false
unfolding sound_wordsb sample evaluation_of weight
not-in-heap-order = refl

-- nodes 1 and 2 cost the same
equal-costs-by-number : sound_wordsb (set (set sample 17 4) 38 4) ≡ true
unfolding sound_wordsb sample evaluation_of weight
equal-costs-by-number = refl

equal-costs-not-by-number : sound_wordsb (set (set (set (set sample 17 4) 38 4) 45 2) 46 1) ≡ false
unfolding sound_wordsb sample evaluation_of weight
equal-costs-not-by-number = refl

-- "a closed word names a node of that motif costing no more than any waiting node"
closed-by-no-node : sound_wordsb (set smallest 16 2) ≡ false
unfolding sound_wordsb smallest
closed-by-no-node = refl

closed-by-other : sound_wordsb (set sample 52 1) ≡ false
unfolding sound_wordsb sample evaluation_of weight
closed-by-other = refl

-- node 2, of cost 9, closes its vertex while node 1, of cost 4, waits
closed-dearer-than-waiting : sound_wordsb (set (set (set sample 51 3) 46 0) 28 1) ≡ false
unfolding sound_wordsb sample evaluation_of weight
closed-dearer-than-waiting = refl

-- "nodes used are at most 1 plus the links leaving closed motifs": a double of node 1
more-nodes-than-edges-leave : sound_wordsb (set (set (set (set sample 27 4) 41 1) 42 4) 44 0) ≡ false
unfolding sound_wordsb sample evaluation_of weight
more-nodes-than-edges-leave = refl

-- "the root's motif is closed or the root waits"
root-lost : sound_wordsb (set sample 55 0) ≡ false
unfolding sound_wordsb sample
root-lost = refl

-- "each link leaving a closed motif reaches a motif closed, or waiting, at no more than the sum": node 2 waits no more
edge-not-followed : sound_wordsb (set (set sample 46 0) 28 1) ≡ false
unfolding sound_wordsb sample evaluation_of weight
edge-not-followed = refl

-- edge 0 made to enter 2, where only node 2 waits, at 9
reached-dearer : sound_wordsb (set (set (set (set (set sample 10 2) 33 2) 45 2) 46 0) 28 1) ≡ false
unfolding sound_wordsb sample evaluation_of weight
reached-dearer = refl

-- edges 0 and 2 enter 1, which is closed at 9
closed-too-dear : sound_wordsb (set (set (set (set (set (set (set sample 13 1) 16 1) 37 1) 50 3) 28 0) 45 0) 46 0) ≡ false
unfolding sound_wordsb sample evaluation_of weight
closed-too-dear = refl

-- "Unused words, emptied queue words too, are 0, also in a sound book."
unused-node-word : sound_wordsb (set sample 42 1) ≡ false
unfolding sound_wordsb sample evaluation_of weight
unused-node-word = refl

unused-queue-word : sound_wordsb (set sample 47 1) ≡ false
unfolding sound_wordsb sample evaluation_of weight
unused-queue-word = refl

unused-slot-word : sound_wordsb (set sample 87 1) ≡ false
unfolding sound_wordsb sample evaluation_of weight
unused-slot-word = refl

-- ---- clauses that others imply in the whole

-- nodes used past their area: then they are more than 1 plus the links
nodes-past-area : (ws : List ℕ) → form_tests ws 0 (0 ∷ 2 ∷ 0 ∷ 0 ∷ 0 ∷ 4294967295 ∷ 4294967295 ∷ 0 ∷ 1 ∷ []) ≡ false ∷ true ∷ true ∷ true ∷ []
unfolding distinctb upto zerosb
nodes-past-area ws = refl

-- a queue past its area: with a vertex behind it, then its words are not distinct nodes
queue-past-area : (ws : List ℕ) → form_tests ws 0 (0 ∷ 1 ∷ 2 ∷ 0 ∷ 0 ∷ 4294967295 ∷ 4294967295 ∷ 0 ∷ []) ≡ true ∷ false ∷ true ∷ true ∷ []
unfolding distinctb upto zerosb
queue-past-area ws = refl

-- a tree of one vertex, of its root alone. Read off words, a queue is an ascending list of nodes and closed words are as many as vertices
abbrev rooted : List ℕ → List ℕ → Tree
rooted waiting closed =
    record { start = 0; nodes = record { vertex = 0; cost = 0; parent = 4294967295; edge = 4294967295 } ∷ []; waiting = waiting; closed = closed }

abbrev point : Domain
point = record { direction = forward; graph = record { initial = 0 ∷ []; edges = [] } }

-- a tree without nodes: then its root has no parent 4294967295 either
no_node : take 1 (sound_tests point (record { start = 0; nodes = []; waiting = []; closed = 0 ∷ [] })) ≡ false ∷ []
no_node = refl

rooted-sound : soundb point (rooted (0 ∷ []) (0 ∷ [])) ≡ true
unfolding soundb
rooted-sound = refl

waiting-no-node : soundb point (rooted (0 ∷ 1 ∷ []) (0 ∷ [])) ≡ false
unfolding soundb
waiting-no-node = refl

waiting-twice : soundb point (rooted (0 ∷ 0 ∷ []) (0 ∷ [])) ≡ false
unfolding soundb
waiting-twice = refl

closed-words-missing : soundb point (rooted (0 ∷ []) []) ≡ false
unfolding soundb
closed-words-missing = refl
