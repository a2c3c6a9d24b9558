-- Where the words of a cache stand, for m vertices and l edges. 01 calls a cache a book.
-- Assumes nothing.
use Rattle.std.specs.Prelude.{List, ℕ, ◌+◌, ◌*◌, ◌<◌, ◌≤◌, get_or, take, drop}
use Rattle.model.specs.Limits.{vertex_limit, edge_limit}

-- "Header, 5 words: direction, M, L, T, trees in use."
abbrev pub header_words : ℕ
header_words = 5

abbrev pub direction_at : ℕ
direction_at = 0

abbrev pub vertex_count_at : ℕ
vertex_count_at = 1

abbrev pub edge_count_at : ℕ
edge_count_at = 2

abbrev pub slot_count_at : ℕ
slot_count_at = 3

abbrev pub tree_count_at : ℕ
tree_count_at = 4

abbrev pub direction_in : List ℕ → ℕ
direction_in ws = get_or ws direction_at 0

abbrev pub vertices_in : List ℕ → ℕ
vertices_in ws = get_or ws vertex_count_at 0

abbrev pub edges_in : List ℕ → ℕ
edges_in ws = get_or ws edge_count_at 0

abbrev pub slots_in : List ℕ → ℕ
slots_in ws = get_or ws slot_count_at 0

abbrev pub trees_in : List ℕ → ℕ
trees_in ws = get_or ws tree_count_at 0

-- "Then M start costs (4294967295 for `-`), L links of from, to, picks, M + 1 first-link places, L link numbers by leaving motif.":
-- each area starts where the one before it ends
abbrev pub initial_at : ℕ
initial_at = header_words

abbrev pub initial_in : List ℕ → ℕ → ℕ
initial_in ws v = get_or ws (initial_at + v) 0

abbrev pub edges_at : ℕ → ℕ
edges_at m = initial_at + m

-- edge e, of three words
abbrev pub edge_size : ℕ
edge_size = 3

abbrev pub edge_at : ℕ → ℕ → ℕ
edge_at m e = edges_at m + edge_size * e

-- the places of its words, the first of which is `from`
abbrev pub edge_to_at : ℕ
edge_to_at = 1

abbrev pub edge_cost_at : ℕ
edge_cost_at = 2

abbrev pub from_in : ℕ → List ℕ → ℕ → ℕ
from_in m ws e = get_or ws (edge_at m e) 0

abbrev pub to_in : ℕ → List ℕ → ℕ → ℕ
to_in m ws e = get_or ws (edge_at m e + edge_to_at) 0

abbrev pub edge_cost_in : ℕ → List ℕ → ℕ → ℕ
edge_cost_in m ws e = get_or ws (edge_at m e + edge_cost_at) 0

abbrev pub places_at : ℕ → ℕ → ℕ
places_at m l = edge_at m l

abbrev pub place_in : ℕ → ℕ → List ℕ → ℕ → ℕ
place_in m l ws v = get_or ws (places_at m l + v) 0

abbrev pub numbers_at : ℕ → ℕ → ℕ
numbers_at m l = places_at m l + (m + 1)

abbrev pub number_in : ℕ → ℕ → List ℕ → ℕ → ℕ
number_in m l ws p = get_or ws (numbers_at m l + p) 0

abbrev pub slots_at : ℕ → ℕ → ℕ
slots_at m l = numbers_at m l + l

-- a tree's words, counted from its own start: "start motif, nodes used, queue length; 1 + L nodes of motif, cost, parent, link;
-- 1 + L queue words; M closed words"
abbrev pub start_at : ℕ
start_at = 0

abbrev pub used_at : ℕ
used_at = 1

abbrev pub queued_at : ℕ
queued_at = 2

abbrev pub start_in : List ℕ → ℕ
start_in t = get_or t start_at 0

abbrev pub used_in : List ℕ → ℕ
used_in t = get_or t used_at 0

abbrev pub queued_in : List ℕ → ℕ
queued_in t = get_or t queued_at 0

abbrev pub nodes_at : ℕ
nodes_at = 3

-- node k, of four words
abbrev pub node_size : ℕ
node_size = 4

abbrev pub node_at : ℕ → ℕ
node_at k = nodes_at + node_size * k

abbrev pub node_end : ℕ → ℕ
node_end k = node_at k + node_size

-- the places of its words, the first of which is the vertex
abbrev pub node_cost_at : ℕ
node_cost_at = 1

abbrev pub node_parent_at : ℕ
node_parent_at = 2

abbrev pub node_edge_at : ℕ
node_edge_at = 3

-- what node k of the tree t says; its vertex is read of the cache's words ws too, and only the laws of it (proofs/Trees.antt) look inside
unfoldable pub vertex_in : List ℕ → List ℕ → ℕ → ℕ
vertex_in ws t k = get_or t (node_at k) 0

abbrev pub cost_in : List ℕ → ℕ → ℕ
cost_in t k = get_or t (node_at k + node_cost_at) 0

abbrev pub parent_in : List ℕ → ℕ → ℕ
parent_in t k = get_or t (node_at k + node_parent_at) 0

abbrev pub edge_in : List ℕ → ℕ → ℕ
edge_in t k = get_or t (node_at k + node_edge_at) 0

abbrev pub queue_at : ℕ → ℕ
queue_at l = node_at (1 + l)

abbrev pub queue_word_in : ℕ → List ℕ → ℕ → ℕ
queue_word_in l t i = get_or t (queue_at l + i) 0

abbrev pub closed_words_at : ℕ → ℕ
closed_words_at l = queue_at l + (1 + l)

abbrev pub closed_word_in : ℕ → List ℕ → ℕ → ℕ
closed_word_in l t v = get_or t (closed_words_at l + v) 0

abbrev pub tree_words : ℕ → ℕ → ℕ
tree_words m l = closed_words_at l + m

abbrev pub slot_at : ℕ → ℕ → ℕ → ℕ
slot_at m l i = slots_at m l + i * tree_words m l

-- the words of a cache with t slots: "6 + 2M + 4L + T × (8 + 5L + M)"
abbrev pub needed : ℕ → ℕ → ℕ → ℕ
needed m l t = slot_at m l t

-- n words from a on
abbrev pub part : ℕ → ℕ → List ℕ → List ℕ
part a n ws = take n (drop a ws)

-- ---- what functions of places and words ask for

-- 01's limits
pub record Sized (m l : ℕ) : Type 0 where
  pub vertices : m ≤ vertex_limit
  pub edges : l ≤ edge_limit

-- n words hold node k
abbrev pub NodeFits : ℕ → ℕ → Type 0
NodeFits n k = node_end k ≤ n

-- n words hold edge e
pub record EdgeFits (n m e : ℕ) : Type 0 where
  pub vertices : m ≤ vertex_limit
  pub edge : e < edge_limit
  pub within : edge_at m e + edge_size ≤ n
