-- The words of a cache that was just opened, of a tree's header and of a node.
-- Assumes nothing.
use Rattle.std.specs.Prelude.{List, [], ◌∷◌, ◌++◌, map, ℕ, ◌+◌, ◌*◌, length, replicate}
use Rattle.model.specs.Lists.{numbers, joined}
use Rattle.model.specs.Graph.{Edge, Graph, Direction, forward, backward, Domain, domain, vertex_count, edge_count, choices, edge_numbers}
use Rattle.model.specs.Tree.{Node}
use Rattle.layout.specs.Layout.{tree_words}

-- "direction 0 forward or 1 backward"
abbrev pub direction_word : Direction → ℕ
direction_word forward = 0
direction_word backward = 1

-- "direction, M, L, T, trees in use": no tree is in use
abbrev pub header_of : Direction → ℕ → ℕ → ℕ → List ℕ
header_of dir m l t = direction_word dir ∷ m ∷ l ∷ t ∷ 0 ∷ []

-- "L links of from, to, picks"
abbrev pub edge_words : List Edge → List ℕ
edge_words [] = []
edge_words (e ∷ es) = e.from ∷ e.to ∷ e.cost ∷ edge_words es

-- "M + 1 first-link places": where the edges of the vertices below v end among the edge numbers, for v from 0 to M
unfoldable pub first_place : Domain → ℕ → ℕ
unfolding joined choices
first_place d v = length (joined (choices d) (numbers v))

unfoldable pub first_places : Domain → List ℕ
unfolding first_place
first_places d = map (first_place d) (numbers (vertex_count d.graph + 1))

-- the graph's words: initial costs, edges as held, first places, edge numbers
unfoldable pub graph_words : Domain → List ℕ
unfolding first_places edge_numbers
graph_words d = d.graph.initial ++ (edge_words d.graph.edges ++ (first_places d ++ edge_numbers d))

-- "Unused words .. are 0": all words of the tree slots
unfoldable pub opened_words : Direction → Graph → ℕ → List ℕ
unfolding graph_words domain
opened_words dir g t =
    header_of dir (vertex_count g) (edge_count g) t
    ++ (graph_words (domain dir g) ++ replicate (t * tree_words (vertex_count g) (edge_count g)) 0)

-- "start motif, nodes used, queue length"
abbrev pub tree_header : ℕ → ℕ → ℕ → List ℕ
tree_header start used queued = start ∷ used ∷ queued ∷ []

-- "motif, cost, parent, link"
abbrev pub node_words : Node → List ℕ
node_words x = x.vertex ∷ x.cost ∷ x.parent ∷ x.edge ∷ []
