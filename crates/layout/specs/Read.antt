-- The cache that words hold.
-- Assumes nothing.
use Rattle.std.specs.Prelude.{cond, List, [], ◌∷◌, map, ℕ, zero, suc, eqb, get_or, drop, None, Some}
use Rattle.std.specs.declared.option.Option.{Option}
use Rattle.model.specs.Lists.{numbers, those, mem}
use Rattle.model.specs.Graph.{Edge, Graph, Direction, forward, backward, Domain, absent}
use Rattle.model.specs.Tree.{Node, Tree}
use Rattle.model.specs.Calls.{Cache}
use Rattle.layout.specs.Layout.{direction_in, vertices_in, edges_in, slots_in, trees_in, start_in, used_in, queued_in, initial_at, edges_at, edge_size, edge_to_at, edge_cost_at, vertex_in, cost_in, parent_in, edge_in, queue_at, closed_words_at, tree_words, slot_at, part}

-- "direction 0 forward or 1 backward"
abbrev pub direction_of : ℕ → Direction
direction_of zero = forward
direction_of (suc n) = backward

-- the cost that a word says: "4294967295 for `-`"
abbrev pub cost_if : ℕ → Option ℕ
cost_if c = cond (eqb c absent) None (Some c)

-- l edges, one after the other
abbrev pub read_edges : ℕ → List ℕ → List Edge
read_edges zero ws = []
read_edges (suc l) ws = record { from = get_or ws 0 0; to = get_or ws edge_to_at 0; cost = get_or ws edge_cost_at 0 } ∷ read_edges l (drop edge_size ws)

-- the graph as it is held: "Backward, links are turned round"
unfoldable pub graph_in : ℕ → ℕ → List ℕ → Graph
graph_in m l ws = record { initial = part initial_at m ws; edges = read_edges l (drop (edges_at m) ws) }

-- the domain of a cache of direction dir
abbrev pub domain_in : Direction → ℕ → ℕ → List ℕ → Domain
domain_in dir m l ws = record { direction = dir; graph = graph_in m l ws }

-- the domain of the cache that the words hold
abbrev pub domain_of : ℕ → ℕ → List ℕ → Domain
domain_of m l ws = domain_in (direction_of (direction_in ws)) m l ws

-- node k of a tree's words, and the first n nodes; a vertex is read of the cache's words ws too
abbrev pub node_in : List ℕ → List ℕ → ℕ → Node
node_in ws t k = record { vertex = vertex_in ws t k; cost = cost_in t k; parent = parent_in t k; edge = edge_in t k }

abbrev pub nodes_in : List ℕ → ℕ → List ℕ → List Node
nodes_in ws n t = map (node_in ws t) (numbers n)

-- a tree's words t, of the cache whose words are ws; the queue is read as the ascending list of the nodes in it, so that the arrangement of its words is forgotten
unfoldable pub tree_in : List ℕ → ℕ → ℕ → List ℕ → Tree
unfolding those mem
tree_in ws m l t = record {
  start = start_in t;
  nodes = nodes_in ws (used_in t) t;
  waiting = those (λ n. mem n (part (queue_at l) (queued_in t) t)) (numbers (used_in t));
  closed = part (closed_words_at l) m t;
}

abbrev pub read_trees : ℕ → ℕ → ℕ → List ℕ → List Tree
read_trees m l used ws = map (λ i. tree_in ws m l (part (slot_at m l i) (tree_words m l) ws)) (numbers used)

-- "Header, 5 words: direction, M, L, T, trees in use."
unfoldable pub read_cache : List ℕ → Cache
unfolding graph_in tree_in
read_cache ws =
    let m = vertices_in ws in
    let l = edges_in ws in
    record {
      domain = domain_of m l ws;
      slots = slots_in ws;
      trees = read_trees m l (trees_in ws) ws;
    }
