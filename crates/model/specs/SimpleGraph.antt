-- simple.rs: the Rust's edge table, statement by statement, with one row for each vertex (01: "ours sizes it by motifs"). Its rows are what
-- `edges_from_vertex` walks, and so the order in which the reference queues a closed vertex's edges.
-- Ported from open-rmf/mapf (mapf/src: graph/simple.rs) and changed; Apache License 2.0, see NOTICE.
-- Assumes nothing.
use Rattle.std.specs.Prelude.{List, [], ◌∷◌, ◌++◌, ℕ, suc, get_or, set, replicate}
use Rattle.model.specs.Graph.{Edge, Graph, Direction, forward, backward, vertex_count}

-- `(usize, E)`: the vertex that an edge enters, and the edge's number, which stands for its attributes
pub record Target : Type 0 where
  pub to : ℕ
  pub edge : ℕ

abbrev pub no_targets : List Target
no_targets = []

-- `edges.get_mut(v).unwrap().push(x)`
abbrev pub push_edge : List (List Target) → ℕ → Target → List (List Target)
push_edge rows v x = set rows v (get_or rows v no_targets ++ (x ∷ []))

abbrev pub empty_rows : Graph → List (List Target)
empty_rows g = replicate (vertex_count g) no_targets

-- `from_iters`: `for edge in input_edges`; n is the next edge's number
unfoldable pub from_iters : List Edge → ℕ → List (List Target) → List (List Target)
from_iters [] n rows = rows
from_iters (e ∷ es) n rows = from_iters es (suc n) (push_edge rows e.from (record { to = e.to; edge = n }))

unfoldable pub edge_rows : Graph → List (List Target)
unfolding from_iters
edge_rows g = from_iters g.edges 0 (empty_rows g)

-- `reversed`: `for (r_v_from, e) in edges`
unfoldable pub reverse_row : ℕ → List Target → List (List Target) → List (List Target)
reverse_row v [] rows = rows
reverse_row v (x ∷ xs) rows = reverse_row v xs (push_edge rows x.to (record { to = v; edge = x.edge }))

-- `for (r_v_to, edges) in self.edges.iter().enumerate()`
unfoldable pub reverse_rows : ℕ → List (List Target) → List (List Target) → List (List Target)
unfolding reverse_row
reverse_rows v [] rows = rows
reverse_rows v (row ∷ more) rows = reverse_rows (suc v) more (reverse_row v row rows)

unfoldable pub reversed_rows : Graph → List (List Target)
unfolding edge_rows reverse_rows
reversed_rows g = reverse_rows 0 (edge_rows g) (empty_rows g)

abbrev pub rows_of : Direction → Graph → List (List Target)
rows_of forward g = edge_rows g
rows_of backward g = reversed_rows g

-- `edges_from_vertex`
unfoldable pub edges_from_vertex : Direction → Graph → ℕ → List Target
unfolding edge_rows reversed_rows
edges_from_vertex dir g v = get_or (rows_of dir g) v no_targets
