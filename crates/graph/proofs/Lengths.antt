-- How many words a graph has, and the first places among them.
-- Assumes nothing.
use mathlib.Core.Path.{◌≡◌, ap, ◌∙◌}
use mathlib.Core.List.{◌++◌}
use Prim.Native.Nat.{ℕ, ◌+◌, ◌*◌, ◌<◌, ◌≤◌}
use native.Mathlib.Omega.{arith}
use lib.ListN.{length, get_or, length-append, length-map}
use Rattle.model.specs.Lists.{numbers}
use Rattle.model.specs.Graph.{Graph, Direction, forward, backward, Domain, domain, Accepted, vertex_count, edge_count, edges_in_use, from, to, edge_numbers}
use Rattle.model.proofs.Lists.{up-length, numbers-mem, map-up-at}
use Rattle.model.proofs.Reversed.{accepted-domain, domain-counts}
use Rattle.layout.specs.Words.{edge_words, first_place, first_places, graph_words}
use Rattle.layout.proofs.Edges.{edge-words-length}
use Rattle.graph.specs.Sort.{gathered}
use Rattle.graph.specs.Write.{order_by}
use Rattle.graph.proofs.Buckets.{gathered-length}
use Rattle.graph.proofs.Ordered.{get_or-mem, choices-gathered, gathered-mem}

-- the edges in use, in either order, are as many as there are
order-length : (dir : Direction) (g : Graph) → Accepted g → length (order_by dir g) ≡ edge_count g
order-length forward g ok = up-length (edge_count g) 0
order-length backward g ok =
    gathered-length (to g) (edges_in_use g) (vertex_count g) (λ i h. ok.enters _ (numbers-mem (edge_count g) _ (get_or-mem (edges_in_use g) i h)))
    ∙ up-length (edge_count g) 0

order_below : (dir : Direction) (g : Graph) (i : ℕ) → i < length (order_by dir g) → get_or (order_by dir g) i 0 < edge_count g
order_below forward g i h = numbers-mem (edge_count g) _ (get_or-mem (edges_in_use g) i h)
order_below backward g i h =
    numbers-mem (edge_count g) _
    (gathered-mem (to g) (edges_in_use g) (vertex_count g) _ (get_or-mem (gathered (to g) (edges_in_use g) (vertex_count g)) i h))

pub numbers-length : (dir : Direction) (g : Graph) → Accepted g → length (edge_numbers (record { direction = dir; graph = g })) ≡ edge_count g
unfolding edge_numbers
numbers-length dir g ok =
    ap length (choices-gathered dir g (vertex_count g))
    ∙ gathered-length (from g) (order_by dir g) (vertex_count g) (λ i h. ok.leaves _ (order_below dir g i h))
    ∙ order-length dir g ok

-- each edge stands once among the edge numbers
pub edge-numbers-length : (dir : Direction) (g : Graph) → Accepted g → length (edge_numbers (domain dir g)) ≡ edge_count g
unfolding domain
edge-numbers-length forward g ok = numbers-length forward g ok
edge-numbers-length backward g ok = numbers-length backward _ (accepted-domain backward g ok) ∙ (domain-counts backward g).1

pub first-places-length : (d : Domain) → length (first_places d) ≡ vertex_count d.graph + 1
unfolding first_places
first-places-length d = length-map (numbers (vertex_count d.graph + 1)) (first_place d) ∙ up-length (vertex_count d.graph + 1) 0

pub first-place-at : (d : Domain) (v : ℕ) → v ≤ vertex_count d.graph → get_or (first_places d) v 0 ≡ first_place d v
unfolding first_places
first-place-at d v h =
    let place : 0 + v ≡ v = omega arith in
    map-up-at (first_place d) 0 (vertex_count d.graph + 1) 0 v (omega arith) ∙ ap (first_place d) place

pub graph-words-length : (dir : Direction) (g : Graph) → Accepted g → length (graph_words (domain dir g)) ≡ 1 + 2 * vertex_count g + 4 * edge_count g
unfolding graph_words
graph-words-length dir g ok =
    let d : Domain = domain dir g in
    omega (
      arith,
      length-append d.graph.initial (edge_words d.graph.edges ++ (first_places d ++ edge_numbers d)),
      length-append (edge_words d.graph.edges) (first_places d ++ edge_numbers d),
      length-append (first_places d) (edge_numbers d),
      edge-words-length d.graph.edges,
      first-places-length d,
      edge-numbers-length dir g ok,
      domain-counts dir g,
    )
