-- Which vertices are reached, by computation.
-- Assumes nothing.
use mathlib.Core.Path.{◌≡◌, refl}
use mathlib.Core.Bool.{true, false}
use mathlib.Core.List.{[], ◌∷◌}
use Prim.Native.Nat.{ℕ}
use Rattle.model.specs.Graph.{Edge, Graph, absent}
use Rattle.reach.specs.Reach.{start_marks, along, passes, reach_marks}

abbrev edge : ℕ → ℕ → Edge
edge a b = record { from = a; to = b; cost = 1 }

-- 01's chart: nothing leads to vertex 3
chart : Graph
chart = record { initial = 0 ∷ 5 ∷ absent ∷ absent ∷ []; edges = edge 0 1 ∷ edge 1 2 ∷ edge 0 2 ∷ [] }

chart-reached : reach_marks chart ≡ true ∷ true ∷ true ∷ false ∷ []
unfolding reach_marks chart
chart-reached = refl

-- an initial cost is a start, 0 too
chart-starts : start_marks chart ≡ true ∷ true ∷ false ∷ false ∷ []
unfolding start_marks chart
chart-starts = refl

-- one edge: from a marked vertex, from another
along-marked : along chart 1 (true ∷ true ∷ false ∷ false ∷ []) ≡ true ∷ true ∷ true ∷ false ∷ []
unfolding along chart
along-marked = refl

along-other : along chart 1 (true ∷ false ∷ false ∷ false ∷ []) ≡ true ∷ false ∷ false ∷ false ∷ []
unfolding along chart
along-other = refl

-- a vertex that edges only leave
only_out : reach_marks (record { initial = 0 ∷ absent ∷ absent ∷ []; edges = edge 2 0 ∷ edge 0 1 ∷ [] }) ≡ true ∷ true ∷ false ∷ []
unfolding reach_marks
only_out = refl

-- a chain whose edges are listed backwards: each pass marks one vertex more
chain : Graph
chain = record { initial = 0 ∷ absent ∷ absent ∷ absent ∷ absent ∷ []; edges = edge 3 4 ∷ edge 2 3 ∷ edge 1 2 ∷ edge 0 1 ∷ [] }

chain-short : passes chain 3 ≡ true ∷ true ∷ true ∷ true ∷ false ∷ []
unfolding passes chain
chain-short = refl

chain-reached : reach_marks chain ≡ true ∷ true ∷ true ∷ true ∷ true ∷ []
unfolding reach_marks chain
chain-reached = refl

-- a loop, entered from a start; and two vertices that lead to each other alone
loops : reach_marks (record { initial = absent ∷ absent ∷ 7 ∷ absent ∷ absent ∷ []; edges = edge 0 1 ∷ edge 1 0 ∷ edge 2 3 ∷ edge 3 3 ∷ edge 3 2 ∷ [] }) ≡ false ∷ false ∷ true ∷ true ∷ false ∷ []
unfolding reach_marks
loops = refl

-- an edge leads to vertex 2, but from one without initial cost that is not reached
from-unreached : reach_marks (record { initial = 0 ∷ absent ∷ absent ∷ []; edges = edge 1 2 ∷ [] }) ≡ true ∷ false ∷ false ∷ []
unfolding reach_marks
from-unreached = refl

-- without an initial cost nothing is reached
no_start : reach_marks (record { initial = absent ∷ absent ∷ []; edges = edge 0 1 ∷ edge 1 0 ∷ [] }) ≡ false ∷ false ∷ []
unfolding reach_marks
no_start = refl

empty : reach_marks (record { initial = []; edges = [] }) ≡ []
unfolding reach_marks
empty = refl
