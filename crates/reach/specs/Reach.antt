-- Which vertices some path leads to, from any vertex with an initial cost.
-- Assumes nothing.
use Rattle.std.specs.Prelude.{◌≡◌, ◌↔◌, Bool, true, false, not, cond, List, [], ◌∷◌, map, ℕ, zero, suc, ◌<◌, eqb, length, get_or, set}
use Rattle.model.specs.Limits.{vertex_limit}
use Rattle.model.specs.Graph.{Graph, Accepted, forward, MayStart, Leads, absent, vertex_count, from, to, edges_in_use}

-- some path leads to v, from a vertex that has an initial cost: "motifs that no run from any start can reach" are the others
pub record Reachable (g : Graph) (v : ℕ) : Type 0 where
  pub start : ℕ
  pub vertex : start < vertex_count g
  pub allowed : MayStart forward g start
  pub edges : List ℕ
  pub leads : Leads g start edges v

-- ---- the same by marks: one for each vertex

-- the vertices that have an initial cost
unfoldable pub start_marks : Graph → List Bool
start_marks g = map (λ c. not (eqb c absent)) g.initial

-- the end of an edge is marked if its beginning is
unfoldable pub along : Graph → ℕ → List Bool → List Bool
along g l m = cond (get_or m (from g l) false) (set m (to g l) true) m

unfoldable pub along_all : Graph → List ℕ → List Bool → List Bool
unfolding along
along_all g [] m = m
along_all g (l ∷ ls) m = along_all g ls (along g l m)

-- one pass over the edges
unfoldable pub spread : Graph → List Bool → List Bool
unfolding along_all
spread g m = along_all g (edges_in_use g) m

unfoldable pub passes : Graph → ℕ → List Bool
unfolding start_marks spread
passes g zero = start_marks g
passes g (suc n) = spread g (passes g n)

-- as many passes as there are vertices
unfoldable pub reach_marks : Graph → List Bool
unfolding passes
reach_marks g = passes g (vertex_count g)

-- ---- what is claimed of them

abbrev pub ReachedExactly : Type 0
ReachedExactly = (g : Graph) → Accepted g → (v : ℕ) → v < vertex_count g → (get_or (reach_marks g) v false ≡ true) ↔ Reachable g v

-- one mark for each vertex
abbrev pub AreMarks : Type 0
AreMarks = (g : Graph) → length (reach_marks g) ≡ vertex_count g

-- ---- what the code answers: the marks, and none past the vertices
pub record ReachedIs (g : Graph) (r : List Bool) : Type 0 where
  pub len : length r ≡ vertex_limit
  pub mark : (v : ℕ) → get_or r v false ≡ get_or (reach_marks g) v false
