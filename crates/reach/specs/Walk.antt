-- What the functions promise each other: marks m, and the list l of the marked vertices.
-- Assumes nothing.
use Rattle.std.specs.Prelude.{◌≡◌, Bool, true, false, List, ℕ, ◌<◌, ◌≤◌, length, get_or, set}
use Rattle.std.specs.List.{count_by}
use Rattle.model.specs.Limits.{vertex_limit}
use Rattle.model.specs.Graph.{Graph, Usable, forward, MayStart, vertex_count, from, to}
use Rattle.layout.specs.Read.{graph_in}
use Rattle.layout.specs.Held.{Held}
use Rattle.reach.specs.Reach.{Reachable}

-- how many are marked
abbrev pub mark_count : List Bool → ℕ
mark_count m = count_by (λ x. x) m

-- each marked vertex is listed, and no other
pub record Listed (m : List Bool) (l : List ℕ) : Type 0 where
  pub marks : length m ≡ vertex_limit
  pub count : length l ≡ mark_count m
  pub marked : (i : ℕ) → i < length l → get_or m (get_or l i 0) false ≡ true
  pub place : (v : ℕ) → get_or m v false ≡ true → (i : ℕ) × (i < length l) × (get_or l i 0 ≡ v)

-- vertex v is marked and listed; what was listed keeps its place
pub record MarksOne (m : List Bool) (l : List ℕ) (v : ℕ) (m' : List Bool) (l' : List ℕ) : Type 0 where
  pub marks : m' ≡ set m v true
  pub listed : Listed m' l'
  pub more : length l ≤ length l'
  pub keeps : (i : ℕ) → i < length l → get_or l' i 0 ≡ get_or l i 0

-- only vertices that a path leads to are marked
pub record Explored (g : Graph) (m : List Bool) (l : List ℕ) : Type 0 where
  pub listed : Listed m l
  pub inside : (v : ℕ) → get_or m v false ≡ true → v < vertex_count g
  pub reached : (v : ℕ) → get_or m v false ≡ true → Reachable g v

-- and all vertices that have an initial cost
pub record Begun (g : Graph) (m : List Bool) (l : List ℕ) : Type 0 where
  pub explored : Explored g m l
  pub starts : (v : ℕ) → v < vertex_count g → MayStart forward g v → get_or m v false ≡ true

-- a marked vertex v, whose edges stand in the words
pub record CanMarkEnds (vs es : ℕ) (ws : List ℕ) (v : ℕ) (m : List Bool) (l : List ℕ) : Type 0 where
  pub held : Held vs es ws
  pub explored : Explored (graph_in vs es ws) m l
  pub marked : get_or m v false ≡ true

-- the ends of the edges that leave v are marked too
pub record MarksEnds (g : Graph) (v : ℕ) (m : List Bool) (l : List ℕ) (m' : List Bool) (l' : List ℕ) : Type 0 where
  pub explored : Explored g m' l'
  pub ends : (e : ℕ) → Usable g e → from g e ≡ v → get_or m' (to g e) false ≡ true
  pub stay : (x : ℕ) → get_or m x false ≡ true → get_or m' x false ≡ true
  pub more : length l ≤ length l'
  pub keeps : (i : ℕ) → i < length l → get_or l' i 0 ≡ get_or l i 0
