-- A graph, the domain on which a cache's trees grow, and what a path is. 01 calls a graph a chart, a vertex a motif, an edge a link,
-- a cost picks, an initial cost a start cost, and a path a run.
-- Assumes nothing.
use Rattle.std.specs.Prelude.{◌≡◌, ◌⊎◌, ◌≢◌, Bool, true, ◌&&◌, List, [], ◌∷◌, map, ℕ, ◌+◌, ◌<◌, ◌≤◌, eqb, ltb, length, get_or}
use Rattle.model.specs.Limits.{vertex_limit, edge_limit, cost_limit}
use Rattle.model.specs.Lists.{numbers, those, joined, mem}

pub record Edge : Type 0 where
  pub from : ℕ
  pub to : ℕ
  pub cost : ℕ

abbrev pub no_edge : Edge
no_edge = record { from = 0; to = 0; cost = 0 }

-- the word for no initial cost (`-`), and for the parent and the edge of a root
abbrev pub absent : ℕ
absent = 4294967295

-- initial costs by vertex, edges by number
pub record Graph : Type 0 where
  pub initial : List ℕ
  pub edges : List Edge

abbrev pub vertex_count : Graph → ℕ
vertex_count g = length g.initial

abbrev pub edge_count : Graph → ℕ
edge_count g = length g.edges

abbrev pub from : Graph → ℕ → ℕ
from g l = (get_or g.edges l no_edge).from

abbrev pub to : Graph → ℕ → ℕ
to g l = (get_or g.edges l no_edge).to

abbrev pub cost : Graph → ℕ → ℕ
cost g l = (get_or g.edges l no_edge).cost

-- the edges that a path may take: a fact, a test, and all of them by number
abbrev pub Usable : Graph → ℕ → Type 0
Usable g l = l < edge_count g

abbrev pub usableb : Graph → ℕ → Bool
usableb g l = ltb l (edge_count g)

abbrev pub edges_in_use : Graph → List ℕ
edges_in_use g = numbers (edge_count g)

-- "At most 1,024 motifs and 2,048 links; start cost and picks at most 999,999", and each edge's ends are vertices
pub record Accepted (g : Graph) : Type 0 where
  pub vertices : vertex_count g ≤ vertex_limit
  pub edges : edge_count g ≤ edge_limit
  pub starts : (v : ℕ) → (get_or g.initial v absent ≡ absent) ⊎ (get_or g.initial v absent ≤ cost_limit)
  pub leaves : (l : ℕ) → Usable g l → from g l < vertex_count g
  pub enters : (l : ℕ) → Usable g l → to g l < vertex_count g
  pub costs : (l : ℕ) → Usable g l → cost g l ≤ cost_limit

-- ---- paths, read off the graph alone

-- "zero or more links, each followed in chart direction from the motif the last one entered, repeats allowed"
abbrev pub Leads : Graph → ℕ → List ℕ → ℕ → Type 0
Leads g a [] b = a ≡ b
Leads g a (l ∷ ls) b = Usable g l × (from g l ≡ a) × Leads g (to g l) ls b

-- "the sum of its links' picks"
abbrev pub total : Graph → List ℕ → ℕ
total g [] = 0
total g (l ∷ ls) = cost g l + total g ls

-- "link and motif for each move"
abbrev pub move_words : Graph → List ℕ → List ℕ
move_words g [] = []
move_words g (l ∷ ls) = l ∷ to g l ∷ move_words g ls

-- "first motif, then link and motif for each move"
abbrev pub path_words : Graph → ℕ → List ℕ → List ℕ
path_words g a ls = a ∷ move_words g ls

pub data Direction : Type 0 where
  forward : Direction
  backward : Direction

-- "from a motif of the start list (forward, one with a start cost)"
abbrev pub MayStart : Direction → Graph → ℕ → Type 0
MayStart forward g a = get_or g.initial a absent ≢ absent
MayStart backward g a = Unit {0}

-- "plus, forward, its first motif's start cost"
abbrev pub total_cost : Direction → Graph → ℕ → List ℕ → ℕ
total_cost forward g a ls = get_or g.initial a absent + total g ls
total_cost backward g a ls = total g ls

-- "A run of a search": the edges ls, followed from the vertex a
pub record SearchPath (dir : Direction) (g : Graph) (starts goals : List ℕ) (a : ℕ) (ls : List ℕ) : Type 0 where
  pub goal : ℕ
  pub start : mem a starts ≡ true
  pub allowed : MayStart dir g a
  pub sought : mem goal goals ≡ true
  pub leads : Leads g a ls goal

-- ---- the domain of a cache: "Backward, links are turned round"; the Rust's `reversed`

abbrev pub swap : Edge → Edge
swap e = record { from = e.to; to = e.from; cost = e.cost }

unfoldable pub reversed : Graph → Graph
reversed g = record { initial = g.initial; edges = map swap g.edges }

-- graph: as the cache holds it
pub record Domain : Type 0 where
  pub direction : Direction
  pub graph : Graph

unfoldable pub domain : Direction → Graph → Domain
unfolding reversed
domain forward g = record { direction = forward; graph = g }
domain backward g = record { direction = backward; graph = reversed g }

-- the edges of g that leave v, and of these the ones that enter u, by number
unfoldable pub leaving : Graph → ℕ → List ℕ
unfolding those
leaving g v = those (λ l. eqb (from g l) v) (edges_in_use g)

unfoldable pub between : Graph → ℕ → ℕ → List ℕ
unfolding those
between g v u = those (λ l. eqb (from g l) v && eqb (to g l) u) (edges_in_use g)

-- the edges of a closed vertex in the order in which they are queued: forward by number; "Backward .. grouped by entered motif,
-- then by the motif they left, then number", where the edges held are turned round
abbrev pub choices_by : Direction → Graph → ℕ → List ℕ
choices_by forward g v = leaving g v
choices_by backward g v = joined (between g v) (numbers (vertex_count g))

unfoldable pub choices : Domain → ℕ → List ℕ
unfolding leaving between joined
choices d v = choices_by d.direction d.graph v

-- "link numbers by leaving motif"
unfoldable pub edge_numbers : Domain → List ℕ
unfolding choices
edge_numbers d = joined (choices d) (numbers (vertex_count d.graph))

-- the cost of a root at a vertex of initial cost c: backward "start costs and `-` are not looked at"
abbrev pub root_cost : Direction → ℕ → ℕ
root_cost forward c = c
root_cost backward c = 0

unfoldable pub initial_cost : Domain → ℕ → ℕ
initial_cost d v = root_cost d.direction (get_or d.graph.initial v absent)
