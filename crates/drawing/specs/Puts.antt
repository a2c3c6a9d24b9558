-- What the functions that put a drawing promise each other.
-- Assumes nothing.
use Rattle.std.specs.Prelude.{◌≡◌, Bool, true, false, cond, List, [], ◌∷◌, ℕ, ◌+◌, ◌<◌, ◌≤◌, ltb, length, get_or, set}
use mathlib.Core.Bool.{beq}
use Rattle.std.specs.declared.result.Result.{Result}
use Rattle.model.specs.Lists.{numbers, joined}
use Rattle.model.specs.Answers.{answered}
use Rattle.model.specs.Graph.{Graph}
use Rattle.layout.specs.Layout.{initial_in, from_in, to_in, edge_cost_in, vertices_in, edges_in}
use Rattle.layout.specs.Read.{cost_if, graph_in}
use Rattle.layout.specs.Held.{Held}
use Rattle.drawing.specs.Drawing.{stands, vertex_line, edge_line, marked, apart_text}
use Rattle.drawing.specs.Draw.{AfterDraw, draw_reply, draw_read}
use Rattle.drawing.specs.declared.DrawError.{DrawError}

-- ---- bold marks

-- a table with the number w marked, if it is below the table's end
abbrev pub with_mark : List Bool → ℕ → List Bool
with_mark table w = cond (ltb w 2048) (set table w true) table

-- a mark for each number that stands at a place of the words that counts
pub record Table (first : Bool) (ws : List ℕ) (table : List Bool) : Type 0 where
  pub size : length table ≡ 2048
  pub mark : (x : ℕ) → x < 2048 → get_or table x false ≡ stands first ws x

-- ---- lines, as the words of a cache and the marks tell them

abbrev pub vertex_of : List ℕ → List Bool → ℕ → List ℕ
vertex_of ws bold v = vertex_line v (cost_if (initial_in ws v)) (get_or bold v false)

abbrev pub edge_of : List ℕ → List Bool → ℕ → List ℕ
edge_of ws bold e = edge_line (from_in (vertices_in ws) ws e) (to_in (vertices_in ws) ws e) (edge_cost_in (vertices_in ws) ws e) (get_or bold e false)

-- the line of a vertex, if it is marked, or if it is not
abbrev pub vertex_if : List ℕ → List Bool → Bool → List Bool → ℕ → List ℕ
vertex_if ws marks k bold v = cond (beq (get_or marks v false) k) (vertex_of ws bold v) []

abbrev pub vertices_text : List ℕ → List Bool → Bool → List Bool → List ℕ
vertices_text ws marks k bold = joined (vertex_if ws marks k bold) (numbers (vertices_in ws))

abbrev pub cluster_text : List ℕ → List Bool → List Bool → List ℕ
cluster_text ws marks bold = apart_text (vertex_of ws bold) (marked false marks (vertices_in ws))

abbrev pub edges_text : List ℕ → List Bool → List ℕ
edges_text ws bold = joined (edge_of ws bold) (numbers (edges_in ws))

abbrev pub is_some : List ℕ → Bool
is_some [] = false
is_some (x ∷ xs) = true

-- room from `at` on for a text, and a line more
abbrev pub Room : List ℕ → ℕ → List ℕ → Type 0
Room out at t = at + length t + 66 ≤ length out

-- the words hold an accepted graph
abbrev pub HoldsGraph : List ℕ → Type 0
HoldsGraph ws = Held (vertices_in ws) (edges_in ws) ws

abbrev pub held_graph : List ℕ → Graph
held_graph ws = graph_in (vertices_in ws) (edges_in ws) ws

-- a drawing of the graph that the words hold
abbrev pub DrawingHeld : List ℕ → List ℕ → List ℕ → Result ℕ DrawError → List ℕ → Type 0
DrawingHeld ws path out r left = ◌≡◌ {A = AfterDraw} (record { reply = draw_reply r; bytes = left }) (draw_read (answered (held_graph ws)) path out)
