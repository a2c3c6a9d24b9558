-- What `draw` answers, and the bytes that it leaves.
-- Assumes nothing.
use Rattle.std.specs.Prelude.{◌≡◌, ◌↔◌, Bool, true, false, ℕ, ◌+◌, ◌*◌, ◌<◌, ltb, length, Ok, Err}
use Rattle.std.specs.declared.result.Result.{Result}
use mathlib.Core.List.{List, Memᴰ}
use Rattle.model.specs.Answers.{number, Reply, answered, refused}
use Rattle.model.specs.Graph.{Graph, Accepted, vertex_count, edge_count}
use Rattle.model.specs.Calls.{written}
use Rattle.text.specs.Read.{read_graph}
use Rattle.reach.specs.Reach.{reach_marks, Reachable}
use Rattle.drawing.specs.Drawing.{marked, drawing}
use Rattle.drawing.specs.declared.DrawError.{DrawError}
use Rattle.drawing.specs.declared.DrawError.TheVariants.{Chart, ShortDrawing}

-- the bytes that are asked for: 256, and 64 for each vertex and each edge
abbrev pub drawing_room : ℕ → ℕ → ℕ
drawing_room m l = 256 + 64 * (m + l)

-- a drawing's length, 01's number of a refusal and its line, or that the bytes lent are too few
pub data DrawReply : Type 0 where
  drawn : ℕ → DrawReply
  refused_by : ℕ → ℕ → DrawReply
  short : DrawReply

pub record AfterDraw : Type 0 where
  pub reply : DrawReply
  pub bytes : List ℕ

-- are the bytes too few? else the drawing stands in front, and the bytes past it stay
abbrev pub draw_if : Bool → Graph → List ℕ → List ℕ → AfterDraw
draw_if true g path out = record { reply = short; bytes = out }
draw_if false g path out = record { reply = drawn (length (drawing g path)); bytes = written (drawing g path) out }

-- a graph's text with a fault is refused as opening it is; a short drawing comes after that
abbrev pub draw_read : Reply Graph → List ℕ → List ℕ → AfterDraw
draw_read (refused n line) path out = record { reply = refused_by n line; bytes = out }
draw_read (answered g) path out = draw_if (ltb (length out) (drawing_room (vertex_count g) (edge_count g))) g path out

-- a graph's text, a path's words, the bytes lent
unfoldable pub draw_text : List ℕ → List ℕ → List ℕ → AfterDraw
unfolding read_graph drawing
draw_text text path out = draw_read (read_graph text) path out

-- ---- what the code promises

abbrev pub draw_reply : Result ℕ DrawError → DrawReply
draw_reply (Ok n) = drawn n
draw_reply (Err (Chart f)) = refused_by (number f.refusal) f.line
draw_reply (Err ShortDrawing) = short

-- the promise of `draw`: answer and bytes left are the definition's, whatever it is handed
abbrev pub Drawing : List ℕ → List ℕ → List ℕ → Result ℕ DrawError → List ℕ → Type 0
Drawing text path out r left = ◌≡◌ {A = AfterDraw} (record { reply = draw_reply r; bytes = left }) (draw_text text path out)

-- ---- what is claimed of the definition: a vertex is drawn with the others exactly if a path leads to it, and else apart

pub record DrawnWhere (g : Graph) (v : ℕ) : Type 0 where
  pub reached : Memᴰ v (marked true (reach_marks g) (vertex_count g)) ↔ Reachable g v
  pub apart : Memᴰ v (marked false (reach_marks g) (vertex_count g)) ↔ (Reachable g v → ⊥)

abbrev pub EachDrawn : Type 0
EachDrawn = (g : Graph) → Accepted g → (v : ℕ) → v < vertex_count g → DrawnWhere g v
