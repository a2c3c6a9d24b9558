-- What is printed of 01's chart, by computing the definitions.
-- Assumes nothing.
use mathlib.Core.Path.{◌≡◌, refl}
use Rattle.std.specs.Prelude.{None, Some}
use mathlib.Core.List.{List, [], ◌∷◌, ◌++◌}
use Prim.Native.Nat.{ℕ}
use lib.ListN.{replicate}
use Rattle.model.specs.Answers.{answered, refused}
use Rattle.model.specs.Worth.{evaluation_of, solution_cost_of}
use Rattle.model.specs.Path.{path, words}
use Rattle.text.specs.Bytes.{bytes}
use Rattle.draw.specs.Picture.{order_path, picture_text}

abbrev chart : List ℕ
chart = bytes "M,0,0\nM,1,5\nM,2,-\nM,3,-\nL,0,1,4\nL,1,2,3\nL,0,2,9\n"

-- with the run of an order; backward it is the same
bold : picture_text chart (Some (bytes "F,0,2"))
    ≡ bytes "digraph chart {\n  rankdir=LR;\n  node [shape=circle];\n"
    ++ (bytes "  0 [label=\"0\\nstart 0\", style=bold];\n  1 [label=\"1\\nstart 5\", style=bold];\n  2 [label=\"2\", style=bold];\n"
    ++ (bytes "  subgraph cluster_apart {\n    label=\"no run leads here\";\n    style=dashed;\n  3 [label=\"3\"];\n  }\n"
    ++ bytes "  0 -> 1 [label=\"4\", style=bold];\n  1 -> 2 [label=\"3\", style=bold];\n  0 -> 2 [label=\"9\"];\n}\n"))
unfolding picture_text evaluation_of solution_cost_of path words
bold = refl

backward : order_path chart (bytes "B,0,2") ≡ answered (0 ∷ 0 ∷ 1 ∷ 1 ∷ 2 ∷ [])
unfolding order_path evaluation_of solution_cost_of path words
backward = refl

-- no run may begin at 2 forward, and backward initial costs are not looked at: the direction tells
begins-not : order_path chart (bytes "F,2,2") ≡ answered []
unfolding order_path
begins-not = refl

begins : order_path chart (bytes "B,2,2") ≡ answered (2 ∷ [])
unfolding order_path evaluation_of solution_cost_of path words
begins = refl

-- none leads to 3: nothing is bold, as without an order
no_run : picture_text chart (Some (bytes "F,1,3")) ≡ picture_text chart None
unfolding picture_text
no_run = refl

-- ---- refused

-- an empty argument is no order; 9 is no vertex; the form comes before the chart's fault, its fault before the order's
no-order : picture_text chart (Some []) ≡ bytes "refused 1\n"
unfolding picture_text
no-order = refl

no-vertex : picture_text chart (Some (bytes "F,0,9")) ≡ bytes "refused 3\n"
unfolding picture_text
no-vertex = refl

form-first : order_path (bytes "M,1,0\n") (bytes "F,0") ≡ refused 1 0
unfolding order_path
form-first = refl

chart-first : order_path (bytes "M,1,0\n") (bytes "F,0,9") ≡ refused 2 1
unfolding order_path
chart-first = refl

no-chart : picture_text (bytes "M,1,0\n") None ≡ bytes "refused 2\n"
unfolding picture_text
no-chart = refl

-- 65,537 bytes are 4 for length; of 65,536 the first line is judged
overlong : picture_text (replicate 65537 10) None ≡ bytes "refused 4\n"
unfolding picture_text
overlong = refl
