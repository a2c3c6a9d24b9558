-- Charts drawn, by computing the definitions.
-- Assumes nothing.
use mathlib.Core.Path.{◌≡◌, refl}
use mathlib.Core.List.{List, [], ◌∷◌, ◌++◌}
use Prim.Native.Nat.{ℕ}
use lib.ListN.{length, replicate}
use Rattle.model.specs.Graph.{Graph, absent}
use Rattle.text.specs.Bytes.{bytes}
use Rattle.drawing.specs.Drawing.{drawing}
use Rattle.drawing.specs.Draw.{draw_text, drawn, refused_by, short}

-- 01's chart
abbrev chart : List ℕ
chart = bytes "M,0,0\nM,1,5\nM,2,-\nM,3,-\nL,0,1,4\nL,1,2,3\nL,0,2,9\n"

abbrev head : List ℕ
head = bytes "digraph chart {\n  rankdir=LR;\n  node [shape=circle];\n"

abbrev apart3 : List ℕ
apart3 = bytes "  subgraph cluster_apart {\n    label=\"no run leads here\";\n    style=dashed;\n  3 [label=\"3\"];\n  }\n"

abbrev plain : List ℕ
plain =
    head
    ++ (bytes "  0 [label=\"0\\nstart 0\"];\n  1 [label=\"1\\nstart 5\"];\n  2 [label=\"2\"];\n"
    ++ (apart3 ++ bytes "  0 -> 1 [label=\"4\"];\n  1 -> 2 [label=\"3\"];\n  0 -> 2 [label=\"9\"];\n}\n"))

-- the run of `F,0,2`
abbrev bold : List ℕ
bold =
    head
    ++ (bytes "  0 [label=\"0\\nstart 0\", style=bold];\n  1 [label=\"1\\nstart 5\", style=bold];\n  2 [label=\"2\", style=bold];\n"
    ++ (apart3 ++ bytes "  0 -> 1 [label=\"4\", style=bold];\n  1 -> 2 [label=\"3\", style=bold];\n  0 -> 2 [label=\"9\"];\n}\n"))

-- 4 vertices and 3 edges ask for 704 bytes, 1 to each here
abbrev lent : ℕ → List ℕ
lent n = replicate n 1

without-path : draw_text chart [] (lent 704) ≡ record { reply = drawn (length plain); bytes = plain ++ lent 417 }
unfolding draw_text
without-path = refl

with-path : draw_text chart (0 ∷ 0 ∷ 1 ∷ 1 ∷ 2 ∷ []) (lent 704) ≡ record { reply = drawn (length bold); bytes = bold ++ lent 357 }
unfolding draw_text
with-path = refl

-- one byte short, and nothing is written
one-short : draw_text chart (0 ∷ 0 ∷ 1 ∷ 1 ∷ 2 ∷ []) (lent 703) ≡ record { reply = short; bytes = lent 703 }
unfolding draw_text
one-short = refl

-- a fault of the text comes before a short drawing, with its line
faulty : draw_text (bytes "M,0,0\nM,2,5\n") [] [] ≡ record { reply = refused_by 2 2; bytes = [] }
unfolding draw_text
faulty = refl

-- all are reached: nothing is apart
all-reached : drawing (record { initial = 7 ∷ absent ∷ []; edges = record { from = 0; to = 1; cost = 12 } ∷ [] }) []
    ≡ head ++ bytes "  0 [label=\"0\\nstart 7\"];\n  1 [label=\"1\"];\n  0 -> 1 [label=\"12\"];\n}\n"
unfolding drawing
all-reached = refl

-- none is: there is no start
none-reached : drawing (record { initial = absent ∷ []; edges = [] }) []
    ≡ head ++ bytes "  subgraph cluster_apart {\n    label=\"no run leads here\";\n    style=dashed;\n  0 [label=\"0\"];\n  }\n}\n"
unfolding drawing
none-reached = refl

empty : drawing (record { initial = []; edges = [] }) [] ≡ head ++ bytes "}\n"
unfolding drawing
empty = refl

-- a loop, with paths
abbrev looped : Graph
looped = record { initial = 7 ∷ []; edges = record { from = 0; to = 0; cost = 1 } ∷ [] }

-- no moves: the vertex is bold, and edge 0 is not
no-moves : drawing looped (0 ∷ []) ≡ head ++ bytes "  0 [label=\"0\\nstart 7\", style=bold];\n  0 -> 0 [label=\"1\"];\n}\n"
unfolding drawing
no-moves = refl

-- words that name no vertex or edge; the edge at the place of one is bold all the same
strange-words : drawing looped (5 ∷ 0 ∷ 4294967295 ∷ 9 ∷ []) ≡ head ++ bytes "  0 [label=\"0\\nstart 7\"];\n  0 -> 0 [label=\"1\", style=bold];\n}\n"
unfolding drawing
strange-words = refl
