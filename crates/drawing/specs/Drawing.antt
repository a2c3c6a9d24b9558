-- A graph as a Graphviz text.
-- Assumes nothing.
use Rattle.std.specs.Prelude.{Bool, true, false, not, ◌&&◌, ◌||◌, List, [], ◌∷◌, ◌++◌, ℕ, eqb, get_or, None, Some}
use mathlib.Core.Bool.{beq}
use Rattle.std.specs.declared.option.Option.{Option}
use Rattle.model.specs.Lists.{numbers, those, joined}
use Rattle.model.specs.Graph.{Graph, vertex_count, edge_count, from, to, cost, absent}
use Rattle.layout.specs.Read.{cost_if}
use Rattle.text.specs.Bytes.{bytes}
use Rattle.text.specs.Print.{decimal}
use Rattle.reach.specs.Reach.{reach_marks}

-- ---- which vertices and edges of a path are bold

-- x stands at a place of the words that counts: the first one counts if `here`, and then every other one
unfoldable pub stands : Bool → List ℕ → ℕ → Bool
stands here [] x = false
stands here (w ∷ ws) x = (here && eqb w x) || stands (not here) ws x

-- path words are "first motif, then link and motif for each move"
abbrev pub bold_vertex : List ℕ → ℕ → Bool
bold_vertex path v = stands true path v

abbrev pub bold_edge : List ℕ → ℕ → Bool
bold_edge path e = stands false path e

-- ---- lines

-- a text, and a number
abbrev pub numbered : List ℕ → ℕ → List ℕ
numbered t n = t ++ decimal n

-- the end of a label and of its line
abbrev pub line_end : Bool → List ℕ
line_end true = bytes "\", style=bold];\n"
line_end false = bytes "\"];\n"

-- an initial cost stands below the number, in the label: the line is broken there by a backslash and an n
abbrev pub initial_label : Option ℕ → List ℕ
initial_label None = []
initial_label (Some c) = numbered (bytes "\\nstart ") c

-- `0 [label="0\nstart 5"];`
unfoldable pub vertex_line : ℕ → Option ℕ → Bool → List ℕ
unfolding decimal
vertex_line v c bold = numbered (bytes "  ") v ++ (numbered (bytes " [label=\"") v ++ (initial_label c ++ line_end bold))

-- `0 -> 1 [label="4"];`
unfoldable pub edge_line : ℕ → ℕ → ℕ → Bool → List ℕ
unfolding decimal
edge_line a b c bold = numbered (bytes "  ") a ++ (numbered (bytes " -> ") b ++ (numbered (bytes " [label=\"") c ++ line_end bold))

-- ---- the text

abbrev pub opening : List ℕ
opening = bytes "digraph chart {\n  rankdir=LR;\n  node [shape=circle];\n"

abbrev pub closing : List ℕ
closing = bytes "}\n"

-- vertices apart, each with a line like the others': two blanks before it, no more
abbrev pub apart_opening : List ℕ
apart_opening = bytes "  subgraph cluster_apart {\n    label=\"no run leads here\";\n    style=dashed;\n"

abbrev pub apart_closing : List ℕ
apart_closing = bytes "  }\n"

-- the lines of vertices that stand apart, if there are some
abbrev pub apart_text : (ℕ → List ℕ) → List ℕ → List ℕ
apart_text line [] = []
apart_text line (v ∷ vs) = apart_opening ++ (joined line (v ∷ vs) ++ apart_closing)

-- of the vertices, those that are marked, or those that are not
abbrev pub marked : Bool → List Bool → ℕ → List ℕ
marked k marks n = those (λ v. beq (get_or marks v false) k) (numbers n)

abbrev pub drawn_vertex : Graph → List ℕ → ℕ → List ℕ
drawn_vertex g path v = vertex_line v (cost_if (get_or g.initial v absent)) (bold_vertex path v)

abbrev pub drawn_edge : Graph → List ℕ → ℕ → List ℕ
drawn_edge g path e = edge_line (from g e) (to g e) (cost g e) (bold_edge path e)

-- the vertices that are marked, ascending; the others, apart; the edges by number
unfoldable pub drawing_by : List Bool → Graph → List ℕ → List ℕ
unfolding those joined vertex_line edge_line stands
drawing_by marks g path =
    opening
    ++ (joined (drawn_vertex g path) (marked true marks (vertex_count g))
    ++ (apart_text (drawn_vertex g path) (marked false marks (vertex_count g)) ++ (joined (drawn_edge g path) (numbers (edge_count g)) ++ closing)))

-- the drawing of a graph and of the path with these words: "motifs that no run from any start can reach" stand apart
unfoldable pub drawing : Graph → List ℕ → List ℕ
unfolding drawing_by reach_marks
drawing g path = drawing_by (reach_marks g) g path
