-- The lines of a graph's text: `M,number,start cost` and `L,from,to,picks`. 01 calls the text a chart.
-- Assumes nothing.
use Rattle.std.specs.Prelude.{cond, Some, None, List, [], ◌∷◌, ℕ, ◌-◌, eqb, length, get_or, take}
use Rattle.std.specs.declared.option.Option.{Option}
use Rattle.text.specs.declared.fields.Field.{Field}
use Rattle.text.specs.declared.fields.Field.TheVariants.{Number, Hyphen, Other}
use Rattle.text.specs.declared.fields.Fields.{Fields}
use Rattle.text.specs.declared.fields.Lettered.{Lettered}
use Rattle.text.specs.declared.lines.Line.{Line}
use Rattle.text.specs.declared.lines.Line.TheVariants.{Vertex, Edge}
use Rattle.text.specs.Bytes.{line_feed, letter_l, letter_m, parted}
use Rattle.text.specs.Fields.{value, lettered_of}

-- "a start cost of `-`" is none
abbrev pub vertex_by : Field → Field → Option Line
vertex_by (Number n) (Number c) = Some (Vertex n (Some c))
vertex_by (Number n) Hyphen = Some (Vertex n None)
vertex_by (Number n) Other = None
vertex_by Hyphen v = None
vertex_by Other v = None

-- "`M,number,start cost`"
abbrev pub vertex_of : Fields → Option Line
vertex_of f = cond (eqb f.count 2) (vertex_by (value f 0) (value f 1)) None

abbrev pub edge_by : Field → Field → Field → Option Line
edge_by (Number m) (Number n) (Number c) = Some (Edge m n c)
edge_by (Number m) (Number n) Hyphen = None
edge_by (Number m) (Number n) Other = None
edge_by (Number m) Hyphen w = None
edge_by (Number m) Other w = None
edge_by Hyphen v w = None
edge_by Other v w = None

-- "`L,from,to,picks`"
abbrev pub edge_of : Fields → Option Line
edge_of f = cond (eqb f.count 3) (edge_by (value f 0) (value f 1) (value f 2)) None

abbrev pub lettered_line : Option Lettered → Option Line
lettered_line None = None
lettered_line (Some x) = cond (eqb x.letter letter_m) (vertex_of x.fields) (cond (eqb x.letter letter_l) (edge_of x.fields) None)

-- a line's bytes, without LF
unfoldable pub line_of : List ℕ → Option Line
unfolding lettered_of
line_of l = lettered_line (lettered_of l)

-- "Lines end in LF": a line's bytes, of which the last is to be LF
abbrev pub ended_line : List ℕ → Option Line
ended_line l = cond (eqb (get_or l (length l - 1) 0) line_feed) (line_of (take (length l - 1) l)) None

-- what stands past the last LF is no line if it is empty, and else one without LF, of no legal form
abbrev pub unended : List ℕ → List (Option Line)
unended [] = []
unended (x ∷ xs) = None ∷ []

abbrev pub lined_from : List ℕ → List (List ℕ) → List (Option Line)
lined_from p [] = unended p
lined_from p (q ∷ qs) = line_of p ∷ lined_from q qs

abbrev pub lined : List (List ℕ) → List (Option Line)
lined [] = []
lined (p ∷ ps) = lined_from p ps

unfoldable pub lines_of : List ℕ → List (Option Line)
unfolding line_of parted
lines_of text = lined (parted line_feed text)
