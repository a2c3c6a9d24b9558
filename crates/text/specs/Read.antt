-- The graph of a text, or the first fault of its lines.
-- Assumes nothing.
use Rattle.std.specs.Prelude.{◌≡◌, ◌↔◌, Bool, true, false, not, ◌||◌, Some, None, Ok, Err, List, [], ◌∷◌, ℕ, ◌+◌, ◌<◌, eqb, leb, ltb, length, get_or, take}
use Rattle.std.specs.declared.option.Option.{Option}
use Rattle.std.specs.declared.result.Result.{Result}
use Rattle.model.specs.declared.Refusal.{Refusal}
use Rattle.model.specs.declared.Refused.{Refused}
use Rattle.model.specs.Limits.{vertex_limit, edge_limit, cost_limit}
use Rattle.model.specs.Answers.{Reply, answered, refused, number}
use Rattle.model.specs.Graph.{Graph, Edge, absent}
use Rattle.model.specs.Calls.{Fault, first_fault}
use Rattle.text.specs.declared.lines.Line.{Line}
use Rattle.text.specs.declared.lines.Line.TheVariants as line
use Rattle.text.specs.declared.counts.Counts.{Counts}
use Rattle.text.specs.Lines.{lines_of}

abbrev pub dear : Option ℕ → Bool
dear None = false
dear (Some c) = ltb cost_limit c

-- ---- the faults of one line in the order 1, 2, 4, 3, where k counts the vertices and edges of the lines above it

-- 1 "a line has no legal form or no LF"; 2 "motif number is not the next, or M follows L"; 4 "a stated limit is passed";
-- 3 "link end .. is M or more"
unfoldable pub line_faults : Counts → Option Line → List Fault
line_faults k None = record { number = 1; given = true } ∷ []
line_faults k (Some (line.Vertex n c)) =
    record { number = 2; given = ltb 0 k.edges || not (eqb n k.vertices) }
    ∷ record { number = 4; given = leb vertex_limit k.vertices || dear c }
    ∷ []
line_faults k (Some (line.Edge m n c)) =
    record { number = 4; given = leb edge_limit k.edges || ltb cost_limit c }
    ∷ record { number = 3; given = leb k.vertices m || leb k.vertices n }
    ∷ []

unfoldable pub counted : Counts → Option Line → Counts
counted k None = k
counted k (Some (line.Vertex n c)) = record { vertices = k.vertices + 1; edges = k.edges }
counted k (Some (line.Edge m n c)) = record { vertices = k.vertices; edges = k.edges + 1 }

-- ---- "lines downward": the first fault with its line, or how many vertices and edges there are

abbrev pub unless_fault : Option ℕ → ℕ → Reply Counts → Reply Counts
unless_fault (Some f) n r = refused f n
unless_fault None n r = r

unfoldable pub judge_from : ℕ → Counts → List (Option Line) → Reply Counts
unfolding line_faults counted
judge_from n k [] = answered k
judge_from n k (x ∷ xs) = unless_fault (first_fault (line_faults k x)) n (judge_from (n + 1) (counted k x) xs)

abbrev pub no_counts : Counts
no_counts = record { vertices = 0; edges = 0 }

unfoldable pub judge_text : List ℕ → Reply Counts
unfolding judge_from lines_of
judge_text text = judge_from 1 no_counts (lines_of text)

-- what "first" means, of lines below those that k counts, the first of them line n: the lines above line `at` have no fault, and of its
-- own faults f is the first
pub record FaultFrom (n : ℕ) (k : Counts) (xs : List (Option Line)) (f at : ℕ) : Type 0 where
  pub above : ℕ
  pub place : at ≡ above + n
  pub inside : above < length xs
  pub counts : Counts
  pub passed : judge_from n k (take above xs) ≡ answered counts
  pub fault : first_fault (line_faults counts (get_or xs above None)) ≡ Some f

abbrev pub FirstFault : List ℕ → ℕ → ℕ → Type 0
FirstFault text f at = FaultFrom 1 no_counts (lines_of text) f at

-- "Given exactly if", "Order: .. then lines downward (each 1, 2, 4, 3)"
abbrev pub RefusedExactly : Type 0
RefusedExactly = (text : List ℕ) (f at : ℕ) → (judge_text text ≡ refused f at) ↔ FirstFault text f at

-- ---- the graph: "numbers run 0, 1, 2 in order"; "Links are numbered from 0 in file order"

abbrev pub initial_word : Option ℕ → ℕ
initial_word None = absent
initial_word (Some c) = c

unfoldable pub initials_of : List (Option Line) → List ℕ
initials_of [] = []
initials_of (None ∷ xs) = initials_of xs
initials_of (Some (line.Vertex n c) ∷ xs) = initial_word c ∷ initials_of xs
initials_of (Some (line.Edge m n c) ∷ xs) = initials_of xs

unfoldable pub edges_of : List (Option Line) → List Edge
edges_of [] = []
edges_of (None ∷ xs) = edges_of xs
edges_of (Some (line.Vertex n c) ∷ xs) = edges_of xs
edges_of (Some (line.Edge m n c) ∷ xs) = record { from = m; to = n; cost = c } ∷ edges_of xs

unfoldable pub graph_of : List ℕ → Graph
unfolding initials_of edges_of lines_of
graph_of text = record { initial = initials_of (lines_of text); edges = edges_of (lines_of text) }

abbrev pub graph_by : Reply Counts → Graph → Reply Graph
graph_by (answered k) g = answered g
graph_by (refused f n) g = refused f n

unfoldable pub read_graph : List ℕ → Reply Graph
unfolding judge_text graph_of
read_graph text = graph_by (judge_text text) (graph_of text)

-- ---- what the answers of the code say in these values

abbrev pub check_fault : Result (Unit {0}) Refusal → Option ℕ
check_fault (Ok u) = None
check_fault (Err r) = Some (number r)

abbrev pub judged_reply : Result Counts Refused → Reply Counts
judged_reply (Ok k) = answered k
judged_reply (Err f) = refused (number f.refusal) f.line
