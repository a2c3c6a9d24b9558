-- The text of a graph, printed: what `Read.read_graph` accepts is exactly this.
-- Assumes nothing.
use Rattle.std.specs.Prelude.{◌≡◌, Bool, true, false, List, [], ◌∷◌, ◌++◌, ℕ, zero, suc, ◌+◌, ◌/◌, ◌%◌, eqb, ltb}
use Rattle.model.specs.Answers.{answered}
use Rattle.model.specs.Graph.{Edge, Graph, Accepted, absent}
use Rattle.text.specs.Bytes.{line_feed, comma, hyphen, digit0, letter_l, letter_m}
use Rattle.text.specs.Read.{read_graph}

-- a number below 10 ^ k in decimal
abbrev pub digits_by : Bool → ℕ → List ℕ → List ℕ
digits_by true n front = (digit0 + n) ∷ []
digits_by false n front = front ++ ((digit0 + n % 10) ∷ [])

unfoldable pub decimal_in : ℕ → ℕ → List ℕ
decimal_in zero n = []
decimal_in (suc k) n = digits_by (ltb n 10) n (decimal_in k (n / 10))

-- "1 to 10 digits"
unfoldable pub decimal : ℕ → List ℕ
unfolding decimal_in
decimal n = decimal_in 10 n

abbrev pub initial_by : Bool → ℕ → List ℕ
initial_by true c = hyphen ∷ []
initial_by false c = decimal c

-- "`M,number,start cost`"
unfoldable pub vertex_text : ℕ → ℕ → List ℕ
unfolding decimal
vertex_text v c = letter_m ∷ comma ∷ (decimal v ++ (comma ∷ (initial_by (eqb c absent) c ++ (line_feed ∷ []))))

-- "`L,from,to,picks`"
unfoldable pub edge_text : Edge → List ℕ
unfolding decimal
edge_text e = letter_l ∷ comma ∷ (decimal e.from ++ (comma ∷ (decimal e.to ++ (comma ∷ (decimal e.cost ++ (line_feed ∷ []))))))

-- "numbers run 0, 1, 2 in order", here from v on
unfoldable pub vertices_text : ℕ → List ℕ → List ℕ
unfolding vertex_text
vertices_text v [] = []
vertices_text v (c ∷ cs) = vertex_text v c ++ vertices_text (suc v) cs

unfoldable pub edges_text : List Edge → List ℕ
unfolding edge_text
edges_text [] = []
edges_text (e ∷ es) = edge_text e ++ edges_text es

-- "after all M lines"
unfoldable pub printed : Graph → List ℕ
unfolding vertices_text edges_text
printed g = vertices_text 0 g.initial ++ edges_text g.edges

-- each graph within 01's limits has a text that is read as it, and no other text is
pub record Prints : Type 0 where
  pub reads : (g : Graph) → Accepted g → read_graph (printed g) ≡ answered g
  pub only : (text : List ℕ) (g : Graph) → read_graph text ≡ answered g → text ≡ printed g
