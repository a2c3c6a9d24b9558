-- Demand 1 of opening: what a refused and an accepted opening leave of the words lent.
-- Assumes nothing.
use Rattle.std.specs.Prelude.{◌≡◌, List, ℕ, ◌≤◌, length, get_or, Err, Ok}
use Rattle.std.specs.declared.result.Result.{Result}
use Rattle.model.specs.declared.Refused.{Refused}
use Rattle.model.specs.Limits.{slot_limit}
use Rattle.model.specs.Answers.{answered}
use Rattle.model.specs.Graph.{Graph, Accepted, vertex_count, edge_count}
use Rattle.model.specs.Calls.{opened, written}
use Rattle.text.specs.Read.{read_graph}
use Rattle.layout.specs.Layout.{needed}
use Rattle.layout.specs.Words.{opened_words}
use Rattle.layout.specs.Read.{direction_of, read_cache}
use Rattle.cache.specs.Open.{Opening}

-- what an accepted opening of the words ws leaves: each word is the layout's or as it was; the words hold the graph of the text and no
-- tree; "words past that are never written"
pub record Opens (ws text : List ℕ) (d t : ℕ) (left : List ℕ) : Type 0 where
  pub graph : Graph
  pub read : read_graph text ≡ answered graph
  pub accepted : Accepted graph
  pub direction : d ≤ 1
  pub slots : (1 ≤ t) × (t ≤ slot_limit)
  pub fits : needed (vertex_count graph) (edge_count graph) t ≤ length ws
  pub words : left ≡ written (opened_words (direction_of d) graph t) ws
  pub cache : read_cache left ≡ opened (direction_of d) graph t
  pub same_length : length left ≡ length ws
  pub past : (i : ℕ) → needed (vertex_count graph) (edge_count graph) t ≤ i → get_or left i 0 ≡ get_or ws i 0

-- of every call of `open`, by nothing but its promise: "hold, after any refused call, what they held before it"
pub record Demand1 (ws text : List ℕ) (d t : ℕ) (r : Result (Unit {0}) Refused) (left : List ℕ) : Type 0 where
  pub refused : (f : Refused) → r ≡ Err f → left ≡ ws
  pub opened : r ≡ Ok tt → Opens ws text d t left

abbrev pub Demand1OfOpen : Type 0
Demand1OfOpen =
    (ws text : List ℕ) (d t : ℕ) (r : Result (Unit {0}) Refused) (left : List ℕ) → Opening ws text d t r left → Demand1 ws text d t r left
