-- Opening a cache: 01 calls it opening a book.
-- Assumes nothing.
use Rattle.std.specs.Prelude.{◌≡◌, Bool, true, false, not, ◌&&◌, List, [], ◌∷◌, ℕ, ◌≤◌, leb, ltb, length, None, Some}
use Rattle.std.specs.declared.result.Result.{Result}
use Rattle.model.specs.declared.Refused.{Refused}
use Rattle.std.specs.declared.option.Option.{Option}
use Rattle.model.specs.Limits.{slot_limit}
use Rattle.model.specs.Answers.{Reply, answered, refused, open_reply}
use Rattle.model.specs.Graph.{Graph, vertex_count, edge_count}
use Rattle.model.specs.Calls.{Fault, first_fault, written}
use Rattle.text.specs.declared.counts.Counts.{Counts}
use Rattle.text.specs.Read.{judge_text, read_graph}
use Rattle.layout.specs.Layout.{needed}
use Rattle.layout.specs.Words.{opened_words}
use Rattle.layout.specs.Read.{direction_of}

pub record AfterOpen : Type 0 where
  pub reply : Reply (Unit {0})
  pub words : List ℕ

-- "4 for direction, then slots": "direction 0 forward or 1 backward and T tree slots, 1 to 64"
abbrev pub measure_faults : ℕ → ℕ → List Fault
measure_faults direction slots =
    record { number = 4; given = ltb 1 direction }
    ∷ record { number = 4; given = not (leb 1 slots && leb slots slot_limit) }
    ∷ []

-- "then 5": "the slice is shorter than the formula"; else the words of an opened cache, and "words past that are never written"
abbrev pub open_if : Bool → Graph → List ℕ → ℕ → ℕ → AfterOpen
open_if true g ws direction slots = record { reply = refused 5 0; words = ws }
open_if false g ws direction slots = record { reply = answered tt; words = written (opened_words (direction_of direction) g slots) ws }

-- "then lines downward (each 1, 2, 4, 3)"
abbrev pub open_read : Reply Graph → List ℕ → ℕ → ℕ → AfterOpen
open_read (refused n line) ws direction slots = record { reply = refused n line; words = ws }
open_read (answered g) ws direction slots =
    open_if (ltb (length ws) (needed (vertex_count g) (edge_count g) slots)) g ws direction slots

abbrev pub open_by : Option ℕ → List ℕ → List ℕ → ℕ → ℕ → AfterOpen
open_by (Some n) ws text direction slots = record { reply = refused n 0; words = ws }
open_by None ws text direction slots = open_read (read_graph text) ws direction slots

-- words lent, text, direction, slots
unfoldable pub open_cache : List ℕ → List ℕ → ℕ → ℕ → AfterOpen
unfolding read_graph opened_words
open_cache ws text direction slots = open_by (first_fault (measure_faults direction slots)) ws text direction slots

-- ---- what the code promises

-- an answer and the words left
abbrev pub after_open : Result (Unit {0}) Refused → List ℕ → AfterOpen
after_open r ws = record { reply = open_reply r; words = ws }

-- the promise of `open`: answer and words left are the definition's, whatever words, text, direction and slots it is handed
abbrev pub Opening : List ℕ → List ℕ → ℕ → ℕ → Result (Unit {0}) Refused → List ℕ → Type 0
Opening ws text direction slots r left = after_open r left ≡ open_cache ws text direction slots

-- the text has no fault and is of these counts; direction and slots are within their limits
pub record CanOpen (text : List ℕ) (dir t : ℕ) (z : Counts) : Type 0 where
  pub judged : judge_text text ≡ answered z
  pub direction : dir ≤ 1
  pub slots : t ≤ slot_limit
