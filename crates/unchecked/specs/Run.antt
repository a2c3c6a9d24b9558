-- A whole search on sound words, opened and stepped to its end: what the code promises.
-- Assumes nothing.
use Rattle.std.specs.Prelude.{◌≡◌, List, ℕ, ◌+◌, ◌*◌, ◌≤◌, Err, Ok, None}
use Rattle.std.specs.declared.result.Result.{Result}
use Rattle.model.specs.declared.Refusal.{Refusal}
use Rattle.model.specs.Limits.{edge_limit, list_limit}
use Rattle.model.specs.declared.Search.{Search}
use Rattle.model.specs.declared.StepsTaken.{StepsTaken}
use Rattle.model.specs.Answers.{answered, step_reply}
use Rattle.model.specs.Search.{empty_search}
use Rattle.model.specs.Calls.{retrace}
use Rattle.model.specs.Solve.{max_steps}
use Rattle.layout.specs.Read.{read_cache}
use Rattle.sound.specs.Facts.{SoundWords}
use Rattle.unchecked.specs.declared.SearchRun.{SearchRun}
use Rattle.opening.specs.Initialize.{Initializes}
use Rattle.unchecked.specs.Solve.{Solves}
use Rattle.memory.specs.Standing.{Shows}
use Rattle.unchecked.specs.Shown.{status_of}
use Rattle.unchecked.specs.Retrace.{retrace_shown}

-- what its steps came to
abbrev pub steps_of : SearchRun → StepsTaken
steps_of r = record { answer = r.answer; waits = r.waits; tickets = r.tickets; search = r.search }

-- the tickets of all trees of a search: a tree has one for its root, and at most one for each edge
abbrev pub ticket_limit : ℕ
ticket_limit = list_limit * (1 + edge_limit)

-- the steps of the record s: so many are enough, of ten tickets for each entry at most, and the last answers. The path of the node shown is
-- the record's
pub record RunsToEnd (ws : List ℕ) (s : Search) (r : SearchRun) (left : List ℕ) : Type 0 where
  pub solves : Solves ws s max_steps (steps_of r) left
  pub waits : r.waits ≤ 1 + ticket_limit
  pub tickets : r.tickets ≤ list_limit * 10 * r.waits
  pub shows : Shows left r.shown
  pub answers : step_reply r.answer ≡ answered (status_of (read_cache left).trees r.shown)
  pub retraces : (p : List ℕ) → retrace (read_cache left) r.search p ≡ retrace_shown left r.shown p

-- after an opening: one that is refused ends the search
abbrev pub RunsAfter : Result Search Refusal → List ℕ → SearchRun → List ℕ → Type 0
RunsAfter (Err f) mid r left =
    (r ≡ record { answer = Err f; waits = 0; tickets = 0; shown = None; search = empty_search }) × (left ≡ mid)
RunsAfter (Ok s) mid r left = RunsToEnd mid s r left

pub record Runs (ws ss gs : List ℕ) (r : SearchRun) (left : List ℕ) : Type 0 where
  pub opened : Result Search Refusal
  pub mid : List ℕ
  pub opens : Initializes ws ss gs opened mid
  pub after : RunsAfter opened mid r left

-- ---- what the function beneath asks for: an opening made the record and left the words
pub record JustOpened (ws : List ℕ) (s : Search) : Type 0 where
  pub earlier : List ℕ
  pub ss : List ℕ
  pub gs : List ℕ
  pub sound : SoundWords earlier
  pub opens : Initializes earlier ss gs (Ok s) ws
