-- What the answers of the calls say in document 01's numbers and values.
-- Assumes nothing.
use Rattle.std.specs.Prelude.{Bool, true, false, ℕ, Ok, Err}
use Rattle.std.specs.declared.result.Result.{Result}
use Rattle.model.specs.declared.Refusal.{Refusal}
use Rattle.model.specs.declared.Refusal.TheVariants.{Malformed, OutOfOrder, NoSuchVertex, OverLimit, ShortCache, TreesFull, Unsound, InvalidSearch, NotSolved, ShortPath}
use Rattle.model.specs.declared.SearchStatus.{SearchStatus}
use Rattle.model.specs.declared.SearchStatus.TheVariants.{Incomplete, Solved, Impossible}
use Rattle.model.specs.declared.Refused.{Refused}
use Rattle.model.specs.declared.Search.{Search}

-- 01, "Returned instead of an answer", column "No."
abbrev pub number : Refusal → ℕ
number Malformed = 1
number OutOfOrder = 2
number NoSuchVertex = 3
number OverLimit = 4
number ShortCache = 5
number TreesFull = 6
number Unsound = 7
number InvalidSearch = 8
number NotSolved = 9
number ShortPath = 10

-- an answer, or the refusal's number "with a line (from 1; 0 where no chart line is at fault)"
pub data Reply (A : Type 0) : Type 0 where
  answered : A → Reply A
  refused : ℕ → ℕ → Reply A

-- it is an answer, and no refusal
abbrev pub is_answered : {A : Type 0} → Reply A → Bool
is_answered (answered a) = true
is_answered (refused n line) = false

-- "A step answers waiting, solved (total, moves) or none": none is called no_path here
pub data Status : Type 0 where
  waiting : Status
  solved : ℕ → ℕ → Status
  no_path : Status

abbrev pub status : SearchStatus → Status
status Incomplete = waiting
status (Solved total moves) = solved total moves
status Impossible = no_path

abbrev pub open_reply : Result (Unit {0}) Refused → Reply (Unit {0})
open_reply (Ok u) = answered tt
open_reply (Err f) = refused (number f.refusal) f.line

-- "0 where no chart line is at fault": of the calls on a cache none is
abbrev pub initialize_reply : Result Search Refusal → Reply (Unit {0})
initialize_reply (Ok s) = answered tt
initialize_reply (Err f) = refused (number f) 0

abbrev pub step_reply : Result SearchStatus Refusal → Reply Status
step_reply (Ok s) = answered (status s)
step_reply (Err f) = refused (number f) 0

-- a path is answered by its moves
abbrev pub retrace_reply : Result ℕ Refusal → Reply ℕ
retrace_reply (Ok n) = answered n
retrace_reply (Err f) = refused (number f) 0
