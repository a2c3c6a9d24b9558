-- A reply tells the answer that it was read off, number, line and values: a promise by equation of replies determines the answer. The numbers
-- are those of 01's table.
-- Assumes nothing.
use mathlib.Core.Path.{◌≡◌, refl, sym, ap, ap₂, ◌∙◌}
use Rattle.model.specs.declared.Search.{Search}
use Rattle.std.specs.declared.option.Option.{Option}
use Rattle.std.specs.declared.result.Result.{Result}
use Rattle.model.specs.declared.Refused.{Refused}
use Rattle.std.specs.Prelude.{Err, Ok, None, Some}
use Rattle.std.specs.Result.{result_err}
use mathlib.Core.List.{List, [], ◌∷◌, map}
use Prim.Native.Nat.{ℕ, ◌-◌}
use native.Mathlib.Omega.{arith}
use lib.ListN.{get_or}
use Rattle.model.specs.declared.Refusal.{Refusal}
use Rattle.model.specs.declared.Refusal.TheVariants.{Malformed, OutOfOrder, NoSuchVertex, OverLimit, ShortCache, TreesFull, Unsound, InvalidSearch, NotSolved, ShortPath}
use Rattle.model.specs.declared.SearchStatus.{SearchStatus}
use Rattle.model.specs.declared.SearchStatus.TheVariants.{Incomplete, Solved, Impossible}
use Rattle.model.specs.Answers.{number, Reply, answered, refused, Status, waiting, solved, no_path, status, open_reply, initialize_reply, step_reply, retrace_reply}
use Rattle.model.specs.Calls.{opened_search}

-- misprint, out of turn, no such motif, over measure, short cloth, shelf full, torn book, strange search, not woven, short ribbon
abbrev pub refusals : List Refusal
refusals = Malformed ∷ OutOfOrder ∷ NoSuchVertex ∷ OverLimit ∷ ShortCache ∷ TreesFull ∷ Unsound ∷ InvalidSearch ∷ NotSolved ∷ ShortPath ∷ []

pub numbered : map number refusals ≡ 1 ∷ 2 ∷ 3 ∷ 4 ∷ 5 ∷ 6 ∷ 7 ∷ 8 ∷ 9 ∷ 10 ∷ []
numbered = refl

-- the refusal of a number
abbrev pub refusal_of : ℕ → Refusal
refusal_of n = get_or refusals (n - 1) Malformed

pub refusal_is : (r : Refusal) → refusal_of (number r) ≡ r
refusal_is Malformed = refl
refusal_is OutOfOrder = refl
refusal_is NoSuchVertex = refl
refusal_is OverLimit = refl
refusal_is ShortCache = refl
refusal_is TreesFull = refl
refusal_is Unsound = refl
refusal_is InvalidSearch = refl
refusal_is NotSolved = refl
refusal_is ShortPath = refl

abbrev pub status_from : Status → SearchStatus
status_from waiting = Incomplete
status_from (solved total moves) = Solved total moves
status_from no_path = Impossible

status-is : (s : SearchStatus) → status_from (status s) ≡ s
status-is Incomplete = refl
status-is (Solved total moves) = refl
status-is Impossible = refl

-- ---- the answer that a reply was read off

abbrev open_from : Reply (Unit {0}) → Result (Unit {0}) Refused
open_from (answered u) = Ok u
open_from (refused n line) = Err (record { refusal = refusal_of n; line = line })

abbrev initialize_from : Reply (Unit {0}) → Search → Result Search Refusal
initialize_from (answered u) s = Ok s
initialize_from (refused n line) s = Err (refusal_of n)

-- the refusal, or that there is none, which the reply tells without the record
abbrev refusal_from : Reply (Unit {0}) → Option Refusal
refusal_from (answered u) = None
refusal_from (refused n line) = Some (refusal_of n)

abbrev step_from : Reply Status → Result SearchStatus Refusal
step_from (answered s) = Ok (status_from s)
step_from (refused n line) = Err (refusal_of n)

abbrev retrace_from : Reply ℕ → Result ℕ Refusal
retrace_from (answered m) = Ok m
retrace_from (refused n line) = Err (refusal_of n)

open-from : (a : Result (Unit {0}) Refused) → open_from (open_reply a) ≡ a
open-from (Ok u) = refl
open-from (Err f) = ap (λ (x : Refusal). Err (record { refusal = x; line = f.line })) (refusal_is f.refusal)

initialize-from : (a : Result Search Refusal) → initialize_from (initialize_reply a) (opened_search a) ≡ a
initialize-from (Ok s) = refl
initialize-from (Err r) = ap Err (refusal_is r)

refusal-from : (a : Result Search Refusal) → refusal_from (initialize_reply a) ≡ result_err a
refusal-from (Ok s) = refl
refusal-from (Err r) = ap Some (refusal_is r)

step_from_lem : (a : Result SearchStatus Refusal) → step_from (step_reply a) ≡ a
step_from_lem (Ok s) = ap Ok (status-is s)
step_from_lem (Err r) = ap Err (refusal_is r)

retrace-from : (a : Result ℕ Refusal) → retrace_from (retrace_reply a) ≡ a
retrace-from (Ok m) = refl
retrace-from (Err r) = ap Err (refusal_is r)

-- equal replies, equal answers
pub open_told : (a b : Result (Unit {0}) Refused) → open_reply a ≡ open_reply b → a ≡ b
open_told a b e = sym (open-from a) ∙ ap open_from e ∙ open-from b

pub initialize-told : (a b : Result Search Refusal) → initialize_reply a ≡ initialize_reply b → opened_search a ≡ opened_search b → a ≡ b
initialize-told a b e k = sym (initialize-from a) ∙ ap₂ initialize_from e k ∙ initialize-from b

-- whatever the records are: both opened, or refused by the same
pub initialize-answered : (a b : Result Search Refusal) → initialize_reply a ≡ initialize_reply b → result_err a ≡ result_err b
initialize-answered a b e = sym (refusal-from a) ∙ ap refusal_from e ∙ refusal-from b

pub step-told : (a b : Result SearchStatus Refusal) → step_reply a ≡ step_reply b → a ≡ b
step-told a b e = sym (step_from_lem a) ∙ ap step_from e ∙ step_from_lem b

pub retrace-told : (a b : Result ℕ Refusal) → retrace_reply a ≡ retrace_reply b → a ≡ b
retrace-told a b e = sym (retrace-from a) ∙ ap retrace_from e ∙ retrace-from b

-- no reply is both
pub answered-refused : {A : Type 0} (a : A) (n line : ℕ) → ◌≡◌ {A = Reply A} (answered a) (refused n line) → ⊥
answered-refused a n line e = let z : ◌≡◌ {A = ℕ} 0 1 = cc in omega arith

-- and an answer tells what was answered
pub answered-is : {A : Type 0} (a b : A) → ◌≡◌ {A = Reply A} (answered a) (answered b) → a ≡ b
answered-is a b e = cc
