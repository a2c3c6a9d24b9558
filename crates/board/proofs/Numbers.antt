-- The numbers that a call answers say what it answered.
-- Assumes nothing.
use mathlib.Core.Path.{◌≡◌, refl, sym}
use Rattle.model.specs.declared.SearchStatus.{SearchStatus}
use Rattle.std.specs.declared.result.Result.{Result}
use Rattle.std.specs.Prelude.{Err, Ok}
use mathlib.Core.Bool.{Bool, true, false, cond}
use mathlib.Core.List.{List}
use Prim.Native.Nat.{ℕ, zero, suc, ◌<◌}
use native.Mathlib.Omega.{arith}
use lib.ListN.{get_or}
use Rattle.model.specs.declared.Refusal.{Refusal}
use Rattle.model.specs.declared.Refusal.TheVariants.{Malformed, OutOfOrder, NoSuchVertex, OverLimit, ShortCache, TreesFull, Unsound, InvalidSearch, NotSolved, ShortPath}
use Rattle.model.specs.declared.SearchStatus.TheVariants.{Incomplete, Solved, Impossible}
use Rattle.model.specs.Answers.{number, refused, step_reply, retrace_reply}
use Rattle.board.specs.Board.{answer_number, path_moves, no_numbers, answer_numbers}
use Rattle.board.specs.Demands.{step_told, path_told}

-- a refusal's number is not 0
pub number-some : (f : Refusal) → 0 < number f
number-some Malformed = omega arith
number-some OutOfOrder = omega arith
number-some NoSuchVertex = omega arith
number-some OverLimit = omega arith
number-some ShortCache = omega arith
number-some TreesFull = omega arith
number-some Unsound = omega arith
number-some InvalidSearch = omega arith
number-some NotSolved = omega arith
number-some ShortPath = omega arith

-- and neither is that of words which are no record
pub strange-some : (b : Bool) (r : ℕ) → r ≡ cond b 8 7 → 0 < r
strange-some true r e = omega (arith, e)
strange-some false r e = omega (arith, e)

refused-in : (n : ℕ) (a : List ℕ) → 0 < n → step_told n a ≡ refused n 0
refused-in zero a h = absurd (omega arith)
refused-in (suc n) a h = refl

refused-path : (n m : ℕ) → 0 < n → path_told n m ≡ refused n 0
refused-path zero m h = absurd (omega arith)
refused-path (suc n) m h = refl

-- the reply, read off the numbers
pub reply-in : (y : Result SearchStatus Refusal) → (w t : ℕ) (p : Bool) → step_told (answer_number (step_reply y)) (answer_numbers (step_reply y) w t p) ≡ step_reply y
reply-in (Ok Incomplete) w t p = refl
reply-in (Ok (Solved k m)) w t p = refl
reply-in (Ok Impossible) w t p = refl
reply-in (Err f) w t p = refused-in (number f) no_numbers (number-some f)

-- the steps that waited: none in a refusal
pub waits_in : (y : Result SearchStatus Refusal) (w t : ℕ) (p : Bool) → ((f : Refusal) → y ≡ Err f → w ≡ 0) → get_or (answer_numbers (step_reply y) w t p) 3 0 ≡ w
waits_in (Ok Incomplete) w t p h = refl
waits_in (Ok (Solved k m)) w t p h = refl
waits_in (Ok Impossible) w t p h = refl
waits_in (Err f) w t p h = sym (h f refl)

pub path-in : (x : Result ℕ Refusal) → path_told (answer_number (retrace_reply x)) (path_moves (retrace_reply x)) ≡ retrace_reply x
path-in (Ok m) = refl
path-in (Err f) = refused-path (number f) 0 (number-some f)
