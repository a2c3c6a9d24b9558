-- A refused call of the board leaves words, record and path: each by the demand on the call that it is.
-- Assumes nothing.
use mathlib.Core.Path.{◌≡◌, refl}
use Rattle.model.specs.Calls.{opened_search}
use Rattle.model.specs.declared.SearchStatus.{SearchStatus}
use Rattle.std.specs.declared.result.Result.{Result}
use Rattle.model.specs.declared.Refused.{Refused}
use Rattle.std.specs.Prelude.{Err, Ok}
use mathlib.Core.Bool.{Bool}
use mathlib.Core.List.{List}
use Prim.Native.Nat.{ℕ, ◌<◌}
use native.Mathlib.Omega.{arith}
use Rattle.model.specs.declared.Refusal.{Refusal}
use Rattle.model.specs.declared.Search.{Search}
use Rattle.model.specs.Answers.{open_reply, initialize_reply, step_reply, retrace_reply}
use Rattle.search_words.specs.Record.{decode}
use Rattle.cache.specs.Open.{Opening}
use Rattle.cache.proofs.Demand1 as cache
use Rattle.dijkstra.specs.Calls.{Retracing}
use Rattle.dijkstra.proofs.Demand1 as dijkstra
use Rattle.planner.proofs.Demand1 as planner
use Rattle.planner.proofs.PlanDemand1 as plan
use Rattle.board.specs.Board.{answer_number, no_numbers, answer_numbers, path_moves, Kept, OpenCalled, InitializeCalled, StepCalled, SolveCalled, PlanCalled, RetraceCalled, Demand1}
use Rattle.board.specs.Board as board

pub open-refused : (ws text : List ℕ) (d t r line : ℕ) (left : List ℕ) → OpenCalled ws text d t r line left → 0 < r → left ≡ ws
open-refused ws text d t r line left p h = go p.answer p.call p.number
  where
    go : (x : Result (Unit {0}) Refused) → Opening ws text d t x left → r ≡ answer_number (open_reply x) → left ≡ ws
    go (Ok u) c e = absurd (omega (arith, e))
    go (Err f) c e = (cache.demand-1 ws text d t (Err f) left c).refused f refl

initialize-refused : (ws ss gs rec : List ℕ) (r : ℕ) (left rec' : List ℕ) → InitializeCalled ws ss gs rec r left rec' → 0 < r → (left ≡ ws) × (rec' ≡ rec)
initialize-refused ws ss gs rec r left rec' (board.no_room m n w k) h = (w, k)
initialize-refused ws ss gs rec r left rec' (board.initialized room x p n k) h = go x refl n k
  where
    go : (y : Result Search Refusal) → x ≡ y → r ≡ answer_number (initialize_reply y) → Kept (initialize_reply y) (opened_search y) rec rec' → (left ≡ ws) × (rec' ≡ rec)
    go (Ok s) e n k = absurd (omega (arith, n))
    go (Err f) e n k = (((dijkstra.demand-1).0 ws ss gs x left p f e).0, k)

-- what a number that is not 0 says of a step's answer
record Told (y : Result SearchStatus Refusal) (a rec rec' : List ℕ) : Type 0 where
  refusal : Refusal
  answer : y ≡ Err refusal
  numbers : a ≡ no_numbers
  kept : rec' ≡ rec

told : (y : Result SearchStatus Refusal) (s : Search) (w t : ℕ) (p : Bool) {r : ℕ} {a rec rec' : List ℕ} → 0 < r → r ≡ answer_number (step_reply y)
    → a ≡ answer_numbers (step_reply y) w t p → Kept (step_reply y) s rec rec' → Told y a rec rec'
told (Ok x) s w t p h n m k = absurd (omega (arith, n))
told (Err f) s w t p h n m k = record { refusal = f; answer = refl; numbers = m; kept = k }

step-refused : (ws rec : List ℕ) (r : ℕ) (a left rec' : List ℕ) → StepCalled ws rec r a left rec' → 0 < r → (left ≡ ws) × (rec' ≡ rec) × (a ≡ no_numbers)
step-refused ws rec r a left rec' (board.no_record is n m w k) h = (w, k, m)
step-refused ws rec r a left rec' (board.stepped is x p n m k) h =
    let y = told x.answer _ _ _ _ h n m k in
    (((dijkstra.demand-1).1 ws (decode rec) x left p y.refusal y.answer).0, y.kept, y.numbers)

solve-refused : (ws rec : List ℕ) (c r : ℕ) (a left rec' : List ℕ) → SolveCalled ws rec c r a left rec' → 0 < r → (left ≡ ws) × (rec' ≡ rec) × (a ≡ no_numbers)
solve-refused ws rec c r a left rec' (board.no_record is n m w k) h = (w, k, m)
solve-refused ws rec c r a left rec' (board.many_stepped is x p n m k) h =
    let y = told x.answer _ _ _ _ h n m k in
    ((planner.demand-1 ws (decode rec) c x left p y.refusal y.answer).0, y.kept, y.numbers)

plan-refused : (ws ss gs p rec : List ℕ) (r : ℕ) (a left q rec' : List ℕ) → PlanCalled ws ss gs p rec r a left q rec' → 0 < r → (left ≡ ws) × (q ≡ p) × (rec' ≡ rec) × (a ≡ no_numbers)
plan-refused ws ss gs p rec r a left q rec' (board.no_room s n m w y k) h = (w, y, k, m)
plan-refused ws ss gs p rec r a left q rec' (board.planned room x c n m k) h =
    let y = told x.answer _ _ _ _ h n m k in
    let kept = plan.demand-1 ws ss gs p x left q c y.refusal y.answer in
    (kept.0, kept.1, y.kept, y.numbers)

retrace-refused : (ws rec p : List ℕ) (r moves : ℕ) (q : List ℕ) → RetraceCalled ws rec p r moves q → 0 < r → (q ≡ p) × (moves ≡ 0)
retrace-refused ws rec p r moves q (board.no_record is n m w) h = (w, m)
retrace-refused ws rec p r moves q (board.retraced is x c n m) h = go x c n m
  where
    go : (x : Result ℕ Refusal) → Retracing ws (decode rec) p x q → r ≡ answer_number (retrace_reply x) → moves ≡ path_moves (retrace_reply x) → (q ≡ p) × (moves ≡ 0)
    go (Ok k) c n m = absurd (omega (arith, n))
    go (Err f) c n m = (((dijkstra.demand-1).2 ws (decode rec) p (Err f) q c f refl).0, m)

pub demand-1 : Demand1
demand-1 = (open-refused, initialize-refused, step-refused, solve-refused, plan-refused, retrace-refused)
