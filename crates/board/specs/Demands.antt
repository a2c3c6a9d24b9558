-- The demands on lists of the board's calls, as a controller makes them: each call is known by nothing but the promise that its `ensures`
-- states (Board.antt), a search by its record's words, and what a call answered by its numbers. What is owed of a search, and what the Rust
-- answers, are said where they are of the other crates' calls (dijkstra/specs/Demands.antt).
-- Assumes nothing.
use Rattle.std.specs.Prelude.{◌≡◌, Bool, cond, List, [], ◌∷◌, ◌++◌, ℕ, zero, suc, ◌<◌, eqb, length, get_or, replicate}
use Rattle.std.specs.declared.result.Result.{Result}
use Rattle.model.specs.declared.Refusal.{Refusal}
use Rattle.model.specs.Answers.{Reply, answered, refused, Status, waiting, solved, no_path}
use Rattle.model.specs.Calls.{after_retrace}
use Rattle.model.specs.Solve.{is_waiting}
use Rattle.model.specs.Demands.{Call, initializing, stepping, retracing, reading, Act, own_step, own_retrace, other, Event, stepped, retraced}
use Rattle.layout.specs.Sound.{sound_wordsb}
use Rattle.search_words.specs.Record.{decode}
use Rattle.dijkstra.specs.Calls.{Retracing}
use Rattle.dijkstra.specs.Demands.{Same, Right}
use Rattle.planner.specs.Solve.{solving_call, last_if}
use Rattle.planner.specs.Plan.{planning_call}
use Rattle.board.specs.Board.{OpenCalled, InitializeCalled, StepCalled, SolveCalled, PlanCalled, RetraceCalled}
use Rattle.board.specs.Board as board

-- ---- what the numbers answered say

abbrev pub status_in : ℕ → ℕ → ℕ → Status
status_in s k m = cond (eqb s 2) (solved k m) (cond (eqb s 3) no_path waiting)

-- the number r that a call answered, and its six numbers a
abbrev pub step_told : ℕ → List ℕ → Reply Status
step_told zero a = answered (status_in (get_or a 0 0) (get_or a 1 0) (get_or a 2 0))
step_told (suc n) a = refused (suc n) 0

-- the number that `perillabeam_retrace` answered, and its moves
abbrev pub path_told : ℕ → ℕ → Reply ℕ
path_told zero m = answered m
path_told (suc n) m = refused (suc n) 0

-- many steps: so many waited, and the last one answered otherwise, or waited too
abbrev pub step_events : ℕ → List ℕ → List Event
step_events r a = replicate (get_or a 3 0) (stepped (answered waiting)) ++ last_if (is_waiting (step_told r a)) (stepped (step_told r a))

abbrev pub own_steps : List Event → List Act
own_steps es = replicate (length es) own_step

-- ---- what each call is among the model's: one on words that are no record only reads

abbrev pub initialize_call : {ws ss gs rec : List ℕ} {r : ℕ} {left rec' : List ℕ} → InitializeCalled ws ss gs rec r left rec' → Call
initialize_call (board.no_room h n w k) = reading
initialize_call {ws} {ss} {gs} (board.initialized room x p n k) = initializing ss gs

abbrev pub step_call : {ws rec : List ℕ} {r : ℕ} {a left rec' : List ℕ} → StepCalled ws rec r a left rec' → Call
step_call (board.no_record h n m w k) = reading
step_call {ws} {rec} (board.stepped h x p n m k) = stepping (decode rec)

abbrev pub solve_call : {ws rec : List ℕ} {n r : ℕ} {a left rec' : List ℕ} → SolveCalled ws rec n r a left rec' → Call
solve_call (board.no_record h n m w k) = reading
solve_call (board.many_stepped h x p n m k) = solving_call p.called

abbrev pub plan_call : {ws ss gs p rec : List ℕ} {r : ℕ} {a left q rec' : List ℕ} → PlanCalled ws ss gs p rec r a left q rec' → Call
plan_call (board.no_room h n m w y k) = reading
plan_call (board.planned room x p n m k) = planning_call p.called

abbrev pub retrace_call : {ws rec p : List ℕ} {r moves : ℕ} {q : List ℕ} → RetraceCalled ws rec p r moves q → Call
retrace_call (board.no_record h n m w) = reading
retrace_call {ws} {rec} {p} (board.retraced h x k n m) = retracing (decode rec) p

-- ---- lists of calls on the same words

-- what a call is to the search whose record it was handed, if any: as that search's own it is these steps and retraces, which answered
-- these events, and then the record's words are the last ones here
pub data Part : Type 0 where
  no_part : Part
  own : List ℕ → List Act → List Event → List ℕ → Part

-- one call on the words ws, which leaves the words left, with any lists, record's words and slice. An opening that is refused may stand among
-- them; one that is accepted begins another list
pub data Called : List ℕ → Call → List ℕ → Part → Type 0 where
  called_open : {ws left : List ℕ} (text : List ℕ) (d t r line : ℕ) → OpenCalled ws text d t r line left → 0 < r → Called ws reading left no_part
  called_is_sound : {ws : List ℕ} (r : Bool) → r ≡ sound_wordsb ws → Called ws reading ws no_part
  called_initialize : {ws left : List ℕ} (ss gs rec : List ℕ) (r : ℕ) (rec' : List ℕ) (k : InitializeCalled ws ss gs rec r left rec')
      → Called ws (initialize_call k) left no_part
  called_step : {ws left : List ℕ} (rec : List ℕ) (r : ℕ) (a rec' : List ℕ) (k : StepCalled ws rec r a left rec')
      → Called ws (step_call k) left (own rec (own_step ∷ []) (stepped (step_told r a) ∷ []) rec')
  called_solve : {ws left : List ℕ} (rec : List ℕ) (n r : ℕ) (a rec' : List ℕ) (k : SolveCalled ws rec n r a left rec')
      → Called ws (solve_call k) left (own rec (own_steps (step_events r a)) (step_events r a) rec')
  called_plan : {ws left : List ℕ} (ss gs p rec : List ℕ) (r : ℕ) (a q rec' : List ℕ) (k : PlanCalled ws ss gs p rec r a left q rec')
      → Called ws (plan_call k) left no_part
  called_retrace : {ws : List ℕ} (rec p : List ℕ) (r moves : ℕ) (q : List ℕ) (k : RetraceCalled ws rec p r moves q)
      → Called ws (retrace_call k) ws (own rec (own_retrace p ∷ []) (retraced p (record { reply = path_told r moves; path = q }) ∷ []) rec)

pub data CalledAll : List ℕ → List Call → List ℕ → Type 0 where
  none_called : {ws : List ℕ} → CalledAll ws [] ws
  and_then : {ws mid left : List ℕ} {x : Call} {xs : List Call} {o : Part} → Called ws x mid o → CalledAll mid xs left → CalledAll ws (x ∷ xs) left

-- the calls after a search was opened, its own among them: each own one is handed the record's words as the opening or the own call before
-- it left them. Any other call stands between, with whatever record's words
pub data Chain : List ℕ → List ℕ → List Act → List Event → Type 0 where
  ends : {ws rec : List ℕ} → Chain ws rec [] []
  own_call : {ws left rec rec' : List ℕ} {x : Call} {a acts : List Act} {e es : List Event} → Called ws x left (own rec a e rec')
      → Chain left rec' acts es → Chain ws rec (a ++ acts) (e ++ es)
  between : {ws left rec : List ℕ} {acts : List Act} {es : List Event} {o : Part} (x : Call) → Called ws x left o
      → Chain left rec acts es → Chain ws rec (other x ∷ acts) es

-- a search from ss to gs opened in the words ws, by which call, which answered 0; and the calls after it. One that `perillabeam_plan` opened
-- has its steps and its retrace among them; t is that retrace's answer, as the slice then holds its path or stays
pub data Searched (ws ss gs : List ℕ) : List Act → List Event → Type 0 where
  by_initialize : {left rec rec' : List ℕ} {acts : List Act} {es : List Event} → InitializeCalled ws ss gs rec 0 left rec'
      → Chain left rec' acts es → Searched ws ss gs acts es
  by_plan : {left q rec rec' a : List ℕ} {acts : List Act} {es : List Event} (p : List ℕ) (t : Result ℕ Refusal)
      → PlanCalled ws ss gs p rec 0 a left q rec' → Retracing left (decode rec') p t q → Chain left rec' acts es
      → Searched ws ss gs (own_steps (step_events 0 a) ++ (own_retrace p ∷ acts)) (step_events 0 a ++ (retraced p (after_retrace t q) ∷ es))

-- a whole list of calls: `perillabeam_open` answered 0 for a graph's text in direction d, with t slots, in some words; calls before; and a
-- search from ss to gs
pub record History (text : List ℕ) (d t : ℕ) (before : List Call) (ss gs : List ℕ) (acts : List Act) (es : List Event) : Type 0 where
  pub lent : List ℕ
  pub line : ℕ
  pub first : List ℕ
  pub opens : OpenCalled lent text d t 0 line first
  pub mid : List ℕ
  pub called : CalledAll first before mid
  pub searched : Searched mid ss gs acts es

-- ---- Demand 2: the Rust's code, made the same steps, openings and retraces on the graph of the same text, answers the same

abbrev pub Demand2 : Type 0
Demand2 =
    (text : List ℕ) (d t : ℕ) (before : List Call) (ss gs : List ℕ) (acts : List Act) (es : List Event)
    → History text d t before ss gs acts es → Same text d t before ss gs acts es

-- ---- Demand 3: what is owed of a search holds of its own calls, whatever was called before and between

abbrev pub Demand3 : Type 0
Demand3 =
    (text : List ℕ) (d t : ℕ) (before : List Call) (ss gs : List ℕ) (acts : List Act) (es : List Event)
    → History text d t before ss gs acts es → Right text d ss gs es
