-- The demands on lists of calls by name. Each exported call stands here once, with the promise that its `ensures` states and with what it
-- is among the model's calls: one of the three, one that only reads, or one made of others. A new call is one constructor more of `Called`.
-- Assumes nothing.
use Rattle.std.specs.Prelude.{◌≡◌, Bool, true, List, [], ◌∷◌, ◌++◌, ℕ, Err, Ok}
use Rattle.model.specs.declared.Refused.{Refused}
use Rattle.std.specs.declared.result.Result.{Result}
use Rattle.model.specs.declared.Planned.{Planned}
use Rattle.model.specs.declared.Refusal.{Refusal}
use Rattle.model.specs.declared.Search.{Search}
use Rattle.model.specs.declared.Stepped.{Stepped}
use Rattle.model.specs.Answers.{is_answered, step_reply}
use Rattle.model.specs.Demands.{Call, initializing, stepping, retracing, reading, Act, own_step, own_retrace, other, Event, stepped, retraced}
use Rattle.layout.specs.Sound.{sound_wordsb}
use Rattle.cache.specs.Open.{Opening}
use Rattle.cache.specs.Demand1 as cache
use Rattle.dijkstra.specs.Calls.{Initializing, Stepping, Retracing, after_retrace}
use Rattle.dijkstra.specs.Demands.{Same, Right}
use Rattle.dijkstra.specs.Demands as dijkstra
use Rattle.model.specs.declared.StepsTaken.{StepsTaken}
use Rattle.planner.specs.Solve.{Solving, solving_call, acts_of, events_of}
use Rattle.planner.specs.Solve as planner
use Rattle.planner.specs.Plan.{Planning, planning_call, steps_in}
use Rattle.planner.specs.Plan as plan
use Rattle.in_place.specs.declared.StepReport.{StepReport}
use Rattle.in_place.specs.Lent.{stepped_as}
use Rattle.in_place.specs.Lent as in_place

-- ---- Demand 1, of every call that can be refused: "hold, after any refused call, what they held before it"

abbrev pub Demand1 : Type 0
Demand1 = cache.Demand1OfOpen × dijkstra.Demand1 × planner.Demand1 × plan.Demand1 × in_place.Demand1

-- ---- lists of calls on the same words

-- what a call is to the search whose record it was handed, if any: as that search's own it is these steps and retraces, which answered
-- these events, and then the record is the last one here, which it returned or left
pub data Part : Type 0 where
  no_part : Part
  own : Search → List Act → List Event → Search → Part

-- one call on the words ws, which leaves the words left: accepted or refused, with any lists, any record and any slice. An `open` that is
-- refused may stand among them; one that is accepted begins another list. The promise of `step_lent` is that of `step`
pub data Called : List ℕ → Call → List ℕ → Part → Type 0 where
  called_initialize : {ws left : List ℕ} (ss gs : List ℕ) (r : Result Search Refusal) → Initializing ws ss gs r left → Called ws (initializing ss gs) left no_part
  called_step : {ws left : List ℕ} (s : Search) (r : Stepped) → Stepping ws s r left
      → Called ws (stepping s) left (own s (own_step ∷ []) (stepped (step_reply r.answer) ∷ []) r.search)
  called_step_in_place : {ws left : List ℕ} (s s' : Search) (r : StepReport) → Stepping ws s (stepped_as r s') left
      → Called ws (stepping s) left (own s (own_step ∷ []) (stepped (step_reply r.answer) ∷ []) s')
  called_solve : {ws left : List ℕ} (s : Search) (n : ℕ) (r : StepsTaken) (p : Solving ws s n r left)
      → Called ws (solving_call p.called) left (own s (acts_of r) (events_of r) r.search)
  called_retrace : {ws : List ℕ} (s : Search) (p : List ℕ) (r : Result ℕ Refusal) (q : List ℕ) → Retracing ws s p r q
      → Called ws (retracing s p) ws (own s (own_retrace p ∷ []) (retraced p (after_retrace r q) ∷ []) s)
  called_plan : {ws left : List ℕ} (ss gs p : List ℕ) (r : Planned) (q : List ℕ) (k : Planning ws ss gs p r left q)
      → Called ws (planning_call k.called) left no_part
  called_is_sound : {ws : List ℕ} (r : Bool) → r ≡ sound_wordsb ws → Called ws reading ws no_part
  called_open : {ws left : List ℕ} (text : List ℕ) (d t : ℕ) (f : Refused) → Opening ws text d t (Err f) left
      → Called ws reading left no_part

pub data CalledAll : List ℕ → List Call → List ℕ → Type 0 where
  none_called : {ws : List ℕ} → CalledAll ws [] ws
  and_then : {ws mid left : List ℕ} {x : Call} {xs : List Call} {o : Part} → Called ws x mid o → CalledAll mid xs left → CalledAll ws (x ∷ xs) left

-- the calls after a search was opened, its own among them: "A search's own steps form a chain: the first is handed the record that its
-- opening returned or left, each later one the record that the one before it in the chain returned or left. Its own retraces are handed
-- the record that its last step before them left". Any other call stands between, with whatever record
pub data Chain : List ℕ → Search → List Act → List Event → Type 0 where
  ends : {ws : List ℕ} {s : Search} → Chain ws s [] []
  own_call : {ws left : List ℕ} {s s' : Search} {x : Call} {a acts : List Act} {e es : List Event} → Called ws x left (own s a e s')
      → Chain left s' acts es → Chain ws s (a ++ acts) (e ++ es)
  between : {ws left : List ℕ} {s : Search} {acts : List Act} {es : List Event} {o : Part} (x : Call) → Called ws x left o
      → Chain left s acts es → Chain ws s (other x ∷ acts) es

-- a search from ss to gs opened in the words ws, by which call, and the calls after it, of which its own answered es. One that `plan` opened,
-- which was not refused, has its steps and its retrace among them; t is that retrace's answer, as the slice then holds its path or stays
pub data Searched (ws ss gs : List ℕ) : List Act → List Event → Type 0 where
  by_initialize : {left : List ℕ} {acts : List Act} {es : List Event} (s : Search) → Initializing ws ss gs (Ok s) left
      → Chain left s acts es → Searched ws ss gs acts es
  by_plan : {left q : List ℕ} {acts : List Act} {es : List Event} (p : List ℕ) (r : Planned) (t : Result ℕ Refusal) → Planning ws ss gs p r left q
      → is_answered (step_reply r.answer) ≡ true → Retracing left r.search p t q → Chain left r.search acts es
      → Searched ws ss gs (acts_of (steps_in r) ++ (own_retrace p ∷ acts)) (events_of (steps_in r) ++ (retraced p (after_retrace t q) ∷ es))

-- a whole list of calls: `open` accepted a graph's text in direction d, with t slots, in some words; calls before; and a search from ss to gs
pub record History (text : List ℕ) (d t : ℕ) (before : List Call) (ss gs : List ℕ) (acts : List Act) (es : List Event) : Type 0 where
  pub lent : List ℕ
  pub first : List ℕ
  pub opens : Opening lent text d t (Ok tt) first
  pub mid : List ℕ
  pub called : CalledAll first before mid
  pub searched : Searched mid ss gs acts es

-- ---- Demand 2: the Rust's code, made the same steps, openings and retraces on the graph of the same text, answers the same

abbrev pub Demand2 : Type 0
Demand2 =
    (text : List ℕ) (d t : ℕ) (before : List Call) (ss gs : List ℕ) (acts : List Act) (es : List Event)
    → History text d t before ss gs acts es → Same text d t before ss gs acts es

-- ---- Demand 3: what is owed of a search holds of its own calls, whatever was called before and between

abbrev pub Demand3 : Type 0
Demand3 =
    (text : List ℕ) (d t : ℕ) (before : List Call) (ss gs : List ℕ) (acts : List Act) (es : List Event)
    → History text d t before ss gs acts es → Right text d ss gs es
