-- Many steps at once: what `solve` promises. It is that of so many calls of `step` one after the other, by equations with a definition that
-- makes them on the cache that the words hold, and by the calls themselves.
-- Assumes nothing.
use Rattle.std.specs.Prelude.{◌≡◌, Bool, true, false, List, [], ◌∷◌, ◌++◌, ℕ, length, replicate, Err}
use Rattle.model.specs.declared.Refusal.{Refusal}
use Rattle.model.specs.declared.Search.{Search}
use Rattle.model.specs.declared.StepsTaken.{StepsTaken}
use Rattle.model.specs.Answers.{number, answered, refused, waiting, step_reply}
use Rattle.model.specs.Calls.{Cache}
use Rattle.model.specs.Solve.{is_waiting, AfterSteps, solve}
use Rattle.model.specs.Demands.{Call, stepping as steppingCall, reading, both, Act, own_step, Event, stepped}
use Rattle.layout.specs.Read.{read_cache}
use Rattle.layout.specs.Sound.{sound_wordsb}
use Rattle.model.specs.Steps.{Waited, at_first, once_more, StepsMade, all_wait, one_ends}
use Rattle.layout.specs.Leaves.{LeavesAfter}
use Rattle.dijkstra.specs.Calls.{step_words, Stepping}
use Rattle.dijkstra.specs.Demands.{Made, Chain, SameBut}

-- ---- on the cache that the words hold

-- are the words sound? 7 "the slice is too short for its header or not sound"
abbrev pub solve_if : Bool → ℕ → Cache → Search → AfterSteps
solve_if false n c s = record { cache = c; search = s; reply = refused 7 0; waits = 0; tickets = 0 }
solve_if true n c s = solve n c s

abbrev pub solve_words : List ℕ → Search → ℕ → AfterSteps
solve_words ws s n = solve_if (sound_wordsb ws) n (read_cache ws) s

-- ---- the steps, on the words: each is known by nothing but the promise of `step`

-- n steps all waited; or fewer did, and the one after them did not wait
abbrev pub StepsCalled : List ℕ → Search → ℕ → StepsTaken → List ℕ → Type 0
StepsCalled ws s n r left = StepsMade Stepping (step_words ws s).reply ws s n r left

-- ---- the promise

-- answer, waits and tickets summed, the record, and the cache that the words left hold. What is free is the arrangement of the
-- queue words in the slots of the entries, as for `step`.
pub record Solving (ws : List ℕ) (s : Search) (n : ℕ) (r : StepsTaken) (left : List ℕ) : Type 0 where
  pub answer : step_reply r.answer ≡ (solve_words ws s n).reply
  pub waits : r.waits ≡ (solve_words ws s n).waits
  pub tickets : r.tickets ≡ (solve_words ws s n).tickets
  pub search : r.search ≡ (solve_words ws s n).search
  pub cache : read_cache left ≡ (solve_words ws s n).cache
  pub sound : sound_wordsb left ≡ sound_wordsb ws
  pub words : LeavesAfter (solve_words ws s n).waits ws s left
  pub called : StepsCalled ws s n r left

-- ---- Demand 1: "hold, after any refused call, what they held before it"

abbrev pub Demand1 : Type 0
Demand1 =
    (ws : List ℕ) (s : Search) (n : ℕ) (r : StepsTaken) (left : List ℕ) → Solving ws s n r left → (f : Refusal) → r.answer ≡ Err f
    → (left ≡ ws) × ((r.search ≡ s) × ((r.waits ≡ 0) × ((r.tickets ≡ 0) × (step_reply r.answer ≡ refused (number f) 0))))

-- ---- what follows from the promise

-- so many calls of `step` meet it
abbrev pub StepsSolve : Type 0
StepsSolve = (ws : List ℕ) (s : Search) (n : ℕ) (r : StepsTaken) (left : List ℕ) → StepsCalled ws s n r left → Solving ws s n r left

-- it leaves no more open than that of `step`: so `solve` answers as the steps do, and leaves the same words but for queue words
abbrev pub Determined : Type 0
Determined =
    (ws : List ℕ) (s : Search) (n : ℕ) (r r' : StepsTaken) (left left' : List ℕ) → Solving ws s n r left → Solving ws s n r' left'
    → (r ≡ r') × SameBut ws s left left'

-- ---- in lists of calls: the demands hold of lists with `solve` among their calls

-- what it is as one call on the words: its steps
abbrev pub waits_call : {ws : List ℕ} {s : Search} {w t : ℕ} {mid : List ℕ} {x : Search} → Waited Stepping ws s w t mid x → Call
waits_call at_first = reading
waits_call (once_more {x = x} r v p e) = both (waits_call v) (steppingCall x)

abbrev pub solving_call : {ws : List ℕ} {s : Search} {n : ℕ} {r : StepsTaken} {left : List ℕ} → StepsCalled ws s n r left → Call
solving_call (all_wait v z) = waits_call v
solving_call (one_ends {x = x} r a below v p e told) = both (waits_call v) (steppingCall x)

abbrev pub InLists : Type 0
InLists = (ws : List ℕ) (s : Search) (n : ℕ) (r : StepsTaken) (left : List ℕ) (p : Solving ws s n r left) → Made ws (solving_call p.called) left

-- the own steps that it stands for in the search's chain, and what they answered
abbrev pub last_if : Bool → Event → List Event
last_if true e = []
last_if false e = e ∷ []

abbrev pub events_of : StepsTaken → List Event
events_of r =
    let reply = step_reply r.answer in
    replicate r.waits (stepped (answered waiting)) ++ last_if (is_waiting reply) (stepped reply)

abbrev pub acts_of : StepsTaken → List Act
acts_of r = replicate (length (events_of r)) own_step

abbrev pub InChains : Type 0
InChains =
    (ws : List ℕ) (s : Search) (n : ℕ) (r : StepsTaken) (left : List ℕ) (acts : List Act) (es : List Event)
    → StepsCalled ws s n r left → Chain left r.search acts es → Chain ws s (acts_of r ++ acts) (events_of r ++ es)
