-- A whole search by one call: what `plan` promises. It is what `initialize`, steps to the end by `solve` and `retrace` give, one after the
-- other, by equations with a definition that makes them on the cache that the words hold, and by the calls themselves.
-- Assumes nothing.
use Rattle.std.specs.Prelude.{◌≡◌, Bool, true, false, List, ℕ, ◌+◌, ◌*◌, ◌≤◌, leb, length, Err, Ok}
use Rattle.model.specs.declared.Search.{Search}
use Rattle.std.specs.declared.result.Result.{Result}
use Rattle.model.specs.declared.Planned.{Planned}
use Rattle.model.specs.declared.Refusal.{Refusal}
use Rattle.model.specs.declared.Refusal.TheVariants.{Malformed, OutOfOrder, NoSuchVertex, OverLimit, ShortCache, TreesFull, Unsound, InvalidSearch, NotSolved, ShortPath}
use Rattle.model.specs.declared.StepsTaken.{StepsTaken}
use Rattle.model.specs.Answers.{number, answered, refused, is_answered, solved, no_path, step_reply, retrace_reply}
use Rattle.model.specs.Search.{empty_search, roots_of}
use Rattle.model.specs.Calls.{Cache}
use Rattle.model.specs.Solve.{is_waiting, max_steps}
use Rattle.model.specs.Plan.{AfterPlan, plan}
use Rattle.model.specs.Demands.{Call, initializing as initializingCall, retracing as retracingCall, both}
use Rattle.layout.specs.Layout.{direction_in}
use Rattle.layout.specs.Read.{direction_of, read_cache}
use Rattle.layout.specs.Sound.{sound_wordsb}
use Rattle.dijkstra.specs.Calls.{initialize_words, initialized_words, Initializing, Retracing}
use Rattle.dijkstra.specs.Demands.{Made, SameBut}
use Rattle.planner.specs.Solve.{Solving, solving_call}

-- ---- on the cache that the words hold

-- are the words sound? 7 "the slice is too short for its header or not sound"
abbrev pub plan_if : Bool → Cache → List ℕ → List ℕ → List ℕ → AfterPlan
plan_if false c ss gs p = record { cache = c; search = empty_search; reply = refused 7 0; has_path = false; waits = 0; tickets = 0; path = p }
plan_if true c ss gs p = plan c ss gs p

-- a whole search on the words ws from the starts ss to the goals gs, with the slice p for its path
abbrev pub plan_words : List ℕ → List ℕ → List ℕ → List ℕ → AfterPlan
plan_words ws ss gs p = plan_if (sound_wordsb ws) (read_cache ws) ss gs p

-- ---- the three calls, on the words: each is known by nothing but its promise

-- a search that was not opened: no path, no steps, the empty record
abbrev pub not_planned : Refusal → Planned
not_planned f = record { answer = Err f; has_path = false; waits = 0; tickets = 0; search = empty_search }

-- the opening is refused, and nothing more is called; or it is accepted, the search is stepped to its end, and its path retraced
pub data CallsMade (ws ss gs p : List ℕ) : Planned → List ℕ → List ℕ → Type 0 where
  not_opened : {left : List ℕ} (f : Refusal) → Initializing ws ss gs (Err f) left → CallsMade ws ss gs p (not_planned f) left p
  to_the_end : {mid left q : List ℕ} (s : Search) (e : StepsTaken) (t : Result ℕ Refusal) → Initializing ws ss gs (Ok s) mid
      → Solving mid s max_steps e left → Retracing left e.search p t q
      → CallsMade ws ss gs p (record { answer = e.answer; has_path = is_answered (retrace_reply t); waits = e.waits; tickets = e.tickets; search = e.search }) left q

-- ---- the promise

-- answer, whether the path was written, waits and tickets summed, the record, what the path's slice holds, and the cache that the words
-- left hold. What is free is the arrangement of the queue words in the slots of the entries, as for `step`.
pub record Planning (ws ss gs p : List ℕ) (r : Planned) (left q : List ℕ) : Type 0 where
  pub answer : step_reply r.answer ≡ (plan_words ws ss gs p).reply
  pub has-path : r.has_path ≡ (plan_words ws ss gs p).has_path
  pub waits : r.waits ≡ (plan_words ws ss gs p).waits
  pub tickets : r.tickets ≡ (plan_words ws ss gs p).tickets
  pub search : r.search ≡ (plan_words ws ss gs p).search
  pub path : q ≡ (plan_words ws ss gs p).path
  pub cache : read_cache left ≡ (plan_words ws ss gs p).cache
  pub sound : sound_wordsb left ≡ sound_wordsb ws
  pub called : CallsMade ws ss gs p r left q

-- ---- Demand 1: "It is refused by 7, 4, 3 and 6 alone, and then nothing has changed"

-- 7 Unsound, 4 OverLimit, 3 NoSuchVertex, 6 TreesFull
abbrev pub MayRefuse : Refusal → Type 0
MayRefuse Malformed = ⊥
MayRefuse OutOfOrder = ⊥
MayRefuse NoSuchVertex = Unit {0}
MayRefuse OverLimit = Unit {0}
MayRefuse ShortCache = ⊥
MayRefuse TreesFull = Unit {0}
MayRefuse Unsound = Unit {0}
MayRefuse InvalidSearch = ⊥
MayRefuse NotSolved = ⊥
MayRefuse ShortPath = ⊥

-- words and slice as they were, the empty record, no path, no steps; "0 where no chart line is at fault"
abbrev pub Demand1 : Type 0
Demand1 =
    (ws ss gs p : List ℕ) (r : Planned) (left q : List ℕ) → Planning ws ss gs p r left q → (f : Refusal) → r.answer ≡ Err f
    → (left ≡ ws) × (q ≡ p) × (r.search ≡ empty_search) × (r.has_path ≡ false) × (r.waits ≡ 0) × (r.tickets ≡ 0)
    × (step_reply r.answer ≡ refused (number f) 0) × MayRefuse f

-- ---- what follows from the promise

-- it goes on to the end: it never answers waiting, on any words
abbrev pub Ends : Type 0
Ends = (ws ss gs p : List ℕ) (r : Planned) (left q : List ℕ) → Planning ws ss gs p r left q → is_waiting (step_reply r.answer) ≡ false

-- "the path where the slice has room for it": of a solved search, exactly there; none where there is no path; and where it was not written
-- the slice is as it was
abbrev pub HasPath : Type 0
HasPath =
    (ws ss gs p : List ℕ) (r : Planned) (left q : List ℕ) → Planning ws ss gs p r left q
    → ((k m : ℕ) → step_reply r.answer ≡ answered (solved k m) → r.has_path ≡ leb (1 + 2 * m) (length p))
    × (step_reply r.answer ≡ answered no_path → r.has_path ≡ false)
    × (r.has_path ≡ false → q ≡ p)

-- one that is not refused has retraced: some answer of `retrace` goes with the slice left, and says as much
abbrev pub Retraced : Type 0
Retraced =
    (ws ss gs p : List ℕ) (r : Planned) (left q : List ℕ) → Planning ws ss gs p r left q → is_answered (step_reply r.answer) ≡ true
    → (t : Result ℕ Refusal) × (Retracing left r.search p t q × (r.has_path ≡ is_answered (retrace_reply t)))

-- "hands back the record for a `retrace`": of a solved search, one with that record on the words left and a slice that has room answers
-- the moves
abbrev pub RetracesLater : Type 0
RetracesLater =
    (ws ss gs p : List ℕ) (r : Planned) (left q : List ℕ) → Planning ws ss gs p r left q → (k m : ℕ) → step_reply r.answer ≡ answered (solved k m)
    → (p' : List ℕ) (t : Result ℕ Refusal) (q' : List ℕ) → Retracing left r.search p' t q' → 1 + 2 * m ≤ length p' → retrace_reply t ≡ answered m

-- "what the three calls one after the other give": they meet it
abbrev pub CallsPlan : Type 0
CallsPlan = (ws ss gs p : List ℕ) (r : Planned) (left q : List ℕ) → CallsMade ws ss gs p r left q → Planning ws ss gs p r left q

-- the words that the opening leaves, every one of them
abbrev pub opened_words : List ℕ → List ℕ → List ℕ → List ℕ
opened_words ws ss gs = initialized_words (initialize_words ws ss gs).reply ws (roots_of (direction_of (direction_in ws)) ss gs)

-- it leaves no more open than the steps do: so `plan` answers as the three calls do, and leaves the same path and the same words but for
-- queue words of the trees that the search opened
abbrev pub Determined : Type 0
Determined =
    (ws ss gs p : List ℕ) (r r' : Planned) (left left' q q' : List ℕ) → Planning ws ss gs p r left q → Planning ws ss gs p r' left' q'
    → (r ≡ r') × ((q ≡ q') × SameBut (opened_words ws ss gs) (initialize_words ws ss gs).search left left')

-- ---- in lists of calls: the demands hold of lists with `plan` among their calls

-- what it is as one call on the words: the three
abbrev pub planning_call : {ws ss gs p : List ℕ} {r : Planned} {left q : List ℕ} → CallsMade ws ss gs p r left q → Call
planning_call {ws} {ss} {gs} (not_opened f i) = initializingCall ss gs
planning_call {ws} {ss} {gs} {p} (to_the_end x e t i s k) = both (initializingCall ss gs) (both (solving_call s.called) (retracingCall e.search p))

-- what its steps came to
abbrev pub steps_in : Planned → StepsTaken
steps_in r = record { answer = r.answer; waits = r.waits; tickets = r.tickets; search = r.search }

abbrev pub InLists : Type 0
InLists = (ws ss gs p : List ℕ) (r : Planned) (left q : List ℕ) (k : Planning ws ss gs p r left q) → Made ws (planning_call k.called) left
