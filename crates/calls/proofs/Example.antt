-- A whole list of calls by name, computed: 01's chart opened from its bytes, the words checked, the search of order 0 opened, stepped in place,
-- solved and retraced; between its calls another search is opened, a call of `solve` with no steps looks at it, and an opening is refused.
-- And a list whose search `plan` opens.
-- Assumes nothing.
use mathlib.Core.Path.{◌≡◌, refl}
use Rattle.std.specs.Prelude.{Err, Ok}
use mathlib.Core.Bool.{true, false}
use mathlib.Core.List.{List, [], ◌∷◌}
use native.Mathlib.Omega.{arith}
use Rattle.model.specs.declared.Planned.{Planned}
use Rattle.model.specs.declared.Refusal.TheVariants.{NoSuchVertex, OverLimit}
use Rattle.model.specs.declared.SearchStatus.TheVariants.{Incomplete, Solved}
use Rattle.model.specs.Worth.{weight, solution_cost_of}
use Rattle.model.specs.Answers.{answered, waiting, solved}
use Rattle.model.specs.Path.{path}
use Rattle.model.specs.Search.{empty_search}
use Rattle.model.specs.Calls.{initialize}
use Rattle.model.specs.Solve.{solve, max_steps}
use Rattle.model.specs.Demands.{Call, initializing, stepping as steppingCall, reading, both, Act, own_step, own_retrace, other, Event, stepped, retraced}
use Rattle.text.specs.Bytes.{bytes}
use Rattle.text.proofs.Examples.{example_text}
use Rattle.layout.specs.Read.{read_cache}
use Rattle.layout.specs.Sound.{sound_wordsb}
use Rattle.cache.specs.Open.{Opening, open_cache}
use Rattle.dijkstra.specs.Calls.{Initializing}
use Rattle.dijkstra.specs.Demands.{Same, Right}
use Rattle.dijkstra.proofs.HistoryExample.{words0, words1, words2, words3, opened_search, found_search, finished_search, opens, opened0, initializes, waits, step1, step2, solved7, step3, opened_between, initializes-between, slice, shown, shows}
use Rattle.model.specs.declared.StepsTaken.{StepsTaken}
use Rattle.model.specs.Steps.{at_first, once_more, one_ends}
use Rattle.planner.specs.Solve.{Solving}
use Rattle.planner.specs.Plan.{not_opened, to_the_end, Planning}
use Rattle.planner.proofs.Solved.{steps-solve}
use Rattle.planner.proofs.Planned.{calls-plan}
use Rattle.in_place.specs.declared.StepReport.{StepReport}
use Rattle.calls.specs.Demands.{called_initialize, called_step_in_place, called_solve, called_retrace, called_plan, called_is_sound, called_open, none_called, and_then, ends, own_call, between, by_initialize, by_plan, History}
use Rattle.calls.proofs.Demands.{demand-2, demand-3}

-- ---- the calls

is-sound : true ≡ sound_wordsb words0
unfolding sound_wordsb words0
is-sound = refl

abbrev first : StepReport
first = record { answer = Ok Incomplete; tickets = 3 }

-- one step waits, with a ticket, and the next one answers
abbrev rest : StepsTaken
rest = record { answer = Ok (Solved 7 2); waits = 1; tickets = 1; search = finished_search }

solves : Solving words2 found_search 9 rest words3
solves =
    steps-solve words2 found_search 9 rest words3
    (one_ends solved7 (Ok (Solved 7 2)) (omega arith) (once_more (waits finished_search 1) at_first step2 refl) step3 refl refl)

-- how the finished search stands
abbrev stands : StepsTaken
stands = record { answer = Ok (Solved 7 2); waits = 0; tickets = 0; search = finished_search }

unfoldable looks : Solving words3 finished_search 0 stands words3
unfolding sound_wordsb read_cache words3 solve path weight solution_cost_of
looks = record {
  answer = refl;
  waits = refl;
  tickets = refl;
  search = refl;
  cache = refl;
  sound = refl;
  words = refl;
  called = one_ends {w = 0} solved7 (Ok (Solved 7 2)) (omega arith) at_first step3 refl refl;
}

refused-open : Opening words3 [] 2 1 (Err (record { refusal = OverLimit; line = 0 })) words3
unfolding open_cache
refused-open = refl

-- ---- the whole list, and what the demands say of it

abbrev before : List Call
before = reading ∷ []

abbrev acts : List Act
acts =
    own_step
    ∷ other (initializing (0 ∷ []) (1 ∷ []))
    ∷ own_step
    ∷ own_step
    ∷ other (both reading (steppingCall finished_search))
    ∷ own_retrace slice
    ∷ other reading
    ∷ []

abbrev events : List Event
events =
    stepped (answered waiting)
    ∷ stepped (answered waiting)
    ∷ stepped (answered (solved 7 2))
    ∷ retraced slice (record { reply = answered 2; path = shown })
    ∷ []

pub history : History (bytes example_text) 0 1 before (0 ∷ []) (2 ∷ []) acts events
unfolding looks
history = record {
  lent = _;
  first = words0;
  opens = opens;
  mid = words0;
  called = and_then (called_is_sound true is-sound) none_called;
  searched =
      by_initialize opened_search initializes (
      own_call (called_step_in_place opened_search found_search first step1) (
      between (initializing (0 ∷ []) (1 ∷ [])) (called_initialize (0 ∷ []) (1 ∷ []) opened_between initializes-between) (
      own_call (called_solve found_search 9 rest solves) (
      between (both reading (steppingCall finished_search)) (called_solve finished_search 0 stands looks) (
      own_call (called_retrace finished_search slice (Ok 2) shown shows) (
      between reading (called_open [] 2 1 (record { refusal = OverLimit; line = 0 }) refused-open) ends))))));
}

-- the Rust answers the same
pub same : Same (bytes example_text) 0 1 before (0 ∷ []) (2 ∷ []) acts events
same = demand-2 (bytes example_text) 0 1 before (0 ∷ []) (2 ∷ []) acts events history

-- and the answers are right: no path from 0 to 2 costs less than 7
pub right : Right (bytes example_text) 0 (0 ∷ []) (2 ∷ []) events
right = demand-3 (bytes example_text) 0 1 before (0 ∷ []) (2 ∷ []) acts events history

-- ---- another list, whose search `plan` opens: two steps wait, the third answers, and the path is written. After it the path is retraced
-- again, and a second `plan` is refused

abbrev whole : StepsTaken
whole = record { answer = Ok (Solved 7 2); waits = 2; tickets = 4; search = finished_search }

solves-whole : Solving words1 opened_search max_steps whole words3
solves-whole =
    steps-solve words1 opened_search max_steps whole words3
    (one_ends solved7 (Ok (Solved 7 2)) (omega arith) (once_more (waits finished_search 1) (once_more (waits found_search 3) at_first step1 refl) step2 refl) step3 refl refl)

abbrev planned7 : Planned
planned7 = record { answer = Ok (Solved 7 2); has_path = true; waits = 2; tickets = 4; search = finished_search }

plans : Planning words0 (0 ∷ []) (2 ∷ []) slice planned7 words3 shown
plans =
    calls-plan words0 (0 ∷ []) (2 ∷ []) slice planned7 words3 shown
    (to_the_end opened_search whole (Ok 2) initializes solves-whole shows)

abbrev refused_plan : Planned
refused_plan = record { answer = Err NoSuchVertex; has_path = false; waits = 0; tickets = 0; search = empty_search }

refused-opening : Initializing words3 (0 ∷ []) (4 ∷ []) (Err NoSuchVertex) words3
unfolding sound_wordsb words3 initialize read_cache weight solution_cost_of
refused-opening = record { answer = refl; search = refl; words = refl; cache = refl; sound = refl }

unfoldable refuses : Planning words3 (0 ∷ []) (4 ∷ []) slice refused_plan words3 slice
unfolding sound_wordsb words3 initialize read_cache weight solution_cost_of
refuses = record {
  answer = refl;
  has-path = refl;
  waits = refl;
  tickets = refl;
  search = refl;
  path = refl;
  cache = refl;
  sound = refl;
  called = not_opened NoSuchVertex refused-opening;
}

abbrev plan_acts : List Act
plan_acts = own_step ∷ own_step ∷ own_step ∷ own_retrace slice ∷ own_retrace slice ∷ other (initializing (0 ∷ []) (4 ∷ [])) ∷ []

abbrev plan_events : List Event
plan_events =
    stepped (answered waiting)
    ∷ stepped (answered waiting)
    ∷ stepped (answered (solved 7 2))
    ∷ retraced slice (record { reply = answered 2; path = shown })
    ∷ retraced slice (record { reply = answered 2; path = shown })
    ∷ []

pub plan-history : History (bytes example_text) 0 1 [] (0 ∷ []) (2 ∷ []) plan_acts plan_events
unfolding refuses
plan-history = record {
  lent = _;
  first = words0;
  opens = opens;
  mid = words0;
  called = none_called;
  searched =
      by_plan slice planned7 (Ok 2) plans refl shows (
      own_call (called_retrace finished_search slice (Ok 2) shown shows) (
      between (initializing (0 ∷ []) (4 ∷ [])) (called_plan (0 ∷ []) (4 ∷ []) slice refused_plan slice refuses) ends));
}

pub plan-same : Same (bytes example_text) 0 1 [] (0 ∷ []) (2 ∷ []) plan_acts plan_events
plan-same = demand-2 (bytes example_text) 0 1 [] (0 ∷ []) (2 ∷ []) plan_acts plan_events plan-history

pub plan-right : Right (bytes example_text) 0 (0 ∷ []) (2 ∷ []) plan_events
plan-right = demand-3 (bytes example_text) 0 1 [] (0 ∷ []) (2 ∷ []) plan_acts plan_events plan-history
