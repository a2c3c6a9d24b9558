-- `solve` by computation: on 01's chart from 0 to 2, two steps wait and take 3 and 1 tickets, and the third answers.
-- Assumes nothing.
use mathlib.Core.Path.{◌≡◌, refl}
use Rattle.std.specs.Prelude.{None, Some}
use mathlib.Core.Bool.{true, false}
use mathlib.Core.List.{[], ◌∷◌}
use Prim.Native.Nat.{ℕ}
use lib.ListN.{set, replicate}
use Rattle.model.specs.declared.Search.{Search}
use Rattle.model.specs.Answers.{Reply, answered, refused, Status, waiting, solved}
use Rattle.model.specs.Path.{path}
use Rattle.model.specs.Solve.{AfterSteps, solve}
use Rattle.model.specs.Worth.{solution_cost_of}
use Rattle.model.specs.Graph.{Graph, forward, absent}
use Rattle.model.specs.Search.{blank, with_entry, as_best}
use Rattle.model.specs.Calls.{opened, initialize}
use Rattle.layout.specs.Read.{read_cache}
use Rattle.layout.specs.Sound.{sound_wordsb}
use Rattle.dijkstra.proofs.Examples.{words0, search0}
use Rattle.planner.specs.Solve.{solve_words}

-- answer, waits and tickets
abbrev told : AfterSteps → Reply Status × ℕ × ℕ
told r = (r.reply, r.waits, r.tickets)

answers : told (solve_words words0 search0 9) ≡ (answered (solved 7 2), 2, 4)
unfolding sound_wordsb read_cache words0 search0 solve path solution_cost_of
answers = refl

third-answers : told (solve_words words0 search0 3) ≡ (answered (solved 7 2), 2, 4)
unfolding sound_wordsb read_cache words0 search0 solve path solution_cost_of
third-answers = refl

two-wait : told (solve_words words0 search0 2) ≡ (answered waiting, 2, 4)
unfolding sound_wordsb read_cache words0 search0 solve solution_cost_of
two-wait = refl

one-waits : told (solve_words words0 search0 1) ≡ (answered waiting, 1, 3)
unfolding sound_wordsb read_cache words0 search0 solve solution_cost_of
one-waits = refl

no_steps : told (solve_words words0 search0 0) ≡ (answered waiting, 0, 0)
unfolding sound_wordsb words0 search0 solve
no_steps = refl

unsound : told (solve_words (set words0 4 0) search0 9) ≡ (refused 7 0, 0, 0)
unfolding sound_wordsb words0
unsound = refl

invalid : told (solve_words words0 (with_entry search0 1) 9) ≡ (refused 8 0, 0, 0)
unfolding sound_wordsb words0 search0 solve
invalid = refl

-- ---- no steps tell how a search stands: a finished one's answer, and a strange one's refusal

finished0 : Search
finished0 = (solve_words words0 search0 2).search

no-steps-finished : told (solve 0 (solve_words words0 search0 2).cache finished0) ≡ (answered (solved 7 2), 0, 0)
unfolding sound_wordsb read_cache words0 search0 finished0 solve path solution_cost_of
no-steps-finished = refl

no-steps-invalid : told (solve_words words0 (with_entry search0 1) 0) ≡ (refused 8 0, 0, 0)
unfolding sound_wordsb words0 search0 solve
no-steps-invalid = refl

-- ---- a record that no chain holds: its first step is accepted and finishes it, the second would be refused. Chart `M,0,0` `M,1,-` `M,2,-`
-- `L,0,1,3` `L,1,2,5`, forward, 1 slot, after one step of a search from 0 to 1

line3 : Graph
line3 = record { initial = 0 ∷ absent ∷ absent ∷ []; edges = record { from = 0; to = 1; cost = 3 } ∷ record { from = 1; to = 2; cost = 5 } ∷ [] }

stepped-once : AfterSteps
stepped-once = let r = initialize (opened forward line3 1) (0 ∷ []) (1 ∷ []) in solve 1 r.cache r.search

strange : Search
strange =
    record {
      trees = record { tree = 0; last_known_closed_len = Some 2; solution = None }
          ∷ record { tree = 0; last_known_closed_len = Some 2; solution = Some 1 }
          ∷ replicate 62 blank;
      tree_count = 2;
      goal_keys = 1 ∷ replicate 63 0;
      goal_count = 1;
      best_solution = as_best 0 1;
      exhausted = false;
    }

-- what was done is told as waiting, with the record as it then is; and the next call is refused
refused-later : told (solve 2 stepped-once.cache strange) ≡ (answered waiting, 1, 1)
unfolding stepped-once line3 opened initialize solve strange solution_cost_of
refused-later = refl

left-finished : (solve 2 stepped-once.cache strange).search.exhausted ≡ true
unfolding stepped-once line3 opened initialize solve strange solution_cost_of
left-finished = refl

refused-next : let r = solve 2 stepped-once.cache strange in told (solve 2 r.cache r.search) ≡ (refused 8 0, 0, 0)
unfolding stepped-once line3 opened initialize solve strange solution_cost_of
refused-next = refl
