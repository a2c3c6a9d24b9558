-- `plan` by computation: on 01's chart from 0 to 2 two steps wait and take 4 tickets, and the path of 2 moves fills 5 words.
-- Assumes nothing.
use mathlib.Core.Path.{◌≡◌, refl}
use mathlib.Core.Bool.{Bool, true, false}
use mathlib.Core.List.{List, [], ◌∷◌}
use Prim.Native.Nat.{ℕ}
use lib.ListN.{set, replicate}
use Rattle.model.specs.declared.Search.{Search}
use Rattle.model.specs.Answers.{Reply, answered, refused, Status, solved, no_path}
use Rattle.model.specs.Path.{path, words}
use Rattle.model.specs.Search.{empty_search}
use Rattle.model.specs.Solve.{solve}
use Rattle.model.specs.Plan.{AfterPlan}
use Rattle.model.specs.Worth.{weight, solution_cost_of}
use Rattle.model.specs.Calls.{Cache, initialize, retrace}
use Rattle.layout.specs.Read.{read_cache}
use Rattle.layout.specs.Sound.{sound_wordsb}
use Rattle.dijkstra.proofs.Examples.{bare}
use Rattle.planner.specs.Plan.{plan_words}

-- answer, whether the path was written, waits, tickets, and the path's slice
abbrev told : AfterPlan → Reply Status × Bool × ℕ × ℕ × List ℕ
told r = (r.reply, r.has_path, r.waits, r.tickets, r.path)

-- ---- the slice has room: words past the path stay

answers : told (plan_words bare (0 ∷ []) (2 ∷ []) (replicate 8 7)) ≡ (answered (solved 7 2), true, 2, 4, 0 ∷ 0 ∷ 1 ∷ 1 ∷ 2 ∷ 7 ∷ 7 ∷ 7 ∷ [])
unfolding sound_wordsb bare read_cache initialize solve retrace path words weight solution_cost_of
answers = refl

just-fits : told (plan_words bare (0 ∷ []) (2 ∷ []) (replicate 5 7)) ≡ (answered (solved 7 2), true, 2, 4, 0 ∷ 0 ∷ 1 ∷ 1 ∷ 2 ∷ [])
unfolding sound_wordsb bare read_cache initialize solve retrace path words weight solution_cost_of
just-fits = refl

-- ---- one word too short: the same answer, and the slice as it was; the record is one to retrace

short : told (plan_words bare (0 ∷ []) (2 ∷ []) (replicate 4 7)) ≡ (answered (solved 7 2), false, 2, 4, replicate 4 7)
unfolding sound_wordsb bare read_cache initialize solve retrace path words weight solution_cost_of
short = refl

retraced-later : let r = plan_words bare (0 ∷ []) (2 ∷ []) (replicate 4 7) in
    retrace r.cache r.search (replicate 5 7) ≡ record { reply = answered 2; path = 0 ∷ 0 ∷ 1 ∷ 1 ∷ 2 ∷ [] }
unfolding sound_wordsb bare read_cache initialize solve retrace path words weight solution_cost_of
retraced-later = refl

-- ---- no path leads to 3; its tree grows to the end

no-path : told (plan_words bare (0 ∷ []) (3 ∷ []) (replicate 8 7)) ≡ (answered no_path, false, 1, 4, replicate 8 7)
unfolding sound_wordsb bare read_cache initialize solve retrace path words weight solution_cost_of
no-path = refl

-- ---- refused: 7, 4, 3, 6

-- words that hold nothing of the search: an empty record, and the cache as it was
abbrev kept : AfterPlan → Search × Cache
kept r = (r.search, r.cache)

unsound : told (plan_words (set bare 0 2) (0 ∷ []) (2 ∷ []) (7 ∷ [])) ≡ (refused 7 0, false, 0, 0, 7 ∷ [])
unfolding sound_wordsb bare
unsound = refl

unsound-keeps : kept (plan_words (set bare 0 2) (0 ∷ []) (2 ∷ []) (7 ∷ [])) ≡ (empty_search, read_cache (set bare 0 2))
unfolding sound_wordsb bare
unsound-keeps = refl

starts-over-limit : told (plan_words bare (replicate 65 9) (2 ∷ []) (7 ∷ [])) ≡ (refused 4 0, false, 0, 0, 7 ∷ [])
unfolding sound_wordsb bare initialize
starts-over-limit = refl

goals-over-limit : told (plan_words bare (0 ∷ []) (replicate 65 2) (7 ∷ [])) ≡ (refused 4 0, false, 0, 0, 7 ∷ [])
unfolding sound_wordsb bare initialize
goals-over-limit = refl

no-such-vertex : told (plan_words bare (0 ∷ []) (4 ∷ []) (7 ∷ [])) ≡ (refused 3 0, false, 0, 0, 7 ∷ [])
unfolding sound_wordsb bare initialize
no-such-vertex = refl

full : told (plan_words (set bare 3 1) (0 ∷ 1 ∷ []) (2 ∷ []) (7 ∷ [])) ≡ (refused 6 0, false, 0, 0, 7 ∷ [])
unfolding sound_wordsb bare initialize
full = refl

full-keeps : kept (plan_words (set bare 3 1) (0 ∷ 1 ∷ []) (2 ∷ []) (7 ∷ [])) ≡ (empty_search, read_cache (set bare 3 1))
unfolding sound_wordsb bare initialize
full-keeps = refl
