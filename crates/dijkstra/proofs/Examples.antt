-- The calls on words by computation: 01's chart, with each refusal once; and wrong programs that the promises shut out.
-- Assumes nothing.
use mathlib.Core.Path.{◌≡◌, refl, sym, ap, ◌∙◌}
use Rattle.std.specs.declared.result.Result.{Result}
use Rattle.model.specs.declared.Refusal.{Refusal}
use Rattle.std.specs.declared.option.Option.{Option}
use Rattle.std.specs.Prelude.{None, Some, Ok, Err}
use mathlib.Core.Bool.{Bool, true, false, true≢false}
use mathlib.Core.List.{List, [], ◌∷◌, ◌++◌}
use Prim.Native.Nat.{ℕ}
use native.Mathlib.Omega.{arith}
use lib.ListN.{set, take, replicate}
use Rattle.model.specs.declared.BestSolution.{BestSolution}
use Rattle.model.specs.declared.Refusal.TheVariants.{TreesFull}
use Rattle.model.specs.declared.SearchStatus.TheVariants.{Incomplete, Impossible}
use Rattle.model.specs.declared.Search.{Search}
use Rattle.model.specs.Answers.{Reply, answered, refused, Status, waiting, solved, no_path}
use Rattle.model.specs.Path.{path, words}
use Rattle.model.specs.Worth.{weight, solution_cost_of}
use Rattle.model.specs.Search.{entry, with_entry, with_find, with_known_len, with_exhausted, as_best}
use Rattle.model.specs.Calls.{initialize, step, retrace}
use Rattle.layout.specs.Read.{read_cache}
use Rattle.layout.specs.Sound.{sound_wordsb}
use Rattle.layout.proofs.Examples.{sample}
use Rattle.layout.specs.Planted.{planted_all}
use Rattle.dijkstra.specs.Calls.{initialize_words, initialized_words, Initializing, step_words, Stepping, retrace_words}
use Rattle.layout.specs.Layout.{trees_in}

-- 01's chart with three slots, none of them in use
unfoldable pub bare : List ℕ
unfolding sample
bare = set (take 26 sample ++ replicate 81 0) 4 0

-- ---- opening a search: 7, 4, 3, 6

unsound : (initialize_words (set sample 0 2) (0 ∷ []) (2 ∷ [])).reply ≡ refused 7 0
unfolding sound_wordsb sample
unsound = refl

over-limit : (initialize_words bare (replicate 65 9) (2 ∷ [])).reply ≡ refused 4 0
unfolding sound_wordsb bare initialize
over-limit = refl

no-such-vertex : (initialize_words bare (0 ∷ []) (4 ∷ [])).reply ≡ refused 3 0
unfolding sound_wordsb bare initialize
no-such-vertex = refl

full : (initialize_words (set bare 3 1) (0 ∷ 1 ∷ []) (2 ∷ [])).reply ≡ refused 6 0
unfolding sound_wordsb bare initialize
full = refl

-- the tree of 0 is there, the one of 1 too: no word changes
shared : initialized_words (initialize_words sample (0 ∷ 1 ∷ 0 ∷ []) (2 ∷ [])).reply sample (0 ∷ 1 ∷ 0 ∷ []) ≡ sample
unfolding sound_wordsb sample initialize planted_all weight solution_cost_of
shared = refl

-- two new trees, in the next slots; 2 has no initial cost
planted : take 60 (initialized_words (initialize_words bare (1 ∷ 2 ∷ 0 ∷ []) (2 ∷ [])).reply bare (1 ∷ 2 ∷ 0 ∷ []))
    ≡ take 26 sample ++ (
    1 ∷ 1 ∷ 1 ∷ 1 ∷ 5 ∷ 4294967295 ∷ 4294967295 ∷ 0 ∷ 0 ∷ 0 ∷ 0 ∷ 0 ∷ 0 ∷ 0 ∷ 0 ∷ 0 ∷ 0 ∷ 0 ∷ 0 ∷ 0 ∷ 0 ∷ 0 ∷ 0 ∷ 0 ∷ 0 ∷ 0 ∷ 0
    ∷ 0 ∷ 1 ∷ 1 ∷ 0 ∷ 0 ∷ 4294967295 ∷ 4294967295 ∷ []
    )
unfolding sound_wordsb bare initialize planted_all
planted = refl

-- ---- a step: 7, 8

-- a search from 0 to 2, and the words that its opening left
unfoldable pub words0 : List ℕ
unfolding sound_wordsb bare initialize planted_all
words0 = initialized_words (initialize_words bare (0 ∷ []) (2 ∷ [])).reply bare (0 ∷ [])

unfoldable pub search0 : Search
unfolding sound_wordsb bare initialize
search0 = (initialize_words bare (0 ∷ []) (2 ∷ [])).search

steps : (step_words words0 search0).reply ≡ answered waiting
unfolding sound_wordsb words0 search0 step
steps = refl

takes-3 : (step_words words0 search0).tickets ≡ 3
unfolding sound_wordsb words0 search0 step weight solution_cost_of
takes-3 = refl

-- the find is node 3, which came by 1 at cost 7, and not node 2, which was queued first at cost 9
finds-7 : (step_words words0 search0).search.best_solution ≡ as_best 0 3
unfolding sound_wordsb words0 search0 step weight solution_cost_of
finds-7 = refl

step-unsound : (step_words (set words0 4 0) search0).reply ≡ refused 7 0
unfolding sound_wordsb words0 search0
step-unsound = refl

step-invalid : (step_words words0 (with_entry search0 1)).reply ≡ refused 8 0
unfolding sound_wordsb words0 search0 step
step-invalid = refl

-- ---- a path: 7, 8, 9, 10

-- a search from 0 to 0 where 0 is closed: its one step looks it up, changes no tree and finishes it
unfoldable opened0 : Search
unfolding sound_wordsb sample initialize
opened0 = (initialize_words sample (0 ∷ []) (0 ∷ [])).search

unfoldable finished0 : Search
unfolding sound_wordsb sample opened0 step
finished0 = (step_words sample opened0).search

no_change : (step_words sample opened0).cache ≡ read_cache sample
unfolding sound_wordsb sample opened0 step read_cache weight solution_cost_of
no_change = refl

answers : (step_words sample finished0).reply ≡ answered (solved 0 0)
unfolding sound_wordsb sample finished0 step path weight solution_cost_of
answers = refl

shows : retrace_words sample finished0 (7 ∷ 7 ∷ []) ≡ record { reply = answered 0; path = 0 ∷ 7 ∷ [] }
unfolding sound_wordsb sample finished0 retrace path words weight solution_cost_of
shows = refl

path-unsound : retrace_words (take 106 sample) finished0 (7 ∷ []) ≡ record { reply = refused 7 0; path = 7 ∷ [] }
unfolding sound_wordsb sample
path-unsound = refl

path-invalid : retrace_words words0 finished0 (7 ∷ []) ≡ record { reply = refused 8 0; path = 7 ∷ [] }
unfolding sound_wordsb words0 finished0 retrace weight solution_cost_of
path-invalid = refl

not-solved : retrace_words sample opened0 [] ≡ record { reply = refused 9 0; path = [] }
unfolding sound_wordsb sample opened0 retrace weight solution_cost_of
not-solved = refl

short-path : retrace_words sample finished0 [] ≡ record { reply = refused 10 0; path = [] }
unfolding sound_wordsb sample finished0 retrace path weight solution_cost_of
short-path = refl

-- ---- wrong programs: no promise is met by ..

is_waiting : Reply Status → Bool
is_waiting (answered waiting) = true
is_waiting (answered (solved k m)) = false
is_waiting (answered no_path) = false
is_waiting (refused n line) = false

is_known : Option ℕ → Bool
is_known None = false
is_known (Some n) = true

-- the best's node
abbrev node_of : Option BestSolution → ℕ
node_of None = 0
node_of (Some b) = b.node

is_answer : Reply (Unit {0}) → Bool
is_answer (answered x) = true
is_answer (refused n line) = false

-- "a step that always waits"
always-waits : (left : List ℕ) → Stepping sample finished0 (record { answer = Ok Incomplete; tickets = 0; search = finished0 }) left → ⊥
unfolding is_waiting
always-waits left p = true≢false (ap is_waiting (p.answer ∙ answers))

-- "`none` before the trees are grown"
none-at-once : (s : Search) (left : List ℕ) → Stepping words0 search0 (record { answer = Ok Impossible; tickets = 0; search = s }) left → ⊥
unfolding is_waiting
none-at-once s left p = true≢false (sym (ap is_waiting (p.answer ∙ steps)))

-- "an invented ticket count"
tickets-invented : (s : Search) (left : List ℕ) → Stepping words0 search0 (record { answer = Ok Incomplete; tickets = 1; search = s }) left → ⊥
tickets-invented s left p = absurd (omega (arith, p.tickets ∙ takes-3))

-- "Closing a motif when it is queued: order 0 would cost 9."
closed-when-queued : (t : ℕ) (left : List ℕ) → Stepping words0 search0 (record { answer = Ok Incomplete; tickets = t; search = with_exhausted (with_find search0 0 2 true) true }) left → ⊥
closed-when-queued t left p = absurd (omega (arith, ap node_of (ap (λ (s : Search). s.best_solution) p.search ∙ finds-7)))

-- the search as the step finished it, with the closed count remembered
abbrev remembered : Search
remembered = with_known_len finished0 0 1

-- "Remembering the count after a find by lookup."
remembered-after-lookup : (t : ℕ) (left : List ℕ)
    → Stepping sample opened0 (record { answer = Ok Incomplete; tickets = t; search = remembered }) left → ⊥
unfolding is_known sound_wordsb sample opened0 finished0 step weight solution_cost_of
remembered-after-lookup t left p = true≢false (ap (λ (s : Search). is_known (entry s 0).last_known_closed_len) p.search)

-- "`shelf full` with slots unused, or every call refused"
refused-with-slots : (left : List ℕ) → Initializing bare (0 ∷ []) (2 ∷ []) (Err TreesFull) left → ⊥
unfolding is_answer sound_wordsb bare initialize
refused-with-slots left p = true≢false (sym (ap is_answer p.answer))

-- an opening that writes nothing
no-word-written : (r : Result Search Refusal) → Initializing bare (0 ∷ []) (2 ∷ []) r bare → ⊥
unfolding sound_wordsb bare initialize planted_all
no-word-written r p = absurd (omega (arith, ap (λ (ws : List ℕ). trees_in ws) p.words))
