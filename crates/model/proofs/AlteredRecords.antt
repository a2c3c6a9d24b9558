-- Each clause of refusal 8 shuts a record out that every other clause lets pass; and records that no chain holds, which pass.
-- Assumes nothing.
use mathlib.Core.Path.{◌≡◌, refl}
use Rattle.std.specs.declared.option.Option.{Option}
use Rattle.std.specs.Prelude.{None, Some}
use mathlib.Core.Bool.{Bool, true, false}
use mathlib.Core.List.{List, [], ◌∷◌, ◌++◌}
use Prim.Native.Nat.{ℕ, ◌-◌}
use lib.ListN.{length, replicate}
use Rattle.model.specs.declared.BestSolution.{BestSolution}
use Rattle.model.specs.declared.TreeMemory.{TreeMemory}
use Rattle.model.specs.declared.Search.{Search}
use Rattle.model.specs.Answers.{answered, refused, waiting, solved, no_path}
use Rattle.model.specs.Graph.{Graph, forward}
use Rattle.model.specs.Path.{path, words}
use Rattle.model.specs.Search.{blank, as_best}
use Rattle.model.specs.Valid.{valid}
use Rattle.model.specs.Calls.{opened, AfterStep, step, AfterRetrace, retrace}
use Rattle.model.proofs.Examples.{order, order0, double, fork}

abbrev pub memory : ℕ → Option ℕ → Option ℕ → TreeMemory
memory t known o = record { tree = t; last_known_closed_len = known; solution = o }

abbrev pub padded : {A : Type 0} → List A → A → List A
padded l x = l ++ replicate (64 - length l) x

-- entries, goals, best, finished
abbrev pub record_of : List TreeMemory → List ℕ → Option BestSolution → Bool → Search
record_of es gs b x =
    record { trees = padded es blank; tree_count = length es; goal_keys = padded gs 0; goal_count = length gs; best_solution = b; exhausted = x }

-- on the tree that order 0 leaves: node 0 of vertex 0 at 0, 1 of vertex 1 at 4, 2 of vertex 2 at 9, 3 of vertex 2 at 7, which closed it
unfoldable pub is_valid : Search → Bool
unfolding valid order0
is_valid s = valid order0.cache.domain order0.cache.trees s

-- the path to vertex 2 is node 3's; all three vertices in reach are closed
abbrev pub solution : TreeMemory
solution = memory 0 (Some 3) (Some 3)

abbrev pub unsolved : TreeMemory
unsolved = memory 0 (Some 3) None

abbrev pub own_record : Search
own_record = record_of (solution ∷ []) (2 ∷ []) (as_best 0 3) true

own-record : is_valid own_record ≡ true
unfolding is_valid
own-record = refl

-- ---- "an entry's tree is not in use"

tree-not-in-use : is_valid (record_of (memory 1 (Some 3) None ∷ []) (2 ∷ []) None false) ≡ false
unfolding is_valid
tree-not-in-use = refl

-- of a later entry
tree-not-in-use-later : is_valid (record_of (unsolved ∷ memory 1 (Some 3) None ∷ []) (2 ∷ []) None false) ≡ false
unfolding is_valid
tree-not-in-use-later = refl

-- ---- "a remembered count passes M or a list 64": 4 vertices, 64 entries and 64 goals pass

count-past-vertices : is_valid (record_of (memory 0 (Some 5) (Some 3) ∷ []) (2 ∷ []) (as_best 0 3) true) ≡ false
unfolding is_valid
count-past-vertices = refl

count-of-vertices : is_valid (record_of (memory 0 (Some 4) (Some 3) ∷ []) (2 ∷ []) (as_best 0 3) true) ≡ true
unfolding is_valid
count-of-vertices = refl

-- i entries and j goals, in arrays of 64
abbrev pub counts_of : ℕ → ℕ → Search
counts_of i j =
    record { trees = replicate 64 unsolved; tree_count = i; goal_keys = replicate 64 2; goal_count = j; best_solution = None; exhausted = false }

lists-of-64 : is_valid (counts_of 64 64) ≡ true
unfolding is_valid
lists-of-64 = refl

entries-past-64 : is_valid (counts_of 65 64) ≡ false
unfolding is_valid
entries-past-64 = refl

goals-past-64 : is_valid (counts_of 64 65) ≡ false
unfolding is_valid
goals-past-64 = refl

-- arrays of i entries and j goals, of which one each counts
abbrev pub lengths_of : ℕ → ℕ → Search
lengths_of i j =
    record { trees = replicate i unsolved; tree_count = 1; goal_keys = replicate j 2; goal_count = 1; best_solution = None; exhausted = false }

entries-short : is_valid (lengths_of 63 64) ≡ false
unfolding is_valid
entries-short = refl

goals-short : is_valid (lengths_of 64 63) ≡ false
unfolding is_valid
goals-short = refl

-- ---- "a wanted number is M or more"

goal-past-vertices : is_valid (record_of (unsolved ∷ []) (2 ∷ 4 ∷ []) None false) ≡ false
unfolding is_valid
goal-past-vertices = refl

-- ---- "an entry's run, or the best in its entry's tree, is not the closed node of a wanted motif"

-- beside the best, which costs 7, node 2 is held: of vertex 2, and not the node that closed it
solution-not-closed : is_valid (record_of (solution ∷ memory 0 (Some 3) (Some 2) ∷ []) (2 ∷ []) (as_best 0 3) true) ≡ false
unfolding is_valid
solution-not-closed = refl

-- beside the best, which costs 4, node 3 is held: vertex 2 is no goal
solution-no-goal : is_valid (record_of (memory 0 (Some 3) (Some 1) ∷ solution ∷ []) (1 ∷ []) (as_best 0 1) true) ≡ false
unfolding is_valid
solution-no-goal = refl

-- two edges from 0 to 1 at cost 1: node 1 closed vertex 1, and the best is node 2, of the same vertex and cost
unfoldable pub is_valid_on_double : Search → Bool
unfolding valid order opened double
is_valid_on_double s = let c = (order (opened forward double 1) (0 ∷ []) (1 ∷ [])).cache in valid c.domain c.trees s

best-not-closed : is_valid_on_double (record_of (memory 0 (Some 3) (Some 1) ∷ []) (1 ∷ []) (as_best 0 2) true) ≡ false
unfolding is_valid_on_double
best-not-closed = refl

-- from 0 to 1 and to 2 at cost 1: the best is node 2, of vertex 2, which is no goal
unfoldable pub is_valid_on_fork : Search → Bool
unfolding valid order opened fork
is_valid_on_fork s = let c = (order (opened forward fork 1) (0 ∷ []) (1 ∷ 2 ∷ [])).cache in valid c.domain c.trees s

best-no-goal : is_valid_on_fork (record_of (memory 0 (Some 3) (Some 1) ∷ []) (1 ∷ []) (as_best 0 2) true) ≡ false
unfolding is_valid_on_fork
best-no-goal = refl

-- what is no node has vertex 0 and cost 0, as node 0 has
best-past-words : is_valid (record_of (memory 0 (Some 3) (Some 0) ∷ []) (0 ∷ []) (as_best 0 4294967295) true) ≡ false
unfolding is_valid
best-past-words = refl

-- the entry of the best is none, and not finished
best-past-entries : is_valid (record_of (solution ∷ []) (2 ∷ []) (as_best 1 3) false) ≡ false
unfolding is_valid
best-past-entries = refl

-- ---- "the best does not cost what the least of the runs held costs"

-- nodes 1 and 3 are held, at 4 and at 7, in either order
best-not-least : is_valid (record_of (memory 0 (Some 3) (Some 1) ∷ solution ∷ []) (1 ∷ 2 ∷ []) (as_best 1 3) true) ≡ false
unfolding is_valid
best-not-least = refl

best-least : is_valid (record_of (memory 0 (Some 3) (Some 1) ∷ solution ∷ []) (1 ∷ 2 ∷ []) (as_best 0 1) true) ≡ true
unfolding is_valid
best-least = refl

best-not-least-first : is_valid (record_of (solution ∷ memory 0 (Some 3) (Some 1) ∷ []) (1 ∷ 2 ∷ []) (as_best 0 3) true) ≡ false
unfolding is_valid
best-not-least-first = refl

best-least-last : is_valid (record_of (solution ∷ memory 0 (Some 3) (Some 1) ∷ []) (1 ∷ 2 ∷ []) (as_best 1 1) true) ≡ true
unfolding is_valid
best-least-last = refl

-- the best costs less than what is held: node 1 at 4, where node 3 is held
best-too-cheap : is_valid (record_of (solution ∷ []) (1 ∷ 2 ∷ []) (as_best 0 1) true) ≡ false
unfolding is_valid
best-too-cheap = refl

-- no best, while a solution is held; a best, while none is held, not finished; neither
no-best : is_valid (record_of (solution ∷ []) (2 ∷ []) None true) ≡ false
unfolding is_valid
no-best = refl

none_held : is_valid (record_of (unsolved ∷ []) (2 ∷ []) (as_best 0 3) false) ≡ false
unfolding is_valid
none_held = refl

no-best-none-held : is_valid (record_of (unsolved ∷ []) (2 ∷ []) None true) ≡ true
unfolding is_valid
no-best-none-held = refl

-- ---- "or a search finished as solved holds no run": the best's entry holds none, another one of equal cost

best-not-held : is_valid (record_of (unsolved ∷ solution ∷ []) (2 ∷ []) (as_best 0 3) true) ≡ false
unfolding is_valid
best-not-held = refl

best-not-held-yet : is_valid (record_of (unsolved ∷ solution ∷ []) (2 ∷ []) (as_best 0 3) false) ≡ true
unfolding is_valid
best-not-held-yet = refl

-- ---- "run 7, 8, 9, 10", and "Words past these stay.": the path in a slice of n sevens

unfoldable pub showing : Search → ℕ → AfterRetrace
unfolding retrace order0 path words
showing s n = retrace order0.cache s (replicate n 7)

shown-in-five : showing own_record 5 ≡ record { reply = answered 2; path = 0 ∷ 0 ∷ 1 ∷ 1 ∷ 2 ∷ [] }
unfolding showing
shown-in-five = refl

words-past-stay : showing own_record 7 ≡ record { reply = answered 2; path = 0 ∷ 0 ∷ 1 ∷ 1 ∷ 2 ∷ 7 ∷ 7 ∷ [] }
unfolding showing
words-past-stay = refl

short-path : showing own_record 4 ≡ record { reply = refused 10 0; path = 7 ∷ 7 ∷ 7 ∷ 7 ∷ [] }
unfolding showing
short-path = refl

-- not finished; finished with no best
not-finished : showing (record_of (solution ∷ []) (2 ∷ []) (as_best 0 3) false) 1 ≡ record { reply = refused 9 0; path = 7 ∷ [] }
unfolding showing
not-finished = refl

not-solved : showing (record_of (unsolved ∷ []) (3 ∷ []) None true) 1 ≡ record { reply = refused 9 0; path = 7 ∷ [] }
unfolding showing
not-solved = refl

invalid-first : showing (record_of (memory 1 (Some 3) None ∷ []) (3 ∷ []) None true) 0 ≡ record { reply = refused 8 0; path = [] }
unfolding showing
invalid-first = refl

-- ---- records that no chain holds, and that pass: what their steps answer

-- one vertex, of cost 0, and a search from it to it, after its one step: the best's entry holds no solution, another one of equal cost
abbrev pub single : Graph
single = record { initial = 0 ∷ []; edges = [] }

unfoldable pub on_single : Search → AfterStep
unfolding step order opened path words
on_single s = step (order (opened forward single 1) (0 ∷ []) (0 ∷ [])).cache s

abbrev pub empty_best : Search
empty_best = record_of (memory 0 (Some 1) None ∷ memory 0 (Some 1) (Some 0) ∷ []) (0 ∷ []) (as_best 0 0) false

empty-best-waits : (on_single empty_best).reply ≡ answered waiting
unfolding on_single
empty-best-waits = refl

empty-best-finishes : (on_single empty_best).search.exhausted ≡ true
unfolding on_single
empty-best-finishes = refl

empty-best-refused : (on_single (on_single empty_best).search).reply ≡ refused 8 0
unfolding on_single
empty-best-refused = refl

-- an edge of cost 1 from 0 to 1, and both closed: the solution of the best's entry, node 1, is dearer than the best, node 0
abbrev pub pair : Graph
pair = record { initial = 0 ∷ 0 ∷ []; edges = record { from = 0; to = 1; cost = 1 } ∷ [] }

unfoldable pub on_pair : Search → AfterStep
unfolding step order opened path words
on_pair s = step (order (opened forward pair 1) (0 ∷ []) (1 ∷ [])).cache s

dearer-than-best : (on_pair (record_of (memory 0 None (Some 1) ∷ memory 0 None (Some 0) ∷ []) (0 ∷ 1 ∷ []) (as_best 0 0) true)).reply ≡ answered (solved 1 1)
unfolding on_pair
dearer-than-best = refl

-- 01's chart after order 0: the remembered count is true, the goal 2 is closed, and no solution is held; the search ends with none
unfoldable pub on_little : Search → AfterStep
unfolding step order0 path words
on_little s = step order0.cache s

abbrev pub forgotten : Search
forgotten = record_of (unsolved ∷ []) (2 ∷ []) None false

forgotten-waits : (on_little forgotten).reply ≡ answered waiting
unfolding on_little
forgotten-waits = refl

forgotten-ends : (on_little (on_little forgotten).search).reply ≡ answered no_path
unfolding on_little
forgotten-ends = refl
