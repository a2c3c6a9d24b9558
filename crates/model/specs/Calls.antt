-- The calls on a cache: `initialize`, `step` and `retrace` with their refusals in 01's order. 01 calls a cache a book. Refusal 7 is one of
-- words: here the trees are sound.
-- Assumes nothing.
use Rattle.std.specs.Prelude.{Bool, true, false, not, ◌&&◌, List, [], ◌∷◌, ◌++◌, ℕ, ◌+◌, ◌-◌, ◌*◌, ◌≤◌, leb, ltb, length, drop, None, Some, Ok, Err}
use Rattle.std.specs.declared.result.Result.{Result}
use Rattle.model.specs.declared.Refusal.{Refusal}
use Rattle.std.specs.declared.option.Option.{Option}
use Rattle.model.specs.Limits.{list_limit}
use Rattle.model.specs.declared.BestSolution.{BestSolution}
use Rattle.model.specs.declared.Search.{Search}
use Rattle.model.specs.Lists.{all_below}
use Rattle.model.specs.Answers.{Reply, answered, refused, Status, waiting, solved, no_path, retrace_reply}
use Rattle.model.specs.Graph.{Graph, Domain, Direction, domain, vertex_count}
use Rattle.model.specs.Tree.{Tree, node}
use Rattle.model.specs.Path.{moves_of, words}
use Rattle.model.specs.Sound.{no_tree, tree, SoundTrees, sound_treesb}
use Rattle.model.specs.Search.{entry, walk, Planted, plant_all, roots_of, goals_of, empty_search, new_search}
use Rattle.model.specs.Valid.{valid}

-- slots: T; the trees in use are the list's
pub record Cache : Type 0 where
  pub domain : Domain
  pub slots : ℕ
  pub trees : List Tree

-- a cache just opened
unfoldable pub opened : Direction → Graph → ℕ → Cache
unfolding domain
opened dir g slots = record { domain = domain dir g; slots = slots; trees = [] }

-- "A book is sound if ..", as far as its trees go: trees in use are at most T, and the trees are sound
pub record SoundCache (c : Cache) : Type 0 where
  pub within : length c.trees ≤ c.slots
  pub trees : SoundTrees c.domain c.trees

unfoldable pub sound_cacheb : Cache → Bool
unfolding sound_treesb
sound_cacheb c = leb (length c.trees) c.slots && sound_treesb c.domain c.trees

abbrev pub with_trees : Cache → List Tree → Cache
with_trees c ts = record { domain = c.domain; slots = c.slots; trees = ts }

-- ---- refusals: the first of a list that is given

pub record Fault : Type 0 where
  pub number : ℕ
  pub given : Bool

abbrev pub or_else : Bool → ℕ → Option ℕ → Option ℕ
or_else true n o = Some n
or_else false n o = o

abbrev pub first_fault : List Fault → Option ℕ
first_fault [] = None
first_fault (f ∷ fs) = or_else f.given f.number (first_fault fs)

-- ---- opening a search: "7, 4, 3, 6"

pub record AfterInitialize : Type 0 where
  pub cache : Cache
  pub search : Search
  pub reply : Reply (Unit {0})

abbrev pub planted_for : Cache → List ℕ → List ℕ → Planted
planted_for c ss gs = plant_all c.domain c.trees (roots_of c.domain.direction ss gs)

-- 4 "a stated limit is passed"; 3 "start or wanted number is M or more"; 6 "distinct new trees outnumber unused slots"
abbrev pub initialize_faults : Cache → List ℕ → List ℕ → List Fault
initialize_faults c ss gs =
    let m = vertex_count c.domain.graph in
    record { number = 4; given = not (leb (length ss) list_limit && leb (length gs) list_limit) }
    ∷ record { number = 3; given = not (all_below m ss && all_below m gs) }
    ∷ record { number = 6; given = ltb (c.slots - length c.trees) (length (planted_for c ss gs).trees - length c.trees) }
    ∷ []

abbrev pub initialize_by : Option ℕ → Cache → List ℕ → List ℕ → AfterInitialize
initialize_by (Some n) c ss gs = record { cache = c; search = empty_search; reply = refused n 0 }
initialize_by None c ss gs =
    let p = planted_for c ss gs in
    record { cache = with_trees c p.trees; search = new_search p.entries (goals_of c.domain.direction ss gs); reply = answered tt }

unfoldable pub initialize : Cache → List ℕ → List ℕ → AfterInitialize
unfolding plant_all
initialize c ss gs = initialize_by (first_fault (initialize_faults c ss gs)) c ss gs

-- the record that an opening hands back: where it is refused there is none, and the empty one is meant
abbrev pub opened_search : Result Search Refusal → Search
opened_search (Ok s) = s
opened_search (Err f) = empty_search

-- ---- the solution answered: the one that the best's entry holds

abbrev pub shown_by : Search → Option BestSolution → Option ℕ
shown_by s None = None
shown_by s (Some b) = (entry s b.entry).solution

abbrev pub shown : Search → Option ℕ
shown s = shown_by s s.best_solution

abbrev pub shown_tree_by : List Tree → Search → Option BestSolution → Tree
shown_tree_by ts s None = no_tree
shown_tree_by ts s (Some b) = tree ts (entry s b.entry).tree

abbrev pub shown_tree : List Tree → Search → Tree
shown_tree ts s = shown_tree_by ts s s.best_solution

-- ---- a step: "7, 8"

pub record AfterStep : Type 0 where
  pub cache : Cache
  pub search : Search
  pub reply : Reply Status
  pub tickets : ℕ

abbrev pub step_faults : Cache → Search → List Fault
step_faults c s = record { number = 8; given = not (valid c.domain c.trees s) } ∷ []

abbrev pub status_at : Tree → Option ℕ → Status
status_at t None = no_path
status_at t (Some n) = solved (node t.nodes n).cost (moves_of t.nodes n)

unfoldable pub final_status : List Tree → Search → Status
final_status ts s = status_at (shown_tree ts s) (shown s)

-- "A finished search repeats its answer and takes 0." "Such a step answers waiting."
abbrev pub step_if : Bool → Cache → Search → AfterStep
step_if true c s = record { cache = c; search = s; reply = answered (final_status c.trees s); tickets = 0 }
step_if false c s =
    let w = walk c.domain c.trees s in
    record { cache = with_trees c w.trees; search = w.search; reply = answered waiting; tickets = w.tickets }

abbrev pub step_by : Option ℕ → Cache → Search → AfterStep
step_by (Some n) c s = record { cache = c; search = s; reply = refused n 0; tickets = 0 }
step_by None c s = step_if s.exhausted c s

unfoldable pub step : Cache → Search → AfterStep
unfolding walk final_status valid
step c s = step_by (first_fault (step_faults c s)) c s

-- ---- a path: "7, 8, 9, 10"

pub record AfterRetrace : Type 0 where
  pub reply : Reply ℕ
  pub path : List ℕ

-- "one that finished as solved"
abbrev pub is_best : Option BestSolution → Bool
is_best None = false
is_best (Some b) = true

abbrev pub solved_already : Search → Bool
solved_already s = s.exhausted && is_best s.best_solution

abbrev pub moves_at : Tree → Option ℕ → ℕ
moves_at t None = 0
moves_at t (Some n) = moves_of t.nodes n

abbrev pub words_at : Direction → Tree → Option ℕ → List ℕ
words_at dir t None = []
words_at dir t (Some n) = words dir t.nodes n

-- 9 "the search is not one that finished as solved"; 10 "the run slice has under 1 + 2 × moves words"
abbrev pub retrace_faults : Cache → Search → List ℕ → List Fault
retrace_faults c s p =
    record { number = 8; given = not (valid c.domain c.trees s) }
    ∷ record { number = 9; given = not (solved_already s) }
    ∷ record { number = 10; given = ltb (length p) (1 + 2 * moves_at (shown_tree c.trees s) (shown s)) }
    ∷ []

-- "Words past these stay."
abbrev pub written : List ℕ → List ℕ → List ℕ
written ws p = ws ++ drop (length ws) p

abbrev pub retrace_by : Option ℕ → Cache → Search → List ℕ → AfterRetrace
retrace_by (Some n) c s p = record { reply = refused n 0; path = p }
retrace_by None c s p =
    let t = shown_tree c.trees s in
    record { reply = answered (moves_at t (shown s)); path = written (words_at c.domain.direction t (shown s)) p }

unfoldable pub retrace : Cache → Search → List ℕ → AfterRetrace
unfolding valid
retrace c s p = retrace_by (first_fault (retrace_faults c s p)) c s p

-- an answer and what the path's slice holds then
abbrev pub after_retrace : Result ℕ Refusal → List ℕ → AfterRetrace
after_retrace r q = record { reply = retrace_reply r; path = q }
