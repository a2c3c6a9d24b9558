-- A search on the trees of a cache: an entry's turn, a step over the entries, opening.
-- Assumes nothing.
use Rattle.std.specs.Prelude.{Bool, true, false, List, [], ◌∷◌, ◌++◌, ℕ, zero, suc, ◌+◌, ◌-◌, eqb, ltb, length, get_or, set, take, replicate, None, Some}
use Rattle.std.specs.declared.option.Option.{Option}
use Rattle.model.specs.Limits.{list_limit}
use Rattle.model.specs.declared.BestSolution.{BestSolution}
use Rattle.model.specs.declared.TreeMemory.{TreeMemory}
use Rattle.model.specs.declared.Search.{Search}
use Rattle.model.specs.Graph.{Domain, Direction, forward, backward, absent, initial_cost}
pub use Rattle.model.specs.Worth.{solution_cost}
use Rattle.model.specs.Tree.{Tree, Node, closed_at, evaluation, new_tree, Going, on, found, over, Growth, grow, least}
use Rattle.model.specs.Sound.{tree}

-- ---- the record: its entries and its goals

-- what stands past the entries
abbrev pub blank : TreeMemory
blank = record { tree = 0; last_known_closed_len = None; solution = None }

abbrev pub entry : Search → ℕ → TreeMemory
entry s i = get_or s.trees i blank

abbrev pub entries : Search → List TreeMemory
entries s = take s.tree_count s.trees

-- 01: the wanted list (backward, the starts)
abbrev pub goals : Search → List ℕ
goals s = take s.goal_count s.goal_keys

-- ---- what the methods of a search change

abbrev pub entry_of : ℕ → TreeMemory
entry_of i = record { tree = i; last_known_closed_len = None; solution = None }

abbrev pub with_entry : Search → ℕ → Search
with_entry s t =
    record {
      trees = set s.trees s.tree_count (entry_of t);
      tree_count = s.tree_count + 1;
      goal_keys = s.goal_keys;
      goal_count = s.goal_count;
      best_solution = s.best_solution;
      exhausted = s.exhausted;
    }

abbrev pub with_goal : Search → ℕ → Search
with_goal s v =
    record {
      trees = s.trees;
      tree_count = s.tree_count;
      goal_keys = set s.goal_keys s.goal_count v;
      goal_count = s.goal_count + 1;
      best_solution = s.best_solution;
      exhausted = s.exhausted;
    }

-- "Methods on the search struct record finds, remembered counts and the finished mark, returning the new search."

-- entry i is e from now on, and the best is x
abbrev pub with_tree : Search → ℕ → TreeMemory → Option BestSolution → Search
with_tree s i e x =
    record {
      trees = set s.trees i e;
      tree_count = s.tree_count;
      goal_keys = s.goal_keys;
      goal_count = s.goal_count;
      best_solution = x;
      exhausted = s.exhausted;
    }

-- the best solution is node n, found by entry i
abbrev pub as_best : ℕ → ℕ → Option BestSolution
as_best i n = Some (record { entry = i; node = n })

abbrev pub best_if : Bool → Option BestSolution → ℕ → ℕ → Option BestSolution
best_if true old i n = as_best i n
best_if false old i n = old

-- a find: node n, which entry i holds from now on; x: whether it is the best
abbrev pub with_find : Search → ℕ → ℕ → Bool → Search
with_find s i n x =
    let e = entry s i in
    with_tree s i (record { tree = e.tree; last_known_closed_len = e.last_known_closed_len; solution = Some n }) (best_if x s.best_solution i n)

-- a remembered count: n, by entry i
abbrev pub with_known_len : Search → ℕ → ℕ → Search
with_known_len s i n =
    let e = entry s i in
    with_tree s i (record { tree = e.tree; last_known_closed_len = Some n; solution = e.solution }) s.best_solution

-- the finished mark
abbrev pub with_exhausted : Search → Bool → Search
with_exhausted s x =
    record {
      trees = s.trees;
      tree_count = s.tree_count;
      goal_keys = s.goal_keys;
      goal_count = s.goal_count;
      best_solution = s.best_solution;
      exhausted = x;
    }

-- ---- 1. "If the closed count, counted from the closed words, is not the remembered one, the cheapest closed wanted motif, first in the
-- list on ties, is the find"

abbrev pub count_if : Bool → ℕ → ℕ
count_if true n = n
count_if false n = suc n

unfoldable pub closed_count : List ℕ → ℕ
closed_count [] = 0
closed_count (x ∷ xs) = count_if (eqb x 0) (closed_count xs)

abbrev pub remembers : Option ℕ → ℕ → Bool
remembers None n = false
remembers (Some k) n = eqb n k

abbrev pub chosen : Bool → ℕ → ℕ → Option ℕ
chosen true i j = Some i
chosen false i j = Some j

-- o, unless the closed word names a cheaper node
abbrev pub consider : Domain → List Node → Option ℕ → ℕ → Option ℕ
consider d ns o zero = o
consider d ns None (suc i) = Some i
consider d ns (Some j) (suc i) = chosen (ltb (solution_cost d ns i) (solution_cost d ns j)) i j

unfoldable pub cheapest : Domain → List Node → List ℕ → List ℕ → Option ℕ → Option ℕ
cheapest d ns cl [] o = o
cheapest d ns cl (v ∷ vs) o = cheapest d ns cl vs (consider d ns o (closed_at cl v))

abbrev pub lookup_if : Bool → Domain → List Node → List ℕ → List ℕ → Option ℕ
lookup_if true d ns cl gs = None
lookup_if false d ns cl gs = cheapest d ns cl gs None

unfoldable pub lookup : Domain → Tree → List ℕ → Option ℕ → Option ℕ
unfolding cheapest closed_count
lookup d t gs known = lookup_if (remembers known (closed_count t.closed)) d t.nodes t.closed gs

-- ---- an entry's turn

-- what an entry's turn came to; known is the closed count to remember, if there is one
pub record Turn : Type 0 where
  pub tree : Tree
  pub known : Option ℕ
  pub find : Option ℕ
  pub more : Bool
  pub tickets : ℕ

abbrev pub find_of : Going → Option ℕ
find_of on = None
find_of (found n) = Some n
find_of over = None

-- "a queue whose first cost is under the bound, or any queue not empty when there is no bound"
abbrev pub under : List Node → Option ℕ → Option ℕ → Bool
under ns None b = false
under ns (Some n) None = true
under ns (Some n) (Some b) = ltb (evaluation ns n) b

-- 3. "the closed count is remembered, and a queue .. keeps the search unfinished"
unfoldable pub grown : Growth → Option ℕ → Turn
unfolding closed_count least
grown g b =
    record {
      tree = g.tree;
      known = Some (closed_count g.tree.closed);
      find = find_of g.going;
      more = under g.tree.nodes (least g.tree.nodes g.tree.waiting) b;
      tickets = g.tickets;
    }

-- a find by lookup: "no growing, nothing remembered"; 2. "With no find, the entry takes at most ten tickets"
unfoldable pub turn_by : Domain → List ℕ → Option ℕ → Tree → Option ℕ → Turn
unfolding grown grow
turn_by d gs b t (Some n) = record { tree = t; known = None; find = Some n; more = false; tickets = 0 }
turn_by d gs b t None = grown (grow d gs b 10 (record { tree = t; tickets = 0; going = on })) b

unfoldable pub turn : Domain → List ℕ → Option ℕ → Tree → Option ℕ → Turn
unfolding turn_by lookup
turn d gs b t known = turn_by d gs b t (lookup d t gs known)

-- ---- what is recorded of it

-- 3. "If the entry had no find by lookup, the closed count is remembered"
abbrev pub remembered : Search → ℕ → Option ℕ → Search
remembered s i None = s
remembered s i (Some n) = with_known_len s i n

-- "and a queue .. keeps the search unfinished"
abbrev pub unfinished_if : Bool → Search → Search
unfinished_if true s = with_exhausted s false
unfinished_if false s = s

-- 4. "A find replaces the entry's run unless dearer, and is best only if strictly cheaper."

abbrev pub dearer : Domain → List Node → ℕ → Option ℕ → Bool
dearer d ns n None = false
dearer d ns n (Some h) = ltb (solution_cost d ns h) (solution_cost d ns n)

abbrev pub cheaper : ℕ → Option ℕ → Bool
cheaper k None = true
cheaper k (Some b) = ltb k b

abbrev pub replaced_unless : Bool → Search → ℕ → ℕ → Bool → Search
replaced_unless true s i n x = s
replaced_unless false s i n x = with_find s i n x

abbrev pub replaced : Domain → List Node → Option ℕ → Search → ℕ → Option ℕ → Search
replaced d ns b s i None = s
replaced d ns b s i (Some n) = replaced_unless (dearer d ns n (entry s i).solution) s i n (cheaper (solution_cost d ns n) b)

-- the record after the turn u of entry i, with the bound b: 3., then 4.
unfoldable pub recorded : Domain → Option ℕ → Search → ℕ → Turn → Search
recorded d b s i u = replaced d u.tree.nodes b (unfinished_if u.more (remembered s i u.known)) i u.find

-- ---- a step: "for each entry in order"

abbrev pub bound_of : Domain → List Tree → Search → Option BestSolution → Option ℕ
bound_of d ts s None = None
bound_of d ts s (Some b) = Some (solution_cost d (tree ts (entry s b.entry).tree).nodes b.node)

-- "The bound is the best total before this entry's turn"
abbrev pub bound : Domain → List Tree → Search → Option ℕ
bound d ts s = bound_of d ts s s.best_solution

pub record Walk : Type 0 where
  pub trees : List Tree
  pub search : Search
  pub tickets : ℕ

unfoldable pub round : Domain → ℕ → Walk → Walk
unfolding turn recorded
round d i w =
    let s = w.search in
    let e = entry s i in
    let b = bound d w.trees s in
    let u = turn d (goals s) b (tree w.trees e.tree) e.last_known_closed_len in
    record { trees = set w.trees e.tree u.tree; search = recorded d b s i u; tickets = w.tickets + u.tickets }

-- k entries from i on
unfoldable pub rounds : Domain → ℕ → ℕ → Walk → Walk
unfolding round
rounds d zero i w = w
rounds d (suc k) i w = rounds d k (suc i) (round d i w)

-- finished until an entry's queue says otherwise
unfoldable pub walk : Domain → List Tree → Search → Walk
unfolding rounds
walk d ts s = rounds d s.tree_count 0 (record { trees = ts; search = with_exhausted s true; tickets = 0 })

-- ---- opening a search

-- the slot of the tree that starts at v
unfoldable pub seek : List Tree → ℕ → ℕ → Option ℕ
seek [] v i = None
seek (t ∷ ts) v i = elim (eqb t.start v) [ true ↦ Some i | false ↦ seek ts v (suc i) ]

pub record Planted : Type 0 where
  pub trees : List Tree
  pub entries : List TreeMemory

-- "Starts without a start cost are skipped. Each other start makes one entry, doubles too, and one tree per start motif is shared. New
-- trees take the next slots in list order."
unfoldable pub plant : Domain → List Tree → ℕ → Bool → Option ℕ → Planted
unfolding new_tree
plant d ts v true o = record { trees = ts; entries = [] }
plant d ts v false (Some i) = record { trees = ts; entries = entry_of i ∷ [] }
plant d ts v false None = record { trees = ts ++ (new_tree d v ∷ []); entries = entry_of (length ts) ∷ [] }

unfoldable pub plant_all : Domain → List Tree → List ℕ → Planted
unfolding plant seek initial_cost
plant_all d ts [] = record { trees = ts; entries = [] }
plant_all d ts (v ∷ vs) =
    let p = plant d ts v (eqb (initial_cost d v) absent) (seek ts v 0) in
    let r = plant_all d p.trees vs in
    record { trees = r.trees; entries = p.entries ++ r.entries }

-- the starts that a list of starts stands for
abbrev pub starts_of : List ℕ → List ℕ
starts_of l = l

-- "A search opened on a backward book roots its trees at the wanted motifs and looks for the starts"
abbrev pub roots_of : Direction → List ℕ → List ℕ → List ℕ
roots_of forward ss gs = starts_of ss
roots_of backward ss gs = gs

abbrev pub goals_of : Direction → List ℕ → List ℕ → List ℕ
goals_of forward ss gs = gs
goals_of backward ss gs = starts_of ss

-- no entries, no goals, nothing held, not finished
abbrev pub empty_search : Search
empty_search =
    record {
      trees = replicate list_limit blank;
      tree_count = 0;
      goal_keys = replicate list_limit 0;
      goal_count = 0;
      best_solution = None;
      exhausted = false;
    }

-- entries es and goals gs in arrays of 64
abbrev pub new_search : List TreeMemory → List ℕ → Search
new_search es gs =
    record {
      trees = es ++ replicate (list_limit - length es) blank;
      tree_count = length es;
      goal_keys = gs ++ replicate (list_limit - length gs) 0;
      goal_count = length gs;
      best_solution = None;
      exhausted = false;
    }
