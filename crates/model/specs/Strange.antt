-- Refusal 8, "strange search", in 01's order and words: what holds of a record exactly if it passes the tests of Valid.
-- Assumes nothing.
use Rattle.std.specs.Prelude.{◌≡◌, ◌↔◌, true, ℕ, suc, ◌<◌, ◌≤◌, length, Some, None}
use mathlib.Core.List.{List, Memᴰ}
use Rattle.model.specs.Limits.{list_limit}
use Rattle.model.specs.declared.Search.{Search}
use Rattle.model.specs.Graph.{Domain, vertex_count}
use Rattle.model.specs.Tree.{Tree, node, closed_at}
use Rattle.model.specs.Sound.{tree}
use Rattle.model.specs.Search.{entry, goals, solution_cost, as_best}
use Rattle.model.specs.Valid.{valid}

-- node n of t is "the closed node of a wanted motif". In a sound tree, and 7 is refused before 8, a closed word names one of the nodes
pub record ClosesGoal (gs : List ℕ) (t : Tree) (n : ℕ) : Type 0 where
  pub wanted : Memᴰ (node t.nodes n).vertex gs
  pub closes : closed_at t.closed (node t.nodes n).vertex ≡ suc n

-- the tree of entry i, and what the run that its node n ends costs
abbrev pub tree_of : List Tree → Search → ℕ → Tree
tree_of ts s i = tree ts (entry s i).tree

abbrev pub run_cost : Domain → List Tree → Search → ℕ → ℕ → ℕ
run_cost d ts s i n = solution_cost d (tree_of ts s i).nodes n

-- the run of node n is one of "the runs held": entry i's
pub record HoldsRun (s : Search) (i n : ℕ) : Type 0 where
  pub counted : i < s.tree_count
  pub held : (entry s i).solution ≡ Some n

-- k is "what the least of the runs held costs"
pub record LeastHeld (d : Domain) (ts : List Tree) (s : Search) (k : ℕ) : Type 0 where
  pub holder : ℕ
  pub run : ℕ
  pub holds : HoldsRun s holder run
  pub costs : run_cost d ts s holder run ≡ k
  pub least : (i n : ℕ) → HoldsRun s i n → k ≤ run_cost d ts s i n

-- each field shuts out the clause that stands above it
pub record NotStrange (d : Domain) (ts : List Tree) (s : Search) : Type 0 where
  -- "an entry's tree is not in use"
  pub in_use : (i : ℕ) → i < s.tree_count → (entry s i).tree < length ts
  -- "a remembered count passes M"
  pub remembers : (i n : ℕ) → i < s.tree_count → (entry s i).last_known_closed_len ≡ Some n → n ≤ vertex_count d.graph
  -- "or a list 64"; the arrays that the lists stand in have 64 elements in every struct
  pub entry_list : s.tree_count ≤ list_limit
  pub goal_list : s.goal_count ≤ list_limit
  pub entry_array : length s.trees ≡ list_limit
  pub goal_array : length s.goal_keys ≡ list_limit
  -- "a wanted number is M or more"
  pub wanted : (v : ℕ) → Memᴰ v (goals s) → v < vertex_count d.graph
  -- "an entry's run .. is not the closed node of a wanted motif"
  pub runs : (i n : ℕ) → HoldsRun s i n → ClosesGoal (goals s) (tree_of ts s i) n
  -- "or the best in its entry's tree, is not .."; its entry is one of the entries
  pub best-entry : (i n : ℕ) → s.best_solution ≡ as_best i n → i < s.tree_count
  pub best : (i n : ℕ) → s.best_solution ≡ as_best i n → ClosesGoal (goals s) (tree_of ts s i) n
  -- "the best does not cost what the least of the runs held costs"; with no best there is no run held
  pub least : (i n : ℕ) → s.best_solution ≡ as_best i n → LeastHeld d ts s (run_cost d ts s i n)
  pub none_held : s.best_solution ≡ None → (i n : ℕ) → ¬ HoldsRun s i n
  -- "or a search finished as solved holds no run": the best's entry, whose run is the one answered, holds one
  pub finished : s.exhausted ≡ true → (i n : ℕ) → s.best_solution ≡ as_best i n → (h : ℕ) × HoldsRun s i h

-- "Given exactly if": the tests pass exactly if no clause is met
abbrev pub StrangeExactly : Type 0
StrangeExactly = (d : Domain) (ts : List Tree) (s : Search) → (valid d ts s ≡ true) ↔ NotStrange d ts s
