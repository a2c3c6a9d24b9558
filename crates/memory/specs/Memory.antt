-- What the functions on a search record and the words of its cache ask for.
-- Assumes nothing.
use Rattle.std.specs.Prelude.{◌≡◌, Bool, not, ◌||◌, List, [], ◌∷◌, ℕ, ◌<◌, ◌≤◌, length, get_or, Some}
use Rattle.std.specs.declared.option.Option.{Option}
use Rattle.model.specs.Limits.{list_limit}
use Rattle.model.specs.declared.TreeMemory.{TreeMemory}
use Rattle.model.specs.declared.Search.{Search}
use Rattle.model.specs.Graph.{Domain}
use Rattle.model.specs.Tree.{Tree}
use Rattle.model.specs.Sound.{tree}
use Rattle.model.specs.Search.{entry, solution_cost, as_best}
use Rattle.model.specs.Valid.{closes_goal, same_cost, is_held}
use Rattle.layout.specs.Layout.{used_in, vertex_in, vertices_in}
use Rattle.layout.specs.Read.{read_cache}
use Rattle.tree.specs.Tree.{Formed, HasVertex}
use Rattle.sound.specs.Facts.{SoundWords, InUse}

-- node n is one of the tree in slot i
pub record HasNode (ws : List ℕ) (i n : ℕ) : Type 0 where
  pub used : InUse ws i
  pub node : n < length (tree (read_cache ws).trees i).nodes

-- the nodes of a tree's words are of its vertices
pub record HasVertices (l : ℕ) (ws t : List ℕ) : Type 0 where
  pub formed : Formed l t
  pub vertices : (i : ℕ) → i < used_in t → HasVertex l t (vertex_in ws t i)

-- the counts of a record are within its arrays, of 64 each
pub record Listed (s : Search) : Type 0 where
  pub trees : length s.trees ≡ list_limit
  pub entries : s.tree_count ≤ list_limit
  pub keys : length s.goal_keys ≡ list_limit
  pub goals : s.goal_count ≤ list_limit

-- the solution that an entry holds is a node of its tree, one of ts
pub record EntryHolds (ts : List Tree) (e : TreeMemory) : Type 0 where
  pub slot : e.tree < length ts
  pub node : (n : ℕ) → e.solution ≡ Some n → n < length (tree ts e.tree).nodes

abbrev pub CanJudge : List ℕ → TreeMemory → Type 0
CanJudge ws e = SoundWords ws × EntryHolds (read_cache ws).trees e

-- of refusal 8 what keeps a record's numbers in place: no "wanted number is M or more", no "entry's tree .. not in use", and solutions and best
-- are nodes of their trees
pub record Fits (m : ℕ) (ts : List Tree) (s : Search) : Type 0 where
  pub listed : Listed s
  pub goals : (i : ℕ) → i < s.goal_count → get_or s.goal_keys i 0 < m
  pub held : (i : ℕ) → i < s.tree_count → EntryHolds ts (entry s i)
  pub best : (i n : ℕ) → s.best_solution ≡ as_best i n → (i < s.tree_count) × (n < length (tree ts (entry s i).tree).nodes)

abbrev pub FitsWords : List ℕ → Search → Type 0
FitsWords ws s = Fits (vertices_in ws) (read_cache ws).trees s

-- what node n of an entry's tree t has to pass to be the best of a record, finished or not: o is what the entry holds, least what the cheapest of
-- the solutions held costs
abbrev pub best_node_tests : Domain → Tree → List ℕ → Option ℕ → ℕ → Option ℕ → Bool → List Bool
best_node_tests d t gs o n least x =
    closes_goal gs t n ∷ same_cost (Some (solution_cost d t.nodes n)) least ∷ (not x || is_held o) ∷ []
