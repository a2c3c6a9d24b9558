-- The turns of a search's entries in the words of a cache: what the code promises.
-- Assumes nothing.
use Rattle.std.specs.Prelude.{◌≡◌, Bool, true, false, List, ℕ, ◌<◌, ltb, length, get_or, set, None, Some}
use Rattle.std.specs.declared.option.Option.{Option}
use Rattle.model.specs.declared.BestSolution.{BestSolution}
use Rattle.model.specs.declared.TreeMemory.{TreeMemory}
use Rattle.model.specs.declared.Search.{Search}
use Rattle.model.specs.Graph.{Domain}
use Rattle.model.specs.Tree.{Tree, Node, least}
use Rattle.model.specs.Sound.{tree}
use Rattle.model.specs.Search.{solution_cost, closed_count, remembers, lookup, under, cheaper, Turn, turn, Walk, walk}
use Rattle.model.specs.Calls.{with_trees}
use Rattle.layout.specs.Layout.{edges_in, vertices_in}
use Rattle.layout.specs.Read.{read_cache}
use Rattle.layout.specs.Leaves.{Apart}
use Rattle.tree.specs.Tree.{tree_of, Formed, HasGoals}
use Rattle.sound.specs.Facts.{SoundWords, InUse}
use Rattle.grow.specs.declared.Grown.{Grown}
use Rattle.grow.specs.Grow.{Outside}
use Rattle.memory.specs.Memory.{FitsWords, HasNode}
use Rattle.entry_turns.specs.declared.Turned.{Turned}
use Rattle.entry_turns.specs.declared.Outcome.{Outcome}
use Rattle.entry_turns.specs.declared.Find.{Find}

-- ---- "Otherwise, for each entry in order"

pub record CanStep (ws : List ℕ) (s : Search) : Type 0 where
  pub sound : SoundWords ws
  pub fits : FitsWords ws s

-- the model's walk over the entries, on the cache that the words hold
abbrev pub walk_of : List ℕ → Search → Walk
walk_of ws s = let c = read_cache ws in walk c.domain c.trees s

pub record Steps (ws : List ℕ) (s : Search) (r : Turned) (left : List ℕ) : Type 0 where
  pub search : r.search ≡ (walk_of ws s).search
  pub tickets : r.tickets ≡ (walk_of ws s).tickets
  pub cache : read_cache left ≡ with_trees (read_cache ws) (walk_of ws s).trees
  pub sound : SoundWords left
  pub apart : Apart ws s left

-- ---- the turn of an entry, whose tree stands in slot i

abbrev pub tree_at : List ℕ → ℕ → Tree
tree_at ws i = tree (read_cache ws).trees i

-- the slot is in use, and the goals are vertices
pub record CanTurn (ws : List ℕ) (i : ℕ) (gs : List ℕ) : Type 0 where
  pub used : InUse ws i
  pub goals : (j : ℕ) → j < length gs → get_or gs j 0 < vertices_in ws

-- the model's turn of the entry e, with goals gs and the bound b
abbrev pub turn_of : List ℕ → TreeMemory → List ℕ → Option ℕ → Turn
turn_of ws e gs b = turn (read_cache ws).domain gs b (tree_at ws e.tree) e.last_known_closed_len

-- the turn u: what came of it, and the words hold the tree that it left
pub record Turns (ws : List ℕ) (i : ℕ) (u : Turn) (r : Outcome) (left : List ℕ) : Type 0 where
  pub known : r.known ≡ u.known
  pub find : r.find ≡ u.find
  pub more : r.more ≡ u.more
  pub tickets : r.tickets ≡ u.tickets
  pub cache : read_cache left ≡ with_trees (read_cache ws) (set (read_cache ws).trees i u.tree)
  pub sound : SoundWords left
  pub outside : Outside (vertices_in ws) (edges_in ws) i ws left

-- ---- 1. "The bound is the best total before this entry's turn"; "the cheapest closed wanted motif, first in the list on ties, is the find"

abbrev pub best_entry : Option BestSolution → ℕ
best_entry None = 0
best_entry (Some b) = b.entry

-- the best, if there is one, is a node of the tree in slot i
abbrev pub CanBound : List ℕ → Option BestSolution → ℕ → Type 0
CanBound ws best i = (b : BestSolution) → best ≡ Some b → HasNode ws i b.node

abbrev pub bound_in : Domain → List Node → Option BestSolution → Option ℕ
bound_in d ns None = None
bound_in d ns (Some b) = Some (solution_cost d ns b.node)

pub record CanLookUp (l : ℕ) (t gs : List ℕ) : Type 0 where
  pub formed : Formed l t
  pub goals : HasGoals l t gs

abbrev pub looks_up : Domain → List ℕ → ℕ → List ℕ → List ℕ → Option ℕ → Option ℕ → Type 0
looks_up d ws l t gs known r = r ≡ lookup d (tree_of ws l t) gs known

abbrev pub LooksUp : List ℕ → ℕ → List ℕ → Option ℕ → Option ℕ → Type 0
LooksUp ws i gs known r = r ≡ lookup (read_cache ws).domain (tree_at ws i) gs known

-- for the words ws of any cache: whether the closed count of the tree t is the remembered one
abbrev pub KnownIs : ℕ → List ℕ → Option ℕ → Bool → Type 0
KnownIs l t known r = (ws : List ℕ) → r ≡ remembers known (closed_count (tree_of ws l t).closed)

-- ---- 2. and 3. "the closed count is remembered, and a queue .. keeps the search unfinished"

-- for the words ws of any cache: whether the first ticket of the tree t is under the bound b
abbrev pub UnderIs : ℕ → List ℕ → Option ℕ → Bool → Type 0
UnderIs l t b r = (ws : List ℕ) → r ≡ under (tree_of ws l t).nodes (least (tree_of ws l t).nodes (tree_of ws l t).waiting) b

-- what comes of the growing g that left the tree t
pub record Remembers (t : Tree) (g : Grown) (b : Option ℕ) (r : Outcome) : Type 0 where
  pub known : r.known ≡ Some (closed_count t.closed)
  pub find : r.find ≡ g.solution
  pub more : r.more ≡ under t.nodes (least t.nodes t.waiting) b
  pub tickets : r.tickets ≡ g.tickets

-- ---- 4. "A find replaces the entry's run unless dearer, and is best only if strictly cheaper."

-- what the entry e holds, and the find o, are nodes of its tree
pub record CanRecord (ws : List ℕ) (e : TreeMemory) (o : Option ℕ) : Type 0 where
  pub used : InUse ws e.tree
  pub held : (n : ℕ) → e.solution ≡ Some n → n < length (tree_at ws e.tree).nodes
  pub find : (n : ℕ) → o ≡ Some n → n < length (tree_at ws e.tree).nodes

pub record CanCompare (ws : List ℕ) (i : ℕ) (held : Option ℕ) : Type 0 where
  pub used : InUse ws i
  pub node : (n : ℕ) → held ≡ Some n → n < length (tree_at ws i).nodes

-- a solution that is worth less than k is held
abbrev pub dearer_in : Domain → List Node → ℕ → Option ℕ → Bool
dearer_in d ns k None = false
dearer_in d ns k (Some h) = ltb (solution_cost d ns h) k

abbrev pub found_unless : Bool → ℕ → Bool → Option Find
found_unless true n x = None
found_unless false n x = Some (record { node = n; is_best = x })

-- what the find comes to, where h was held and b is the bound
abbrev pub found_in : Domain → List Node → Option ℕ → Option ℕ → Option ℕ → Option Find
found_in d ns h b None = None
found_in d ns h b (Some n) = found_unless (dearer_in d ns (solution_cost d ns n) h) n (cheaper (solution_cost d ns n) b)

abbrev pub found_of : List ℕ → TreeMemory → Option ℕ → Option ℕ → Option Find
found_of ws e o b = found_in (read_cache ws).domain (tree_at ws e.tree).nodes e.solution b o
