-- Growing a tree of a cache: what the code promises.
-- Assumes nothing.
use Rattle.std.specs.Prelude.{◌≡◌, ◌⊎◌, Bool, true, false, not, List, ℕ, ◌+◌, ◌<◌, ◌≤◌, eqb, length, get_or, set}
use Rattle.std.specs.declared.option.Option.{Option}
use Rattle.model.specs.Lists.{mem}
use Rattle.model.specs.Graph.{Domain, choices}
use Rattle.model.specs.Tree.{Tree, node, closed_at, evaluation, expanded, Growth, Going, on, found, over, above, going_on, grow}
use Rattle.model.specs.Sound.{tree}
use Rattle.model.specs.Search.{find_of}
use Rattle.model.specs.Calls.{with_trees}
use Rattle.layout.specs.Layout.{slot_at, tree_words, edges_in, used_in, vertices_in}
use Rattle.layout.specs.Read.{read_cache}
use Rattle.layout.specs.Slots.{words_in, tree_at, domain_at}
use Rattle.layout.specs.declared.slots.Slot.{Slot}
use Rattle.tree.specs.Tree.{Formed}
use Rattle.sound.specs.Facts.{SoundWords, Ready}
use Rattle.grow.specs.declared.Grown.{Grown}
use Rattle.grow.specs.declared.Next.{Next}
use Rattle.grow.specs.declared.Next.TheVariants as next

-- ---- the promise of `grow`

-- the model's growing of the tree in slot i
abbrev pub growth_of : List ℕ → ℕ → List ℕ → Option ℕ → Growth
growth_of ws i gs b =
    let c = read_cache ws in
    grow c.domain gs b 10 (record { tree = tree c.trees i; tickets = 0; going = on })

-- every word outside of slot i is as it was
pub record Outside (m l i : ℕ) (ws left : List ℕ) : Type 0 where
  pub len : length left ≡ length ws
  pub word : (j : ℕ) → (j < slot_at m l i) ⊎ (slot_at m l i + tree_words m l ≤ j) → get_or left j 0 ≡ get_or ws j 0

-- tickets, find and the tree left are the model's; what is free is the arrangement of the tree's queue words
pub record Grew (ws : List ℕ) (i : ℕ) (gs : List ℕ) (b : Option ℕ) (r : Grown) (left : List ℕ) : Type 0 where
  pub tickets : r.tickets ≡ (growth_of ws i gs b).tickets
  pub solution : r.solution ≡ find_of (growth_of ws i gs b).going
  pub cache : read_cache left ≡ with_trees (read_cache ws) (set (read_cache ws).trees i (growth_of ws i gs b).tree)
  pub sound : SoundWords left
  pub outside : Outside (vertices_in ws) (edges_in ws) i ws left

-- ---- one ticket

-- is the vertex of node n closed in t?
abbrev pub is_closed : Tree → ℕ → Bool
is_closed t n = not (eqb (closed_at t.closed (node t.nodes n).vertex) 0)

-- the slot holds the tree u, and all other words are as they were
pub record SlotHolds (s : Slot) (ws left : List ℕ) (u : Tree) : Type 0 where
  pub outside : Outside s.vertices s.edges s.number ws left
  pub formed : Formed s.edges (words_in s left)
  pub tree : tree_at s left ≡ u

-- edge e can be queued, from a node of cost k
pub record CanPushChoice (s : Slot) (ws : List ℕ) (k e : ℕ) : Type 0 where
  pub ready : Ready s ws
  pub edge : e < s.edges
  pub cost : k ≤ 2100000000
  pub room : used_in (words_in s ws) < 1 + s.edges

-- the edges of vertex v can be queued
pub record CanPushChoices (s : Slot) (ws : List ℕ) (v k : ℕ) : Type 0 where
  pub ready : Ready s ws
  pub vertex : v < s.vertices
  pub cost : k ≤ 2100000000
  pub room : used_in (words_in s ws) + length (choices (domain_at s ws) v) ≤ 1 + s.edges

-- node n was taken from the queue
pub record CanVisit (s : Slot) (ws : List ℕ) (n : ℕ) : Type 0 where
  pub ready : Ready s ws
  pub used : n < used_in (words_in s ws)
  pub vertex : (node (tree_at s ws).nodes n).vertex < s.vertices
  pub cost : (node (tree_at s ws).nodes n).cost ≤ 2100000000
  pub room : is_closed (tree_at s ws) n ≡ false
      → used_in (words_in s ws) + length (choices (domain_at s ws) (node (tree_at s ws).nodes n).vertex) ≤ 1 + s.edges

-- the tree, and whether to go on, after node n was taken: "A ticket for a closed motif is spent and skipped. Any other .."
abbrev pub visited_if : Bool → Domain → Tree → ℕ → Tree
visited_if true d t n = t
visited_if false d t n = expanded d t n

abbrev pub going_if : Bool → List ℕ → Option ℕ → Tree → ℕ → Going
going_if true gs b t n = on
going_if false gs b t n = going_on (mem (node t.nodes n).vertex gs) (above (evaluation t.nodes n) b) n

-- the code's answer, for node n
abbrev pub going_of : ℕ → Next → Going
going_of n next.On = on
going_of n next.Found = found n
going_of n next.Over = over

-- "a wanted motif is a find and stops; then a cost above the bound stops"
abbrev pub GoesOn : List ℕ → Option ℕ → ℕ → ℕ → Next → Type 0
GoesOn gs b v k r = (n : ℕ) → going_of n r ≡ going_on (mem v gs) (above k b) n

pub record Visits (s : Slot) (ws left : List ℕ) (n : ℕ) (gs : List ℕ) (b : Option ℕ) (r : Next) : Type 0 where
  pub holds : SlotHolds s ws left (visited_if (is_closed (tree_at s ws) n) (domain_at s ws) (tree_at s ws) n)
  pub going : going_of n r ≡ going_if (is_closed (tree_at s ws) n) gs b (tree_at s ws) n
