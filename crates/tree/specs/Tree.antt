-- What the functions on one tree's words promise each other.
-- Assumes nothing.
use Rattle.std.specs.Prelude.{◌≡◌, List, ℕ, zero, suc, ◌+◌, ◌-◌, ◌<◌, ◌≤◌, length, get_or, set, None, Some}
use Rattle.std.specs.declared.option.Option.{Option}
use Rattle.model.specs.Limits.{vertex_limit, edge_limit}
use Rattle.model.specs.Graph.{Domain}
use Rattle.model.specs.Search.{closed_count, solution_cost, cheapest, consider}
use Rattle.model.specs.Tree.{Node, Tree, least, popped, close, closed_at, appended, push_node}
use Rattle.layout.specs.Layout.{queued_at, queued_in, used_in, node_at, queue_at, queue_word_in, closed_words_at, closed_word_in}
use Rattle.layout.specs.Read.{tree_in}
use Rattle.queue.specs.Queue.{times, rank, Heap}
use Rattle.tree.specs.declared.Node.{Node as NodeWords}
use Rattle.tree.specs.declared.partial_keyed_closed_set.CloseResult.{CloseResult}
use Rattle.tree.specs.declared.partial_keyed_closed_set.CloseResult.TheVariants.{Accepted, Rejected}

-- the tree that its words t hold, of the cache whose words are ws; all words behind the queue are closed words
abbrev pub tree_of : List ℕ → ℕ → List ℕ → Tree
tree_of ws l t = tree_in ws (length t - closed_words_at l) l t

abbrev pub node_of : NodeWords → Node
node_of x = record { vertex = x.vertex; cost = x.cost; parent = x.parent; edge = x.edge }

-- what every call finds and leaves: nodes and queue words within their areas, queue words distinct nodes in heap order, closed words
-- nodes, unused words 0
pub record Formed (l : ℕ) (t : List ℕ) : Type 0 where
  pub edges : l ≤ edge_limit
  pub fits : closed_words_at l ≤ length t
  pub vertices : length t ≤ closed_words_at l + vertex_limit
  pub used : used_in t ≤ 1 + l
  pub queued : queued_in t ≤ used_in t
  pub nodes : (i : ℕ) → i < queued_in t → queue_word_in l t i < used_in t
  pub once : (x : ℕ) → times t (queue_at l) (queued_in t) x ≤ 1
  pub heap : Heap (rank t (queue_at l)) (queued_in t)
  pub closers : (v : ℕ) → closed_words_at l + v < length t → closed_word_in l t v ≤ used_in t
  pub spare_nodes : (i : ℕ) → node_at (used_in t) ≤ i → i < queue_at l → get_or t i 0 ≡ 0
  pub spare_queue : (i : ℕ) → queue_at l + queued_in t ≤ i → i < closed_words_at l → get_or t i 0 ≡ 0

-- v is one of the vertices
abbrev pub HasVertex : ℕ → List ℕ → ℕ → Type 0
HasVertex l t v = closed_words_at l + v < length t

-- ---- taking the first node

-- t is s with its first ticket, for node k, taken, whatever the words ws of the cache; the queue has m words then
pub record Pops (l : ℕ) (s t : List ℕ) (k m : ℕ) : Type 0 where
  pub first : (ws : List ℕ) → least (tree_of ws l s).nodes (tree_of ws l s).waiting ≡ Some k
  pub tree : (ws : List ℕ) → tree_of ws l t ≡ popped (tree_of ws l s) k
  pub formed : Formed l t
  pub node : k < used_in t
  pub left : queued_in t ≡ m

-- the length m is handed back, and not stored yet
abbrev pub PopIs : ℕ → List ℕ → List ℕ → Option (ℕ × ℕ) → Type 0
PopIs l s t (Some (k, m)) = (queued_in t ≡ queued_in s) × Pops l s (set t queued_at m) k m
PopIs l s t None = ((ws : List ℕ) → least (tree_of ws l s).nodes (tree_of ws l s).waiting ≡ None) × (t ≡ s)

-- ---- the closed set

-- a closed word: 0, or one more than the node
abbrev pub status_of : ℕ → Option ℕ
status_of zero = None
status_of (suc n) = Some n

pub record CanClose (l : ℕ) (t : List ℕ) (v n : ℕ) : Type 0 where
  pub formed : Formed l t
  pub vertex : HasVertex l t v
  pub node : n < used_in t

pub record Closes (l : ℕ) (s t : List ℕ) (v n : ℕ) : Type 0 where
  pub before : closed_word_in l s v ≡ 0
  pub tree : (ws : List ℕ) → tree_of ws l t ≡ close (tree_of ws l s) v n
  pub formed : Formed l t

-- for the words ws of any cache: how many vertices are closed
abbrev pub ClosedCountIs : ℕ → List ℕ → ℕ → Type 0
ClosedCountIs l t r = (ws : List ℕ) → r ≡ closed_count (tree_of ws l t).closed

abbrev pub CloseIs : ℕ → List ℕ → List ℕ → ℕ → ℕ → CloseResult → Type 0
CloseIs l s t v n Accepted = Closes l s t v n
CloseIs l s t v n Rejected = (0 < closed_word_in l s v) × (t ≡ s)

-- each goal is one of the vertices
abbrev pub HasGoals : ℕ → List ℕ → List ℕ → Type 0
HasGoals l t gs = (i : ℕ) → i < length gs → HasVertex l t (get_or gs i 0)

-- a solution is a node
abbrev pub HasSolution : List ℕ → Option ℕ → Type 0
HasSolution t None = Unit {0}
HasSolution t (Some n) = n < used_in t

-- node n of the tree t is a solution: what it is worth in the domain d; ws: the words of the tree's cache
abbrev pub SolutionCostIs : Domain → List ℕ → List ℕ → ℕ → ℕ → Type 0
SolutionCostIs d ws t n r = (m l : ℕ) → r ≡ solution_cost d (tree_in ws m l t).nodes n

abbrev pub CheapestIs : Domain → List ℕ → ℕ → List ℕ → List ℕ → Option ℕ → Type 0
CheapestIs d ws l t gs r = r ≡ cheapest d (tree_of ws l t).nodes (tree_of ws l t).closed gs None

pub record Considers (d : Domain) (ws : List ℕ) (l : ℕ) (t : List ℕ) (o : Option ℕ) (v : ℕ) (r : Option ℕ) : Type 0 where
  pub node : HasSolution t r
  pub solution : r ≡ consider d (tree_of ws l t).nodes o (closed_at (tree_of ws l t).closed v)

-- ---- a node more

pub record CanAdd (l : ℕ) (t : List ℕ) : Type 0 where
  pub formed : Formed l t
  pub room : used_in t < 1 + l

pub record CanPushNode (l : ℕ) (t : List ℕ) (x : NodeWords) : Type 0 where
  pub add : CanAdd l t
  pub vertex : HasVertex l t x.vertex

-- t is s with the node x and its ticket
pub record Adds (l : ℕ) (s t : List ℕ) (x : Node) : Type 0 where
  pub tree : (ws : List ℕ) → tree_of ws l t ≡ appended (tree_of ws l s) x
  pub formed : Formed l t

-- and unless the vertex of x is closed at no greater cost
pub record PushesNode (l : ℕ) (s t : List ℕ) (x : Node) : Type 0 where
  pub tree : (ws : List ℕ) → tree_of ws l t ≡ push_node (tree_of ws l s) x
  pub formed : Formed l t
