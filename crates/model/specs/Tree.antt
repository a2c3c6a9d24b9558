-- A tree of a cache, and growing it ticket by ticket.
-- Assumes nothing.
use Rattle.std.specs.Prelude.{Bool, true, false, not, ◌&&◌, ◌||◌, List, [], ◌∷◌, ◌++◌, ℕ, zero, suc, eqb, leb, ltb, length, get_or, set, replicate, None, Some}
use Rattle.std.specs.declared.option.Option.{Option}
use Rattle.model.specs.Lists.{keep, mem}
use Rattle.model.specs.Graph.{Domain, choices, vertex_count}
pub use Rattle.model.specs.Worth.{Node, no_node, node, root_node, child, evaluation_of, evaluation, weight}

-- waiting: the numbers of the nodes in the queue, ascending. closed: for each vertex 0, or the number plus 1 of the node that closed it
pub record Tree : Type 0 where
  pub start : ℕ
  pub nodes : List Node
  pub waiting : List ℕ
  pub closed : List ℕ

abbrev pub closed_at : List ℕ → ℕ → ℕ
closed_at cl v = get_or cl v 0

-- a new tree: its root waits
unfoldable pub new_tree : Domain → ℕ → Tree
new_tree d v = record { start = v; nodes = root_node d v ∷ []; waiting = 0 ∷ []; closed = replicate (vertex_count d.graph) 0 }

-- ---- the least ticket: "equal costs taken by lower node number"

abbrev pub precedes : List Node → ℕ → ℕ → Bool
precedes ns a b = ltb (evaluation ns a) (evaluation ns b) || (eqb (evaluation ns a) (evaluation ns b) && ltb a b)

abbrev pub pick : Bool → ℕ → ℕ → ℕ
pick true i b = i
pick false i b = b

unfoldable pub least_of : List Node → ℕ → List ℕ → ℕ
least_of ns b [] = b
least_of ns b (i ∷ is) = least_of ns (pick (precedes ns i b) i b) is

unfoldable pub least : List Node → List ℕ → Option ℕ
unfolding least_of
least ns [] = None
least ns (i ∷ is) = Some (least_of ns i is)

unfoldable pub without : ℕ → List ℕ → List ℕ
without n [] = []
without n (i ∷ is) = keep (not (eqb i n)) i (without n is)

-- the tree with node n taken from its queue
unfoldable pub popped : Tree → ℕ → Tree
unfolding without
popped t n = record { start = t.start; nodes = t.nodes; waiting = without n t.waiting; closed = t.closed }

-- ---- "closes its motif and queues its links, except to motifs closed at no greater cost"

unfoldable pub close : Tree → ℕ → ℕ → Tree
close t v n = record { start = t.start; nodes = t.nodes; waiting = t.waiting; closed = set t.closed v (suc n) }

-- a closed word: of a node of evaluation k or less
abbrev pub closed_within : List Node → ℕ → ℕ → Bool
closed_within ns k zero = false
closed_within ns k (suc i) = leb (evaluation ns i) k

-- the node with the next number, and its ticket
abbrev pub appended : Tree → Node → Tree
appended t x = record { start = t.start; nodes = t.nodes ++ (x ∷ []); waiting = t.waiting ++ (length t.nodes ∷ []); closed = t.closed }

abbrev pub push_if : Bool → Tree → Node → Tree
push_if true t x = t
push_if false t x = appended t x

-- the Rust's `push_node`
unfoldable pub push_node : Tree → Node → Tree
push_node t x = push_if (closed_within t.nodes (evaluation_of x) (closed_at t.closed x.vertex)) t x

-- the edges ls, hung on node n, which is p
unfoldable pub push_all : Domain → ℕ → Node → Tree → List ℕ → Tree
unfolding push_node
push_all d n p t [] = t
push_all d n p t (l ∷ ls) = push_all d n p (push_node t (child d n p l)) ls

-- node n closes its vertex, and the edges of that vertex are queued
unfoldable pub expanded : Domain → Tree → ℕ → Tree
unfolding close choices push_all
expanded d t n = let x = node t.nodes n in push_all d n x (close t x.vertex n) (choices d x.vertex)

-- ---- growing: tree, tickets taken, and whether to go on

pub data Going : Type 0 where
  on : Going
  found : ℕ → Going
  over : Going

pub record Growth : Type 0 where
  pub tree : Tree
  pub tickets : ℕ
  pub going : Going

abbrev pub above : ℕ → Option ℕ → Bool
above k None = false
above k (Some b) = ltb b k

-- "a wanted motif is a find and stops; then a cost above the bound stops"
abbrev pub going_on : Bool → Bool → ℕ → Going
going_on true o n = found n
going_on false true n = over
going_on false false n = on

-- node n was popped; is its vertex closed? "A ticket for a closed motif is spent and skipped. Any other closes its motif .."
unfoldable pub taken : Domain → List ℕ → Option ℕ → Tree → ℕ → ℕ → Bool → Growth
unfolding popped expanded mem
taken d goals b t k n true = record { tree = popped t n; tickets = suc k; going = on }
taken d goals b t k n false =
    record { tree = expanded d (popped t n) n; tickets = suc k; going = going_on (mem (node t.nodes n).vertex goals) (above (evaluation t.nodes n) b) n }

-- "No ticket left ends the growing"
unfoldable pub ticket_of : Domain → List ℕ → Option ℕ → Tree → ℕ → Option ℕ → Growth
unfolding taken
ticket_of d goals b t k None = record { tree = t; tickets = k; going = over }
ticket_of d goals b t k (Some n) = taken d goals b t k n (not (eqb (closed_at t.closed (node t.nodes n).vertex) 0))

unfoldable pub ticket : Domain → List ℕ → Option ℕ → Tree → ℕ → Going → Growth
unfolding ticket_of least
ticket d goals b t k on = ticket_of d goals b t k (least t.nodes t.waiting)
ticket d goals b t k (found i) = record { tree = t; tickets = k; going = found i }
ticket d goals b t k over = record { tree = t; tickets = k; going = over }

-- "at most ten tickets": the count falls
unfoldable pub grow : Domain → List ℕ → Option ℕ → ℕ → Growth → Growth
unfolding ticket
grow d goals b zero g = g
grow d goals b (suc j) g = grow d goals b j (ticket d goals b g.tree g.tickets g.going)
