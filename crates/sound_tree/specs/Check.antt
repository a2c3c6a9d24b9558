-- What the functions of a tree's check promise each other: each answers one clause of the definition (model's Sound), or a few.
-- Assumes nothing.
use Rattle.std.specs.Prelude.{◌≡◌, Bool, true, false, List, [], ◌∷◌, ℕ, ◌+◌, ◌*◌, ◌<◌, ◌≤◌, min, eqb, leb, ltb, length, get_or}
use Rattle.model.specs.Limits.{vertex_limit, edge_limit, cost_limit}
use Rattle.model.specs.Lists.{mem, all_below, allb, upto}
use Rattle.model.specs.Graph.{Domain}
use Rattle.model.specs.Sound.{closerb, fewb, begunb, onward_allb}
use Rattle.layout.specs.Layout.{cost_in, queue_at, closed_words_at, tree_words, part, queued_in, start_in, used_in, vertex_in}
use Rattle.layout.specs.Read.{tree_in}
use Rattle.layout.specs.Sound.{queue_in, queue_tests}
use Rattle.layout.specs.Held.{Held}
use Rattle.queue.specs.Queue.{evaluation_in}
use Rattle.tree.specs.Tree.{tree_of, HasVertex}

-- the words of a slot, beside those of its cache
pub record CanCheck (m l : ℕ) (ws t : List ℕ) : Type 0 where
  pub held : Held m l ws
  pub len : length t ≡ tree_words m l

-- nodes used and queue length are within their areas, and there is a root
abbrev pub count_tests : ℕ → List ℕ → List Bool
count_tests l t = ltb 0 (used_in t) ∷ leb (used_in t) (1 + l) ∷ leb (queued_in t) (1 + l) ∷ []

pub record Counted (m l : ℕ) (ws t : List ℕ) : Type 0 where
  pub can : CanCheck m l ws t
  pub some_node : 0 < used_in t
  pub used : used_in t ≤ 1 + l
  pub queued : queued_in t ≤ 1 + l

-- the nodes hang: each node's vertex is one, and its cost is far below 2 ^ 32
pub record Hung (m l : ℕ) (ws t : List ℕ) : Type 0 where
  pub counted : Counted m l ws t
  pub start : start_in t < m
  pub vertex : (k : ℕ) → k < used_in t → vertex_in ws t k < m
  pub cost : (k : ℕ) → k < used_in t → cost_in t k ≤ cost_limit * (1 + k)

-- ---- the queue, with a mark for each node and the least waiting costs

-- "1 + L nodes"
abbrev pub node_limit : ℕ
node_limit = 1 + edge_limit

-- nodes and queue words are within their areas
pub record Areas (l : ℕ) (t : List ℕ) : Type 0 where
  pub edges : l ≤ edge_limit
  pub fits : closed_words_at l ≤ length t
  pub used : used_in t ≤ 1 + l
  pub queued : queued_in t ≤ 1 + l

-- and each node's vertex is below 1,024
pub record QueueWords (l : ℕ) (ws t : List ℕ) : Type 0 where
  pub areas : Areas l t
  pub vertex : (k : ℕ) → k < used_in t → vertex_in ws t k < vertex_limit

-- n marks: those of the numbers xs are on
pub record Marked (marks : List Bool) (n : ℕ) (xs : List ℕ) : Type 0 where
  pub len : length marks ≡ n
  pub mark : (k : ℕ) → k < n → get_or marks k false ≡ mem k xs

abbrev pub lesser_if : Bool → ℕ → ℕ → ℕ
lesser_if true a b = min a b
lesser_if false a b = b

-- more than any node is compared by
abbrev pub no_cost : ℕ
no_cost = 18446744073709551615

-- the least evaluation of the nodes xs of vertex v, no_cost where there is none
unfoldable pub least_cost : List ℕ → List ℕ → List ℕ → ℕ → ℕ
least_cost ws t [] v = no_cost
least_cost ws t (k ∷ ks) v = lesser_if (eqb (vertex_in ws t k) v) (evaluation_in t k) (least_cost ws t ks v)

-- "The check builds a table of 1,024 least waiting costs."
pub record LeastCosts (costs ws t xs : List ℕ) : Type 0 where
  pub len : length costs ≡ vertex_limit
  pub least : (v : ℕ) → v < vertex_limit → get_or costs v 0 ≡ least_cost ws t xs v

-- the tables after n queue words
pub record QueueTables (l : ℕ) (ws t : List ℕ) (n : ℕ) (marks : List Bool) (costs : List ℕ) : Type 0 where
  pub marked : Marked marks node_limit (part (queue_at l) n t)
  pub least : LeastCosts costs ws t (part (queue_at l) n t)

-- before queue word i, where those before it passed
pub record QueueTurn (l : ℕ) (ws t : List ℕ) (i : ℕ) (marks : List Bool) (costs : List ℕ) : Type 0 where
  pub words : QueueWords l ws t
  pub place : i < queued_in t
  pub passed : allb (queue_tests ws l t i) ≡ true
  pub tables : QueueTables l ws t i marks costs

-- the answer for n queue words, and the tables if it is yes
pub record QueueIs (l : ℕ) (ws t : List ℕ) (n : ℕ) (r : Bool) (marks : List Bool) (costs : List ℕ) : Type 0 where
  pub answer : r ≡ allb (queue_tests ws l t n)
  pub tables : r ≡ true → QueueTables l ws t n marks costs

-- ---- closed words and edges

-- a tree's words whose queue words passed
pub record Waits (l : ℕ) (ws t : List ℕ) : Type 0 where
  pub areas : Areas l t
  pub queue : allb (queue_tests ws l t (queued_in t)) ≡ true

-- queue words are nodes and are marked, and the start is a vertex
pub record RootMarked (l : ℕ) (t : List ℕ) (marks : List Bool) : Type 0 where
  pub areas : Areas l t
  pub nodes : all_below (used_in t) (queue_in l t) ≡ true
  pub start : HasVertex l t (start_in t)
  pub marked : Marked marks node_limit (queue_in l t)

-- for the words ws of any cache: the root's vertex is closed or the root waits
abbrev pub BegunIs : ℕ → List ℕ → Bool → Type 0
BegunIs l t r = (ws : List ℕ) → r ≡ begunb (tree_of ws l t)

-- queue words and closed words passed, and the table is filled
pub record LeadsOn (m l : ℕ) (ws t costs : List ℕ) : Type 0 where
  pub hung : Hung m l ws t
  pub queue : allb (queue_tests ws l t (queued_in t)) ≡ true
  pub closers : upto (closerb (tree_in ws m l t)) m ≡ true
  pub least : LeastCosts costs ws t (queue_in l t)

-- the clauses for which the tables are there
abbrev pub tables_tests : Domain → List ℕ → ℕ → ℕ → List ℕ → List Bool
tables_tests d ws m l t =
    let u = tree_in ws m l t in
    allb (queue_tests ws l t (queued_in t))
    ∷ upto (closerb u) m
    ∷ fewb d u
    ∷ begunb u
    ∷ onward_allb d u
    ∷ []
