-- The path to a node of a tree's words: what the code promises.
-- Assumes nothing.
use Rattle.std.specs.Prelude.{◌≡◌, List, ℕ, ◌+◌, ◌*◌, ◌<◌, ◌≤◌, length}
use Rattle.model.specs.Tree.{Node}
use Rattle.model.specs.Path.{moves_of, words}
use Rattle.model.specs.Calls.{written}
use Rattle.layout.specs.Layout.{header_words, node_at, used_in, parent_in}
use Rattle.layout.specs.Read.{direction_of, nodes_in}

-- the nodes that a tree's words t hold, of the cache whose words are ws
abbrev pub nodes_of : List ℕ → List ℕ → List Node
nodes_of ws t = nodes_in ws (used_in t) t

-- node n is one of them, and from it on each parent's number is smaller
pub record Hung (t : List ℕ) (n : ℕ) : Type 0 where
  pub used : n < used_in t
  pub within : node_at (used_in t) ≤ length t
  pub parents : (i : ℕ) → 0 < i → i ≤ n → parent_in t i < i

-- for the words ws of any cache: how many edges lead to node n
abbrev pub MovesIs : List ℕ → ℕ → ℕ → Type 0
MovesIs t n r = (ws : List ℕ) → r ≡ moves_of (nodes_of ws t) n

-- ws: the cache's words; room: a slice of k words has room for the path
pub record CanBacktrack (ws t : List ℕ) (n k : ℕ) : Type 0 where
  pub header : header_words ≤ length ws
  pub hung : Hung t n
  pub room : 1 + 2 * moves_of (nodes_of ws t) n ≤ k

-- p is the slice lent, q what it then holds: "Words past these stay."
pub record Backtracks (ws t : List ℕ) (dir n : ℕ) (p : List ℕ) (r : ℕ) (q : List ℕ) : Type 0 where
  pub count : r ≡ 1 + 2 * moves_of (nodes_of ws t) n
  pub path : q ≡ written (words (direction_of dir) (nodes_of ws t) n) p
