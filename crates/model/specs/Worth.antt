-- A node of a tree, what tickets are compared by, what an edge adds to that, and what a solution is worth. Nothing looks through the last
-- three but their laws, in Worth of the proofs, and examples that compute.
-- Assumes nothing.
use Rattle.std.specs.Prelude.{List, ℕ, ◌+◌, get_or}
use Rattle.model.specs.Graph.{Domain, to, cost, absent, initial_cost}

pub record Node : Type 0 where
  pub vertex : ℕ
  pub cost : ℕ
  pub parent : ℕ
  pub edge : ℕ

abbrev pub no_node : Node
no_node = record { vertex = 0; cost = 0; parent = 0; edge = 0 }

abbrev pub node : List Node → ℕ → Node
node ns i = get_or ns i no_node

-- "The root has 4294967295 as parent and link"
abbrev pub root_node : Domain → ℕ → Node
root_node d v = record { vertex = v; cost = initial_cost d v; parent = absent; edge = absent }

-- what the edge l gives, hung on node n, which is p: "costs the parent's cost plus picks"
abbrev pub child : Domain → ℕ → Node → ℕ → Node
child d n p l = record { vertex = to d.graph l; cost = p.cost + cost d.graph l; parent = n; edge = l }

-- the Rust's `queue_evaluation`: "queue words are distinct nodes in heap order by cost, then number"
unfoldable pub evaluation_of : Node → ℕ
evaluation_of x = x.cost

abbrev pub evaluation : List Node → ℕ → ℕ
evaluation ns i = evaluation_of (node ns i)

-- what an edge adds to an evaluation
unfoldable pub weight : Domain → ℕ → ℕ
weight d l = cost d.graph l

-- what finds, the best and the bound are compared by: "the cheapest closed wanted motif"
unfoldable pub solution_cost_of : Domain → Node → ℕ
unfolding evaluation_of
solution_cost_of d x = evaluation_of x

-- of the solution at node n
abbrev pub solution_cost : Domain → List Node → ℕ → ℕ
solution_cost d ns n = solution_cost_of d (node ns n)
