-- The laws of what is compared. No other proof looks through `evaluation_of`, `weight` and `solution_cost_of`.
-- Assumes nothing.
use mathlib.Core.Path.{◌≡◌, refl, ◌∙◌}
use mathlib.Core.List.{List, [], ◌∷◌}
use Prim.Native.Nat.{ℕ, ◌+◌, ◌<◌, ◌≤◌}
use native.Mathlib.Omega.{arith}
use Rattle.model.specs.Graph.{Domain, Accepted, Leads, total, cost, initial_cost}
use Rattle.model.specs.Worth.{Node, child, evaluation_of, evaluation, weight, solution_cost_of}
use Rattle.model.specs.Tree.{Tree}
use Rattle.model.specs.Sound.{Sound}
use Rattle.model.specs.Reference.{cost_of}

-- ---- evaluations: a child's is its parent's plus the edge's weight

pub child-evaluation : (d : Domain) (n : ℕ) (p : Node) (l : ℕ) → evaluation_of (child d n p l) ≡ evaluation_of p + weight d l
unfolding evaluation_of weight
child-evaluation d n p l = refl

-- it looks at nothing but costs
pub evaluation-same : (x y : Node) → x.cost ≡ y.cost → evaluation_of x ≡ evaluation_of y
unfolding evaluation_of
evaluation-same x y e = e

-- the evaluation of a root at v
unfoldable pub root_weight : Domain → ℕ → ℕ
root_weight d v = initial_cost d v

pub root-evaluation : (d : Domain) (t : Tree) → Sound d t → evaluation t.nodes 0 ≡ root_weight d t.start
unfolding evaluation_of root_weight
root-evaluation d t ok = ok.root-cost

-- so the evaluation of a node that the edges ls lead to from a root at v
abbrev pub weights : Domain → List ℕ → ℕ
weights d [] = 0
weights d (l ∷ ls) = weight d l + weights d ls

abbrev pub path_weight : Domain → ℕ → List ℕ → ℕ
path_weight d v ls = root_weight d v + weights d ls

-- ---- worth: a solution's is at least its node's evaluation, and a path's that of a solution at its end

pub evaluation-solution : (d : Domain) (x : Node) → evaluation_of x ≤ solution_cost_of d x
unfolding solution_cost_of
evaluation-solution d x = omega arith

-- the worth of a solution at the vertex x that the edges ls lead to from a root at v
unfoldable pub path_worth : Domain → ℕ → List ℕ → ℕ → ℕ
path_worth d v ls x = path_weight d v ls

pub weight-worth : (d : Domain) (v : ℕ) (ls : List ℕ) (x : ℕ) → path_weight d v ls ≤ path_worth d v ls x
unfolding path_worth
weight-worth d v ls x = omega arith

pub solution-worth : (d : Domain) (v : ℕ) (ls : List ℕ) (x : Node) → evaluation_of x ≤ path_weight d v ls → solution_cost_of d x ≤ path_worth d v ls x.vertex
unfolding solution_cost_of path_worth
solution-worth d v ls x h = h

-- ---- totals: what is least by evaluation, or by worth, of all paths from v to y is least by cost

weights-total : (d : Domain) (ls : List ℕ) → weights d ls ≡ total d.graph ls
unfolding weight
weights-total d [] = refl
weights-total d (l ∷ ls) = omega (arith, weights-total d ls)

module _ (d : Domain) (acc : Accepted d.graph) (x : Node) (v y : ℕ) where
  pub least-cost : ((ls : List ℕ) → Leads d.graph v ls y → evaluation_of x ≤ path_weight d v ls)
      → (ls : List ℕ) → Leads d.graph v ls y → x.cost ≤ initial_cost d v + total d.graph ls
  unfolding evaluation_of root_weight
  least-cost least ls l = omega (arith, least ls l, weights-total d ls)

  pub least-total : ((ls : List ℕ) → Leads d.graph v ls y → solution_cost_of d x ≤ path_worth d v ls y)
      → (ls : List ℕ) → Leads d.graph v ls y → x.cost ≤ initial_cost d v + total d.graph ls
  unfolding solution_cost_of path_worth
  least-total least ls l = least-cost least ls l

-- ---- where these are computed: a sum of two fits 64 bits

pub evaluation-small : (x : Node) → x.cost < 4294967296 → evaluation_of x < 9223372036854775808
unfolding evaluation_of
evaluation-small x h = omega arith

pub weight-small : (d : Domain) (l : ℕ) → cost d.graph l < 4294967296 → weight d l < 9223372036854775808
unfolding weight
weight-small d l h = omega arith

pub evaluation-is : (x : Node) → evaluation_of x ≡ x.cost
unfolding evaluation_of
evaluation-is x = refl

pub weight_is : (d : Domain) (l : ℕ) → weight d l ≡ cost d.graph l
unfolding weight
weight_is d l = refl

pub solution-is : (d : Domain) (x : Node) → solution_cost_of d x ≡ evaluation_of x
unfolding solution_cost_of
solution-is d x = refl

-- ---- where they are compared with the Rust's

pub evaluation-cost : (x : Node) → evaluation_of x ≡ cost_of x
unfolding evaluation_of
evaluation-cost x = refl

pub solution-costs : (d : Domain) (x : Node) → solution_cost_of d x ≡ cost_of x
solution-costs d x = solution-is d x ∙ evaluation-cost x
