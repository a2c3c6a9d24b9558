-- Queueing the edges of a vertex one by one.
-- Assumes nothing.
use mathlib.Core.Path.{◌≡◌, refl, ap, ◌∙◌}
use mathlib.Core.Bool.{Bool, true, false}
use mathlib.Core.List.{List, [], ◌∷◌, ◌++◌}
use Prim.Native.Nat.{ℕ, ◌+◌, ◌<◌, ◌≤◌}
use native.Mathlib.Numerals.{add-one}
use native.Mathlib.Omega.{arith}
use lib.ListN.{length, get_or, take, length-append}
use lib.Seq.{take-suc}
use Rattle.model.specs.Graph.{Domain}
use Rattle.model.specs.Tree.{Tree, Node, evaluation_of, closed_at, closed_within, push_if, push_node, child, push_all}
use Rattle.queue.specs.Queue.{figures}

push-snoc : (d : Domain) (n : ℕ) (p : Node) (t : Tree) (xs : List ℕ) (x : ℕ) → push_all d n p t (xs ++ (x ∷ [])) ≡ push_node (push_all d n p t xs) (child d n p x)
unfolding push_all
push-snoc d n p t [] x = refl
push-snoc d n p t (y ∷ ys) x = push-snoc d n p (push_node t (child d n p y)) ys x

pub push-next : (d : Domain) (n : ℕ) (p : Node) (t : Tree) (cs : List ℕ) (j : ℕ) → j < length cs
    → push_all d n p t (take (j + 1) cs) ≡ push_node (push_all d n p t (take j cs)) (child d n p (get_or cs j 0))
push-next d n p t cs j h = rw add-one (ap (push_all d n p t) (take-suc cs j 0 h) ∙ push-snoc d n p t (take j cs) (get_or cs j 0))

-- of the parent only its figures are looked at
pub push-figures : (d : Domain) (n : ℕ) (p : Node) (t : Tree) (cs : List ℕ) → push_all d n (figures p.cost) t cs ≡ push_all d n p t cs
unfolding push_all
push-figures d n p t [] = refl
push-figures d n p t (c ∷ cs) = push-figures d n p (push_node t (child d n p c)) cs

push-if : (b : Bool) (t : Tree) (x : Node) → length (push_if b t x).nodes ≤ length t.nodes + 1
push-if true t x = omega arith
push-if false t x = omega (arith, length-append t.nodes (x ∷ []))

-- at most one node
pub push-few : (t : Tree) (x : Node) → length (push_node t x).nodes ≤ length t.nodes + 1
unfolding push_node
push-few t x = push-if (closed_within t.nodes (evaluation_of x) (closed_at t.closed x.vertex)) t x
