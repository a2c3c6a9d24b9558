-- The table of least waiting costs tells whether a node of a vertex waits at no more than a cost.
-- Assumes nothing.
use mathlib.Core.Path.{◌≡◌, refl, sym, ap, ◌∙◌}
use mathlib.Core.Bool.{Bool, true, false, ◌&&◌, ◌||◌}
use mathlib.Core.List.{List, [], ◌∷◌}
use Prim.Native.Nat.{ℕ, ◌<◌, min}
use native.Mathlib.Omega.{arith}
use native.Mathlib.Decide.{dec_le}
use lib.Dec.{eqb, leb, ltb}
use lib.ListN.{get_or}
use borrow.Author.Tests.{ltb-true, le-leb, lt-leb}
use Rattle.model.specs.Lists.{all_below, any_in}
use Rattle.model.specs.Tree.{node, evaluation}
use Rattle.model.proofs.Bools.{and-true}
use Rattle.layout.specs.Layout.{used_in, vertex_in}
use Rattle.layout.specs.Read.{tree_in}
use Rattle.layout.specs.Sound.{queue_in}
use Rattle.layout.proofs.Trees.{tree-node}
use Rattle.queue.specs.Queue.{evaluation_in}
use Rattle.queue.proofs.Keys.{node-evaluation}
use Rattle.sound_tree.specs.Check.{no_cost, lesser_if, least_cost, LeastCosts}
use Rattle.sound_tree.proofs.Waiting.{any-waiting}

lesser-within : (b : Bool) (x y k : ℕ) → leb (lesser_if b x y) k ≡ ((b && leb x k) || leb y k)
lesser-within false x y k = refl
lesser-within true x y k = elim (dec_le x k) [
  | yes h ↦ rw (le-leb x k h) (le-leb (min x y) k (omega arith))
  | no n ↦ elim (dec_le y k) [
    | yes h ↦ rw (lt-leb x k (omega arith), le-leb y k h) (le-leb (min x y) k (omega arith))
    | no o ↦ rw (lt-leb x k (omega arith), lt-leb y k (omega arith)) (lt-leb (min x y) k (omega arith))
  ]
]

module _ (m l : ℕ) (ws t : List ℕ) (v k : ℕ) (small : k < no_cost) where
  abbrev within : ℕ → Bool
  within i = eqb (node (tree_in ws m l t).nodes i).vertex v && leb (evaluation (tree_in ws m l t).nodes i) k

  least-within : (xs : List ℕ) → all_below (used_in t) xs ≡ true → leb (least_cost ws t xs v) k ≡ any_in within xs
  unfolding least_cost any_in
  least-within [] e = lt-leb no_cost k small
  least-within (x ∷ xs) e =
      let r = and-true (ltb x (used_in t)) (all_below (used_in t) xs) e in
      rw (tree-node ws m l t x (ltb-true x (used_in t) r.0), node-evaluation ws t x, ← least-within xs r.1)
      (lesser-within (eqb (vertex_in ws t x) v) (evaluation_in t x) (least_cost ws t xs v) k)

  pub waits-within : (costs : List ℕ) → all_below (used_in t) (queue_in l t) ≡ true → LeastCosts costs ws t (queue_in l t) → v < 1024
      → leb (get_or costs v 0) k ≡ any_in within (tree_in ws m l t).waiting
  waits-within costs below c h =
      ap (λ (x : ℕ). leb x k) (c.least v h) ∙ least-within (queue_in l t) below ∙ sym (any-waiting ws m l t below within)
