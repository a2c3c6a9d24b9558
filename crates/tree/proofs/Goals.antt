-- The cheapest closed goal: a vertex considered, and the goals one after another.
-- Assumes nothing.
use mathlib.Core.Path.{◌≡◌, sym, ap, ap₂, ◌∙◌, subst}
use Rattle.std.specs.declared.option.Option.{Option}
use Rattle.std.specs.Prelude.{None, Some}
use mathlib.Core.Bool.{Bool}
use mathlib.Core.List.{List}
use Prim.Native.Nat.{ℕ, suc, ◌+◌, ◌<◌, ◌≤◌}
use native.Mathlib.Numerals.{add-one}
use borrow.Author.Tests.{lt-ltb, le-ltb}
use lib.Dec.{ltb}
use lib.ListN.{length, get_or, drop, drop_of_length-le}
use lib.Seq.{drop-cons}
use Rattle.model.specs.Graph.{Domain}
use Rattle.model.specs.Search.{chosen, consider, cheapest}
use Rattle.model.specs.Tree.{node, closed_at}
use Rattle.model.proofs.Worth.{solution-is}
use Rattle.layout.specs.Read.{tree_in}
use Rattle.queue.specs.Queue.{evaluation_in}
use Rattle.tree.specs.Tree.{tree_of, Formed, HasVertex, HasSolution, status_of, SolutionCostIs, Considers, CheapestIs}
use Rattle.tree.proofs.Closed.{tree-word, open-word, closer-word, closer-used, node-cost}
use Rattle.layout.specs.Layout.{used_in, closed_word_in}

pub held-node : (t : List ℕ) {o : Option ℕ} {k : ℕ} → HasSolution t o → o ≡ Some k → k < used_in t
held-node t b p = subst (HasSolution t) p b

-- what a solution is worth: in any domain, its node's evaluation
pub solution-in : (d : Domain) (ws t : List ℕ) (n : ℕ) {x : ℕ} → n < used_in t → x ≡ evaluation_in t n → SolutionCostIs d ws t n x
solution-in d ws t n h e = λ m l. e ∙ sym (solution-is d (node (tree_in ws m l t).nodes n) ∙ node-cost ws m l t n h)

-- ---- a vertex of status s, considered where o is held

module _ {l : ℕ} {t : List ℕ} (v : ℕ) {s : Option ℕ} (f : Formed l t) (h : HasVertex l t v) (e : s ≡ status_of (closed_word_in l t v)) where
  pub goal-open : {d : Domain} {ws : List ℕ} (o : Option ℕ) → HasSolution t o → s ≡ None → Considers d ws l t o v o
  goal-open {d} {ws} o b q = record {
    node = b;
    solution = sym (ap (consider d (tree_of ws l t).nodes o) (tree-word ws l t v h ∙ open-word (closed_word_in l t v) (sym q ∙ e)));
  }

  module _ {k : ℕ} (q : s ≡ Some k) where
    word : closed_word_in l t v ≡ suc k
    word = closer-word _ k (sym q ∙ e)

    pub goal-node : k < used_in t
    goal-node = closer-used v f h word

    pub goal-first : {d : Domain} {ws : List ℕ} {o : Option ℕ} → o ≡ None → Considers d ws l t o v (Some k)
    goal-first {d} {ws} p = record { node = goal-node; solution = sym (ap₂ (consider d (tree_of ws l t).nodes) p (tree-word ws l t v h ∙ word)) }

    module _ (d : Domain) (ws : List ℕ) {o : Option ℕ} {i x y : ℕ} (b : HasSolution t o) (p : o ≡ Some i) (ex : SolutionCostIs d ws t k x) (ey : SolutionCostIs d ws t i y) where
      considered : consider d (tree_of ws l t).nodes o (closed_at (tree_of ws l t).closed v) ≡ chosen (ltb x y) k i
      considered = ap₂ (consider d (tree_of ws l t).nodes) p (tree-word ws l t v h ∙ word) ∙ ap₂ (λ (x y : ℕ). chosen (ltb x y) k i) (sym (ex _ l)) (sym (ey _ l))

      pub goal-cheaper : x < y → Considers d ws l t o v (Some k)
      goal-cheaper less = record { node = goal-node; solution = sym (considered ∙ ap (λ (c : Bool). chosen c k i) (lt-ltb x y less)) }

      pub goal-dearer : y ≤ x → Considers d ws l t o v (Some i)
      goal-dearer more = record { node = held-node t b p; solution = sym (considered ∙ ap (λ (c : Bool). chosen c k i) (le-ltb x y more)) }

-- ---- the goals one after another

-- o is the solution after the first i goals
pub record Cheapest (d : Domain) (ws : List ℕ) (l : ℕ) (t gs : List ℕ) (o : Option ℕ) (i : ℕ) : Type 0 where
  pub node : HasSolution t o
  pub solution : cheapest d (tree_of ws l t).nodes (tree_of ws l t).closed (drop i gs) o ≡ cheapest d (tree_of ws l t).nodes (tree_of ws l t).closed gs None

pub cheapest-more : {d : Domain} {ws : List ℕ} {l i v : ℕ} {t gs : List ℕ} {o r : Option ℕ} → Cheapest d ws l t gs o i → i < length gs → v ≡ get_or gs i 0 → Considers d ws l t o v r
    → Cheapest d ws l t gs r (i + 1)
unfolding cheapest
cheapest-more {d} {ws} {l} {i} {v} {t} {gs} {o} {r} c h e s =
    let ns = (tree_of ws l t).nodes in
    let cl = (tree_of ws l t).closed in
    record {
      node = s.node;
      solution =
          ap₂ (λ (x : Option ℕ) (p : ℕ). cheapest d ns cl (drop p gs) x) s.solution (add-one i)
          ∙ ap (λ (x : ℕ). cheapest d ns cl (drop (suc i) gs) (consider d ns o (closed_at cl x))) e
          ∙ sym (ap (λ (x : List ℕ). cheapest d ns cl x o) (drop-cons gs i 0 h))
          ∙ c.solution;
    }

pub cheapest-all : {d : Domain} {ws : List ℕ} {l i : ℕ} {t gs : List ℕ} {o : Option ℕ} → Cheapest d ws l t gs o i → length gs ≤ i → CheapestIs d ws l t gs o
unfolding cheapest
cheapest-all {d} {ws} {l} {i} {t} {gs} {o} c h =
    sym (ap (λ (x : List ℕ). cheapest d (tree_of ws l t).nodes (tree_of ws l t).closed x o) (drop_of_length-le gs h)) ∙ c.solution
