-- The tests of a tree's words in the order in which the check makes them. Two tests of the definition always pass: the waiting list
-- that is read off words has only nodes and ascends.
-- Assumes nothing.
use mathlib.Core.Path.{◌≡◌, sym, ap, ◌∙◌}
use mathlib.Core.Bool.{Bool, true, ◌&&◌}
use mathlib.Core.List.{List, [], ◌∷◌}
use Prim.Native.Nat.{ℕ}
use native.Mathlib.Omega.{arith}
use lib.Dec.{ltb}
use lib.ListN.{length}
use borrow.Author.Tests.{lt-ltb, eq-eqb}
use Rattle.model.specs.Lists.{numbers, mem, allb, upto, all_in, ascendsb}
use Rattle.model.specs.Graph.{Domain}
use Rattle.model.specs.Tree.{Tree}
use Rattle.model.specs.Sound.{root_tests, hang_allb, waiting_tests, closerb, sound_tests, soundb}
use Rattle.model.proofs.Bools.{and-true, true-and, all_true, true-given, at-all-in, at-ascends}
use Rattle.model.proofs.Lists.{up-ascends, numbers-mem, those-mem, those-ascends}
use Rattle.layout.specs.Read.{tree_in, domain_of}
use Rattle.layout.specs.Sound.{queue_in, form_tests, formedb, tree_wordsb, spare_tests}
use Rattle.layout.proofs.Edges.{vertex-count-in}
use Rattle.layout.proofs.Trees.{tree-nodes, tree-closed-length}
use Rattle.sound_tree.specs.Check.{CanCheck, count_tests, tables_tests}
use Rattle.model.proofs.InTurn.{same_tests}
use Rattle.layout.specs.Layout.{used_in}

-- ---- the waiting list

module _ (ws : List ℕ) (m l : ℕ) (t : List ℕ) where
  waiting-nodes : all_in (λ i. ltb i (length (tree_in ws m l t).nodes)) (tree_in ws m l t).waiting ≡ true
  unfolding tree_in
  waiting-nodes = at-all-in _ (tree_in ws m l t).waiting (λ i k.
      lt-ltb i _ (omega (arith, tree-nodes ws m l t, numbers-mem (used_in t) i (those-mem (λ n. mem n (queue_in l t)) (numbers (used_in t)) i k).0)))

  waiting-ascends : ascendsb 0 (tree_in ws m l t).waiting ≡ true
  unfolding tree_in
  waiting-ascends = at-ascends 0 (tree_in ws m l t).waiting (those-ascends (λ n. mem n (queue_in l t)) 0 (numbers (used_in t)) (up-ascends (used_in t) 0))

-- ---- the tests

-- as the check makes them
abbrev tree_tests : Domain → List ℕ → ℕ → ℕ → List ℕ → List Bool
tree_tests d ws m l t =
    let u = tree_in ws m l t in
    allb (count_tests l t)
    ∷ allb (root_tests d u)
    ∷ hang_allb d u
    ∷ allb (tables_tests d ws m l t)
    ∷ allb (spare_tests l t)
    ∷ []

module _ (m l : ℕ) (ws t : List ℕ) (h : CanCheck m l ws t) where
  abbrev d : Domain
  d = domain_of m l ws

  abbrev u : Tree
  u = tree_in ws m l t

  closed-length : length u.closed ≡ m
  closed-length = tree-closed-length ws m l t (omega (arith, h.len))

  closers : upto (closerb u) (length u.closed) ≡ upto (closerb u) m
  closers = ap (upto (closerb u)) closed-length

  some : ltb 0 (length u.nodes) ≡ ltb 0 (used_in t)
  some = ap (ltb 0) (tree-nodes ws m l t)

  passes : (formedb ws l t && soundb d u) ≡ true → allb (tree_tests d ws m l t) ≡ true
  unfolding formedb soundb
  passes e =
      let r = and-true (formedb ws l t) (soundb d u) e in
      let f = all_true (form_tests ws l t) r.0 in
      let s = all_true (sound_tests d u) r.1 in
      let closed = s.1.1.1.1.1 in
      true-given (tree_tests d ws m l t)
      (true-given (count_tests l t) (sym some ∙ s.0) f.0 f.1.0)
      s.1.0
      s.1.1.0
      (true-given (tables_tests d ws m l t) f.1.1.0 (sym closers ∙ closed.0) closed.1.0 closed.1.1.0 closed.1.1.1.0)
      f.1.1.1.0

  passed : allb (tree_tests d ws m l t) ≡ true → (formedb ws l t && soundb d u) ≡ true
  unfolding formedb soundb
  passed e =
      let r = all_true (tree_tests d ws m l t) e in
      let c = all_true (count_tests l t) r.0 in
      let tables = all_true (tables_tests d ws m l t) r.1.1.1.0 in
      true-and (formedb ws l t) (soundb d u)
      (true-given (form_tests ws l t) c.1.0 c.1.1.0 tables.0 r.1.1.1.1.0)
      (true-given (sound_tests d u)
      (some ∙ c.0)
      r.1.0
      r.1.1.0
      (true-given (waiting_tests u) (waiting-nodes ws m l t) (waiting-ascends ws m l t))
      (eq-eqb _ _ (closed-length ∙ sym (vertex-count-in m l ws (omega (arith, h.held.fits)))))
      (closers ∙ tables.1.0)
      tables.1.1.0
      tables.1.1.1.0
      tables.1.1.1.1.0)

pub tree_reads : (m l : ℕ) (ws t : List ℕ) → CanCheck m l ws t → tree_wordsb (domain_of m l ws) ws m l t ≡ allb (tree_tests (domain_of m l ws) ws m l t)
unfolding tree_wordsb
tree_reads m l ws t h = same_tests _ _ (passes m l ws t h) (passed m l ws t h)
