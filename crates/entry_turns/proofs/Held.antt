-- A find compared with what is held.
-- Assumes nothing.
use mathlib.Core.Path.{◌≡◌, refl, sym, ap, ◌∙◌}
use Rattle.std.specs.declared.option.Option.{Option}
use Rattle.std.specs.Prelude.{None, Some}
use mathlib.Core.Bool.{Bool, true, false}
use mathlib.Core.List.{List}
use Prim.Native.Nat.{ℕ}
use lib.Dec.{ltb}
use Rattle.model.specs.declared.BestSolution.{BestSolution}
use Rattle.model.specs.declared.TreeMemory.{TreeMemory}
use Rattle.model.specs.declared.Search.{Search}
use Rattle.model.specs.Graph.{Domain}
use Rattle.model.specs.Worth.{Node, solution_cost}
use Rattle.model.specs.Search.{entry, dearer, cheaper, with_find, replaced_unless, replaced}
use Rattle.layout.specs.Read.{read_cache}
use Rattle.memory.specs.Memory.{HasNode}
use Rattle.entry_turns.specs.declared.Find.{Find}
use Rattle.entry_turns.specs.Turn.{tree_at, bound_in, CanRecord, CanCompare, dearer_in, found_unless, found_in, found_of}

-- ---- the best, and the solution that is held

pub best-bound : (d : Domain) (ns : List Node) {best : Option BestSolution} {o : BestSolution} {k : ℕ} → best ≡ Some o → k ≡ solution_cost d ns o.node → Some k ≡ bound_in d ns best
best-bound d ns e c = ap Some c ∙ sym (ap (bound_in d ns) e)

pub held-node : {ws : List ℕ} {slot n : ℕ} {held : Option ℕ} → CanCompare ws slot held → held ≡ Some n → HasNode ws slot n
held-node {n = n} c e = record { used = c.used; node = c.node n e }

pub held-dearer : (d : Domain) (ns : List Node) (k : ℕ) {n x : ℕ} {held : Option ℕ} → held ≡ Some n → x ≡ solution_cost d ns n → ltb x k ≡ dearer_in d ns k held
held-dearer d ns k e c = ap (λ (y : ℕ). ltb y k) c ∙ sym (ap (dearer_in d ns k) e)

-- ---- the find o of the entry e

module _ {ws : List ℕ} {e : TreeMemory} {o : Option ℕ} (can : CanRecord ws e o) where
  pub find-node : {n : ℕ} → o ≡ Some n → HasNode ws e.tree n
  find-node {n} z = record { used = can.used; node = can.find n z }

  pub can-compare : CanCompare ws e.tree e.solution
  can-compare = record { used = can.used; node = can.held }

module _ (ws : List ℕ) (e : TreeMemory) (b : Option ℕ) where
  pub found_none : {o : Option ℕ} → o ≡ None → None ≡ found_of ws e o b
  found_none z = sym (ap (λ (y : Option ℕ). found_of ws e y b) z)

  abbrev d : Domain
  d = (read_cache ws).domain

  abbrev ns : List Node
  ns = (tree_at ws e.tree).nodes

  -- k: what the find costs; dear: whether what is held costs less
  module _ {o : Option ℕ} {n k : ℕ} {dear : Bool} (z : o ≡ Some n) (cost : k ≡ solution_cost d ns n) (test : dear ≡ dearer_in d ns k e.solution) where
    is_found : found_of ws e o b ≡ found_unless dear n (cheaper k b)
    is_found = ap (λ (y : Option ℕ). found_of ws e y b) z ∙ sym (ap (λ (p : Bool). found_unless p n (cheaper k b)) test ∙ ap (λ (y : ℕ). found_unless (dearer_in d ns y e.solution) n (cheaper y b)) cost)

    pub found-dearer : dear ≡ true → None ≡ found_of ws e o b
    found-dearer q = sym (is_found ∙ ap (λ (p : Bool). found_unless p n (cheaper k b)) q)

    -- less: whether the find costs less than the bound
    pub found-replaces : {less : Bool} → dear ≡ false → less ≡ cheaper k b → Some (record { node = n; is_best = less }) ≡ found_of ws e o b
    found-replaces {less} q l = sym (is_found ∙ ap (λ (p : Bool). found_unless p n (cheaper k b)) q ∙ ap (λ (x : Bool). Some (record { node = n; is_best = x })) (sym l))

-- ---- what is recorded of it

abbrev pub with_found : Search → ℕ → Option Find → Search
with_found s i None = s
with_found s i (Some f) = with_find s i f.node f.is_best

dearer-is : (d : Domain) (ns : List Node) (n : ℕ) (h : Option ℕ) → dearer d ns n h ≡ dearer_in d ns (solution_cost d ns n) h
dearer-is d ns n None = refl
dearer-is d ns n (Some h) = refl

pub with-found : (d : Domain) (ns : List Node) (b : Option ℕ) (s : Search) (i : ℕ) (o : Option ℕ) → with_found s i (found_in d ns (entry s i).solution b o) ≡ replaced d ns b s i o
with-found d ns b s i None = refl
with-found d ns b s i (Some n) = go (dearer_in d ns (solution_cost d ns n) (entry s i).solution) ∙ sym (ap (λ (p : Bool). replaced_unless p s i n less) (dearer-is d ns n (entry s i).solution))
  where
    less : Bool
    less = cheaper (solution_cost d ns n) b

    go : (p : Bool) → with_found s i (found_unless p n less) ≡ replaced_unless p s i n less
    go true = refl
    go false = refl
