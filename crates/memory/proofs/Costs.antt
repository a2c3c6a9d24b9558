-- Costs where there may be none: the lesser of two, whether two are the same, and the least that the entries of a record hold.
-- Assumes nothing.
use mathlib.Core.Path.{◌≡◌, refl, sym, ap, ap₂, ◌∙◌}
use Rattle.std.specs.declared.option.Option.{Option}
use Rattle.std.specs.Prelude.{None, Some, is_some}
use Rattle.std.specs.Option.{option_eq}
use mathlib.Core.Bool.{Bool, true, false, not}
use mathlib.Core.List.{List}
use Prim.Native.Nat.{ℕ, suc, ◌-◌, ◌<◌, ◌≤◌}
use native.Mathlib.Omega.{arith}
use lib.Dec.{eqb}
use lib.ListN.{drop, drop_of_length-le}
use lib.Seq.{drop-cons}
use Rattle.model.specs.declared.TreeMemory.{TreeMemory}
use Rattle.model.specs.declared.Search.{Search}
use Rattle.model.specs.Graph.{Domain}
use Rattle.model.specs.Tree.{Tree}
use Rattle.model.specs.Sound.{tree}
use Rattle.model.specs.Search.{blank, entry, entries}
use Rattle.model.specs.Valid.{held_cost, lesser, least_held, same_cost, is_held}
use Rattle.model.proofs.Valid.{entries-length, entries_at}
use Rattle.memory.specs.Memory.{Listed}
use Rattle.memory.proofs.Fits.{listed-fits}

-- ---- the library's words for them

pub same-is : (a b : Option ℕ) → option_eq eqb a b ≡ same_cost a b
same-is None None = refl
same-is None (Some y) = refl
same-is (Some x) None = refl
same-is (Some x) (Some y) = refl

pub held-is : (o : Option ℕ) → is_some o ≡ is_held o
held-is None = refl
held-is (Some n) = refl

pub none-is : (o : Option ℕ) (b : Bool) → is_some o ≡ not b → b ≡ same_cost None o
none-is None true e = refl
none-is None false e = cc
none-is (Some x) true e = cc
none-is (Some x) false e = refl

-- ---- the least that is held, from the last entry on

-- what is known with i entries left
pub record Least (d : Domain) (ts : List Tree) (s : Search) (least : Option ℕ) (i : ℕ) : Type 0 where
  pub listed : Listed s
  pub left : i ≤ s.tree_count
  pub is : least ≡ least_held d ts (drop i (entries s))

pub least-none : (d : Domain) (ts : List Tree) {s : Search} → Listed s → Least d ts s None s.tree_count
unfolding least_held
least-none d ts {s} l = record {
  listed = l;
  left = omega arith;
  is = sym (ap (least_held d ts) (drop_of_length-le (entries s) {i = s.tree_count} (omega (arith, entries-length s (listed-fits l)))));
}

module _ {d : Domain} {ts : List Tree} {s : Search} {least : Option ℕ} {i : ℕ} (l : Least d ts s least i) where
  pub least_more : 0 < i → {held next : Option ℕ} → held ≡ held_cost d (tree ts (entry s (i - 1)).tree) (entry s (i - 1)).solution → next ≡ lesser held least
      → Least d ts s next (i - 1)
  unfolding least_held
  least_more h a b = record {
    listed = l.listed;
    left = omega (arith, l.left);
    is =
        let fits = listed-fits l.listed in
        let back : suc (i - 1) ≡ i = omega arith in
        let this = ap (λ (e : TreeMemory). held_cost d (tree ts e.tree) e.solution) (entries_at s fits (i - 1) (omega (arith, l.left))) in
        b
        ∙ ap₂ lesser (a ∙ sym this) (l.is ∙ ap (λ (k : ℕ). least_held d ts (drop k (entries s))) (sym back))
        ∙ sym (ap (least_held d ts) (drop-cons (entries s) (i - 1) blank (omega (arith, l.left, entries-length s fits))));
  }

  pub least-all : i ≤ 0 → least ≡ least_held d ts (entries s)
  least-all h = let e : i ≡ 0 = omega arith in l.is ∙ ap (λ (k : ℕ). least_held d ts (drop k (entries s))) e
