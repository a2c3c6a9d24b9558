-- `all` over a range of numbers answers what the test of all numbers below its end says.
-- Assumes nothing.
use mathlib.Core.Path.{◌≡◌, refl, sym, ap, ◌∙◌}
use mathlib.Core.Bool.{Bool, true, false, ◌&&◌, ◌||◌, and-true, and_comm, and_assoc}
use mathlib.Core.List.{List}
use Prim.Native.Nat.{ℕ, zero, suc, ◌+◌, ◌-◌, ◌<◌}
use native.Mathlib.Nat.{add-zero, zero-add}
use native.Mathlib.Numerals.{add-one}
use native.Mathlib.Omega.{arith}
use borrow.Author.Tests.{ne_eqb}
use denote.Param.Members.{Mut}
use lib.Dec.{eqb}
use Rattle.std.specs.Bool.{⊤}
use Rattle.std.specs.Fn.{Called}
use Rattle.std.specs.Iterator.{YieldsThen}
use Rattle.std.specs.List.{FoldsTo, list_all, range_with_len}
use Rattle.std.specs.Option.{MatchOption}
use Rattle.std.specs.declared.ops.Range.{Range}
use Rattle.std.specs.declared.option.Option.{Option}
use Rattle.std.proofs.iter.Yields.{nat_range_steps}
use Rattle.std.proofs.lemmas.Iterator.{YieldsList-from_range}
use Rattle.std.proofs.lemmas.Iterator.Search.{all_from_yields_List}
use Rattle.model.specs.Lists.{upto}

-- the n numbers from a on
upto_range : (p : ℕ → Bool) (n a : ℕ) → upto p (a + n) ≡ (upto p a && list_all p (range_with_len a n))
unfolding upto
upto_range p zero a = rw add-zero (sym (and-true (upto p a)))
upto_range p (suc n) a =
    let next : a + suc n ≡ a + 1 + n = omega arith in
    ap (upto p) next
    ∙ upto_range p n (a + 1)
    ∙ rw add-one (ap (λ (b : Bool). b && list_all p (range_with_len (suc a) n)) (and_comm (p a) (upto p a))
    ∙ and_assoc (upto p a) (p a) (list_all p (range_with_len (suc a) n)))

-- of numbers above 0 alone, a test that 0 passes anyway
range_above : (h : ℕ → Bool) (n a : ℕ) → 0 < a → list_all h (range_with_len a n) ≡ list_all (λ k. eqb k 0 || h k) (range_with_len a n)
range_above h zero a o = refl
range_above h (suc n) a o =
    (λ i. (sym (ne_eqb a 0 (omega arith)) i || h a) && range_above h n (a + 1) (omega arith) i)

-- r is what `all` answered over s, with a closure that tests p
module _ {F : Type 0} {g : Mut F (ℕ × ⊤) Bool} {s u : Range ℕ} {f : F} {r : Bool}
    (ran : (xs : List ℕ) × (o : Option ℕ) × (j : F) × YieldsThen nat_range_steps s xs o u × FoldsTo (λ p x q. Called g p (x, tt) true q) f xs j
    × MatchOption o (r ≡ true) (λ x. (r ≡ false) × ((h : F) × Called g j (x, tt) false h))) (p : ℕ → Bool) (n : ℕ)
    (same : (x : ℕ) (b : Bool) (q : F) → Called g f (x, tt) b q → (q ≡ f) × (b ≡ p x)) where
  ranged : (a k : ℕ) → s ≡ record { start = a; end = n } → n - a ≡ k → r ≡ list_all p (range_with_len a k)
  ranged a k e d = all_from_yields_List p u f r ran (YieldsList-from_range a n k e d) same

  pub all_upto : s ≡ record { start = 0; end = n } → r ≡ upto p n
  unfolding upto
  all_upto e = ranged 0 n e (omega arith) ∙ sym (ap (upto p) (sym (zero-add n)) ∙ upto_range p n 0)

  pub all_above : {m : ℕ} → s ≡ record { start = 1; end = m } → 0 < m → m ≡ n → r ≡ upto (λ k. eqb k 0 || p k) n
  unfolding upto
  all_above {m} e o d =
      let whole : n ≡ 1 + (n - 1) = omega arith in
      ranged 1 (n - 1) (e ∙ ap (λ (x : ℕ). record { start = 1; end = x }) d) refl
      ∙ range_above p (n - 1) 1 (omega arith)
      ∙ sym (ap (upto (λ k. eqb k 0 || p k)) whole ∙ upto_range (λ k. eqb k 0 || p k) (n - 1) 1)
