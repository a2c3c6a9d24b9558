-- Tests one after the other: one more that passes, one that fails, the last one.
-- Assumes nothing.
use mathlib.Core.Path.{◌≡◌, refl, sym, ap, ◌∙◌}
use mathlib.Core.Bool.{Bool, true, false, not, ◌&&◌, and-true}
use mathlib.Core.List.{List, [], ◌∷◌}
use Prim.Native.Nat.{ℕ, zero, suc, ◌+◌, ◌≤◌}
use native.Mathlib.Numerals.{add-one}
use native.Mathlib.Omega.{arith}
use borrow.Author.Tests.{not-false}
use lib.ListN.{length, get_or, take}
use Rattle.model.specs.Lists.{allb, upto}
use Rattle.model.proofs.Bools.{Given, true-and, upto-at, at-upto}

and-false : (a b : Bool) → b ≡ false → (a && b) ≡ false
and-false true b e = e
and-false false b e = refl

-- two tests that pass together are one
pub same_tests : (a b : Bool) → (a ≡ true → b ≡ true) → (b ≡ true → a ≡ true) → a ≡ b
same_tests true b f g = sym (f refl)
same_tests false true f g = g refl
same_tests false false f g = refl

-- ---- of the numbers below n

-- a loop over the numbers below n, where b is what it says of i: the numbers below i passed
module _ (p : ℕ → Bool) where
  pub none_yet : upto p 0 ≡ true
  unfolding upto
  none_yet = refl

  pub one_more : (i : ℕ) (b : Bool) → upto p i ≡ true → b ≡ p i → not b ≡ false → upto p (i + 1) ≡ true
  unfolding upto
  one_more i b w e f = rw add-one (true-and (p i) (upto p i) (sym e ∙ not-false b f) w)

  pub all-passed : (n i : ℕ) → upto p i ≡ true → n ≤ i → true ≡ upto p n
  all-passed n i w h = sym (at-upto p n (λ j k. upto-at p i w j (omega arith)))

-- ---- of a list

-- the test at place k fails
pub all-fails : (bs : List Bool) (k : ℕ) → get_or bs k true ≡ false → allb bs ≡ false
all-fails [] zero e = e
all-fails [] (suc k) e = e
all-fails (b ∷ bs) zero e = ap (λ (x : Bool). x && allb bs) e
all-fails (b ∷ bs) (suc k) e = and-false b (allb bs) (all-fails bs k e)

last-to : (bs : List Bool) (k : ℕ) (R : Type 0) → length bs ≡ suc k → (get_or bs k true ≡ allb bs → R) → Given (take k bs) R
last-to [] k R n f = absurd (omega arith)
last-to (b ∷ []) zero R n f = f (sym (and-true b))
last-to (b ∷ x ∷ xs) zero R n f = absurd (omega arith)
last-to (b ∷ bs) (suc k) R n f = λ p. last-to bs k R (omega arith) (λ q. f (q ∙ ap (λ (x : Bool). x && allb bs) (sym p)))

-- the tests bs, read off words as cs
pub read-fails : {bs cs : List Bool} → bs ≡ cs → (k : ℕ) → get_or cs k true ≡ false → false ≡ allb bs
read-fails {cs = cs} e k f = sym (ap allb e ∙ all-fails cs k f)

-- where all tests before it pass, the last one decides
pub read-last : {bs cs : List Bool} → bs ≡ cs → (k : ℕ) → length cs ≡ suc k → Given (take k cs) (get_or cs k true ≡ allb bs)
read-last {bs} {cs} e k n = last-to cs k (get_or cs k true ≡ allb bs) n (λ q. q ∙ sym (ap allb e))
