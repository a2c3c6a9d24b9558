-- The test of two lists holds exactly if they are one.
-- Assumes nothing.
use mathlib.Core.Path.{◌≡◌, refl, sym, ap, ap₂}
use mathlib.Core.Bool.{Bool, true, true≢false, ◌&&◌}
use mathlib.Core.List.{List, [], ◌∷◌}
use Prim.Native.Nat.{ℕ, ◌<◌}
use borrow.Author.Tests.{eqb-true, eq-eqb}
use lib.Dec.{eqb}
use lib.ListN.{length, get_or}
use lib.Pointwise.{pointwise}
use lib.Seq.{ext_get_or}
use Rattle.model.proofs.Bools.{and-true, true-and}
use Rattle.layout.specs.Sound.{sameb}

pub same-is : (a b : List ℕ) → sameb a b ≡ true → a ≡ b
unfolding sameb
same-is [] [] e = refl
same-is [] (y ∷ ys) e = absurd (true≢false (sym e))
same-is (x ∷ xs) [] e = absurd (true≢false (sym e))
same-is (x ∷ xs) (y ∷ ys) e =
    let r = and-true (eqb x y) (sameb xs ys) e in
    ap₂ (λ (z : ℕ) (zs : List ℕ). z ∷ zs) (eqb-true x y r.0) (same-is xs ys r.1)

pub is_same : (a : List ℕ) → sameb a a ≡ true
unfolding sameb
is_same [] = refl
is_same (x ∷ xs) = true-and (eqb x x) (sameb xs xs) (eq-eqb x x refl) (is_same xs)

-- by the places of lists of one length
pub alike_same : (a b : List ℕ) → length a ≡ length b → ((i : ℕ) → i < length a → get_or a i 0 ≡ get_or b i 0) → sameb a b ≡ true
alike_same a b n h = rw (ext_get_or 0 a b n h) (is_same b)

-- it is what `==` answers at two slices
pub same_pointwise : (a b : List ℕ) → pointwise eqb a b ≡ sameb a b
unfolding sameb
same_pointwise [] [] = refl
same_pointwise [] (y ∷ ys) = refl
same_pointwise (x ∷ xs) [] = refl
same_pointwise (x ∷ xs) (y ∷ ys) = ap (λ (t : Bool). eqb x y && t) (same_pointwise xs ys)
