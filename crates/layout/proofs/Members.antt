-- What std's `contains` and `all` test of a list is what our definitions test of it.
-- Assumes nothing.
use mathlib.Core.Path.{◌≡◌, refl, ap, ap₂}
use mathlib.Core.Bool.{Bool, ◌&&◌, ◌||◌}
use mathlib.Core.List.{List, [], ◌∷◌}
use Prim.Native.Nat.{ℕ}
use native.Mathlib.Omega.{arith}
use lib.Dec.{eqb, ltb}
use Rattle.std.specs.List.{list_any, list_all}
use Rattle.std.proofs.lemmas.Bool.Decides.{nat_tests}
use Rattle.model.specs.Lists.{all_below, mem}

turned : (a b : ℕ) → eqb a b ≡ eqb b a
turned a b = grind (arith, nat_tests)

pub mem_any : (v : ℕ) (xs : List ℕ) → mem v xs ≡ list_any (λ x. eqb x v) xs
unfolding mem
mem_any v [] = refl
mem_any v (x ∷ xs) = ap₂ (λ (a b : Bool). a || b) (turned v x) (mem_any v xs)

pub below_all : (n : ℕ) (xs : List ℕ) → list_all (λ x. ltb x n) xs ≡ all_below n xs
below_all n [] = refl
below_all n (x ∷ xs) = ap (λ (b : Bool). ltb x n && b) (below_all n xs)
