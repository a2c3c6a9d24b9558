-- Unused words are 0: several are tested at a time, by an or of all.
-- Assumes nothing.
use mathlib.Core.Path.{◌≡◌, sym, ap, ◌∙◌}
use mathlib.Core.Bool.{Bool, ◌&&◌, and-true, and_assoc}
use mathlib.Core.List.{List}
use Prim.Native.Nat.{ℕ, suc, ◌+◌, ◌<◌, ◌≤◌}
use native.Mathlib.Omega.{arith}
use native.Mathlib.Decide.{ℕ_discrete}
use native.Mathlib.Numerals.{add-one}
use borrow.Author.Tests.{ne_eqb}
use lib.Bits.{bit_or, or_add_and, and_le_r}
use lib.Dec.{eqb}
use lib.ListN.{length, get_or, drop, drop_of_length-le}
use lib.Seq.{drop-cons}
use Rattle.layout.specs.Sound.{zerosb}

-- an or is 0 exactly if both are
or-zeros : (a b : ℕ) → eqb (bit_or a b) 0 ≡ (eqb a 0 && eqb b 0)
or-zeros a b = elim (ℕ_discrete a 0) [
  | yes e ↦ ap (λ (x : ℕ). eqb (bit_or x b) 0) e ∙ ap (λ (x : ℕ). eqb x 0 && eqb b 0) (sym e)
  | no n ↦ ne_eqb (bit_or a b) 0 (λ z. n (omega (arith, or_add_and a b, and_le_r a b)))
      ∙ ap (λ (x : Bool). x && eqb b 0) (sym (ne_eqb a 0 n))
]

module _ (ws : List ℕ) (i : ℕ) where
  pub zeros_end : (k : ℕ) → length ws ≤ i → (eqb k 0 && zerosb (drop i ws)) ≡ eqb k 0
  unfolding zerosb
  zeros_end k h = ap (λ (x : List ℕ). eqb k 0 && zerosb x) (drop_of_length-le ws h) ∙ and-true (eqb k 0)

  -- one word more in the or
  pub zeros_next : (k : ℕ) → i < length ws → (eqb k 0 && zerosb (drop i ws)) ≡ (eqb (bit_or k (get_or ws i 0)) 0 && zerosb (drop (i + 1) ws))
  unfolding zerosb
  zeros_next k h =
      ap (λ (x : List ℕ). eqb k 0 && zerosb x) (drop-cons ws i 0 h)
      ∙ sym (and_assoc (eqb k 0) (eqb (get_or ws i 0) 0) (zerosb (drop (suc i) ws)))
      ∙ rw (← or-zeros, add-one)
