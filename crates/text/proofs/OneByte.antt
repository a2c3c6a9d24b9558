-- Texts of one byte.
-- Assumes nothing.
use mathlib.Core.Path.{◌≡◌, refl, sym, ap}
use mathlib.Core.Bool.{true, false, true≢false}
use mathlib.Core.List.{List, [], ◌∷◌}
use Prim.Native.Nat.{ℕ}
use native.Mathlib.Omega.{arith}
use borrow.Author.Tests.{eqb-true, ne_eqb}
use Rattle.text.specs.Bytes.{is_only}
use Rattle.text.proofs.Pieces.{Above}

pub only-is : (b : ℕ) (l : List ℕ) → is_only b l ≡ true → l ≡ b ∷ []
only-is b [] e = absurd (true≢false (sym e))
only-is b (x ∷ []) e = ap (λ (y : ℕ). y ∷ []) (eqb-true x b e)
only-is b (x ∷ y ∷ l) e = absurd (true≢false (sym e))

pub only_above : (b : ℕ) (l : List ℕ) → Above b l → is_only b l ≡ false
only_above b [] h = refl
only_above b (x ∷ []) h = ne_eqb x b (omega arith)
only_above b (x ∷ y ∷ l) h = refl
