-- An array that is filled from the front.
-- Assumes nothing.
use mathlib.Core.Path.{◌≡◌, sym, ap, ◌∙◌}
use mathlib.Core.List.{List, [], ◌∷◌, ◌++◌}
use Prim.Native.Nat.{ℕ, suc, ◌-◌, ◌<◌}
use native.Mathlib.Omega.{arith}
use lib.ListN.{length, set, replicate, length-append}
use lib.Seq.{append_snoc, set-append_seam}

-- one element more
pub set-filled : {A : Type 0} (n : ℕ) (l : List A) (x b : A) → length l < n
    → set (l ++ replicate (n - length l) b) (length l) x ≡ (l ++ (x ∷ [])) ++ replicate (n - length (l ++ (x ∷ []))) b
set-filled n l x b h =
    let k = n - suc (length l) in
    let left : n - length l ≡ suc k = omega arith in
    let less : k ≡ n - length (l ++ (x ∷ [])) = omega (arith, length-append l (x ∷ [])) in
    ap (λ (j : ℕ). set (l ++ replicate j b) (length l) x) left
    ∙ set-append_seam l b (replicate k b) x
    ∙ sym (append_snoc l x (replicate k b))
    ∙ ap (λ (j : ℕ). (l ++ (x ∷ [])) ++ replicate j b) less
