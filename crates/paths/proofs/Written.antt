-- A slice written: its first word, and two words more, behind what was written or in front of it.
-- Assumes nothing.
use mathlib.Core.Path.{◌≡◌, refl, sym, ap, ap₂, ◌∙◌}
use mathlib.Core.List.{List, [], ◌∷◌, ◌++◌, append-nil}
use Prim.Native.Nat.{ℕ, suc, ◌+◌, ◌-◌, ◌<◌, ◌≤◌}
use native.Mathlib.Omega.{arith}
use lib.ListN.{length, set, take, drop, length-append}
use lib.Seq.{sets-eq, take-append_seam, drop-append-add, drop-drop, take-length, drop-length}
use borrow.Rule.Slice.PartMut.{mid_of, put_mid}
use Rattle.model.specs.Calls.{written}
use Rattle.model.proofs.Demand1.{written-length}

pub written-first : (v : ℕ) (p : List ℕ) → 0 < length p → set p 0 v ≡ written (v ∷ []) p
written-first v [] h = absurd (omega arith)
written-first v (a ∷ p) h = refl

pub written_behind : (r p : List ℕ) (l v : ℕ) → length r + 2 ≤ length p → set (set (written r p) (length r) l) (length r + 1) v ≡ written (r ++ (l ∷ v ∷ [])) p
written_behind r p l v h =
    let next : length r + 1 ≡ suc (length r) = omega arith in
    ap (λ (n : ℕ). set (set (written r p) (length r) l) n v) next
    ∙ sets-eq (l ∷ v ∷ []) (written r p) (length r) (omega (arith, written-length r p (omega arith)))
    ∙ ap₂ (λ (x y : List ℕ). (x ++ (l ∷ v ∷ [])) ++ y) (take-append_seam r (drop (length r) p)) (drop-append-add r (drop (length r) p) 2 ∙ drop-drop 2 (length r) p)
    ∙ ap (λ (n : ℕ). (r ++ (l ∷ v ∷ [])) ++ drop n p) (sym (length-append r (l ∷ v ∷ [])))

pub written-before : (r p : List ℕ) (l v : ℕ) → 2 ≤ length p
    → set (set (put_mid 2 (length p - 2) p (written r (mid_of 2 (length p - 2) p))) 0 v) 1 l ≡ written (v ∷ l ∷ r) p
written-before r [] l v h = absurd (omega arith)
written-before r (a ∷ []) l v h = absurd (omega arith)
written-before r (a ∷ b ∷ p) l v h =
    let n : suc (suc (length p)) - 2 ≡ length p = omega arith in
    ap (λ (k : ℕ). v ∷ l ∷ (written r (take k p) ++ drop k p)) n
    ∙ ap₂ (λ (x y : List ℕ). v ∷ l ∷ (written r x ++ y)) (take-length p) (drop-length p)
    ∙ ap (λ (x : List ℕ). v ∷ l ∷ x) (append-nil (written r p))
