-- Numbers marked one by one in a table of marks, and a list with one number more at its end.
-- Assumes nothing.
use mathlib.Core.Path.{◌≡◌, refl, sym, ap, ◌∙◌}
use mathlib.Core.Bool.{Bool, true, false, not, ◌&&◌, ◌||◌, or-false}
use mathlib.Core.List.{List, [], ◌∷◌, ◌++◌}
use Prim.Native.Nat.{ℕ, ◌<◌}
use native.Mathlib.Omega.{arith}
use native.Mathlib.Decide.{ℕ_discrete}
use lib.Dec.{eqb}
use lib.ListN.{get_or, set, replicate, length-set, length-replicate, get_or-replicate}
use lib.Seq.{get_or-set_same, get_or-set_other}
use borrow.Author.Tests.{eq-eqb, ne_eqb}
use Rattle.model.specs.Lists.{mem}
use Rattle.model.specs.Sound.{distinctb}
use Rattle.model.proofs.Lists.{mem-nil, mem-snoc}
use Rattle.model.proofs.Bools.{true-or-right}
use Rattle.sound_tree.specs.Check.{Marked}

-- ---- one number more at the end

eqb_swap : (x y : ℕ) → eqb x y ≡ eqb y x
eqb_swap x y = elim (ℕ_discrete x y) [ yes e ↦ eq-eqb x y e ∙ sym (eq-eqb y x (sym e)) | no ne ↦ ne_eqb x y ne ∙ sym (ne_eqb y x (λ e. ne (sym e))) ]

pub distinct_snoc : (x : ℕ) (xs : List ℕ) → distinctb (xs ++ (x ∷ [])) ≡ (distinctb xs && not (mem x xs))
unfolding distinctb
distinct_snoc x [] = refl
distinct_snoc x (y ∷ ys) = rw (mem-snoc y x ys, distinct_snoc x ys, eqb_swap x y) (go (mem y ys) (eqb y x) (distinctb ys) (mem x ys))
  where
    go : (a b d m : Bool) → (not (a || b) && (d && not m)) ≡ ((not a && d) && not (b || m))
    go true b d m = refl
    go false true true m = refl
    go false true false m = refl
    go false false d m = refl

-- ---- marks

pub marked-none : (n : ℕ) → Marked (replicate n false) n []
marked-none n = record { len = length-replicate n false; mark = λ k h. get_or-replicate n k false false h ∙ sym (mem-nil k) }

pub marked_more : {marks : List Bool} {n k : ℕ} {xs : List ℕ} → Marked marks n xs → k < n → Marked (set marks k true) n (xs ++ (k ∷ []))
marked_more {marks} {n} {k} {xs} m h = record { len = length-set marks k true ∙ m.len; mark = mark }
  where
    mark : (j : ℕ) → j < n → get_or (set marks k true) j false ≡ mem j (xs ++ (k ∷ []))
    mark j g = elim (ℕ_discrete j k) [
      | yes e ↦
          rw e (get_or-set_same marks k true false (omega (arith, m.len)) ∙ sym (mem-snoc k k xs ∙ true-or-right (mem k xs) (eqb k k) (eq-eqb k k refl)))
      | no ne ↦
          get_or-set_other marks k j true false ne ∙ m.mark j g
          ∙ sym (mem-snoc j k xs ∙ ap (λ (b : Bool). mem j xs || b) (ne_eqb j k ne) ∙ or-false (mem j xs))
    ]
