-- Arrays filled and judged index by index, by a closure that stays as it is.
-- Assumes nothing.
use mathlib.Core.Path.{◌≡◌, refl, sym, ap, ap₂, ◌∙◌, subst}
use mathlib.Core.Bool.{Bool, true, ◌&&◌, and_comm, and-true}
use mathlib.Core.List.{List, [], ◌∷◌, map}
use Prim.Native.Nat.{ℕ, zero, suc, ◌+◌, ◌<◌, ◌≤◌}
use native.Mathlib.Decide.{ℕ_discrete}
use native.Mathlib.Numerals.{add-one}
use native.Mathlib.Omega.{arith}
use denote.Param.Members.{Mut}
use lib.ListN.{get_or}
use Rattle.std.specs.Fn.{Called}
use Rattle.std.specs.Array.{IsFromFnResult, IsFromFnResultFrom}
use Rattle.std.specs.List.{range_with_len, list_all}
use Rattle.std.proofs.lemmas.List.Folds.{list_all-append}
use Rattle.std.proofs.lemmas.List.FromFn.{fill_by_all}
use Rattle.model.specs.Lists.{up_from, numbers, upto}
use Rattle.model.proofs.Lists.{numbers-snoc}

-- std's range, and ours
range-up : (n a : ℕ) → range_with_len a n ≡ up_from n a
range-up zero a = refl
range-up (suc n) a = ap (λ (l : List ℕ). a ∷ l) (range-up n (a + 1) ∙ ap (up_from n) (add-one a))

-- p passes below n
all-numbers : (p : ℕ → Bool) (n : ℕ) → list_all p (numbers n) ≡ upto p n
unfolding upto
all-numbers p zero = refl
all-numbers p (suc n) =
    ap (list_all p) (numbers-snoc n)
    ∙ list_all-append p (numbers n) (n ∷ [])
    ∙ and_comm (list_all p (numbers n)) (p n && true)
    ∙ ap₂ (λ (a b : Bool). a && b) (and-true (p n)) (all-numbers p n)

pub all-upto : (p : ℕ → Bool) (n : ℕ) → list_all p (range_with_len 0 n) ≡ upto p n
all-upto p n = ap (list_all p) (range-up n 0) ∙ all-numbers p n

-- the closure f answers h of each index
module _ {F B : Type 0} {g : Mut F (ℕ × Unit {0}) B} (h : ℕ → B) (f : F) (same : (i : ℕ) (y : B) (q : F) → Called g f (i, tt) y q → (q ≡ f) × (y ≡ h i)) where
  made-at : (ys : List B) (n i : ℕ) → IsFromFnResultFrom g f ys i n → (k : ℕ) → i ≤ k → k < i + n → (d : B) → get_or ys k d ≡ h k
  made-at ys zero i m k a b d = absurd (omega arith)
  made-at ys (suc n) i (q, y, e, call, rest) k a b d = elim (ℕ_discrete k i) [
    | yes z ↦ ap (λ (x : ℕ). get_or ys x d) z ∙ e.1 d ∙ (same i y q call).1 ∙ ap h (sym z)
    | no z ↦ made-at ys n (i + 1) (subst (λ (s : F). IsFromFnResultFrom g s ys (i + 1) n) (same i y q call).0 rest) k (omega arith) (omega arith) d
  ]

  pub made-all : (ys : List B) (n : ℕ) (d : B) → IsFromFnResult g f ys n → ys ≡ map h (numbers n)
  made-all ys n d m = fill_by_all h ys n d m.long (λ k b. made-at ys n 0 m.each k (omega arith) (omega arith) d) ∙ ap (map h) (range-up n 0)
