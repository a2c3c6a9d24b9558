-- Marks, how many there are, and what one more does to them.
-- Assumes nothing.
use mathlib.Core.Path.{◌≡◌, refl, sym, ap, ◌∙◌}
use mathlib.Core.Logic.{◌⊎◌, inl, inr}
use mathlib.Core.Bool.{Bool, true, false, cond}
use mathlib.Core.List.{List}
use Prim.Native.Nat.{ℕ, ◌+◌, ◌<◌, ◌≤◌}
use native.Mathlib.Decide.{dec_lt, ℕ_discrete}
use native.Mathlib.Omega.{arith}
use lib.ListN.{length, get_or, set, length-set}
use lib.Seq.{get_or-set_same, get_or-set_other, set_out, set-get_or}
use Rattle.std.proofs.lemmas.Bool.{cases_Bool}
use Rattle.std.proofs.lemmas.List.Sums.{sum_by-set, count_by-le-length}
use Rattle.reach.specs.Walk.{mark_count}

pub count-le : (m : List Bool) → mark_count m ≤ length m
count-le m = count_by-le-length (λ x. x) m

-- a new mark counts
pub count-new : (m : List Bool) (v : ℕ) → v < length m → get_or m v false ≡ false → mark_count (set m v true) ≡ mark_count m + 1
count-new m v h z =
    let none : cond {A = ℕ} (get_or m v false) 1 0 ≡ 0 = rw z refl in
    let one : mark_count (set m v true) + cond (get_or m v false) 1 0 ≡ mark_count m + 1 = sum_by-set (λ x. cond x 1 0) m v true false h in
    omega (arith, none, one)

-- a vertex that has a mark, or that is none
pub set-old : (m : List Bool) (v : ℕ) → (get_or m v false ≡ true) ⊎ (length m ≤ v) → set m v true ≡ m
set-old m v (inl e) = ap (set m v) (sym e) ∙ set-get_or m v false
set-old m v (inr h) = set_out m v true h

-- each mark after it
pub set-marks : (m : List Bool) (v x : ℕ) → get_or (set m v true) x false ≡ true → (x ≡ v) ⊎ (get_or m x false ≡ true)
set-marks m v x e = elim (ℕ_discrete x v) [ yes z ↦ inl z | no n ↦ inr (sym (get_or-set_other m v x true false n) ∙ e) ]

-- ---- marks that only become more

pub record Grows (m m' : List Bool) : Type 0 where
  pub len : length m' ≡ length m
  pub stay : (x : ℕ) → get_or m x false ≡ true → get_or m' x false ≡ true
  pub more : mark_count m ≤ mark_count m'
  pub same : mark_count m' ≡ mark_count m → m' ≡ m

pub grows-refl : (m : List Bool) → Grows m m
grows-refl m = record { len = refl; stay = λ x e. e; more = omega arith; same = λ e. refl }

pub grows-trans : {m n o : List Bool} → Grows m n → Grows n o → Grows m o
grows-trans a b = record {
  len = b.len ∙ a.len;
  stay = λ x e. b.stay x (a.stay x e);
  more = omega (arith, a.more, b.more);
  same = λ e. b.same (omega (arith, a.more, b.more)) ∙ a.same (omega (arith, a.more, b.more));
}

pub grows-set : (m : List Bool) (v : ℕ) → Grows m (set m v true)
grows-set m v = elim (dec_lt v (length m)) [
  | yes h ↦ elim (cases_Bool (get_or m v false)) [ inl e ↦ rw (set-old m v (inl e)) (grows-refl m) | inr z ↦ new h z ]
  | no h ↦ rw (set-old m v (inr (omega arith))) (grows-refl m)
]
  where
    new : v < length m → get_or m v false ≡ false → Grows m (set m v true)
    new h z = record {
      len = length-set m v true;
      stay = λ x o. elim (ℕ_discrete x v) [
        | yes e ↦ ap (λ (y : ℕ). get_or (set m v true) y false) e ∙ get_or-set_same m v true false h
        | no n ↦ get_or-set_other m v x true false n ∙ o
      ];
      more = omega (arith, count-new m v h z);
      same = λ e. absurd (omega (arith, count-new m v h z));
    }
