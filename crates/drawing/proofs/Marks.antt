-- The table of marks that a path's words make.
-- Assumes nothing.
use mathlib.Core.Path.{◌≡◌, refl, sym, ap, ◌∙◌}
use mathlib.Core.Bool.{Bool, true, false, not, ◌||◌, cond}
use mathlib.Core.List.{List, [], ◌∷◌}
use Prim.Native.Nat.{ℕ, suc, ◌+◌, ◌<◌, ◌≤◌}
use native.Mathlib.Omega.{arith}
use native.Mathlib.Decide.{ℕ_discrete}
use borrow.Author.Tests.{lt-ltb, eq-eqb, ne_eqb}
use lib.Dec.{eqb, ltb}
use denote.Ref.{Bor}
use Rattle.std.specs.declared.iter.Skip.{Skip}
use Rattle.std.specs.declared.iter.StepBy.{StepBy}
use Rattle.std.specs.declared.slice.Iter.{Iter}
use Rattle.std.specs.Iterator.{Yields}
use Rattle.std.specs.Iterator.Adapters.{skip_source, skip_count, skip_steps, step_by_source, step_by_gap, step_by_first_take, step_by_steps}
use Rattle.std.specs.Slice.Iter.{iter_rest, iter_steps}
use Rattle.std.specs.Prelude.{Some, None}
use Rattle.std.specs.Int.{from_bool}
use lib.ListN.{length, get_or, set, drop, replicate, length-set, length-drop, length-replicate, get_or-replicate, drop_of_length-le}
use lib.Seq.{get_or-set_same, get_or-set_other}
use Rattle.drawing.specs.Drawing.{stands}
use Rattle.drawing.specs.Puts.{with_mark, Table}

-- the walk over every other word, and the words left, of which the first counts if the walk is fresh
abbrev Walk : Type 0
Walk = StepBy (Skip (Iter ℕ))

abbrev pub rest_of : Skip (Iter ℕ) → List ℕ
rest_of s = drop (skip_count s) (iter_rest (skip_source s))

abbrev pub left_of : Walk → List ℕ
left_of s = rest_of (step_by_source s)

-- the marks made, and what the words left will add, are what all the words make
pub record Filled (first : Bool) (ws : List ℕ) (table : List Bool) (s : Walk) : Type 0 where
  pub size : length table ≡ 2048
  pub gap : step_by_gap s ≡ 1
  pub mark : (x : ℕ) → x < 2048 → (get_or table x false || stands (step_by_first_take s) (left_of s) x) ≡ stands first ws x

or_assoc : (a b c : Bool) → ((a || b) || c) ≡ (a || (b || c))
or_assoc true b c = refl
or_assoc false b c = refl

or-none : (a : Bool) → (a || false) ≡ a
or-none true = refl
or-none false = refl

or-true : (a : Bool) → (a || true) ≡ true
or-true true = refl
or-true false = refl

mark-size : (table : List Bool) (w : ℕ) → length (with_mark table w) ≡ length table
mark-size table w = go (ltb w 2048)
  where
    go : (t : Bool) → length (cond t (set table w true) table) ≡ length table
    go true = length-set table w true
    go false = refl

-- one word's mark
mark-one : (table : List Bool) (w x : ℕ) → length table ≡ 2048 → x < 2048 → get_or (with_mark table w) x false ≡ (get_or table x false || eqb w x)
mark-one table w x size h = elim (ℕ_discrete w x) [
  | yes e ↦ rw (e, lt-ltb x 2048 h, eq-eqb x x refl, or-true (get_or table x false)) (get_or-set_same table x true false (omega arith))
  | no ne ↦ rw (ne_eqb w x ne, or-none (get_or table x false)) (go (ltb w 2048) (λ e. ne (sym e)))
]
  where
    go : (t : Bool) → (x ≡ w → ⊥) → get_or (cond t (set table w true) table) x false ≡ get_or table x false
    go true ne = get_or-set_other table w x true false ne
    go false ne = refl

-- ---- the walk

skipped : (xs : List (Bor ℕ)) (s u : Iter ℕ) → Yields iter_steps s xs u → drop (length xs) (iter_rest s) ≡ iter_rest u
skipped [] s u y = ap iter_rest y
skipped (v ∷ xs) s u y = ap (drop (suc (length xs))) y.1 ∙ skipped xs y.0 u y.2

skip_some : (s t : Skip (Iter ℕ)) (w : Bor ℕ) → skip_steps iter_steps s (Some w) t → rest_of s ≡ w.now ∷ rest_of t
skip_some s t w k =
    ap (λ (n : ℕ). drop n (iter_rest (skip_source s))) (sym k.1.2)
    ∙ skipped k.1.0 (skip_source s) k.1.1.0 k.1.1.1
    ∙ k.1.1.2
    ∙ ap (λ (n : ℕ). w.now ∷ drop n (iter_rest (skip_source t))) (sym k.0)

skip_none : (s t : Skip (Iter ℕ)) → skip_steps iter_steps s None t → rest_of s ≡ []
skip_none s t k =
    drop_of_length-le (iter_rest (skip_source s))
    (omega (arith, ap length (skipped k.1.0 (skip_source s) k.1.1.0 k.1.1.1), length-drop (length k.1.0) (iter_rest (skip_source s)), k.1.1.2.0, k.1.2))

given : (b : Bool) (g n : ℕ) (xs : List (Bor ℕ)) (s t u : Skip (Iter ℕ)) (w : Bor ℕ) (x : ℕ) → g ≡ 1 → n ≡ cond b 0 g → length xs ≡ n
    → Yields (skip_steps iter_steps) s xs u → skip_steps iter_steps u (Some w) t → stands b (rest_of s) x ≡ (eqb w.now x || stands false (rest_of t) x)
unfolding stands
given true g n [] s t u w x e c l y k = ap (λ (r : List ℕ). stands true r x) (ap rest_of y ∙ skip_some u t w k)
given true g n (v ∷ xs) s t u w x e c l y k = absurd (omega arith)
given false g n [] s t u w x e c l y k = absurd (omega arith)
given false g n (v ∷ []) s t u w x e c l y k = ap (λ (r : List ℕ). stands false r x) (skip_some s y.0 v y.1 ∙ ap (λ (r : List ℕ). v.now ∷ r) (ap rest_of y.2 ∙ skip_some u t w k))
given false g n (v ∷ v' ∷ xs) s t u w x e c l y k = absurd (omega arith)

ended : (b : Bool) (g n : ℕ) (xs : List (Bor ℕ)) (s t u : Skip (Iter ℕ)) (x : ℕ) → g ≡ 1 → n ≡ cond b 0 g → length xs ≤ n
    → Yields (skip_steps iter_steps) s xs u → skip_steps iter_steps u None t → stands b (rest_of s) x ≡ false
unfolding stands
ended true g n [] s t u x e c l y k = ap (λ (r : List ℕ). stands true r x) (ap rest_of y ∙ skip_none u t k)
ended true g n (v ∷ xs) s t u x e c l y k = absurd (omega arith)
ended false g n [] s t u x e c l y k = ap (λ (r : List ℕ). stands false r x) (ap rest_of y ∙ skip_none u t k)
ended false g n (v ∷ []) s t u x e c l y k = ap (λ (r : List ℕ). stands false r x) (skip_some s y.0 v y.1 ∙ ap (λ (r : List ℕ). v.now ∷ r) (ap rest_of y.2 ∙ skip_none u t k))
ended false g n (v ∷ v' ∷ xs) s t u x e c l y k = absurd (omega arith)

-- every item is a word less
shorter-by : (xs : List (Bor ℕ)) (s t u : Skip (Iter ℕ)) (w : Bor ℕ) → Yields (skip_steps iter_steps) s xs u → skip_steps iter_steps u (Some w) t → length (rest_of t) < length (rest_of s)
shorter-by [] s t u w y k = omega (arith, ap length (ap rest_of y ∙ skip_some u t w k))
shorter-by (v ∷ xs) s t u w y k = let h = shorter-by xs y.0 t u w y.2 k in omega (arith, h, ap length (skip_some s y.0 v y.1))

pub shorter : (s t : Walk) (w : Bor ℕ) → step_by_steps (skip_steps iter_steps) s (Some w) t → length (left_of t) < length (left_of s)
shorter s t w k = shorter-by k.2.1 (step_by_source s) (step_by_source t) k.2.3.0 w k.2.3.1 k.2.3.2

from-first : (first : Bool) (ws : List ℕ) (x : ℕ) → stands true (drop (from_bool (not first)) ws) x ≡ stands first ws x
unfolding stands
from-first true ws x = refl
from-first false [] x = refl
from-first false (w ∷ ws) x = refl

pub filled-start : (first : Bool) (ws : List ℕ) (s t : Walk) → step_by_gap s + 1 ≡ 2 → step_by_first_take s ≡ true → iter_rest (skip_source (step_by_source s)) ≡ ws
    → skip_count (step_by_source s) ≡ from_bool (not first) → t ≡ s → Filled first ws (replicate 2048 false) t
filled-start first ws s t gap fresh rest count is = record {
  size = length-replicate 2048 false;
  gap = ap (λ (u : Walk). step_by_gap u) is ∙ omega arith;
  mark = λ x h.
      ap (λ (u : Walk). get_or (replicate 2048 false) x false || stands (step_by_first_take u) (left_of u) x) is
      ∙ rw (get_or-replicate 2048 x false false h, fresh, count, rest) (from-first first ws x);
}

pub filled_next : (first : Bool) (ws : List ℕ) (table : List Bool) (s t : Walk) (w : Bor ℕ) → Filled first ws table s → step_by_steps (skip_steps iter_steps) s (Some w) t
    → Filled first ws (with_mark table w.now) t
filled_next first ws table s t w f k = record {
  size = mark-size table w.now ∙ f.size;
  gap = k.0 ∙ f.gap;
  mark = λ x l.
      ap (λ (b : Bool). b || stands (step_by_first_take t) (left_of t) x) (mark-one table w.now x f.size l)
      ∙ or_assoc (get_or table x false) (eqb w.now x) (stands (step_by_first_take t) (left_of t) x)
      ∙ ap (λ (b : Bool). get_or table x false || (eqb w.now x || stands b (left_of t) x)) k.1
      ∙ ap (λ (b : Bool). get_or table x false || b)
      (sym (given (step_by_first_take s) (step_by_gap s) k.2.0 k.2.1 (step_by_source s) (step_by_source t) k.2.3.0 w x f.gap k.2.2 k.2.4 k.2.3.1 k.2.3.2))
      ∙ f.mark x l;
}

pub filled-end : (first : Bool) (ws : List ℕ) (table : List Bool) (s t : Walk) → Filled first ws table s → step_by_steps (skip_steps iter_steps) s None t → Table first ws table
filled-end first ws table s t f k = record {
  size = f.size;
  mark = λ x l.
      sym (or-none (get_or table x false))
      ∙ ap (λ (b : Bool). get_or table x false || b)
      (sym (ended (step_by_first_take s) (step_by_gap s) k.2.0 k.2.1 (step_by_source s) (step_by_source t) k.2.3.0 x f.gap k.2.2 k.2.4 k.2.3.1 k.2.3.2))
      ∙ f.mark x l;
}
