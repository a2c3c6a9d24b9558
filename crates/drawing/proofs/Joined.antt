-- Lines put one behind the other, one for each number below n; and vertices that stand apart.
-- Assumes nothing.
use mathlib.Core.Path.{◌≡◌, refl, sym, ap, ap₂, ◌∙◌}
use mathlib.Core.Bool.{Bool, true, false, cond, beq, true≢false, ◌||◌}
use mathlib.Core.List.{List, [], ◌∷◌, ◌++◌, append-nil, append_assoc}
use Prim.Native.Nat.{ℕ, zero, suc, ◌+◌, ◌*◌, ◌<◌, ◌≤◌}
use native.Mathlib.Omega.{arith}
use native.Mathlib.Decide.{ℕ_discrete}
use native.Mathlib.Numerals.{add-one}
use lib.ListN.{length, get_or, take, length-append}
use Rattle.model.specs.Lists.{numbers, those, keep, joined}
use Rattle.std.specs.List.{list_any}
use Rattle.std.proofs.lemmas.List.Folds.{list_any_more}
use Rattle.model.proofs.Lists.{numbers-snoc, those-snoc}
use Rattle.layout.specs.Layout.{vertices_in}
use Rattle.put_text.specs.Puts.{Puts}
use Rattle.put_text.proofs.Puts.{puts_none, puts_then}
use Rattle.drawing.specs.Drawing.{marked, apart_text, apart_opening, apart_closing}
use Rattle.drawing.specs.Puts.{is_some, vertex_of, vertices_text, cluster_text}

joined-append : (f : ℕ → List ℕ) (xs ys : List ℕ) → joined f (xs ++ ys) ≡ joined f xs ++ joined f ys
unfolding joined
joined-append f [] ys = refl
joined-append f (x ∷ xs) ys = ap (λ (l : List ℕ). f x ++ l) (joined-append f xs ys) ∙ sym (append_assoc (f x) (joined f xs) (joined f ys))

-- the lines of those numbers at which a test passes: an empty one for each other number
pub joined-those : (f : ℕ → List ℕ) (p : ℕ → Bool) (xs : List ℕ) → joined (λ x. cond (p x) (f x) []) xs ≡ joined f (those p xs)
unfolding joined those
joined-those f p [] = refl
joined-those f p (x ∷ xs) = ap (λ (l : List ℕ). cond (p x) (f x) [] ++ l) (joined-those f p xs) ∙ go (p x)
  where
    go : (t : Bool) → cond t (f x) [] ++ joined f (those p xs) ≡ joined f (keep t x (those p xs))
    go true = refl
    go false = refl

pub lines-add : (f : ℕ → List ℕ) (n : ℕ) → joined f (numbers (suc n)) ≡ joined f (numbers n) ++ f n
unfolding joined
lines-add f n = ap (joined f) (numbers-snoc n) ∙ joined-append f (numbers n) (n ∷ []) ∙ ap (λ (l : List ℕ). joined f (numbers n) ++ l) (append-nil (f n))

pub joined_same : (f h : ℕ → List ℕ) (n : ℕ) → ((v : ℕ) → v < n → f v ≡ h v) → joined f (numbers n) ≡ joined h (numbers n)
unfolding joined
joined_same f h zero e = refl
joined_same f h (suc n) e = lines-add f n ∙ ap₂ (λ (x y : List ℕ). x ++ y) (joined_same f h n (λ v l. e v (omega arith))) (e n (omega arith)) ∙ sym (lines-add h n)

lines_more : (f : ℕ → List ℕ) (n v : ℕ) → v ≤ n → length (joined f (numbers v)) ≤ length (joined f (numbers n))
lines_more f zero v h = let e : v ≡ 0 = omega arith in rw e (omega arith)
lines_more f (suc n) v h = go (λ l. lines_more f n v l) (ℕ_discrete v (suc n))
  where
    go : (v ≤ n → length (joined f (numbers v)) ≤ length (joined f (numbers n))) → Dec (v ≡ suc n) → length (joined f (numbers v)) ≤ length (joined f (numbers (suc n)))
    go more (yes e) = rw e (omega arith)
    go more (no ne) = omega (arith, more (omega arith), ap length (lines-add f n), length-append (joined f (numbers n)) (f n))

-- two kinds of lines, of at most 64 bytes together for each number
pub lines-most : (f h : ℕ → List ℕ) (n : ℕ) → ((v : ℕ) → v < n → length (f v) + length (h v) ≤ 64)
    → length (joined f (numbers n)) + length (joined h (numbers n)) ≤ 64 * n
unfolding joined
lines-most f h zero few = omega arith
lines-most f h (suc n) few =
    omega (
      arith,
      lines-most f h n (λ v l. few v (omega arith)),
      few n (omega arith),
      ap length (lines-add f n),
      ap length (lines-add h n),
      length-append (joined f (numbers n)) (f n),
      length-append (joined h (numbers n)) (h n),
    )

-- the lines of the first numbers stand from `at` on
module _ (f : ℕ → List ℕ) (out : List ℕ) (at : ℕ) where
  pub lines_start : Puts out at (joined f (numbers 0)) at out
  unfolding joined
  lines_start = puts_none out at

  pub lines-room : (n v : ℕ) {end : ℕ} {mid : List ℕ} → v < n → length mid ≡ length out → Puts out at (joined f (numbers v)) end mid
      → at + length (joined f (numbers n)) + 66 ≤ length out → end + 66 ≤ length mid
  lines-room n v h same p room = omega (arith, p.end, lines_more f n v (omega arith))

  pub lines_next : (v : ℕ) {end r : ℕ} {mid left : List ℕ} → at ≤ length out → Puts out at (joined f (numbers v)) end mid → Puts mid end (f v) r left
      → Puts out at (joined f (numbers (v + 1))) r left
  lines_next v h p q = rw (add-one v, lines-add f v) (puts_then h p q)

-- ---- vertices apart

some-snoc : (b : Bool) (x : ℕ) (xs : List ℕ) → is_some (xs ++ keep b x []) ≡ (is_some xs || b)
some-snoc true x [] = refl
some-snoc false x [] = refl
some-snoc b x (y ∷ ys) = refl

-- one of the first n is not marked
pub apart-among : (marks : List Bool) (n : ℕ) → n ≤ length marks → list_any (λ m. beq m false) (take n marks) ≡ is_some (marked false marks n)
unfolding those
apart-among marks zero h = refl
apart-among marks (suc n) h =
    let p = λ (v : ℕ). beq (get_or marks v false) false in
    rw (← add-one n) (list_any_more (λ m. beq m false) marks n false (omega arith))
    ∙ ap (λ (b : Bool). b || p n) (apart-among marks n (omega arith))
    ∙ sym (ap is_some (ap (those p) (numbers-snoc n) ∙ those-snoc p (numbers n) n) ∙ some-snoc (p n) n (those p (numbers n)))

pub apart_none : (f : ℕ → List ℕ) (vs : List ℕ) → is_some vs ≡ false → apart_text f vs ≡ []
apart_none f [] e = refl
apart_none f (v ∷ vs) e = absurd (true≢false e)

apart_some : (f : ℕ → List ℕ) (vs : List ℕ) → is_some vs ≡ true → apart_text f vs ≡ apart_opening ++ (joined f vs ++ apart_closing)
apart_some f [] e = absurd (true≢false (sym e))
apart_some f (v ∷ vs) e = refl

module _ (ws : List ℕ) (marks bold : List Bool) (some : is_some (marked false marks (vertices_in ws)) ≡ true) where
  pub cluster-some : cluster_text ws marks bold ≡ apart_opening ++ (vertices_text ws marks false bold ++ apart_closing)
  cluster-some =
      apart_some (vertex_of ws bold) (marked false marks (vertices_in ws)) some
      ∙ ap (λ (l : List ℕ). apart_opening ++ (l ++ apart_closing)) (sym (joined-those (vertex_of ws bold) (λ v. beq (get_or marks v false) false) (numbers (vertices_in ws))))

  pub cluster-length : length (cluster_text ws marks bold) ≡ 80 + length (vertices_text ws marks false bold)
  cluster-length = omega (arith, ap length cluster-some, length-append (vertices_text ws marks false bold) apart_closing)
