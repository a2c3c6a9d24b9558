-- What the tests over pairs, lists and ranges of numbers mean, most in both directions.
-- Assumes nothing.
use mathlib.Core.Path.{◌≡◌, refl, sym, ap₂}
use mathlib.Core.Logic.{◌⊎◌, inl, inr}
use mathlib.Core.Bool.{Bool, true, false, ◌&&◌, ◌||◌, true≢false}
use mathlib.Core.List.Memᴰ
use mathlib.Core.List.{List, [], ◌∷◌, ◌++◌, Memᴰ}
use Prim.Native.Nat.{ℕ, zero, suc, ◌<◌}
use native.Mathlib.Nat.{eq-or-lt_of_le, le_of_suc-le-suc}
use native.Mathlib.Omega.{arith}
use borrow.Author.Tests.{ltb-true, leb-true, eqb-true, le-leb}
use lib.Dec.{eqb, leb, ltb}
use Rattle.model.specs.Lists.{mem, allb, all_below, upto, all_in, any_in, Ascends, ascendsb}

-- ---- two tests, and a chain of tests

pub and-true : (a b : Bool) → (a && b) ≡ true → (a ≡ true) × (b ≡ true)
and-true true b e = (refl, e)
and-true false b e = absurd (true≢false (sym e))

pub true-and : (a b : Bool) → a ≡ true → b ≡ true → (a && b) ≡ true
true-and a b p q = rw (p, q)

pub or_cases : (a b : Bool) → (a || b) ≡ true → (a ≡ true) ⊎ (b ≡ true)
or_cases true b e = inl refl
or_cases false b e = inr e

pub true-or-left : (a b : Bool) → a ≡ true → (a || b) ≡ true
true-or-left a b p = rw p

pub true-or-right : (a b : Bool) → b ≡ true → (a || b) ≡ true
true-or-right true b p = refl
true-or-right false b p = p

abbrev pub AllTrue : List Bool → Type 0
AllTrue [] = Unit {0}
AllTrue (b ∷ bs) = (b ≡ true) × AllTrue bs

pub all_true : (bs : List Bool) → allb bs ≡ true → AllTrue bs
all_true [] e = tt
all_true (b ∷ bs) e = let p = and-true b (allb bs) e in (p.0, all_true bs p.1)

-- and back, for a list that is written out: each test's fact is one more argument
abbrev pub Given : List Bool → Type 0 → Type 0
Given [] R = R
Given (b ∷ bs) R = b ≡ true → Given bs R

given-map : (bs : List Bool) (R S : Type 0) → (R → S) → Given bs R → Given bs S
given-map [] R S f g = f g
given-map (b ∷ bs) R S f g = λ p. given-map bs R S f (g p)

pub true-given : (bs : List Bool) → Given bs (allb bs ≡ true)
true-given [] = refl
true-given (b ∷ bs) = λ p. given-map bs (allb bs ≡ true) ((b && allb bs) ≡ true) (λ q. true-and b (allb bs) p q) (true-given bs)

-- one test more at the end
pub all-last : (bs : List Bool) (b : Bool) → allb (bs ++ (b ∷ [])) ≡ (allb bs && b)
all-last [] b = go b
  where
    go : (c : Bool) → (c && true) ≡ c
    go true = refl
    go false = refl
all-last (true ∷ bs) b = all-last bs b
all-last (false ∷ bs) b = refl

-- ---- over the numbers below n

pub upto-at : (p : ℕ → Bool) (n : ℕ) → upto p n ≡ true → (i : ℕ) → i < n → p i ≡ true
unfolding upto
upto-at p zero e i h = absurd (omega arith)
upto-at p (suc n) e i h =
    let r = and-true (p n) (upto p n) e in
    elim (eq-or-lt_of_le (le_of_suc-le-suc h)) [ inl z ↦ rw z r.0 | inr z ↦ upto-at p n r.1 i z ]

pub at-upto : (p : ℕ → Bool) (n : ℕ) → ((i : ℕ) → i < n → p i ≡ true) → upto p n ≡ true
unfolding upto
at-upto p zero f = refl
at-upto p (suc n) f = true-and (p n) (upto p n) (f n (omega arith)) (at-upto p n (λ i h. f i (omega arith)))

pub upto-same : (p r : ℕ → Bool) (n : ℕ) → ((i : ℕ) → i < n → p i ≡ r i) → upto p n ≡ upto r n
unfolding upto
upto-same p r zero f = refl
upto-same p r (suc n) f = ap₂ (λ (a b : Bool). a && b) (f n (omega arith)) (upto-same p r n (λ i h. f i (omega arith)))

-- ---- over the elements of a list

pub all-in-at : (p : ℕ → Bool) (q : List ℕ) → all_in p q ≡ true → (i : ℕ) → Memᴰ i q → p i ≡ true
unfolding all_in
all-in-at p [] e i m = absurd (Memᴰ.not-nil m)
all-in-at p (x ∷ xs) e i m = let r = and-true (p x) (all_in p xs) e in elim (Memᴰ.cases_cons m) [ inl z ↦ rw z r.0 | inr z ↦ all-in-at p xs r.1 i z ]

pub at-all-in : (p : ℕ → Bool) (q : List ℕ) → ((i : ℕ) → Memᴰ i q → p i ≡ true) → all_in p q ≡ true
unfolding all_in
at-all-in p [] f = refl
at-all-in p (x ∷ xs) f = true-and (p x) (all_in p xs) (f x (Memᴰ.head refl)) (at-all-in p xs (λ i m. f i (Memᴰ.tail m)))

pub any-in-at : (p : ℕ → Bool) (q : List ℕ) → any_in p q ≡ true → (i : ℕ) × Memᴰ i q × (p i ≡ true)
unfolding any_in
any-in-at p [] e = absurd (true≢false (sym e))
any-in-at p (x ∷ xs) e = go (any-in-at p xs) (or_cases (p x) (any_in p xs) e)
  where
    go : (any_in p xs ≡ true → (i : ℕ) × Memᴰ i xs × (p i ≡ true)) → (p x ≡ true) ⊎ (any_in p xs ≡ true) → (i : ℕ) × Memᴰ i (x ∷ xs) × (p i ≡ true)
    go ih (inl z) = (x, Memᴰ.head refl, z)
    go ih (inr z) = let r = ih z in (r.0, Memᴰ.tail r.1, r.2)

pub at-any-in : (p : ℕ → Bool) (q : List ℕ) (i : ℕ) → Memᴰ i q → p i ≡ true → any_in p q ≡ true
unfolding any_in
at-any-in p [] i m e = absurd (Memᴰ.not-nil m)
at-any-in p (x ∷ xs) i m e = elim (Memᴰ.cases_cons m) [ inl z ↦ true-or-left (p x) _ (rw z at e) | inr z ↦ true-or-right (p x) _ (at-any-in p xs i z e) ]

pub ascends-at : (b : ℕ) (q : List ℕ) → ascendsb b q ≡ true → Ascends b q
unfolding ascendsb
ascends-at b [] e = tt
ascends-at b (x ∷ xs) e = let r = and-true (leb b x) (ascendsb (suc x) xs) e in (leb-true b x r.0, ascends-at (suc x) xs r.1)

pub at-ascends : (b : ℕ) (q : List ℕ) → Ascends b q → ascendsb b q ≡ true
unfolding ascendsb
at-ascends b [] a = refl
at-ascends b (x ∷ xs) a = true-and (leb b x) (ascendsb (suc x) xs) (le-leb b x a.0) (at-ascends (suc x) xs a.1)

-- ---- membership

pub all-below : (n : ℕ) (xs : List ℕ) → all_below n xs ≡ true → (v : ℕ) → mem v xs ≡ true → v < n
unfolding mem
all-below n [] e v h = absurd (true≢false (sym h))
all-below n (x ∷ xs) e v h = go (all-below n xs) (and-true (ltb x n) (all_below n xs) e) (or_cases (eqb v x) (mem v xs) h)
  where
    go : (all_below n xs ≡ true → (v : ℕ) → mem v xs ≡ true → v < n) → (ltb x n ≡ true) × (all_below n xs ≡ true) → (eqb v x ≡ true) ⊎ (mem v xs ≡ true) → v < n
    go ih p (inl q) = rw (eqb-true v x q) (ltb-true x n p.0)
    go ih p (inr q) = ih p.1 v q
