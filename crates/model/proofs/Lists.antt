-- Laws of the lists that a tree is made of: the least ticket, the queue without it, numbers in a row, picked and joined lists, membership.
-- Assumes nothing.
use mathlib.Core.Path.{◌≡◌, refl, sym, ap, ◌∙◌}
use mathlib.Core.Logic.{◌⊎◌, inl, inr}
use mathlib.Core.Bool.{Bool, true, false, not, ◌&&◌, ◌||◌, true≢false, or-false, or_assoc}
use mathlib.Core.List.Memᴰ
use mathlib.Core.List.{List, [], ◌∷◌, ◌++◌, map, Memᴰ}
use Prim.Native.Nat.{ℕ, zero, suc, ◌+◌, ◌<◌, ◌≤◌}
use native.Mathlib.Nat.{eq-or-lt_of_le}
use native.Mathlib.Omega.{arith}
use borrow.Author.Tests.{eqb-true, eqb-false, ltb-true, ltb-false, not-true, not-false, eq-eqb}
use lib.Dec.{eqb, ltb}
use lib.ListN.{length, get_or}
use Rattle.model.specs.Lists.{up_from, numbers, keep, those, joined, mem, Ascends}
use Rattle.model.specs.Tree.{Node, evaluation, precedes, pick, least_of, without}

-- ---- the least ticket

-- a goes before b: its evaluation is less, or the same and its number is no larger
abbrev pub Before : List Node → ℕ → ℕ → Type 0
Before ns a b = (evaluation ns a < evaluation ns b) ⊎ ((evaluation ns a ≡ evaluation ns b) × (a ≤ b))

pub before_self : (ns : List Node) (a : ℕ) → Before ns a a
before_self ns a = inr (refl, omega arith)

pub before-trans : (ns : List Node) (a b c : ℕ) → Before ns a b → Before ns b c → Before ns a c
before-trans ns a b c (inl h) (inl k) = inl (omega arith)
before-trans ns a b c (inl h) (inr k) = inl (omega arith)
before-trans ns a b c (inr h) (inl k) = inl (omega arith)
before-trans ns a b c (inr h) (inr k) = inr (omega arith)

pub before-cost : (ns : List Node) (a b : ℕ) → Before ns a b → evaluation ns a ≤ evaluation ns b
before-cost ns a b (inl h) = omega arith
before-cost ns a b (inr h) = omega arith

-- two nodes that each go before the other are one
pub before-one : (ns : List Node) (a b : ℕ) → Before ns a b → Before ns b a → a ≡ b
before-one ns a b (inl h) (inl k) = omega arith
before-one ns a b (inl h) (inr k) = omega arith
before-one ns a b (inr h) (inl k) = omega arith
before-one ns a b (inr h) (inr k) = omega arith

-- what the test says
pub precedes-true : (ns : List Node) (a b : ℕ) → precedes ns a b ≡ true → Before ns a b
precedes-true ns a b e = go (ltb (evaluation ns a) (evaluation ns b)) refl (eqb (evaluation ns a) (evaluation ns b)) refl e
  where
    go : (x : Bool) → ltb (evaluation ns a) (evaluation ns b) ≡ x → (y : Bool) → eqb (evaluation ns a) (evaluation ns b) ≡ y
        → (x || (y && ltb a b)) ≡ true → Before ns a b
    go true p y q r = inl (ltb-true _ _ p)
    go false p true q r = let less : a < b = ltb-true a b r in inr (eqb-true _ _ q, omega arith)
    go false p false q r = absurd (true≢false (sym r))

pub precedes-false : (ns : List Node) (a b : ℕ) → precedes ns a b ≡ false → Before ns b a
precedes-false ns a b e = go (ltb (evaluation ns a) (evaluation ns b)) refl (eqb (evaluation ns a) (evaluation ns b)) refl e
  where
    go : (x : Bool) → ltb (evaluation ns a) (evaluation ns b) ≡ x → (y : Bool) → eqb (evaluation ns a) (evaluation ns b) ≡ y
        → (x || (y && ltb a b)) ≡ false → Before ns b a
    go true p y q r = absurd (true≢false r)
    go false p true q r = inr (sym (eqb-true _ _ q), ltb-false a b r)
    go false p false q r =
        let le : evaluation ns b ≤ evaluation ns a = ltb-false _ _ p in
        elim (eq-or-lt_of_le le) [ inl z ↦ absurd (eqb-false _ _ q (sym z)) | inr z ↦ inl z ]

pub record Least (ns : List Node) (b : ℕ) (q : List ℕ) (n : ℕ) : Type 0 where
  pub among : (n ≡ b) ⊎ Memᴰ n q
  pub first : Before ns n b
  pub firsts : (j : ℕ) → Memᴰ j q → Before ns n j

pub least-is : (ns : List Node) (b : ℕ) (q : List ℕ) → Least ns b q (least_of ns b q)
unfolding least_of
least-is ns b [] = record { among = inl refl; first = before_self ns b; firsts = λ j m. absurd (Memᴰ.not-nil m) }
least-is ns b (x ∷ xs) = go (λ c. least-is ns c xs) (precedes ns x b) refl
  where
    swap : (n : ℕ) → Before ns x b → Least ns x xs n → Least ns b (x ∷ xs) n
    swap n h r =
        record {
          among = inr (elim r.among [ inl e ↦ Memᴰ.head e | inr m ↦ Memᴰ.tail m ]);
          first = before-trans ns n x b r.first h;
          firsts = λ j m. elim (Memᴰ.cases_cons m) [ inl e ↦ rw e r.first | inr k ↦ r.firsts j k ];
        }

    stay : (n : ℕ) → Before ns b x → Least ns b xs n → Least ns b (x ∷ xs) n
    stay n h r =
        record {
          among = elim r.among [ inl e ↦ inl e | inr m ↦ inr (Memᴰ.tail m) ];
          first = r.first;
          firsts = λ j m. elim (Memᴰ.cases_cons m) [ inl e ↦ rw e (before-trans ns n b x r.first h) | inr k ↦ r.firsts j k ];
        }

    go : ((c : ℕ) → Least ns c xs (least_of ns c xs)) → (t : Bool) → precedes ns x b ≡ t → Least ns b (x ∷ xs) (least_of ns (pick t x b) xs)
    go ih true e = swap (least_of ns x xs) (precedes-true ns x b e) (ih x)
    go ih false e = stay (least_of ns b xs) (precedes-false ns x b e) (ih b)

-- ---- ascending lists

pub ascends-from : (a b : ℕ) (q : List ℕ) → a ≤ b → Ascends b q → Ascends a q
ascends-from a b [] h r = tt
ascends-from a b (x ∷ xs) h r = (omega arith, r.1)

pub ascends-length : (b k : ℕ) (q : List ℕ) → Ascends b q → ((i : ℕ) → Memᴰ i q → i < k) → b ≤ k → b + length q ≤ k
ascends-length b k [] a f h = omega arith
ascends-length b k (x ∷ xs) a f h = omega (arith, a.0, ascends-length (suc x) k xs a.1 (λ i m. f i (Memᴰ.tail m)) (f x (Memᴰ.head refl)))

-- ---- the queue without a node

pub without-mem : (n : ℕ) (q : List ℕ) (i : ℕ) → Memᴰ i (without n q) → Memᴰ i q
unfolding without
without-mem n [] i m = m
without-mem n (x ∷ xs) i m = go (λ k. without-mem n xs i k) (not (eqb x n)) m
  where
    go : (Memᴰ i (without n xs) → Memᴰ i xs) → (b : Bool) → Memᴰ i (keep b x (without n xs)) → Memᴰ i (x ∷ xs)
    go ih true k = elim (Memᴰ.cases_cons k) [ inl e ↦ Memᴰ.head e | inr r ↦ Memᴰ.tail (ih r) ]
    go ih false k = Memᴰ.tail (ih k)

-- what waited still waits, unless it was taken
pub without-keeps : (n : ℕ) (q : List ℕ) (i : ℕ) → Memᴰ i q → (i ≡ n) ⊎ Memᴰ i (without n q)
unfolding without
without-keeps n [] i m = inr m
without-keeps n (x ∷ xs) i m = go (λ k. without-keeps n xs i k) (not (eqb x n)) refl (Memᴰ.cases_cons m)
  where
    go : (Memᴰ i xs → (i ≡ n) ⊎ Memᴰ i (without n xs)) → (b : Bool) → not (eqb x n) ≡ b
        → (i ≡ x) ⊎ Memᴰ i xs → (i ≡ n) ⊎ Memᴰ i (keep b x (without n xs))
    go ih true e (inl h) = inr (Memᴰ.head h)
    go ih true e (inr k) = elim (ih k) [ inl h ↦ inl h | inr r ↦ inr (Memᴰ.tail r) ]
    go ih false e (inl h) = inl (h ∙ eqb-true x n (not-false (eqb x n) e))
    go ih false e (inr k) = ih k

pub without-ascends : (n b : ℕ) (q : List ℕ) → Ascends b q → Ascends b (without n q)
unfolding without
without-ascends n b [] a = tt
without-ascends n b (x ∷ xs) a = go (without-ascends n (suc x) xs a.1) (not (eqb x n))
  where
    go : Ascends (suc x) (without n xs) → (t : Bool) → Ascends b (keep t x (without n xs))
    go r true = (a.0, r)
    go r false = ascends-from b (suc x) (without n xs) (omega arith) r

without-absent : (n b : ℕ) (q : List ℕ) → n < b → Ascends b q → without n q ≡ q
unfolding without
without-absent n b [] h a = refl
without-absent n b (x ∷ xs) h a = go (without-absent n (suc x) xs (omega arith) a.1) (not (eqb x n)) refl
  where
    go : without n xs ≡ xs → (t : Bool) → not (eqb x n) ≡ t → keep t x (without n xs) ≡ x ∷ xs
    go ih true e = ap (λ (l : List ℕ). x ∷ l) ih
    go ih false e = absurd (let q : x ≡ n = eqb-true x n (not-false (eqb x n) e) in omega arith)

-- one fewer
pub without-length : (n b : ℕ) (q : List ℕ) → Ascends b q → Memᴰ n q → suc (length (without n q)) ≡ length q
unfolding without
without-length n b [] a m = absurd (Memᴰ.not-nil m)
without-length n b (x ∷ xs) a m = go (λ k. without-length n (suc x) xs a.1 k) (not (eqb x n)) refl (Memᴰ.cases_cons m)
  where
    go : (Memᴰ n xs → suc (length (without n xs)) ≡ length xs) → (t : Bool) → not (eqb x n) ≡ t
        → (n ≡ x) ⊎ Memᴰ n xs → suc (length (keep t x (without n xs))) ≡ suc (length xs)
    go ih true e (inl h) = absurd (eqb-false x n (not-true (eqb x n) e) (sym h))
    go ih true e (inr k) = ap suc (ih k)
    go ih false e k = ap suc (ap length (without-absent n (suc x) xs (let q : x ≡ n = eqb-true x n (not-false (eqb x n) e) in omega arith) a.1))

-- a number that was taken does not wait
pub without_not : (n : ℕ) (q : List ℕ) → Memᴰ n (without n q) → ⊥
unfolding without
without_not n [] m = Memᴰ.not-nil m
without_not n (x ∷ xs) m = go (without_not n xs) (eqb x n) refl m
  where
    go : (Memᴰ n (without n xs) → ⊥) → (b : Bool) → eqb x n ≡ b → Memᴰ n (keep (not b) x (without n xs)) → ⊥
    go ih true e k = ih k
    go ih false e k = elim (Memᴰ.cases_cons k) [ inl z ↦ eqb-false x n e (sym z) | inr z ↦ ih z ]

-- at most one fewer
pub without-longer : (n b : ℕ) (q : List ℕ) → Ascends b q → length q ≤ suc (length (without n q))
unfolding without
without-longer n b [] a = omega arith
without-longer n b (x ∷ xs) a = go (without-longer n (suc x) xs a.1) (eqb x n) refl
  where
    go : length xs ≤ suc (length (without n xs)) → (t : Bool) → eqb x n ≡ t → suc (length xs) ≤ suc (length (keep (not t) x (without n xs)))
    go ih true e = ap-le (without-absent n (suc x) xs (let z : x ≡ n = eqb-true x n e in omega arith) a.1)
      where
        ap-le : without n xs ≡ xs → suc (length xs) ≤ suc (length (without n xs))
        ap-le z = rw z (omega arith)
    go ih false e = omega arith

-- ---- numbers in a row

pub up_mem : (k n i : ℕ) → Memᴰ i (up_from k n) → (n ≤ i) × (i < n + k)
up_mem zero n i m = absurd (Memᴰ.not-nil m)
up_mem (suc k) n i (Memᴰ.head e) = omega (arith, e)
up_mem (suc k) n i (Memᴰ.tail m) = omega (arith, up_mem k (suc n) i m)

pub up-has : (k n j : ℕ) → j < k → Memᴰ (n + j) (up_from k n)
up-has zero n j h = absurd (omega arith)
up-has (suc k) n zero h = Memᴰ.head {x = n} (omega arith)
up-has (suc k) n (suc j) h = Memᴰ.tail (Memᴰ.cast (omega arith) (up-has k (suc n) j (omega arith)))

pub up-ascends : (k n : ℕ) → Ascends n (up_from k n)
up-ascends zero n = tt
up-ascends (suc k) n = (omega arith, up-ascends k (suc n))

pub up-length : (k n : ℕ) → length (up_from k n) ≡ k
up-length zero n = refl
up-length (suc k) n = ap suc (up-length k (suc n))

pub numbers-mem : (n i : ℕ) → Memᴰ i (numbers n) → i < n
numbers-mem n i m = omega (arith, up_mem n 0 i m)

pub numbers-has : (n i : ℕ) → i < n → Memᴰ i (numbers n)
numbers-has n i h = Memᴰ.cast {b = 0 + i} (omega arith) (up-has n 0 i h)

up-snoc : (k n : ℕ) → up_from (suc k) n ≡ up_from k n ++ ((n + k) ∷ [])
up-snoc zero n = ap (λ (m : ℕ). m ∷ []) (omega arith)
up-snoc (suc k) n =
    let e : suc n + k ≡ n + suc k = omega arith in
    ap (λ (l : List ℕ). n ∷ l) (up-snoc k (suc n) ∙ ap (λ (m : ℕ). up_from k (suc n) ++ (m ∷ [])) e)

pub numbers-snoc : (n : ℕ) → numbers (suc n) ≡ numbers n ++ (n ∷ [])
numbers-snoc n =
    let e : 0 + n ≡ n = omega arith in
    up-snoc n 0 ∙ ap (λ (m : ℕ). up_from n 0 ++ (m ∷ [])) e

pub map-up-at : {A : Type 0} (f : ℕ → A) (z : A) (k n j : ℕ) → j < k → get_or (map f (up_from k n)) j z ≡ f (n + j)
map-up-at f z zero n j h = absurd (omega arith)
map-up-at f z (suc k) n zero h = ap f (omega arith)
map-up-at f z (suc k) n (suc j) h = map-up-at f z k (suc n) j (omega arith) ∙ ap f (omega arith)

pub append-ascends : (b k : ℕ) (q r : List ℕ) → b ≤ k → Ascends b q → ((i : ℕ) → Memᴰ i q → i < k) → Ascends k r → Ascends b (q ++ r)
append-ascends b k [] r h a f g = ascends-from b k r h g
append-ascends b k (x ∷ xs) r h a f g =
    (a.0, append-ascends (suc x) k xs r (f x (Memᴰ.head refl)) a.1 (λ i m. f i (Memᴰ.tail m)) g)

-- ---- those at which a test passes

pub those-mem : (p : ℕ → Bool) (xs : List ℕ) (l : ℕ) → Memᴰ l (those p xs) → Memᴰ l xs × (p l ≡ true)
unfolding those
those-mem p [] l k = absurd (Memᴰ.not-nil k)
those-mem p (x ∷ xs) l k = go (λ r. those-mem p xs l r) (p x) refl k
  where
    go : (Memᴰ l (those p xs) → Memᴰ l xs × (p l ≡ true)) → (b : Bool) → p x ≡ b
        → Memᴰ l (keep b x (those p xs)) → Memᴰ l (x ∷ xs) × (p l ≡ true)
    go ih true e r = elim (Memᴰ.cases_cons r) [ inl h ↦ (Memᴰ.head h, ap p h ∙ e) | inr m ↦ (Memᴰ.tail (ih m).0, (ih m).1) ]
    go ih false e r = (Memᴰ.tail (ih r).0, (ih r).1)

pub those-has : (p : ℕ → Bool) (xs : List ℕ) (l : ℕ) → Memᴰ l xs → p l ≡ true → Memᴰ l (those p xs)
unfolding those
those-has p [] l k f = absurd (Memᴰ.not-nil k)
those-has p (x ∷ xs) l k f = go (λ r. those-has p xs l r f) (p x) refl (Memᴰ.cases_cons k)
  where
    go : (Memᴰ l xs → Memᴰ l (those p xs)) → (b : Bool) → p x ≡ b → (l ≡ x) ⊎ Memᴰ l xs → Memᴰ l (keep b x (those p xs))
    go ih true e (inl h) = Memᴰ.head h
    go ih true e (inr r) = Memᴰ.tail (ih r)
    go ih false e (inl h) = absurd (true≢false (sym f ∙ ap p h ∙ e))
    go ih false e (inr r) = ih r

keep_append : (b : Bool) (x : ℕ) (xs ys : List ℕ) → keep b x (xs ++ ys) ≡ keep b x xs ++ ys
keep_append true x xs ys = refl
keep_append false x xs ys = refl

pub those-append : (p : ℕ → Bool) (xs ys : List ℕ) → those p (xs ++ ys) ≡ those p xs ++ those p ys
unfolding those
those-append p [] ys = refl
those-append p (x ∷ xs) ys = ap (keep (p x) x) (those-append p xs ys) ∙ keep_append (p x) x (those p xs) (those p ys)

pub those-snoc : (p : ℕ → Bool) (xs : List ℕ) (x : ℕ) → those p (xs ++ (x ∷ [])) ≡ those p xs ++ keep (p x) x []
unfolding those
those-snoc p xs x = those-append p xs (x ∷ [])

-- tests that agree on the list
pub those-same : (p r : ℕ → Bool) (xs : List ℕ) → ((x : ℕ) → Memᴰ x xs → p x ≡ r x) → those p xs ≡ those r xs
unfolding those
those-same p r [] f = refl
those-same p r (x ∷ xs) f = rw (f x (Memᴰ.head refl), those-same p r xs (λ y m. f y (Memᴰ.tail m)))

pub those-none : (p : ℕ → Bool) (xs : List ℕ) → ((x : ℕ) → Memᴰ x xs → p x ≡ false) → those p xs ≡ []
unfolding those
those-none p [] f = refl
those-none p (x ∷ xs) f = rw (f x (Memᴰ.head refl)) (those-none p xs (λ y m. f y (Memᴰ.tail m)))

pub those-ascends : (p : ℕ → Bool) (b : ℕ) (xs : List ℕ) → Ascends b xs → Ascends b (those p xs)
unfolding those
those-ascends p b [] a = tt
those-ascends p b (x ∷ xs) a = go (those-ascends p (suc x) xs a.1) (p x)
  where
    go : Ascends (suc x) (those p xs) → (t : Bool) → Ascends b (keep t x (those p xs))
    go r true = (a.0, r)
    go r false = ascends-from b (suc x) (those p xs) (omega arith) r

pub those-length : (p : ℕ → Bool) (xs : List ℕ) → length (those p xs) ≤ length xs
unfolding those
those-length p [] = omega arith
those-length p (x ∷ xs) = go (those-length p xs) (p x)
  where
    go : length (those p xs) ≤ length xs → (b : Bool) → length (keep b x (those p xs)) ≤ suc (length xs)
    go ih true = omega arith
    go ih false = omega arith

-- a weaker test passes at no fewer
pub those-le : (p q : ℕ → Bool) → ((l : ℕ) → p l ≡ true → q l ≡ true) → (xs : List ℕ) → length (those p xs) ≤ length (those q xs)
unfolding those
those-le p q f [] = omega arith
those-le p q f (x ∷ xs) = go (those-le p q f xs) (p x) (q x) (f x)
  where
    go : length (those p xs) ≤ length (those q xs) → (a b : Bool) → (a ≡ true → b ≡ true) → length (keep a x (those p xs)) ≤ length (keep b x (those q xs))
    go ih true true h = omega arith
    go ih true false h = absurd (true≢false (sym (h refl)))
    go ih false true h = omega arith
    go ih false false h = ih

-- r passes where p or q does, and these never both
abbrev pub Splits : (ℕ → Bool) → (ℕ → Bool) → (ℕ → Bool) → ℕ → Type 0
Splits p q r l = ((q l ≡ false) × (r l ≡ p l)) ⊎ ((p l ≡ false) × (q l ≡ true) × (r l ≡ true))

pub those-split : (p q r : ℕ → Bool) → ((l : ℕ) → Splits p q r l) → (xs : List ℕ) → length (those r xs) ≡ length (those p xs) + length (those q xs)
unfolding those
those-split p q r f [] = refl
those-split p q r f (x ∷ xs) = go (those-split p q r f xs) (p x) refl (f x)
  where
    Count : Bool → Bool → Bool → Type 0
    Count a b c = length (keep c x (those r xs)) ≡ length (keep a x (those p xs)) + length (keep b x (those q xs))

    go : length (those r xs) ≡ length (those p xs) + length (those q xs) → (a : Bool) → p x ≡ a → Splits p q r x → Count (p x) (q x) (r x)
    go ih true e (inl h) = rw (h.1, h.0, e) (omega arith)
    go ih false e (inl h) = rw (h.1, h.0, e) (omega arith)
    go ih a e (inr h) = rw (h.0, h.1, h.2) (omega arith)

-- ---- lists one after the other

pub joined-mem : (f : ℕ → List ℕ) (xs : List ℕ) (l : ℕ) → Memᴰ l (joined f xs) → (x : ℕ) × Memᴰ x xs × Memᴰ l (f x)
unfolding joined
joined-mem f [] l m = absurd (Memᴰ.not-nil m)
joined-mem f (x ∷ xs) l m = go (joined-mem f xs l) (Memᴰ.append_cases (f x) m)
  where
    go : (Memᴰ l (joined f xs) → (y : ℕ) × Memᴰ y xs × Memᴰ l (f y)) → Memᴰ l (f x) ⊎ Memᴰ l (joined f xs)
        → (y : ℕ) × Memᴰ y (x ∷ xs) × Memᴰ l (f y)
    go ih (inl h) = (x, Memᴰ.head refl, h)
    go ih (inr h) = let r = ih h in (r.0, Memᴰ.tail r.1, r.2)

pub joined-has : (f : ℕ → List ℕ) (xs : List ℕ) (x l : ℕ) → Memᴰ x xs → Memᴰ l (f x) → Memᴰ l (joined f xs)
unfolding joined
joined-has f [] x l m h = absurd (Memᴰ.not-nil m)
joined-has f (y ∷ ys) x l (Memᴰ.head e) h = Memᴰ.append_left (joined f ys) (rw e at h)
joined-has f (y ∷ ys) x l (Memᴰ.tail m) h = Memᴰ.append_right (f y) (joined-has f ys x l m h)

-- ---- membership as a test

pub mem-nil : (x : ℕ) → mem x [] ≡ false
unfolding mem
mem-nil x = refl

pub mem-head : (x y : ℕ) (ys : List ℕ) → x ≡ y → mem x (y ∷ ys) ≡ true
unfolding mem
mem-head x y ys e = rw (eq-eqb x y e)

pub mem-tail : (x y : ℕ) (ys : List ℕ) → mem x ys ≡ true → mem x (y ∷ ys) ≡ true
unfolding mem
mem-tail x y ys e = go (eqb x y)
  where
    go : (b : Bool) → (b || mem x ys) ≡ true
    go true = refl
    go false = e

pub mem-cases : (x y : ℕ) (ys : List ℕ) → mem x (y ∷ ys) ≡ true → (x ≡ y) ⊎ (mem x ys ≡ true)
unfolding mem
mem-cases x y ys e = go (eqb x y) refl e
  where
    go : (b : Bool) → eqb x y ≡ b → (b || mem x ys) ≡ true → (x ≡ y) ⊎ (mem x ys ≡ true)
    go true p q = inl (eqb-true x y p)
    go false p q = inr q

pub mem-snoc : (x y : ℕ) (l : List ℕ) → mem x (l ++ (y ∷ [])) ≡ (mem x l || eqb x y)
unfolding mem
mem-snoc x y [] = or-false (eqb x y)
mem-snoc x y (z ∷ l) = ap (λ (b : Bool). eqb x z || b) (mem-snoc x y l) ∙ sym (or_assoc (eqb x z) (mem x l) (eqb x y))

pub mem-listed : (x : ℕ) (l : List ℕ) → mem x l ≡ true → Memᴰ x l
mem-listed x [] e = absurd (true≢false (sym e ∙ mem-nil x))
mem-listed x (y ∷ ys) e = go (mem-listed x ys) (mem-cases x y ys e)
  where
    go : (mem x ys ≡ true → Memᴰ x ys) → (x ≡ y) ⊎ (mem x ys ≡ true) → Memᴰ x (y ∷ ys)
    go ih (inl h) = Memᴰ.head h
    go ih (inr h) = Memᴰ.tail (ih h)

pub listed-mem : (x : ℕ) (l : List ℕ) → Memᴰ x l → mem x l ≡ true
listed-mem x [] m = absurd (Memᴰ.not-nil m)
listed-mem x (y ∷ ys) (Memᴰ.head e) = mem-head x y ys e
listed-mem x (y ∷ ys) (Memᴰ.tail m) = mem-tail x y ys (listed-mem x ys m)
