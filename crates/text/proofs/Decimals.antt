-- Numbers in decimal: the text of a number is read as it, and no other text is.
-- Assumes nothing.
use mathlib.Core.Path.{◌≡◌, refl, sym, ap, ◌∙◌}
use mathlib.Core.Bool.{Bool, true, false, ◌&&◌}
use mathlib.Core.List.{List, [], ◌∷◌, ◌++◌, append-nil, append_assoc}
use mathlib.Core.Logic.{◌≢◌}
use Prim.Native.Nat.{ℕ, zero, suc, ◌+◌, ◌-◌, ◌*◌, ◌/◌, ◌%◌, ◌^◌, ◌<◌, ◌≤◌}
use native.Mathlib.Nat.{add-zero, pow-suc}
use native.Mathlib.Decide.{dec_le}
use native.Mathlib.Omega.{arith}
use borrow.Author.Tests.{ltb-true, ltb-false, leb-true, lt-ltb, le-ltb, le-leb}
use lib.Dec.{leb, ltb}
use lib.ListN.{length, length-append}
use Rattle.std.specs.Prelude.{Some, None}
use Rattle.std.specs.declared.option.Option.{Option}
use Rattle.model.specs.Lists.{allb}
use Rattle.text.specs.Bytes.{is_digit, legal_if, digits_from, number_tests, number_of}
use Rattle.text.specs.Print.{digits_by, decimal_in, decimal}
use Rattle.text.proofs.Pieces.{Above, above-append, above-less}
use Rattle.text.proofs.Numbers.{digits-fit, number-empty, number-long, number-zero, number-one, number_more}

-- ---- digits read on

-- the digits l behind the number that was read
abbrev onward : Option ℕ → List ℕ → Option ℕ
onward None l = None
onward (Some v) l = digits_from v l

digits_append : (v : ℕ) (l r : List ℕ) → digits_from v (l ++ r) ≡ onward (digits_from v l) r
unfolding digits_from
digits_append v [] r = refl
digits_append v (x ∷ l) r = rw (digits_append (v * 10 + (x - 48)) l r) (go (is_digit x) (digits_from (v * 10 + (x - 48)) l))
  where
    go : (t : Bool) (n : Option ℕ) → legal_if t (onward n r) ≡ onward (legal_if t n) r
    go true n = refl
    go false n = refl

-- the digit d behind the number v
digit-last : (v d : ℕ) → d < 10 → digits_from v ((48 + d) ∷ []) ≡ Some (v * 10 + d)
unfolding digits_from
digit-last v d h =
    let e : 48 + d - 48 ≡ d = omega arith in
    rw (le-leb 48 (48 + d) (omega arith), le-leb (48 + d) 57 (omega arith), e)

pub of-legal : (n : ℕ) → ◌≡◌ {A = Option ℕ} None (Some n) → ⊥
of-legal n e = let y : ◌≡◌ {A = ℕ} 0 1 = cc in omega arith

-- a number begins with a digit
digit-first : (v x : ℕ) (l : List ℕ) (n : ℕ) → digits_from v (x ∷ l) ≡ Some n → (48 ≤ x) × (x ≤ 57) × (digits_from (v * 10 + (x - 48)) l ≡ Some n)
unfolding digits_from
digit-first v x l n e = go (leb 48 x) refl (leb x 57) refl e
  where
    go : (a : Bool) → leb 48 x ≡ a → (b : Bool) → leb x 57 ≡ b → legal_if (a && b) (digits_from (v * 10 + (x - 48)) l) ≡ Some n
        → (48 ≤ x) × (x ≤ 57) × (digits_from (v * 10 + (x - 48)) l ≡ Some n)
    go true low true high q = (leb-true 48 x low, leb-true x 57 high, q)
    go true low false high q = absurd (of-legal n q)
    go false low b high q = absurd (of-legal n q)

digits-below : (l : List ℕ) (v k n : ℕ) → v < 10 ^ k → digits_from v l ≡ Some n → n < 10 ^ (k + length l)
unfolding digits_from
digits-below [] v k n h e =
    let same : v ≡ n = cc in
    rw (← same, add-zero k) h
digits-below (x ∷ l) v k n h e =
    let d = digit-first v x l n e in
    let long : suc k + length l ≡ k + suc (length l) = omega arith in
    rw (← long) (digits-below l (v * 10 + (x - 48)) (suc k) n (rw (pow-suc 10 k) (omega (arith, d.0, d.1))) d.2)

-- ---- the text of a number

decimal-short : (k n : ℕ) → n < 10 → decimal_in (suc k) n ≡ (48 + n) ∷ []
unfolding decimal_in
decimal-short k n h = rw (lt-ltb n 10 h)

decimal-long : (k v d : ℕ) → 0 < v → d < 10 → decimal_in (suc k) (v * 10 + d) ≡ decimal_in k v ++ ((48 + d) ∷ [])
unfolding decimal_in
decimal-long k v d some h =
    let front : (v * 10 + d) / 10 ≡ v = omega arith in
    let last : (v * 10 + d) % 10 ≡ d = omega arith in
    rw (le-ltb (v * 10 + d) 10 (omega arith), front, last)

-- a text that does not begin with 0
abbrev Headed : List ℕ → Type 0
Headed [] = ⊥
Headed (x ∷ xs) = 48 < x

headed-append : (l r : List ℕ) → Headed l → Headed (l ++ r)
headed-append [] r h = absurd h
headed-append (x ∷ l) r h = h

-- what a number's text of at most k digits is
record Decimal (k n : ℕ) (l : List ℕ) : Type 0 where
  read : digits_from 0 l ≡ Some n
  few : length l ≤ k
  headed : 0 < n → Headed l
  above : Above 47 l

decimal-in : (k n : ℕ) → n < 10 ^ k → Decimal k n (decimal_in k n)
unfolding decimal_in digits_from
decimal-in zero n h = record { read = ap Some (omega arith); few = omega arith; headed = λ some. absurd (omega arith); above = tt }
decimal-in (suc k) n h = go (decimal-in k (n / 10) (omega arith)) (ltb n 10) refl
  where
    go : Decimal k (n / 10) (decimal_in k (n / 10)) → (t : Bool) → ltb n 10 ≡ t → Decimal (suc k) n (digits_by t n (decimal_in k (n / 10)))
    go r true e =
        record {
          read = digit-last 0 n (ltb-true n 10 e) ∙ ap Some (omega arith);
          few = omega arith;
          headed = λ some. omega arith;
          above = omega arith;
        }
    go r false e =
        let big : 10 ≤ n = ltb-false n 10 e in
        let front = decimal_in k (n / 10) in
        let last = (48 + n % 10) ∷ [] in
        record {
          read = digits_append 0 front last ∙ ap (λ (v : Option ℕ). onward v last) r.read ∙ digit-last (n / 10) (n % 10) (omega arith) ∙ ap Some (omega arith);
          few = omega (arith, length-append front last, r.few);
          headed = λ some. headed-append front last (r.headed (omega arith));
          above = above-append 47 front last r.above (omega arith);
        }

pub decimal-above : (b n : ℕ) → b < 48 → n < 10000000000 → Above b (decimal n)
unfolding decimal
decimal-above b n low h = above-less b 47 (decimal n) (omega arith) (decimal-in 10 n h).above

number-headed : (l : List ℕ) → Headed l → length l ≤ 10 → number_of l ≡ digits_from 0 l
number-headed [] h few = absurd h
number-headed (x ∷ []) h few = number-one (x ∷ []) refl
number-headed (x ∷ y ∷ l) h few = number_more (x ∷ y ∷ l) (omega arith) few (omega arith)

pub number-decimal : (n : ℕ) → n < 10000000000 → number_of (decimal n) ≡ Some n
unfolding decimal number_of
number-decimal zero h = refl
number-decimal (suc m) h =
    let d = decimal-in 10 (suc m) h in
    number-headed (decimal (suc m)) (d.headed (omega arith)) d.few ∙ d.read

-- ---- no other text

-- l is the text of v, and xs are the digits behind it
decimal-behind : (xs : List ℕ) (j v : ℕ) (l : List ℕ) (k n : ℕ) → l ≡ decimal_in j v → j + length xs ≡ k → (0 < length xs → 0 < v) → digits_from v xs ≡ Some n
    → l ++ xs ≡ decimal_in k n
unfolding digits_from
decimal-behind [] j v l k n e same some q =
    let m : v ≡ n = cc in
    let s : j ≡ k = omega arith in
    append-nil l ∙ rw (← m, ← s) e
decimal-behind (x ∷ xs) j v l k n e same some q =
    let d = digit-first v x xs n q in
    let byte : 48 + (x - 48) ≡ x = omega arith in
    let behind : l ++ (x ∷ []) ≡ decimal_in (suc j) (v * 10 + (x - 48)) = rw (decimal-long j v (x - 48) (some (omega arith)) (omega arith), e, byte) in
    sym (append_assoc l (x ∷ []) xs)
    ∙ decimal-behind xs (suc j) (v * 10 + (x - 48)) (l ++ (x ∷ [])) k n behind (omega arith) (λ h. omega (arith, some (omega arith))) d.2

decimal-digits : (x : ℕ) (xs : List ℕ) (n : ℕ) → length xs ≤ 9 → (0 < length xs → x ≢ 48) → digits_from 0 (x ∷ xs) ≡ Some n → x ∷ xs ≡ decimal n
unfolding decimal
decimal-digits x xs n few head e =
    let d = digit-first 0 x xs n e in
    let byte : 48 + (x - 48) ≡ x = omega arith in
    let value : 0 * 10 + (x - 48) ≡ x - 48 = omega arith in
    decimal-behind xs (suc (9 - length xs)) (x - 48) (x ∷ []) 10 n (sym (decimal-short (9 - length xs) (x - 48) (omega arith) ∙ rw byte)) (omega arith) (λ h. omega (arith, head h)) (rw value at d.2)

-- what is read as a number has at most 10 digits
number-few : (l : List ℕ) (n : ℕ) → number_of l ≡ Some n → length l ≤ 10
number-few l n e = elim (dec_le (length l) 10) [ yes h ↦ h | no h ↦ absurd (of-legal n (sym (number-long l (omega arith)) ∙ e)) ]

pub number_small : (l : List ℕ) (n : ℕ) → number_of l ≡ Some n → n ≤ 9999999999
unfolding number_of
number_small l n e = omega (arith, digits-fit n (0 + length l) (digits-below l 0 0 n (omega arith) (go (allb (number_tests l)) e)) (omega (arith, number-few l n e)))
  where
    go : (t : Bool) → legal_if t (digits_from 0 l) ≡ Some n → digits_from 0 l ≡ Some n
    go true q = q
    go false q = absurd (of-legal n q)

pub decimal-number : (l : List ℕ) (n : ℕ) → number_of l ≡ Some n → l ≡ decimal n
decimal-number [] n e = absurd (of-legal n (sym (number-empty [] refl) ∙ e))
decimal-number (x ∷ []) n e = decimal-digits x [] n (omega arith) (λ h. absurd (omega arith)) (sym (number-one (x ∷ []) refl) ∙ e)
decimal-number (x ∷ y ∷ l) n e = decimal-digits x (y ∷ l) n (omega (arith, few)) (λ h. head) (sym (number_more (x ∷ y ∷ l) (omega arith) few head) ∙ e)
  where
    few : length (x ∷ y ∷ l) ≤ 10
    few = number-few (x ∷ y ∷ l) n e

    head : x ≢ 48
    head z = of-legal n (sym (number-zero (x ∷ y ∷ l) (omega arith) few z) ∙ e)
