-- Numbers: the digits read one by one, and the texts that are none.
-- Assumes nothing.
use mathlib.Core.Path.{◌≡◌, refl, sym, ◌∙◌}
use mathlib.Core.Bool.{Bool, true, false}
use mathlib.Core.List.{List, [], ◌∷◌}
use Prim.Native.Nat.{ℕ, suc, ◌+◌, ◌-◌, ◌*◌, ◌^◌, ◌<◌, ◌≤◌}
use native.Mathlib.Nat.{pow-suc, pow-le-pow_right}
use native.Mathlib.Numerals.{add-one}
use native.Mathlib.Omega.{arith}
use borrow.Author.Tests.{eq-eqb, ne_eqb, eqb-true, le-leb, lt-leb}
use lib.Dec.{eqb}
use lib.ListN.{length, drop, get_or, drop_of_length-le}
use lib.Seq.{drop-cons}
use Rattle.std.specs.Prelude.{Some, None}
use Rattle.model.specs.Lists.{allb}
use Rattle.text.specs.Bytes.{place, place_by, is_digit, legal_if, digits_from, number_of, number_tests}

-- the byte at place i of l is read
module _ (v : ℕ) (l : List ℕ) (i : ℕ) (h : i < length l) where
  read-on : digits_from v (drop i l) ≡ legal_if (is_digit (get_or l i 0)) (digits_from (v * 10 + (get_or l i 0 - 48)) (drop (suc i) l))
  unfolding digits_from
  read-on = rw (drop-cons l i 0 h)

  pub digit-none : false ≡ is_digit (get_or l i 0) → None ≡ digits_from v (drop i l)
  digit-none e = sym (read-on ∙ rw (sym e))

  pub digit-read : true ≡ is_digit (get_or l i 0) → digits_from v (drop i l) ≡ digits_from (v * 10 + (get_or l i 0 - 48)) (drop (i + 1) l)
  digit-read e = read-on ∙ rw (sym e, add-one)

pub digits-end : (v : ℕ) (l : List ℕ) (i : ℕ) → length l ≤ i → digits_from v (drop i l) ≡ Some v
unfolding digits_from
digits-end v l i h = rw (drop_of_length-le l h)

-- i digits make a number below 10 ^ i
pub digits_more : (v i x : ℕ) → v < 10 ^ i → x ≤ 57 → v * 10 + (x - 48) < 10 ^ (i + 1)
digits_more v i x small high = rw (add-one i, pow-suc 10 i) (omega arith)

pub digits-fit : (v i : ℕ) → v < 10 ^ i → i ≤ 10 → v < 10000000000
digits-fit v i small few = omega (arith, pow-le-pow_right {n = 10} (omega arith) few)

-- ---- the first tests

pub number-empty : (l : List ℕ) → length l ≡ 0 → number_of l ≡ None
unfolding number_of
number-empty l e = rw (lt-leb 1 (length l) (omega arith))

pub number-long : (l : List ℕ) → 10 < length l → number_of l ≡ None
unfolding number_of
number-long l h = rw (le-leb 1 (length l) (omega arith), lt-leb (length l) 10 h)

pub number-zero : (l : List ℕ) → 1 < length l → length l ≤ 10 → get_or l 0 0 ≡ 48 → number_of l ≡ None
unfolding number_of
number-zero l h few z = rw (le-leb 1 (length l) (omega arith), le-leb (length l) 10 few, lt-leb (length l) 1 h, eq-eqb (get_or l 0 0) 48 z)

pub number-one : (l : List ℕ) → length l ≡ 1 → number_of l ≡ digits_from 0 l
unfolding number_of
number-one l e = rw (le-leb 1 (length l) (omega arith), le-leb (length l) 10 (omega arith), le-leb (length l) 1 (omega arith))

pub number_more : (l : List ℕ) → 1 < length l → length l ≤ 10 → (get_or l 0 0 ≡ 48 → ⊥) → number_of l ≡ digits_from 0 l
unfolding number_of
number_more l h few z = rw (le-leb 1 (length l) (omega arith), le-leb (length l) 10 few, lt-leb (length l) 1 h, ne_eqb (get_or l 0 0) 48 z)

-- ---- a comma is no digit

legal-illegal : (t : Bool) → legal_if t None ≡ None
legal-illegal true = refl
legal-illegal false = refl

digits-comma : (v : ℕ) (l : List ℕ) → place 44 l < length l → digits_from v l ≡ None
unfolding place digits_from
digits-comma v [] h = absurd (omega arith)
digits-comma v (x ∷ xs) h = go (digits-comma (v * 10 + (x - 48)) xs) (eqb x 44) refl h
  where
    go : (place 44 xs < length xs → digits_from (v * 10 + (x - 48)) xs ≡ None)
        → (t : Bool) → eqb x 44 ≡ t → place_by t (place 44 xs) < suc (length xs)
        → legal_if (is_digit x) (digits_from (v * 10 + (x - 48)) xs) ≡ None
    go r true e l = rw (eqb-true x 44 e)
    go r false e l = rw (r (omega arith)) (legal-illegal (is_digit x))

pub comma-illegal : (l : List ℕ) → place 44 l < length l → number_of l ≡ None
unfolding number_of
comma-illegal l h = rw (digits-comma 0 l h) (legal-illegal (allb (number_tests l)))
