-- The digits of a number, as a line has them and as the library writes them.
-- Assumes nothing.
use mathlib.Core.Path.{◌≡◌, sym}
use mathlib.Core.Bool.{Bool, true, false}
use mathlib.Core.List.{[], ◌∷◌}
use Prim.Native.Nat.{ℕ, zero, suc, ◌/◌, ◌%◌, ◌+◌, ◌<◌, ◌≤◌}
use native.Mathlib.Omega.{arith}
use borrow.Author.Tests.{lt-ltb, le-ltb}
use lib.Dec.{ltb}
use lib.ListN.{length, length-append}
use Rattle.std.specs.Fmt.{decimal as written}
use Rattle.std.proofs.lemmas.Fmt.{AppendsLastDigit, decimal_from_appends, length-decimal-le}
use Rattle.text.specs.Print.{decimal, decimal_in, digits_by}

decimal-in-length : (k n : ℕ) → length (decimal_in k n) ≤ k
unfolding decimal_in
decimal-in-length zero n = omega arith
decimal-in-length (suc k) n = go (decimal-in-length k (n / 10)) (ltb n 10)
  where
    go : length (decimal_in k (n / 10)) ≤ k → (t : Bool) → length (digits_by t n (decimal_in k (n / 10))) ≤ suc k
    go h true = omega arith
    go h false = omega (arith, length-append (decimal_in k (n / 10)) ((48 + n % 10) ∷ []))

pub decimal-length : (n : ℕ) → length (decimal n) ≤ 10
unfolding decimal
decimal-length n = decimal-in-length 10 n

appends : AppendsLastDigit decimal_in
unfolding decimal_in
appends = record { one = λ k n h. rw (lt-ltb n 10 h); more = λ k n h. rw (le-ltb n 10 h) }

-- up to ten digits, the library's text is a line's
pub written_decimal : (n : ℕ) → n < 10000000000 → written n ≡ decimal n
unfolding decimal
written_decimal n h = sym (decimal_from_appends decimal_in appends 10 n (omega arith) (length-decimal-le 10 n (omega arith) h (omega arith)))
