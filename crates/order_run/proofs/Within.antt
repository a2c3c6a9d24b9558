-- Lines that are put are within the bytes lent.
-- Assumes nothing.
use mathlib.Core.List.{List}
use Prim.Native.Nat.{ℕ, ◌+◌, ◌≤◌}
use native.Mathlib.Omega.{arith}
use lib.ListN.{length, drop, length-append}
use Rattle.put_text.specs.Puts.{Puts}

-- a text put at the start ends within the bytes
pub put-within : {out t left : List ℕ} {r : ℕ} → Puts out 0 t r left → r ≤ length left
put-within {out} {t} p = rw p.bytes (omega (arith, p.end, length-append t (drop (0 + length t) out)))
