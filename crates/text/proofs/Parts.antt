-- The part of a slice from a place on, `s[p..]`, as a list.
-- Assumes nothing.
use mathlib.Core.Path.{◌≡◌}
use mathlib.Core.List.{List}
use Prim.Native.Nat.{ℕ, ◌-◌}
use native.Mathlib.Omega.{arith}
use lib.ListN.{length, take, drop, length-drop}
use lib.Seq.{take_all}

pub part-back : (p : ℕ) (l : List ℕ) → take (length l - p) (drop p l) ≡ drop p l
part-back p l = take_all (length l - p) (drop p l) (omega (arith, length-drop p l))

-- the bytes from a place on, as `&text[at..]` has them
abbrev pub rest : List ℕ → ℕ → List ℕ
rest text at = take (length text - at) (drop at text)
