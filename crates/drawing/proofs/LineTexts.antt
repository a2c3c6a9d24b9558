-- How long the lines of a drawing are.
-- Assumes nothing.
use mathlib.Core.Path.{◌≡◌, refl, ap}
use mathlib.Core.Bool.{Bool, true, false, cond, beq}
use mathlib.Core.List.{List, [], ◌∷◌, ◌++◌}
use Prim.Native.Nat.{ℕ, zero, suc, ◌+◌, ◌/◌, ◌%◌, ◌^◌, ◌<◌, ◌≤◌}
use native.Mathlib.Omega.{arith}
use borrow.Author.Tests.{ltb-false}
use lib.Dec.{ltb}
use lib.ListN.{length, get_or, length-append}
use Rattle.text.specs.Bytes.{bytes}
use Rattle.text.specs.Print.{decimal, decimal_in, digits_by}
use Rattle.put_text.specs.Puts.{Puts}
use Rattle.put_text.proofs.Decimals.{decimal-length}
use Rattle.std.specs.Prelude.{None, Some}
use Rattle.std.specs.declared.option.Option.{Option}
use Rattle.drawing.specs.Drawing.{numbered, initial_label, line_end, vertex_line, edge_line}
use Rattle.drawing.specs.Puts.{vertex_of, vertex_if, edge_of}

pub numbered-end : (t : List ℕ) (n : ℕ) {at r : ℕ} {out left : List ℕ} → Puts out at (numbered t n) r left → r ≤ at + length t + 10
numbered-end t n p = omega (arith, p.end, length-append t (decimal n), decimal-length n)

pub initial-length : (c : Option ℕ) → length (initial_label c) ≤ 18
initial-length None = omega arith
initial-length (Some c) = omega (arith, decimal-length c)

-- a number below 10 ^ j has at most j digits
decimal-in-short : (j k n : ℕ) → n < 10 ^ suc j → length (decimal_in k n) ≤ suc j
unfolding decimal_in
decimal-in-short zero zero n h = omega arith
decimal-in-short (suc j) zero n h = omega arith
decimal-in-short zero (suc k) n h = go (ltb n 10) refl
  where
    go : (t : Bool) → ltb n 10 ≡ t → length (digits_by t n (decimal_in k (n / 10))) ≤ 1
    go true e = omega arith
    go false e = absurd (omega (arith, ltb-false n 10 e))
decimal-in-short (suc j) (suc k) n h = go (decimal-in-short j k (n / 10) (omega arith)) (ltb n 10)
  where
    go : length (decimal_in k (n / 10)) ≤ suc j → (t : Bool) → length (digits_by t n (decimal_in k (n / 10))) ≤ suc (suc j)
    go few true = omega arith
    go few false = omega (arith, length-append (decimal_in k (n / 10)) ((48 + n % 10) ∷ []))

decimal-short : (n : ℕ) → n < 10000 → length (decimal n) ≤ 4
unfolding decimal
decimal-short n h = decimal-in-short 3 10 n h

end-length : (bold : Bool) → length (line_end bold) ≤ 16
end-length true = omega arith
end-length false = omega arith

pub end-room : (bold : Bool) {t : List ℕ} → t ≡ line_end bold → length t ≤ 16
end-room bold e = omega (arith, ap length e, end-length bold)

vertex-length : (v : ℕ) (c : Option ℕ) (bold : Bool) → v < 10000 → length (vertex_line v c bold) ≤ 64
unfolding vertex_line
vertex-length v c bold h =
    let rest = initial_label c ++ line_end bold in
    let label = bytes " [label=\"" ++ (decimal v ++ rest) in
    omega (arith, decimal-short v h, initial-length c, end-length bold, length-append (decimal v) label, length-append (decimal v) rest, length-append (initial_label c) (line_end bold))

edge-length : (a b c : ℕ) (bold : Bool) → length (edge_line a b c bold) ≤ 64
unfolding edge_line
edge-length a b c bold =
    let label = bytes " [label=\"" ++ (decimal c ++ line_end bold) in
    let to = bytes " -> " ++ (decimal b ++ label) in
    omega (
      arith,
      decimal-length a,
      decimal-length b,
      decimal-length c,
      end-length bold,
      length-append (decimal a) to,
      length-append (decimal b) label,
      length-append (decimal c) (line_end bold),
    )

-- a vertex has a line among those reached or among those apart
pub vertex-most : (ws : List ℕ) (marks bold : List Bool) (v : ℕ) → v < 10000 → length (vertex_if ws marks true bold v) + length (vertex_if ws marks false bold v) ≤ 64
vertex-most ws marks bold v h = go (get_or marks v false)
  where
    few : length (vertex_of ws bold v) ≤ 64
    few = vertex-length v _ _ h

    go : (t : Bool) → length (cond (beq t true) (vertex_of ws bold v) []) + length (cond (beq t false) (vertex_of ws bold v) []) ≤ 64
    go true = omega (arith, few)
    go false = omega (arith, few)

pub edge-most : (ws : List ℕ) (bold : List Bool) (e : ℕ) → length (edge_of ws bold e) + 0 ≤ 64
edge-most ws bold e = let few : length (edge_of ws bold e) ≤ 64 = edge-length _ _ _ _ in omega (arith, few)
