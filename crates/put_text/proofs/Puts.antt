-- Texts put one behind the other: a line is a chain of them.
-- Assumes nothing.
use mathlib.Core.Path.{◌≡◌, sym, ap, ap₂, ◌∙◌}
use mathlib.Core.List.{List, [], ◌++◌, append_assoc}
use Prim.Native.Nat.{ℕ, ◌+◌, ◌≤◌}
use native.Mathlib.Nat.{add-zero}
use native.Mathlib.Omega.{arith}
use lib.ListN.{length, take, drop, length-append, take-append-drop}
use lib.Seq.{length-take-le, take_at, drop_at, drop-drop}
use Rattle.put_text.specs.Puts.{puts, Puts}

-- what stands before the end of a text x that is put, and behind it
module _ (out : List ℕ) (a : ℕ) (x : List ℕ) (h : a ≤ length out) where
  abbrev behind : List ℕ
  behind = drop (a + length x) out

  fronted : puts out a x ≡ (take a out ++ x) ++ behind
  fronted = sym (append_assoc (take a out) x behind)

  front_length : length (take a out ++ x) ≡ a + length x
  front_length = omega (arith, length-append (take a out) x, length-take-le a out h)

  take-puts : take (a + length x) (puts out a x) ≡ take a out ++ x
  take-puts = ap (take (a + length x)) fronted ∙ take_at (take a out ++ x) behind (a + length x) front_length

  drop-puts : (n : ℕ) → drop (a + length x + n) (puts out a x) ≡ drop (a + length x + n) out
  drop-puts n =
      sym (drop-drop n (a + length x) (puts out a x))
      ∙ ap (drop n) (ap (drop (a + length x)) fronted ∙ drop_at (take a out ++ x) behind (a + length x) front_length)
      ∙ drop-drop n (a + length x) out

  pub puts-puts : (y : List ℕ) → puts (puts out a x) (a + length x) y ≡ puts out a (x ++ y)
  puts-puts y =
      let ends : a + length x + length y ≡ a + length (x ++ y) = omega (arith, length-append x y) in
      ap₂ (λ (p q : List ℕ). p ++ (y ++ q)) take-puts (drop-puts (length y))
      ∙ append_assoc (take a out) x (y ++ drop (a + length x + length y) out)
      ∙ ap (λ (l : List ℕ). take a out ++ l) (sym (append_assoc x y (drop (a + length x + length y) out)))
      ∙ ap (λ (n : ℕ). take a out ++ ((x ++ y) ++ drop n out)) ends

pub puts_then : {out mid left x y : List ℕ} {a m r : ℕ} → a ≤ length out → Puts out a x m mid → Puts mid m y r left → Puts out a (x ++ y) r left
puts_then {out} {mid} {left} {x} {y} {a} {m} {r} h p q =
    record {
      end = omega (arith, p.end, q.end, length-append x y);
      bytes = q.bytes ∙ ap₂ (λ (l : List ℕ) (n : ℕ). puts l n y) p.bytes p.end ∙ puts-puts out a x h y;
    }

pub puts_none : (out : List ℕ) (a : ℕ) → Puts out a [] a out
puts_none out a = record { end = sym (add-zero a); bytes = sym (rw (add-zero a) (take-append-drop a out)) }
