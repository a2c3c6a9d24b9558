-- A text line by line: at its first LF it has a first line and a rest, and where it has none it is one line without LF.
-- Assumes nothing.
use mathlib.Core.Path.{◌≡◌, refl, sym, ap, ◌∙◌}
use mathlib.Core.Bool.{Bool, true, false}
use mathlib.Core.List.{List, [], ◌∷◌, ◌++◌, append-nil}
use Prim.Native.Nat.{ℕ, ◌+◌, ◌-◌, ◌<◌, ◌≤◌, min}
use native.Mathlib.Decide.{dec_le}
use native.Mathlib.Omega.{arith}
use lib.Dec.{eqb}
use lib.ListN.{length, take, drop, get_or, length-drop, length-append, get_or-append}
use lib.Seq.{take-append-le, drop_at}
use Rattle.std.specs.List.{IsFirstMatchOrLen}
use Rattle.std.proofs.lemmas.List.Sums.{position_or_len_is}
use Rattle.std.specs.Prelude.{None}
use Rattle.text.specs.Bytes.{place, parted, parting}
use Rattle.text.specs.Lines.{line_of, ended_line, lined, lined_from, lines_of}
use Rattle.text.proofs.Parted.{place-le, position-place, parted-cut, parted-whole}
use Rattle.text.proofs.Parts.{rest, part-back}

lines_none : lines_of [] ≡ []
unfolding lines_of
lines_none = refl

pub lines-none : (l : List ℕ) → length l ≡ 0 → lines_of l ≡ []
lines-none [] e = lines_none
lines-none (x ∷ l) e = absurd (omega arith)

-- a text has pieces, so what stands before them is a line with its LF
pub lined-cons : (p : List ℕ) (b : ℕ) (l : List ℕ) → lined_from p (parted b l) ≡ line_of p ∷ lined (parted b l)
unfolding parted
lined-cons p b [] = refl
lined-cons p b (x ∷ xs) = go (eqb x b) (parted b xs)
  where
    go : (t : Bool) (ps : List (List ℕ)) → lined_from p (parting t x ps) ≡ line_of p ∷ lined (parting t x ps)
    go true ps = refl
    go false [] = refl
    go false (q ∷ qs) = refl

pub lines_cut : (l : List ℕ) → place 10 l < length l → lines_of l ≡ line_of (take (place 10 l) l) ∷ lines_of (drop (place 10 l + 1) l)
unfolding lines_of
lines_cut l h = rw (parted-cut 10 l h) (lined-cons (take (place 10 l) l) 10 (drop (place 10 l + 1) l))

pub lines-whole : (l : List ℕ) → 0 < length l → place 10 l ≡ length l → lines_of l ≡ None ∷ []
unfolding lines_of
lines-whole [] h e = absurd (omega arith)
lines-whole (x ∷ xs) h e = rw (parted-whole 10 (x ∷ xs) e)

-- ---- a piece that `split_inclusive` cuts off: it ends at the first LF, or has all that is left

whole_piece : (x : List ℕ) → 0 < length x → ((k : ℕ) → k < length x → eqb (get_or x k 0) 10 ≡ false) → lines_of x ≡ ended_line x ∷ lines_of []
whole_piece x some out =
    let none : place 10 x ≡ length x = position-place 10 x ∙ position_or_len_is (λ y. eqb y 10) x (length x) 0 (omega arith) out (λ h. absurd (omega arith)) in
    lines-whole x some none ∙ rw (out (length x - 1) (omega arith), lines_none)

ended_piece : (x r : List ℕ) (i : ℕ) → length x ≡ i + 1 → ((k : ℕ) → k < i → eqb (get_or (x ++ r) k 0) 10 ≡ false) → eqb (get_or (x ++ r) i 0) 10 ≡ true
    → lines_of (x ++ r) ≡ ended_line x ∷ lines_of r
ended_piece x r i n out here =
    let within : i < length (x ++ r) = omega (arith, length-append x r) in
    let first : place 10 (x ++ r) ≡ i = position-place 10 (x ++ r) ∙ position_or_len_is (λ y. eqb y 10) (x ++ r) i 0 (omega arith) out (λ h. here) in
    let last : length x - 1 ≡ i = omega arith in
    let byte : eqb (get_or x i 0) 10 ≡ true = sym (ap (λ (y : ℕ). eqb y 10) (get_or-append x r 0 i (omega arith))) ∙ here in
    lines_cut (x ++ r) (omega arith) ∙ rw (first, take-append-le i x r (omega arith), drop_at x r (i + 1) n, last, byte)

first_piece : (x r : List ℕ) (i : ℕ) → 0 < length (x ++ r) → length x ≡ min (i + 1) (length (x ++ r)) → IsFirstMatchOrLen (λ y. eqb y 10) (x ++ r) i
    → lines_of (x ++ r) ≡ ended_line x ∷ lines_of r
first_piece x r i some n first = elim (dec_le (length (x ++ r)) i) [
  | yes h ↦ all r (omega (arith, length-append x r)) some (λ k l. first.0 k 0 (omega arith) (omega (arith, length-append x r)))
  | no h ↦ ended_piece x r i (omega arith) (λ k l. first.0 k 0 (omega arith) l) (first.1 (omega arith) 0)
]
  where
    all : (r : List ℕ) → length r ≡ 0 → 0 < length (x ++ r) → ((k : ℕ) → k < length x → eqb (get_or (x ++ r) k 0) 10 ≡ false) → lines_of (x ++ r) ≡ ended_line x ∷ lines_of r
    all [] e some out = rw (append-nil x) (whole_piece x (omega (arith, length-append {A = ℕ} x [])) (λ k l. rw (append-nil x) at (out k l)))
    all (y ∷ r) e some out = absurd (omega arith)

pub lines_piece : {l : List ℕ} (x r : List ℕ) (i : ℕ) → l ≡ x ++ r → 0 < length l → length x ≡ min (i + 1) (length l) → IsFirstMatchOrLen (λ y. eqb y 10) l i
    → lines_of l ≡ ended_line x ∷ lines_of r
lines_piece x r i e some n first = rw e (first_piece x r i (rw e at some) (rw e at n) (rw e at first))

-- ---- the first LF from a place in a text on

pub place-within : (text : List ℕ) (at : ℕ) {p : ℕ} → p ≡ place 10 (rest text at) → p ≤ length text - at
place-within text at found = omega (arith, found ∙ ap (place 10) (part-back at text), place-le 10 (drop at text), length-drop at text)
