-- A word read at a place of its area, of the words without some of the first, or of a part of the words.
-- Assumes nothing.
use mathlib.Core.Path.{◌≡◌, ap, ◌∙◌}
use mathlib.Core.List.{List}
use Prim.Native.Nat.{ℕ, ◌+◌, ◌<◌, ◌≤◌}
use native.Mathlib.Nat.{add-zero}
use native.Mathlib.Omega.{arith}
use lib.ListN.{length, get_or, drop, length-drop}
use lib.Seq.{length-take-le, get_or-take, get_or-drop}
use Rattle.layout.specs.Layout.{part}

-- the area's start a, as the code has it, is b, as the definition has it
pub word_at : (ws : List ℕ) (i : ℕ) {a b x : ℕ} → x ≡ get_or ws (a + i) 0 → a ≡ b → x ≡ get_or ws (b + i) 0
word_at ws i e q = e ∙ ap (λ (n : ℕ). get_or ws (n + i) 0) q

pub word_first : (ws : List ℕ) (a : ℕ) {x : ℕ} → x ≡ get_or ws (a + 0) 0 → x ≡ get_or ws a 0
word_first ws a e = e ∙ ap (λ (n : ℕ). get_or ws n 0) (add-zero a)

pub word-behind : (n : ℕ) (ws : List ℕ) (i j : ℕ) → n + i ≡ j → get_or (drop n ws) i 0 ≡ get_or ws j 0
word-behind n ws i j e = get_or-drop n ws i 0 ∙ ap (λ (k : ℕ). get_or ws k 0) e

-- ---- n words from a on

pub part_at : (a n : ℕ) (t : List ℕ) (i : ℕ) → i < n → get_or (part a n t) i 0 ≡ get_or t (a + i) 0
part_at a n t i h = get_or-take n (drop a t) i 0 h ∙ get_or-drop a t i 0

pub part_length : (a n : ℕ) (t : List ℕ) → a + n ≤ length t → length (part a n t) ≡ n
part_length a n t h = length-take-le n (drop a t) (omega (arith, length-drop a t))
