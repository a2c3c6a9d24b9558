-- The words of a path, put one behind the other, and how long the fields of a line are.
-- Assumes nothing.
use mathlib.Core.Path.{◌≡◌, refl, ap, sym, ◌∙◌}
use mathlib.Core.List.{List, [], ◌∷◌, ◌++◌, append_assoc}
use Prim.Native.Nat.{ℕ, zero, suc, ◌+◌, ◌*◌, ◌<◌, ◌≤◌}
use native.Mathlib.Numerals.{add-one}
use native.Mathlib.Omega.{arith}
use lib.ListN.{length, get_or, take, length-append}
use lib.Seq.{length-take-le}
use Rattle.text.specs.Print.{decimal}
use Rattle.order_lines.specs.Answers.{refused_by, words_text, answer_line, spaced, answer_fields, path_text}
use Rattle.order_lines.specs.declared.answers.Answer.{Answer}
use Rattle.order_lines.specs.declared.answers.Answer.TheVariants.{Solved, Impossible, Refused, Incomplete}
use Rattle.order_lines.specs.declared.answers.Line.{Line}
use Rattle.put_text.specs.Puts.{Puts}
use Rattle.put_text.proofs.Decimals.{decimal-length}
use Rattle.put_text.proofs.Puts.{puts_none, puts_then}

pub spaced-later : (i w : ℕ) → (i ≡ 0 → ⊥) → spaced i w ≡ 32 ∷ decimal w
spaced-later zero w h = absurd (h refl)
spaced-later (suc i) w h = refl

pub words-length : (ws : List ℕ) → length (words_text ws) ≤ 11 * length ws
unfolding words_text
words-length [] = omega arith
words-length (w ∷ []) = omega (arith, decimal-length w)
words-length (w ∷ x ∷ ws) = omega (arith, decimal-length w, length-append (decimal w) (32 ∷ words_text (x ∷ ws)), words-length (x ∷ ws))

pub words-add : (ws : List ℕ) (i : ℕ) → i < length ws → words_text (take (suc i) ws) ≡ words_text (take i ws) ++ spaced i (get_or ws i 0)
unfolding words_text
words-add [] zero h = absurd (omega arith)
words-add [] (suc i) h = absurd (omega arith)
words-add (w ∷ ws) zero h = refl
words-add (w ∷ []) (suc i) h = absurd (omega arith)
words-add (w ∷ x ∷ ws) (suc zero) h = refl
words-add (w ∷ x ∷ ws) (suc (suc i)) h =
    ap (λ (l : List ℕ). decimal w ++ (32 ∷ l)) (words-add (x ∷ ws) (suc i) (omega arith))
    ∙ sym (append_assoc (decimal w) (32 ∷ words_text (x ∷ take i ws)) (32 ∷ decimal (get_or ws i 0)))

-- the first words of ws stand from `at` on
module _ (out : List ℕ) (at : ℕ) (ws : List ℕ) where
  pub words-start : Puts out at (words_text (take 0 ws)) at out
  unfolding words_text
  words-start = puts_none out at

  pub words-room : (i end : ℕ) (mid : List ℕ) → i < length ws → Puts out at (words_text (take i ws)) end mid → at + 11 * length ws ≤ length out
      → end + 11 ≤ length out
  words-room i end mid h p room = omega (arith, p.end, words-length (take i ws), length-take-le i ws (omega arith))

  pub words-next : (i : ℕ) {end r : ℕ} {mid left : List ℕ} → at ≤ length out → i < length ws → Puts out at (words_text (take i ws)) end mid
      → Puts mid end (spaced i (get_or ws i 0)) r left → Puts out at (words_text (take (i + 1) ws)) r left
  words-next i h l p q = rw (add-one i, words-add ws i l) (puts_then h p q)

-- ---- the fields of a line

pub field_end : (n : ℕ) {at r : ℕ} {out left : List ℕ} → Puts out at (decimal n ++ (44 ∷ [])) r left → r ≤ at + 11
field_end n p = omega (arith, p.end, length-append (decimal n) (44 ∷ []), decimal-length n)

pub refused-length : (n : ℕ) → length (refused_by n) ≤ 18
refused-length n = omega (arith, decimal-length n)

pub answer-length : (a : Answer) → length (answer_fields a) ≤ 21
answer-length (Solved k) = omega (arith, length-append (decimal k) (44 ∷ []), decimal-length k)
answer-length Impossible = omega arith
answer-length (Refused n) = omega (arith, length-append (refused_by n) (44 ∷ 45 ∷ 44 ∷ []), refused-length n)
answer-length Incomplete = omega arith

pub path-length : (a : Answer) (ws : List ℕ) → length (path_text a ws) ≤ 11 * length ws + 1
path-length (Solved k) ws = omega (arith, words-length ws)
path-length Impossible ws = omega arith
path-length (Refused n) ws = omega arith
path-length Incomplete ws = omega arith

-- the text of a line as its fields are put
pub line-text : (x : Line) (p : List ℕ) → answer_line x p
    ≡ (decimal x.order ++ (44 ∷ []))
    ++ (answer_fields x.answer ++ ((decimal x.waits ++ (44 ∷ [])) ++ ((decimal x.tickets ++ (44 ∷ [])) ++ (path_text x.answer p ++ (10 ∷ [])))))
unfolding answer_line
line-text x p = simp append_assoc
