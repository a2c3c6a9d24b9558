-- Judging goes line by line: what the lines above have counted, and what is still to be judged.
-- Assumes nothing.
use mathlib.Core.Path.{◌≡◌, refl, sym, ap, ◌∙◌}
use Rattle.std.specs.Prelude.{None, Some}
use mathlib.Core.List.{List, ◌∷◌}
use Prim.Native.Nat.{ℕ, ◌+◌, ◌≤◌}
use native.Mathlib.Omega.{arith}
use lib.ListN.{length, length-append}
use Rattle.std.specs.declared.option.Option.{Option}
use Rattle.model.specs.Answers.{answered, refused}
use Rattle.model.specs.Calls.{first_fault}
use Rattle.text.specs.declared.lines.Line.{Line}
use Rattle.text.specs.declared.counts.Counts.{Counts}
use Rattle.text.specs.Lines.{ended_line, lines_of}
use Rattle.text.specs.Read.{line_faults, counted, judge_from, no_counts, judge_text}
use Rattle.text.proofs.Passed.{Within, none_within, fine, within-counted}
use Rattle.text.proofs.LineCuts.{lines-none}
use Rattle.text.proofs.Inclusive.{Cut}

-- l: the bytes left of the text, the first of them line n; the lines above count k
pub record Judging (text : List ℕ) (k : Counts) (n : ℕ) (l : List ℕ) : Type 0 where
  pub fewer : n + length l ≤ length text + 1
  pub within : Within k
  pub left : judge_text text ≡ judge_from n k (lines_of l)

pub judging-first : (text l : List ℕ) → l ≡ text → Judging text no_counts 1 l
unfolding judge_text
judging-first text l e = rw e (record { fewer = omega arith; within = none_within; left = refl })

pub judged-last : {text l : List ℕ} {k : Counts} {n : ℕ} → Judging text k n l → length l ≡ 0 → answered k ≡ judge_text text
unfolding judge_from
judged-last {l = l} j e = sym (j.left ∙ rw (lines-none l e))

-- x: the piece of the line below
module _ {text l x r : List ℕ} {k : Counts} {n : ℕ} (j : Judging text k n l) (cut : Cut l x r) {y : Option Line} (read : y ≡ ended_line x) where
  left_at : judge_text text ≡ judge_from n k (y ∷ lines_of r)
  left_at = j.left ∙ rw (cut.lines, ← read)

  pub judged-fault : {f : ℕ} → Some f ≡ first_fault (line_faults k y) → refused f n ≡ judge_text text
  unfolding judge_from
  judged-fault e = sym (left_at ∙ rw (sym e))

  pub judging-next : {z : Counts} → None ≡ first_fault (line_faults k y) → z ≡ counted k y → Judging text z (n + 1) r
  unfolding judge_from
  judging-next {z} e q =
      record {
        fewer = omega (arith, j.fewer, cut.some, ap length cut.whole, length-append x r);
        within = rw q (within-counted k y j.within (fine k y (sym e)));
        left = left_at ∙ rw (sym e, q);
      }
