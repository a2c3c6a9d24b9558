-- A second reading of a text that is not refused, line by line: each line left has its LF and passes.
-- Assumes nothing.
use mathlib.Core.Path.{◌≡◌}
use mathlib.Core.List.{List, ◌∷◌}
use Prim.Native.Nat.{ℕ, ◌+◌}
use Rattle.std.specs.declared.option.Option.{Option}
use Rattle.model.specs.Answers.{answered}
use Rattle.text.specs.declared.lines.Line.{Line}
use Rattle.text.specs.declared.counts.Counts.{Counts}
use Rattle.text.specs.Lines.{ended_line, lines_of}
use Rattle.text.specs.Read.{counted, judge_from, no_counts, judge_text}
use Rattle.text.proofs.Passed.{Within, none_within, within-counted, Passes, fine-first, passes-first, passes-rest}
use Rattle.text.proofs.Inclusive.{Cut}

-- l: the bytes left of a text; the lines above count k, and all lines count z
pub record Passing (k z : Counts) (l : List ℕ) : Type 0 where
  pub line : ℕ
  pub within : Within k
  pub judged : judge_from line k (lines_of l) ≡ answered z

pub passing-first : (text : List ℕ) {z : Counts} → judge_text text ≡ answered z → Passing no_counts z text
unfolding judge_text
passing-first text e = record { line = 1; within = none_within; judged = e }

-- x: the piece of the line below
module _ {k z : Counts} {l x r : List ℕ} (s : Passing k z l) (cut : Cut l x r) {y : Option Line} (read : y ≡ ended_line x) where
  judged-lines : judge_from s.line k (y ∷ lines_of r) ≡ answered z
  judged-lines = rw read (rw cut.lines at s.judged)

  pub passing-line : Passes k z y
  passing-line = passes-first s.line k y (lines_of r) judged-lines

  pub passing-next : {v : Counts} → v ≡ counted k y → Passing v z r
  passing-next q =
      rw q (record {
        line = s.line + 1;
        within = within-counted k y s.within (fine-first s.line k y (lines_of r) judged-lines);
        judged = passes-rest s.line k y (lines_of r) judged-lines;
      })
