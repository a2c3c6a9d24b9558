-- A text is refused exactly by its first fault: "lines downward".
-- Assumes nothing.
use mathlib.Core.Path.{◌≡◌, refl, sym, ap, ◌∙◌}
use mathlib.Core.List.{List, [], ◌∷◌}
use Prim.Native.Nat.{ℕ, zero, suc, ◌+◌, ◌<◌}
use native.Mathlib.Omega.{arith}
use lib.ListN.{length, get_or, take}
use Rattle.std.specs.Prelude.{None, Some}
use Rattle.std.specs.declared.option.Option.{Option}
use Rattle.model.specs.Answers.{answered, refused}
use Rattle.model.specs.Calls.{first_fault}
use Rattle.model.proofs.Replies.{answered-refused}
use Rattle.text.specs.declared.lines.Line.{Line}
use Rattle.text.specs.declared.counts.Counts.{Counts}
use Rattle.text.specs.Lines.{lines_of}
use Rattle.text.specs.Read.{line_faults, counted, unless_fault, judge_from, no_counts, judge_text, FaultFrom, RefusedExactly}

fault-from : (n : ℕ) (k : Counts) (xs : List (Option Line)) (f at : ℕ) → judge_from n k xs ≡ refused f at → FaultFrom n k xs f at
unfolding judge_from
fault-from n k [] f at e = let z : ◌≡◌ {A = ℕ} 0 1 = cc in absurd (omega arith)
fault-from n k (x ∷ xs) f at e = go (first_fault (line_faults k x)) refl e (fault-from (n + 1) (counted k x) xs f at)
  where
    go : (o : Option ℕ) → first_fault (line_faults k x) ≡ o → unless_fault o n (judge_from (n + 1) (counted k x) xs) ≡ refused f at
        → (judge_from (n + 1) (counted k x) xs ≡ refused f at → FaultFrom (n + 1) (counted k x) xs f at)
        → FaultFrom n k (x ∷ xs) f at
    go (Some g) q r below =
        let same : g ≡ f = cc in
        let here : n ≡ at = cc in
        record { above = 0; place = omega arith; inside = omega arith; counts = k; passed = refl; fault = q ∙ ap Some same }
    go None q r below =
        let b = below r in
        record {
          above = suc b.above;
          place = omega (arith, b.place);
          inside = omega (arith, b.inside);
          counts = b.counts;
          passed = rw q b.passed;
          fault = b.fault;
        }

-- and back: where the lines above pass, the fault of the line is the answer
module _ (counts : Counts) (f : ℕ) where
  refused-from : (above n : ℕ) (k : Counts) (xs : List (Option Line)) → above < length xs → judge_from n k (take above xs) ≡ answered counts
      → first_fault (line_faults counts (get_or xs above None)) ≡ Some f → judge_from n k xs ≡ refused f (above + n)
  unfolding judge_from
  refused-from zero n k [] h p q = absurd (omega arith)
  refused-from (suc above) n k [] h p q = absurd (omega arith)
  refused-from zero n k (x ∷ xs) h p q =
      let same : k ≡ counts = cc in
      let fault : first_fault (line_faults k x) ≡ Some f = rw same q in
      rw fault (ap (refused f) (omega arith))
  refused-from (suc above) n k (x ∷ xs) h p q =
      go (first_fault (line_faults k x)) p (λ r. refused-from above (n + 1) (counted k x) xs (omega arith) r q ∙ ap (refused f) (omega arith))
    where
      go : (o : Option ℕ) → unless_fault o n (judge_from (n + 1) (counted k x) (take above xs)) ≡ answered counts
          → (judge_from (n + 1) (counted k x) (take above xs) ≡ answered counts → judge_from (n + 1) (counted k x) xs ≡ refused f (suc above + n))
          → unless_fault o n (judge_from (n + 1) (counted k x) xs) ≡ refused f (suc above + n)
      go (Some g) r below = absurd (answered-refused counts g n (sym r))
      go None r below = below r

pub first-fault : RefusedExactly
unfolding judge_text
first-fault text f at = (
  fault-from 1 no_counts (lines_of text) f at,
  λ b. refused-from b.counts f b.above 1 no_counts (lines_of text) b.inside b.passed b.fault ∙ ap (refused f) (sym b.place),
)
