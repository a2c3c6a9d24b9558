-- A refused call of `solve` has changed nothing.
-- Assumes nothing.
use mathlib.Core.Path.{◌≡◌, sym, ap, ◌∙◌}
use Rattle.std.specs.Prelude.{Err}
use mathlib.Core.List.{List}
use Prim.Native.Nat.{ℕ}
use native.Mathlib.Omega.{arith}
use Rattle.model.specs.declared.Refusal.{Refusal}
use Rattle.model.specs.declared.Search.{Search}
use Rattle.model.specs.Answers.{refused, waiting, number, step_reply}
use Rattle.model.proofs.Replies.{answered-refused, step-told}
use Rattle.dijkstra.proofs.Demand1 as calls
use Rattle.model.specs.declared.StepsTaken.{StepsTaken}
use Rattle.model.specs.Steps.{all_wait, one_ends}
use Rattle.planner.specs.Solve.{StepsCalled, Demand1}
use Rattle.model.proofs.Solve.{refused-first}
use Rattle.unchecked.proofs.Waits.{unmoved}

module _ {ws : List ℕ} {s : Search} {n : ℕ} (f : Refusal) where
  called-leaves : {r : StepsTaken} {left : List ℕ} → StepsCalled ws s n r left → step_reply r.answer ≡ refused (number f) 0
      → (left ≡ ws) × ((r.search ≡ s) × ((r.waits ≡ 0) × ((r.tickets ≡ 0) × (step_reply r.answer ≡ refused (number f) 0))))
  called-leaves (all_wait v z) e = absurd (answered-refused waiting (number f) 0 e)
  called-leaves (one_ends {w = w} {mid = mid} {left = left} {x = x} r a below v p ends told) e =
      let first = refused-first w (step_reply r.answer) (number f) 0 (sym told ∙ e) in
      let h = unmoved v first.0 in
      let k = (calls.demand-1).1 mid x r left p f (step-told r.answer (Err f) first.1) in
      (k.0 ∙ h.words, (k.1.0 ∙ h.search, (first.0, (omega (arith, h.tickets, k.1.1.0), e))))

pub demand-1 : Demand1
demand-1 ws s n r left p f e = called-leaves f p.called (ap step_reply e)
