-- "copies it out, calls the by-value step and stores the result": a step's answer without the record, and the two together.
-- Assumes nothing.
use Rattle.std.specs.Prelude.{◌≡◌, List, ℕ, Err}
use Rattle.model.specs.declared.Refusal.{Refusal}
use Rattle.model.specs.declared.Search.{Search}
use Rattle.model.specs.declared.Stepped.{Stepped}
use Rattle.model.specs.Answers.{number, refused, step_reply}
use Rattle.dijkstra.specs.Calls.{Stepping}
use Rattle.in_place.specs.declared.StepReport.{StepReport}

-- the answer of a step whose record stands elsewhere
abbrev pub stepped_as : StepReport → Search → Stepped
stepped_as r s = record { answer = r.answer; tickets = r.tickets; search = s }

-- Demand 1, "hold, after any refused call, what they held before it": the words, and the record that was lent
abbrev pub Demand1 : Type 0
Demand1 =
    (ws : List ℕ) (s s' : Search) (r : StepReport) (left : List ℕ) → Stepping ws s (stepped_as r s') left
    → (f : Refusal) → r.answer ≡ Err f → (left ≡ ws) × ((s' ≡ s) × ((r.tickets ≡ 0) × (step_reply r.answer ≡ refused (number f) 0)))
