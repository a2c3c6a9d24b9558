-- Many steps on sound words: what `solve` promises. It is the model's `solve` (model/specs/Solve.antt) on the cache that the words hold, and
-- made of steps on the words.
-- Assumes nothing.
use Rattle.std.specs.Prelude.{◌≡◌, List, ℕ}
use Rattle.model.specs.declared.Search.{Search}
use Rattle.model.specs.declared.StepsTaken.{StepsTaken}
use Rattle.model.specs.Answers.{step_reply}
use Rattle.model.specs.Calls.{step}
use Rattle.model.specs.Steps.{StepsMade}
use Rattle.model.specs.Solve.{solve}
use Rattle.layout.specs.Read.{read_cache}
use Rattle.layout.specs.Leaves.{LeavesAfter}
use Rattle.sound.specs.Facts.{SoundWords}
use Rattle.unchecked.specs.Step.{Advances}

-- answer, waits and tickets summed, the record, and the cache that the words left hold. What is free is the arrangement of the
-- queue words in the slots of the entries, as for `step`.
pub record Solves (ws : List ℕ) (s : Search) (n : ℕ) (r : StepsTaken) (left : List ℕ) : Type 0 where
  pub answer : step_reply r.answer ≡ (solve n (read_cache ws) s).reply
  pub waits : r.waits ≡ (solve n (read_cache ws) s).waits
  pub tickets : r.tickets ≡ (solve n (read_cache ws) s).tickets
  pub search : r.search ≡ (solve n (read_cache ws) s).search
  pub cache : read_cache left ≡ (solve n (read_cache ws) s).cache
  pub sound : SoundWords left
  pub words : LeavesAfter r.waits ws s left
  pub made : StepsMade Advances (step (read_cache ws) s).reply ws s n r left
