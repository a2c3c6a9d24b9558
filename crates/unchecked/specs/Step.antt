-- A step on sound words: what the code promises. It is the model's step (model/specs/Calls.antt) on the cache that the words hold.
-- Assumes nothing.
use Rattle.std.specs.Prelude.{◌≡◌, List, ℕ, Err}
use Rattle.model.specs.declared.Refusal.{Refusal}
use Rattle.model.specs.declared.Search.{Search}
use Rattle.model.specs.declared.Stepped.{Stepped}
use Rattle.model.specs.Answers.{step_reply}
use Rattle.model.specs.Calls.{step}
use Rattle.layout.specs.Read.{read_cache}
use Rattle.layout.specs.Leaves.{Leaves}
use Rattle.sound.specs.Facts.{SoundWords}

-- answer, tickets, record and cache are the model's; what is free is the arrangement of the queue words in the slots of the entries
pub record Advances (ws : List ℕ) (s : Search) (r : Stepped) (left : List ℕ) : Type 0 where
  pub answer : step_reply r.answer ≡ (step (read_cache ws) s).reply
  pub tickets : r.tickets ≡ (step (read_cache ws) s).tickets
  pub search : r.search ≡ (step (read_cache ws) s).search
  pub cache : read_cache left ≡ (step (read_cache ws) s).cache
  pub sound : SoundWords left
  pub words : Leaves (step (read_cache ws) s).reply ws s left

abbrev pub not_stepped : Search → Refusal → Stepped
not_stepped s f = record { answer = Err f; tickets = 0; search = s }
