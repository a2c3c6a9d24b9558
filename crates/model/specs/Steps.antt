-- Steps one after the other on the words of a cache, each known by a promise: what many steps at once are made of.
-- Assumes nothing.
use Rattle.std.specs.Prelude.{◌≡◌, true, false, List, ℕ, ◌+◌, ◌-◌, ◌≤◌, Ok}
use Rattle.model.specs.declared.SearchStatus.{SearchStatus}
use Rattle.std.specs.declared.result.Result.{Result}
use Rattle.model.specs.declared.Refusal.{Refusal}
use Rattle.model.specs.declared.SearchStatus.TheVariants.{Incomplete}
use Rattle.model.specs.declared.Search.{Search}
use Rattle.model.specs.declared.Stepped.{Stepped}
use Rattle.model.specs.declared.StepsTaken.{StepsTaken}
use Rattle.model.specs.Answers.{Reply, Status, step_reply}
use Rattle.model.specs.Solve.{is_waiting, last_reply}

-- the promise of a step, on words and a record, of its answer and the words left
abbrev pub StepPromise : Type 1
StepPromise = List ℕ → Search → Stepped → List ℕ → Type 0

-- w steps that waited, from the words ws and the record s to the words and the record here, and their tickets
pub data Waited (P : StepPromise) (ws : List ℕ) (s : Search) : ℕ → ℕ → List ℕ → Search → Type 0 where
  at_first : Waited P ws s 0 0 ws s
  once_more : {w t : ℕ} {mid left : List ℕ} {x : Search} (r : Stepped) → Waited P ws s w t mid x → P mid x r left
      → is_waiting (step_reply r.answer) ≡ true → Waited P ws s (w + 1) (t + r.tickets) left r.search

-- n steps all waited, and where n is 0 one would wait, by what a first one would reply; or fewer did, and the one after them did not wait.
-- With no steps this one is not called: it is the call that would answer so
pub data StepsMade (P : StepPromise) (first : Reply Status) (ws : List ℕ) (s : Search) (n : ℕ) : StepsTaken → List ℕ → Type 0 where
  all_wait : {t : ℕ} {left : List ℕ} {x : Search} → Waited P ws s n t left x → (n ≡ 0 → is_waiting first ≡ true)
      → StepsMade P first ws s n (record { answer = Ok Incomplete; waits = n; tickets = t; search = x }) left
  one_ends : {w t : ℕ} {mid left : List ℕ} {x : Search} (r : Stepped) (a : Result SearchStatus Refusal) → w ≤ n - 1 → Waited P ws s w t mid x → P mid x r left
      → is_waiting (step_reply r.answer) ≡ false → step_reply a ≡ last_reply w (step_reply r.answer)
      → StepsMade P first ws s n (record { answer = a; waits = w; tickets = t + r.tickets; search = r.search }) left
