-- Many steps of a search, one after the other: what `solve` means on a cache. An order of a sheet is stepped so, too.
-- Assumes nothing.
use Rattle.std.specs.Prelude.{Bool, true, false, ℕ, zero, suc, ◌+◌}
use Rattle.model.specs.declared.Search.{Search}
use Rattle.model.specs.Answers.{Reply, answered, refused, Status, waiting, solved, no_path}
use Rattle.model.specs.Calls.{Cache, step}

abbrev pub is_waiting : Reply Status → Bool
is_waiting (answered waiting) = true
is_waiting (answered (solved k m)) = false
is_waiting (answered no_path) = false
is_waiting (refused n line) = false

-- reply: the answer of all; waits: how many waited; tickets: those of all
pub record AfterSteps : Type 0 where
  pub cache : Cache
  pub search : Search
  pub reply : Reply Status
  pub waits : ℕ
  pub tickets : ℕ

-- what is answered where w steps waited and the next one replied r. "Book, run slice and search stay as given" after a refusal: so one that
-- comes after a step which waited is not told, and the answer is waiting; the next call is refused, and changes nothing
abbrev pub last_reply : ℕ → Reply Status → Reply Status
last_reply zero r = r
last_reply (suc w) (answered x) = answered x
last_reply (suc w) (refused n line) = answered waiting

-- at most n steps, each with the record that the one before it returned, after w waits and t tickets: one that does not wait is the last
unfoldable pub steps_from : ℕ → Cache → Search → ℕ → ℕ → AfterSteps
unfolding step
steps_from zero c s w t = record { cache = c; search = s; reply = answered waiting; waits = w; tickets = t }
steps_from (suc n) c s w t =
    let r = step c s in
    elim (is_waiting r.reply) [
      | true ↦ steps_from n r.cache r.search (w + 1) (t + r.tickets)
      | false ↦ record { cache = r.cache; search = r.search; reply = last_reply w r.reply; waits = w; tickets = t + r.tickets }
    ]

-- at most n steps, up to an answer; with none, how the search stands: what a step would answer, and nothing is changed
unfoldable pub solve : ℕ → Cache → Search → AfterSteps
unfolding steps_from
solve zero c s = record { cache = c; search = s; reply = (step c s).reply; waits = 0; tickets = 0 }
solve (suc n) c s = steps_from (suc n) c s 0 0

-- one step more than a search waits at most: 1 + 64 × (1 + 2,048) waits, and then its answer
abbrev pub max_steps : ℕ
max_steps = 131138
