-- The calls on the words of a cache: what the code promises. Each call is the model's (model/specs/Calls.antt) on the cache that the words
-- hold, with refusal 7 before it.
-- Assumes nothing.
use Rattle.std.specs.Prelude.{◌≡◌, Bool, true, false, List, ℕ}
use Rattle.std.specs.declared.result.Result.{Result}
use Rattle.model.specs.declared.Refusal.{Refusal}
use Rattle.model.specs.declared.Search.{Search}
use Rattle.model.specs.declared.Stepped.{Stepped}
use Rattle.model.specs.Answers.{refused, initialize_reply, step_reply}
use Rattle.model.specs.Search.{empty_search, roots_of}
use Rattle.model.specs.Calls.{Cache, AfterInitialize, initialize, AfterStep, step, AfterRetrace, retrace, opened_search}
use Rattle.layout.specs.Layout.{direction_in}
use Rattle.layout.specs.Read.{direction_of, read_cache}
use Rattle.layout.specs.Sound.{sound_wordsb}
pub use Rattle.layout.specs.Planted.{initialized_words}
use Rattle.layout.specs.Leaves.{Leaves}
pub use Rattle.model.specs.Calls.{after_retrace}

-- ---- `initialize`: "7, 4, 3, 6"

-- are the words sound? 7 "the slice is too short for its header or not sound"
abbrev pub initialize_if : Bool → Cache → List ℕ → List ℕ → AfterInitialize
initialize_if false c ss gs = record { cache = c; search = empty_search; reply = refused 7 0 }
initialize_if true c ss gs = initialize c ss gs

abbrev pub initialize_words : List ℕ → List ℕ → List ℕ → AfterInitialize
initialize_words ws ss gs = initialize_if (sound_wordsb ws) (read_cache ws) ss gs

-- the promise of `initialize`: answer, record and every word are given by definitions; the cache that the words left hold is the model's,
-- and they are sound if the words lent were
pub record Initializing (ws ss gs : List ℕ) (r : Result Search Refusal) (left : List ℕ) : Type 0 where
  pub answer : initialize_reply r ≡ (initialize_words ws ss gs).reply
  pub search : opened_search r ≡ (initialize_words ws ss gs).search
  pub words : left ≡ initialized_words (initialize_words ws ss gs).reply ws (roots_of (direction_of (direction_in ws)) ss gs)
  pub cache : read_cache left ≡ (initialize_words ws ss gs).cache
  pub sound : sound_wordsb left ≡ sound_wordsb ws

-- ---- `step`: "7, 8"

abbrev pub step_sound_if : Bool → Cache → Search → AfterStep
step_sound_if false c s = record { cache = c; search = s; reply = refused 7 0; tickets = 0 }
step_sound_if true c s = step c s

abbrev pub step_words : List ℕ → Search → AfterStep
step_words ws s = step_sound_if (sound_wordsb ws) (read_cache ws) s

-- the promise of `step`: answer, tickets and record are the model's, and so is the cache that the words left hold. What is free is the
-- arrangement of the queue words in the slots of the entries: which nodes wait is given, and sound words keep heap order.
pub record Stepping (ws : List ℕ) (s : Search) (r : Stepped) (left : List ℕ) : Type 0 where
  pub answer : step_reply r.answer ≡ (step_words ws s).reply
  pub tickets : r.tickets ≡ (step_words ws s).tickets
  pub search : r.search ≡ (step_words ws s).search
  pub cache : read_cache left ≡ (step_words ws s).cache
  pub sound : sound_wordsb left ≡ sound_wordsb ws
  pub words : Leaves (step_words ws s).reply ws s left

-- ---- `retrace`: "7, 8, 9, 10"

abbrev pub retrace_if : Bool → Cache → Search → List ℕ → AfterRetrace
retrace_if false c s p = record { reply = refused 7 0; path = p }
retrace_if true c s p = retrace c s p

abbrev pub retrace_words : List ℕ → Search → List ℕ → AfterRetrace
retrace_words ws s p = retrace_if (sound_wordsb ws) (read_cache ws) s p

-- the promise of `retrace`, whose words are lent for reading: answer and path's slice are the definition's
abbrev pub Retracing : List ℕ → Search → List ℕ → Result ℕ Refusal → List ℕ → Type 0
Retracing ws s p r q = after_retrace r q ≡ retrace_words ws s p
