-- The calls as a board links them from C or Rust, on numbers and slices: what the code promises. Each is the call of another crate, with that
-- call's own promise, on the record that the record's words hold; its answer is told in 01's numbers.
-- Assumes nothing.
use Rattle.std.specs.Prelude.{◌≡◌, Bool, true, false, cond, List, [], ◌∷◌, ℕ, ◌<◌, ◌≤◌, leb, length}
use Rattle.std.specs.declared.result.Result.{Result}
use Rattle.model.specs.declared.Refused.{Refused}
use Rattle.model.specs.declared.Refusal.{Refusal}
use Rattle.model.specs.Limits.{vertex_limit, edge_limit, slot_limit}
use Rattle.model.specs.Lists.{allb}
use Rattle.model.specs.declared.Planned.{Planned}
use Rattle.model.specs.declared.Search.{Search}
use Rattle.model.specs.declared.Stepped.{Stepped}
use Rattle.model.specs.declared.StepsTaken.{StepsTaken}
use Rattle.model.specs.Answers.{Reply, answered, refused, Status, waiting, solved, no_path, open_reply, initialize_reply, step_reply, retrace_reply}
use Rattle.model.specs.Calls.{opened_search}
use Rattle.model.specs.Solve.{is_waiting}
use Rattle.layout.specs.Layout.{needed}
use Rattle.layout.specs.Sound.{sound_wordsb}
use Rattle.search_words.specs.Record.{record_words, is_record, decode, Encodes}
use Rattle.cache.specs.Open.{Opening}
use Rattle.dijkstra.specs.Calls.{initialize_words, Initializing, Stepping, Retracing}
use Rattle.dijkstra.specs.Demands.{SameBut}
use Rattle.planner.specs.Solve.{Solving}
use Rattle.planner.specs.Plan.{opened_words, Planning}

-- ---- answers in numbers

-- 0, or the refusal's number
abbrev pub answer_number : {A : Type 0} → Reply A → ℕ
answer_number (answered x) = 0
answer_number (refused n line) = n

-- "with a line (from 1; 0 where no chart line is at fault)"
abbrev pub answer_line : {A : Type 0} → Reply A → ℕ
answer_line (answered x) = 0
answer_line (refused n line) = line

-- the moves of a path
abbrev pub path_moves : Reply ℕ → ℕ
path_moves (answered m) = m
path_moves (refused n line) = 0

-- what a step, many, or a whole search gives: status (1 waiting, 2 solved, 3 none), total cost, moves, the steps that waited, tickets, and
-- whether the path was written; six times 0 in a refusal
abbrev pub no_numbers : List ℕ
no_numbers = 0 ∷ 0 ∷ 0 ∷ 0 ∷ 0 ∷ 0 ∷ []

abbrev pub answer_numbers : Reply Status → ℕ → ℕ → Bool → List ℕ
answer_numbers (answered waiting) w t p = 1 ∷ 0 ∷ 0 ∷ w ∷ t ∷ cond p 1 0 ∷ []
answer_numbers (answered (solved k m)) w t p = 2 ∷ k ∷ m ∷ w ∷ t ∷ cond p 1 0 ∷ []
answer_numbers (answered no_path) w t p = 3 ∷ 0 ∷ 0 ∷ w ∷ t ∷ cond p 1 0 ∷ []
answer_numbers (refused n line) w t p = no_numbers

-- a step waited, or did not
abbrev pub step_waits : Reply Status → ℕ
step_waits r = cond (is_waiting r) 1 0

-- ---- the record's words

-- words that are no record, or too few for one, are refused 8, after 7
abbrev pub strange : List ℕ → ℕ
strange ws = cond (sound_wordsb ws) 8 7

-- the record that comes back is written in front of the record's words; a refused call leaves them
abbrev pub Kept : {A : Type 0} → Reply A → Search → List ℕ → List ℕ → Type 0
Kept (answered x) s rec rec' = Encodes s rec rec'
Kept (refused n line) s rec rec' = rec' ≡ rec

-- ---- the calls that take no record

-- the counts of a graph, and slots, are within their limits
abbrev pub size_tests : ℕ → ℕ → ℕ → List Bool
size_tests m l t = leb m vertex_limit ∷ leb l edge_limit ∷ leb 1 t ∷ leb t slot_limit ∷ []

abbrev pub sizedb : ℕ → ℕ → ℕ → Bool
sizedb m l t = allb (size_tests m l t)

-- how many words a cache of m vertices and l edges with t slots needs: r is the number answered, n what is given
pub record WordsNeeded (m l t r n : ℕ) : Type 0 where
  pub number : r ≡ cond (sizedb m l t) 0 4
  pub words : n ≡ cond (sizedb m l t) (needed m l t) 0

pub record OpenCalled (ws text : List ℕ) (d t r line : ℕ) (left : List ℕ) : Type 0 where
  pub answer : Result (Unit {0}) Refused
  pub call : Opening ws text d t answer left
  pub number : r ≡ answer_number (open_reply answer)
  pub lines : line ≡ answer_line (open_reply answer)

-- ---- the calls that write a record: 7, 8, then the call's own refusals

pub data InitializeCalled (ws ss gs rec : List ℕ) (r : ℕ) (left rec' : List ℕ) : Type 0 where
  no_room : length rec < record_words → r ≡ strange ws → left ≡ ws → rec' ≡ rec → InitializeCalled ws ss gs rec r left rec'
  initialized : record_words ≤ length rec → (x : Result Search Refusal) → Initializing ws ss gs x left → r ≡ answer_number (initialize_reply x)
      → Kept (initialize_reply x) (opened_search x) rec rec' → InitializeCalled ws ss gs rec r left rec'

pub data PlanCalled (ws ss gs p rec : List ℕ) (r : ℕ) (a left q rec' : List ℕ) : Type 0 where
  no_room : length rec < record_words → r ≡ strange ws → a ≡ no_numbers → left ≡ ws → q ≡ p → rec' ≡ rec
      → PlanCalled ws ss gs p rec r a left q rec'
  planned : record_words ≤ length rec → (x : Planned) → Planning ws ss gs p x left q → r ≡ answer_number (step_reply x.answer)
      → a ≡ answer_numbers (step_reply x.answer) x.waits x.tickets x.has_path
      → Kept (step_reply x.answer) x.search rec rec' → PlanCalled ws ss gs p rec r a left q rec'

-- ---- the calls on a record: 7, 8, then the call's own refusals

pub data StepCalled (ws rec : List ℕ) (r : ℕ) (a left rec' : List ℕ) : Type 0 where
  no_record : is_record rec ≡ false → r ≡ strange ws → a ≡ no_numbers → left ≡ ws → rec' ≡ rec → StepCalled ws rec r a left rec'
  stepped : is_record rec ≡ true → (x : Stepped) → Stepping ws (decode rec) x left → r ≡ answer_number (step_reply x.answer)
      → a ≡ answer_numbers (step_reply x.answer) (step_waits (step_reply x.answer)) x.tickets false
      → Kept (step_reply x.answer) x.search rec rec' → StepCalled ws rec r a left rec'

pub data SolveCalled (ws rec : List ℕ) (n r : ℕ) (a left rec' : List ℕ) : Type 0 where
  no_record : is_record rec ≡ false → r ≡ strange ws → a ≡ no_numbers → left ≡ ws → rec' ≡ rec → SolveCalled ws rec n r a left rec'
  many_stepped : is_record rec ≡ true → (x : StepsTaken) → Solving ws (decode rec) n x left → r ≡ answer_number (step_reply x.answer)
      → a ≡ answer_numbers (step_reply x.answer) x.waits x.tickets false
      → Kept (step_reply x.answer) x.search rec rec' → SolveCalled ws rec n r a left rec'

pub data RetraceCalled (ws rec p : List ℕ) (r moves : ℕ) (q : List ℕ) : Type 0 where
  no_record : is_record rec ≡ false → r ≡ strange ws → moves ≡ 0 → q ≡ p → RetraceCalled ws rec p r moves q
  retraced : is_record rec ≡ true → (x : Result ℕ Refusal) → Retracing ws (decode rec) p x q → r ≡ answer_number (retrace_reply x)
      → moves ≡ path_moves (retrace_reply x) → RetraceCalled ws rec p r moves q

-- ---- Demand 1, "hold, after any refused call, what they held before it": words, record and path
abbrev pub Demand1 : Type 0
Demand1 =
    ((ws text : List ℕ) (d t r line : ℕ) (left : List ℕ) → OpenCalled ws text d t r line left → 0 < r → left ≡ ws)
    × ((ws ss gs rec : List ℕ) (r : ℕ) (left rec' : List ℕ) → InitializeCalled ws ss gs rec r left rec' → 0 < r → (left ≡ ws) × (rec' ≡ rec))
    × ((ws rec : List ℕ) (r : ℕ) (a left rec' : List ℕ) → StepCalled ws rec r a left rec' → 0 < r → (left ≡ ws) × (rec' ≡ rec) × (a ≡ no_numbers))
    × ((ws rec : List ℕ) (n r : ℕ) (a left rec' : List ℕ) → SolveCalled ws rec n r a left rec' → 0 < r → (left ≡ ws) × (rec' ≡ rec) × (a ≡ no_numbers))
    × ((ws ss gs p rec : List ℕ) (r : ℕ) (a left q rec' : List ℕ) → PlanCalled ws ss gs p rec r a left q rec'
    → 0 < r → (left ≡ ws) × (q ≡ p) × (rec' ≡ rec) × (a ≡ no_numbers))
    × ((ws rec p : List ℕ) (r moves : ℕ) (q : List ℕ) → RetraceCalled ws rec p r moves q → 0 < r → (q ≡ p) × (moves ≡ 0))

-- ---- each promise determines the numbers answered, the record's words and the path; and the words too, but for the queue words that the
-- call it is leaves free (`SameBut`)
abbrev pub Determined : Type 0
Determined =
    ((ws text : List ℕ) (d t r r₂ line line₂ : ℕ) (left left₂ : List ℕ) → OpenCalled ws text d t r line left → OpenCalled ws text d t r₂ line₂ left₂
    → (r ≡ r₂) × (line ≡ line₂) × (left ≡ left₂))
    × ((ws ss gs rec : List ℕ) (r r₂ : ℕ) (left left₂ rec' rec₂ : List ℕ) → InitializeCalled ws ss gs rec r left rec'
    → InitializeCalled ws ss gs rec r₂ left₂ rec₂ → (r ≡ r₂) × (left ≡ left₂) × (rec' ≡ rec₂))
    × ((ws rec : List ℕ) (r r₂ : ℕ) (a a₂ left left₂ rec' rec₂ : List ℕ) → StepCalled ws rec r a left rec' → StepCalled ws rec r₂ a₂ left₂ rec₂
    → (r ≡ r₂) × (a ≡ a₂) × (rec' ≡ rec₂) × SameBut ws (decode rec) left left₂)
    × ((ws rec : List ℕ) (n r r₂ : ℕ) (a a₂ left left₂ rec' rec₂ : List ℕ) → SolveCalled ws rec n r a left rec' → SolveCalled ws rec n r₂ a₂ left₂ rec₂
    → (r ≡ r₂) × (a ≡ a₂) × (rec' ≡ rec₂) × SameBut ws (decode rec) left left₂)
    × ((ws ss gs p rec : List ℕ) (r r₂ : ℕ) (a a₂ left left₂ q q₂ rec' rec₂ : List ℕ) → PlanCalled ws ss gs p rec r a left q rec'
    → PlanCalled ws ss gs p rec r₂ a₂ left₂ q₂ rec₂
    → (r ≡ r₂) × (a ≡ a₂) × (q ≡ q₂) × (rec' ≡ rec₂) × SameBut (opened_words ws ss gs) (initialize_words ws ss gs).search left left₂)
    × ((ws rec p : List ℕ) (r r₂ moves moves₂ : ℕ) (q q₂ : List ℕ) → RetraceCalled ws rec p r moves q → RetraceCalled ws rec p r₂ moves₂ q₂
    → (r ≡ r₂) × (moves ≡ moves₂) × (q ≡ q₂))
