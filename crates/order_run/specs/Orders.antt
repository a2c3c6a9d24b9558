-- What an order prints: its search is opened on the cache of its direction and stepped until it does not wait.
-- Assumes nothing.
use Rattle.std.specs.Prelude.{◌≡◌, List, [], ℕ, ◌+◌, ◌*◌, ◌≤◌, take, replicate}
use Rattle.model.specs.Answers.{Reply, answered, refused, Status, waiting, solved, no_path}
use Rattle.model.specs.Graph.{Graph, Accepted, Direction, path_words}
use Rattle.model.specs.Calls.{Cache, opened, AfterInitialize, initialize, retrace}
use Rattle.model.specs.Demands.{Call, after_all, Outcome, unreachable, reached, wait_limit, Right}
use Rattle.model.specs.Solve.{AfterSteps, solve, max_steps}
use Rattle.order_lines.specs.declared.answers.Answer.{Answer}
use Rattle.order_lines.specs.declared.answers.Answer.TheVariants.{Solved, Impossible, Refused, Incomplete}
use Rattle.order_lines.specs.declared.answers.Line.{Line}
use Rattle.order_lines.specs.Answers.{answer_line}

-- ---- stepping a search to its end

-- the order's answer, by that of its steps
abbrev pub answer_of : Reply Status → Answer
answer_of (answered waiting) = Incomplete
answer_of (answered (solved k m)) = Solved k
answer_of (answered no_path) = Impossible
answer_of (refused n line) = Refused n

-- ---- the line of order i

abbrev pub line_for : ℕ → AfterSteps → Line
line_for i d = record { order = i; answer = answer_of d.reply; waits = d.waits; tickets = d.tickets }

-- "A refused order prints as `5,refused 3,-,0,0,-`."
abbrev pub refused_order : ℕ → ℕ → List ℕ
refused_order i n = answer_line (record { order = i; answer = Refused n; waits = 0; tickets = 0 }) []

-- the path that `retrace` shows in a slice of 2,047 words, room for the 1,023 moves that a path has at most
abbrev pub shown_text : ℕ → AfterSteps → Reply ℕ → List ℕ → List ℕ
shown_text i d (answered m) path = answer_line (line_for i d) (take (1 + 2 * m) path)
shown_text i d (refused n line) path = refused_order i n

abbrev pub driven_by : Answer → ℕ → AfterSteps → List ℕ
driven_by (Solved k) i d = let r = retrace d.cache d.search (replicate 2047 0) in shown_text i d r.reply r.path
driven_by Impossible i d = answer_line (line_for i d) []
driven_by (Refused n) i d = answer_line (line_for i d) []
driven_by Incomplete i d = answer_line (line_for i d) []

abbrev pub driven_text : ℕ → AfterSteps → List ℕ
driven_text i d = driven_by (answer_of d.reply) i d

pub record Ordered : Type 0 where
  pub cache : Cache
  pub text : List ℕ

abbrev pub ordered_by : Reply (Unit {0}) → AfterInitialize → ℕ → Ordered
ordered_by (refused n line) r i = record { cache = r.cache; text = refused_order i n }
-- waits are waiting answers, tickets the sum over the order's steps. So many steps are enough: the line of an order that was opened is a right one
ordered_by (answered x) r i = let d = solve max_steps r.cache r.search in record { cache = d.cache; text = driven_text i d }

-- order i from the starts ss to the goals gs, on the cache c of its direction
unfoldable pub ordered : ℕ → Cache → List ℕ → List ℕ → Ordered
unfolding solve initialize retrace answer_line
ordered i c ss gs = let r = initialize c ss gs in ordered_by r.reply r i

-- ---- the line is right, whatever was called before: demand 3, of what is printed

abbrev pub text_of : Graph → ℕ → ℕ → ℕ → Outcome → List ℕ
text_of g i w t unreachable = answer_line (record { order = i; answer = Impossible; waits = w; tickets = t }) []
text_of g i w t (reached k a ls) = answer_line (record { order = i; answer = Solved k; waits = w; tickets = t }) (path_words g a ls)

-- none, and no path leads from the starts to the goals; or a least path with its total
pub record RightLine (dir : Direction) (g : Graph) (ss gs : List ℕ) (i : ℕ) (text : List ℕ) : Type 0 where
  pub waits : ℕ
  pub tickets : ℕ
  pub outcome : Outcome
  pub few : waits ≤ wait_limit dir g ss gs
  pub right : Right dir g ss gs outcome
  pub line : text ≡ text_of g i waits tickets outcome

-- an order that is not refused, on a cache after any calls
abbrev pub RightLines : Type 0
RightLines =
    (dir : Direction) (g : Graph) → Accepted g → (slots : ℕ) (before : List Call) (ss gs : List ℕ) (i : ℕ)
    → let c = after_all (opened dir g slots) before in
    (initialize c ss gs).reply ≡ answered tt → RightLine dir g ss gs i (ordered i c ss gs).text

-- and an order makes calls, so that the next one is on a cache after calls again
abbrev pub OrdersAreCalls : Type 0
OrdersAreCalls = (i : ℕ) (c : Cache) (ss gs : List ℕ) → (xs : List Call) × ((ordered i c ss gs).cache ≡ after_all c xs)
