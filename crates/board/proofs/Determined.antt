-- What the board's promises leave open is what those of the calls do.
-- Assumes nothing.
use mathlib.Core.Path.{◌≡◌, sym, ap, subst, ◌∙◌}
use mathlib.Core.Bool.{true, false, true≢false}
use mathlib.Core.List.{List}
use Prim.Native.Nat.{ℕ}
use native.Mathlib.Omega.{arith}
use lib.ListN.{length, get_or}
use Rattle.model.specs.declared.Planned.{Planned}
use Rattle.model.specs.declared.Search.{Search}
use Rattle.model.specs.declared.Stepped.{Stepped}
use Rattle.model.specs.declared.StepsTaken.{StepsTaken}
use Rattle.model.specs.Answers.{Reply, answered, refused, Status, initialize_reply, step_reply}
use Rattle.layout.specs.Read.{read_cache}
use Rattle.search_words.specs.Record.{is_record, decode}
use Rattle.cache.specs.Open.{AfterOpen}
use Rattle.model.specs.Calls.{AfterRetrace, opened_search}
use Rattle.dijkstra.specs.Demands.{SameBut}
use Rattle.dijkstra.proofs.Determined.{determined as step-determined}
use Rattle.planner.proofs.Determined.{determined as solve-determined}
use Rattle.planner.proofs.PlanDetermined.{determined as plan-determined}
use Rattle.planner.specs.Plan.{opened_words}
use Rattle.dijkstra.specs.Calls.{initialize_words}
use Rattle.board.specs.Board.{answer_number, answer_line, path_moves, answer_numbers, step_waits, Kept, OpenCalled, InitializeCalled, StepCalled, SolveCalled, PlanCalled, RetraceCalled, Determined}
use Rattle.board.specs.Board as board

same-words : (ws : List ℕ) (s : Search) (left left₂ : List ℕ) → left ≡ left₂ → SameBut ws s left left₂
same-words ws s left left₂ e = record { len = ap length e; word = λ j h. ap (λ (l : List ℕ). get_or l j 0) e; cache = ap read_cache e }

kept_same : {A : Type 0} (y : Reply A) (s : Search) (rec rec' rec₂ : List ℕ) → Kept y s rec rec' → Kept y s rec rec₂ → rec' ≡ rec₂
kept_same (answered x) s rec rec' rec₂ k m = k.words ∙ sym m.words
kept_same (refused n line) s rec rec' rec₂ k m = k ∙ sym m

-- two calls that the other crates' promise determines: what they tell by the reply y, the record s and the six numbers z of what was returned
same-told : {X : Type 0} (y : X → Reply Status) (s : X → Search) (z : X → List ℕ) (x x₂ : X) (r r₂ : ℕ) (a a₂ rec rec' rec₂ : List ℕ) → x ≡ x₂
    → r ≡ answer_number (y x) → r₂ ≡ answer_number (y x₂) → a ≡ z x → a₂ ≡ z x₂ → Kept (y x) (s x) rec rec' → Kept (y x₂) (s x₂) rec rec₂
    → (r ≡ r₂) × (a ≡ a₂) × (rec' ≡ rec₂)
same-told y s z x x₂ r r₂ a a₂ rec rec' rec₂ e n n₂ m m₂ k k₂ =
    (n ∙ ap (λ (v : _). answer_number (y v)) e ∙ sym n₂, m ∙ ap z e ∙ sym m₂, kept_same (y x) (s x) rec rec' rec₂ k (subst (λ (v : _). Kept (y v) (s v) rec rec₂) (sym e) k₂))

one-record : (rec : List ℕ) → is_record rec ≡ true → is_record rec ≡ false → ⊥
one-record rec e f = true≢false (sym e ∙ f)

open-same : (ws text : List ℕ) (d t r r₂ line line₂ : ℕ) (left left₂ : List ℕ) → OpenCalled ws text d t r line left → OpenCalled ws text d t r₂ line₂ left₂
    → (r ≡ r₂) × (line ≡ line₂) × (left ≡ left₂)
open-same ws text d t r r₂ line line₂ left left₂ p q =
    let e = p.call ∙ sym q.call in
    let reply = ap (λ (x : AfterOpen). x.reply) e in
    (p.number ∙ ap answer_number reply ∙ sym q.number, p.lines ∙ ap answer_line reply ∙ sym q.lines, ap (λ (x : AfterOpen). x.words) e)

initialize-same : (ws ss gs rec : List ℕ) (r r₂ : ℕ) (left left₂ rec' rec₂ : List ℕ) → InitializeCalled ws ss gs rec r left rec'
    → InitializeCalled ws ss gs rec r₂ left₂ rec₂ → (r ≡ r₂) × (left ≡ left₂) × (rec' ≡ rec₂)
initialize-same ws ss gs rec r r₂ left left₂ rec' rec₂ (board.no_room h n w k) (board.no_room h₂ n₂ w₂ k₂) = (n ∙ sym n₂, w ∙ sym w₂, k ∙ sym k₂)
initialize-same ws ss gs rec r r₂ left left₂ rec' rec₂ (board.no_room h n w k) (board.initialized room x p m v) = absurd (omega (arith, h, room))
initialize-same ws ss gs rec r r₂ left left₂ rec' rec₂ (board.initialized room x p m v) (board.no_room h n w k) = absurd (omega (arith, h, room))
initialize-same ws ss gs rec r r₂ left left₂ rec' rec₂ (board.initialized room x p n k) (board.initialized room₂ x₂ p₂ n₂ k₂) =
    let reply = p.answer ∙ sym p₂.answer in
    let kept = subst (λ (s : Search). Kept (initialize_reply x₂) s rec rec₂) (sym (p.search ∙ sym p₂.search)) k₂ in (
      n ∙ ap answer_number reply ∙ sym n₂,
      p.words ∙ sym p₂.words,
      kept_same (initialize_reply x) (opened_search x) rec rec' rec₂ k (subst (λ (y : Reply (Unit {0})). Kept y (opened_search x) rec rec₂) (sym reply) kept),
    )

step_same : (ws rec : List ℕ) (r r₂ : ℕ) (a a₂ left left₂ rec' rec₂ : List ℕ) → StepCalled ws rec r a left rec' → StepCalled ws rec r₂ a₂ left₂ rec₂
    → (r ≡ r₂) × (a ≡ a₂) × (rec' ≡ rec₂) × SameBut ws (decode rec) left left₂
step_same ws rec r r₂ a a₂ left left₂ rec' rec₂ (board.no_record h n m w k) (board.no_record h₂ n₂ m₂ w₂ k₂) =
    (n ∙ sym n₂, m ∙ sym m₂, k ∙ sym k₂, same-words ws (decode rec) left left₂ (w ∙ sym w₂))
step_same ws rec r r₂ a a₂ left left₂ rec' rec₂ (board.no_record h n m w k) (board.stepped h₂ x p n₂ m₂ k₂) = absurd (one-record rec h₂ h)
step_same ws rec r r₂ a a₂ left left₂ rec' rec₂ (board.stepped h x p n m k) (board.no_record h₂ n₂ m₂ w₂ k₂) = absurd (one-record rec h h₂)
step_same ws rec r r₂ a a₂ left left₂ rec' rec₂ (board.stepped h x p n m k) (board.stepped h₂ x₂ p₂ n₂ m₂ k₂) =
    let d = step-determined ws (decode rec) x x₂ left left₂ p p₂ in
    let t = same-told (λ (v : Stepped). step_reply v.answer) (λ (v : Stepped). v.search)
    (λ (v : Stepped). answer_numbers (step_reply v.answer) (step_waits (step_reply v.answer)) v.tickets false) x x₂ r r₂ a a₂ rec rec' rec₂ d.0 n n₂ m m₂ k k₂ in
    (t.0, t.1, t.2, d.1)

solve-same : (ws rec : List ℕ) (c r r₂ : ℕ) (a a₂ left left₂ rec' rec₂ : List ℕ) → SolveCalled ws rec c r a left rec' → SolveCalled ws rec c r₂ a₂ left₂ rec₂
    → (r ≡ r₂) × (a ≡ a₂) × (rec' ≡ rec₂) × SameBut ws (decode rec) left left₂
solve-same ws rec c r r₂ a a₂ left left₂ rec' rec₂ (board.no_record h n m w k) (board.no_record h₂ n₂ m₂ w₂ k₂) =
    (n ∙ sym n₂, m ∙ sym m₂, k ∙ sym k₂, same-words ws (decode rec) left left₂ (w ∙ sym w₂))
solve-same ws rec c r r₂ a a₂ left left₂ rec' rec₂ (board.no_record h n m w k) (board.many_stepped h₂ x p n₂ m₂ k₂) = absurd (one-record rec h₂ h)
solve-same ws rec c r r₂ a a₂ left left₂ rec' rec₂ (board.many_stepped h x p n m k) (board.no_record h₂ n₂ m₂ w₂ k₂) = absurd (one-record rec h h₂)
solve-same ws rec c r r₂ a a₂ left left₂ rec' rec₂ (board.many_stepped h x p n m k) (board.many_stepped h₂ x₂ p₂ n₂ m₂ k₂) =
    let d = solve-determined ws (decode rec) c x x₂ left left₂ p p₂ in
    let t = same-told (λ (v : StepsTaken). step_reply v.answer) (λ (v : StepsTaken). v.search)
    (λ (v : StepsTaken). answer_numbers (step_reply v.answer) v.waits v.tickets false) x x₂ r r₂ a a₂ rec rec' rec₂ d.0 n n₂ m m₂ k k₂ in
    (t.0, t.1, t.2, d.1)

plan-same : (ws ss gs p rec : List ℕ) (r r₂ : ℕ) (a a₂ left left₂ q q₂ rec' rec₂ : List ℕ) → PlanCalled ws ss gs p rec r a left q rec'
    → PlanCalled ws ss gs p rec r₂ a₂ left₂ q₂ rec₂
    → (r ≡ r₂) × (a ≡ a₂) × (q ≡ q₂) × (rec' ≡ rec₂) × SameBut (opened_words ws ss gs) (initialize_words ws ss gs).search left left₂
plan-same ws ss gs p rec r r₂ a a₂ left left₂ q q₂ rec' rec₂ (board.no_room h n m w y k) (board.no_room h₂ n₂ m₂ w₂ y₂ k₂) =
    (n ∙ sym n₂, m ∙ sym m₂, y ∙ sym y₂, k ∙ sym k₂, same-words _ _ left left₂ (w ∙ sym w₂))
plan-same ws ss gs p rec r r₂ a a₂ left left₂ q q₂ rec' rec₂ (board.no_room h n m w y k) (board.planned room x c n₂ m₂ k₂) = absurd (omega (arith, h, room))
plan-same ws ss gs p rec r r₂ a a₂ left left₂ q q₂ rec' rec₂ (board.planned room x c n m k) (board.no_room h n₂ m₂ w₂ y₂ k₂) = absurd (omega (arith, h, room))
plan-same ws ss gs p rec r r₂ a a₂ left left₂ q q₂ rec' rec₂ (board.planned room x c n m k) (board.planned room₂ x₂ c₂ n₂ m₂ k₂) =
    let d = plan-determined ws ss gs p x x₂ left left₂ q q₂ c c₂ in
    let t = same-told (λ (v : Planned). step_reply v.answer) (λ (v : Planned). v.search)
    (λ (v : Planned). answer_numbers (step_reply v.answer) v.waits v.tickets v.has_path) x x₂ r r₂ a a₂ rec rec' rec₂ d.0 n n₂ m m₂ k k₂ in
    (t.0, t.1, d.1.0, t.2, d.1.1)

retrace-same : (ws rec p : List ℕ) (r r₂ moves moves₂ : ℕ) (q q₂ : List ℕ) → RetraceCalled ws rec p r moves q → RetraceCalled ws rec p r₂ moves₂ q₂
    → (r ≡ r₂) × (moves ≡ moves₂) × (q ≡ q₂)
retrace-same ws rec p r r₂ moves moves₂ q q₂ (board.no_record h n m w) (board.no_record h₂ n₂ m₂ w₂) = (n ∙ sym n₂, m ∙ sym m₂, w ∙ sym w₂)
retrace-same ws rec p r r₂ moves moves₂ q q₂ (board.no_record h n m w) (board.retraced h₂ x c n₂ m₂) = absurd (one-record rec h₂ h)
retrace-same ws rec p r r₂ moves moves₂ q q₂ (board.retraced h x c n m) (board.no_record h₂ n₂ m₂ w₂) = absurd (one-record rec h h₂)
retrace-same ws rec p r r₂ moves moves₂ q q₂ (board.retraced h x c n m) (board.retraced h₂ x₂ c₂ n₂ m₂) =
    let e = c ∙ sym c₂ in
    let reply = ap (λ (y : AfterRetrace). y.reply) e in
    (n ∙ ap answer_number reply ∙ sym n₂, m ∙ ap path_moves reply ∙ sym m₂, ap (λ (y : AfterRetrace). y.path) e)

pub determined : Determined
determined = (open-same, initialize-same, step_same, solve-same, plan-same, retrace-same)
