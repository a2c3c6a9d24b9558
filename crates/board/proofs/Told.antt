-- What the functions of the board tell: the laws that their proofs cite.
-- Assumes nothing.
use mathlib.Core.Path.{◌≡◌, refl, sym, ap, subst, ◌∙◌}
use Rattle.std.specs.declared.result.Result.{Result}
use Rattle.std.specs.declared.option.Option.{Option}
use Rattle.std.specs.Prelude.{Some, Err, Ok, MatchOption}
use Rattle.std.specs.Result.{result_err, result_unwrap_or}
use Rattle.std.specs.Bool.{then_some}
use mathlib.Core.Bool.{Bool, true, false}
use mathlib.Core.List.{List}
use Prim.Native.Nat.{ℕ, ◌≤◌}
use lib.ListN.{length}
use Rattle.model.specs.declared.Planned.{Planned}
use Rattle.model.specs.declared.Refusal.{Refusal}
use Rattle.model.specs.declared.Search.{Search}
use Rattle.model.specs.declared.Stepped.{Stepped}
use Rattle.model.specs.declared.StepsTaken.{StepsTaken}
use Rattle.model.specs.Answers.{number, step_reply, retrace_reply}
use Rattle.search_words.specs.Record.{record_words, is_record, decode, Encodes}
use Rattle.search_words.proofs.Inverse.{record-long}
use Rattle.dijkstra.specs.Calls.{Initializing, Stepping, Retracing}
use Rattle.planner.specs.Solve.{Solving}
use Rattle.planner.specs.Plan.{Planning}
use Rattle.board.specs.Board.{answer_number, path_moves, answer_numbers, step_waits, Kept, InitializeCalled, PlanCalled, StepCalled, SolveCalled, RetraceCalled}
use Rattle.board.specs.Board as board

-- ---- the calls that write a record

pub initialize-told : (ws ss gs rec left rec' : List ℕ) (x : Result Search Refusal) (s : Search) → record_words ≤ length rec → Initializing ws ss gs x left → x ≡ Ok s
    → Encodes s rec rec' → InitializeCalled ws ss gs rec 0 left rec'
initialize-told ws ss gs rec left rec' x s h p e k =
    board.initialized h (Ok s) (subst (λ (y : Result Search Refusal). Initializing ws ss gs y left) e p) refl k

pub initialize-refused : (ws ss gs rec left : List ℕ) (x : Result Search Refusal) (f : Refusal) (n : ℕ) → record_words ≤ length rec → Initializing ws ss gs x left
    → x ≡ Err f → n ≡ number f → InitializeCalled ws ss gs rec n left rec
initialize-refused ws ss gs rec left x f n h p e k =
    board.initialized h (Err f) (subst (λ (y : Result Search Refusal). Initializing ws ss gs y left) e p) k refl

pub plan-told : (ws ss gs p rec a left q rec' : List ℕ) (n : ℕ) (x : Planned) → record_words ≤ length rec → Planning ws ss gs p x left q
    → Kept (step_reply x.answer) x.search rec rec' → a ≡ answer_numbers (step_reply x.answer) x.waits x.tickets x.has_path
    → n ≡ answer_number (step_reply x.answer) → PlanCalled ws ss gs p rec n a left q rec'
plan-told ws ss gs p rec a left q rec' n x h c k m e = board.planned h x c e m k

-- ---- the calls on a record: o is what was read of its words

abbrev read_as : List ℕ → Option Search
read_as rec = then_some (is_record rec) (decode rec)

some_read : (b : Bool) (s t : Search) → Some s ≡ then_some b t → (b ≡ true) × (s ≡ t)
some_read true s t e = (refl, cc)
some_read false s t e = cc

is_held : (rec : List ℕ) {o : Option Search} {s : Search} → o ≡ read_as rec → o ≡ Some s → (is_record rec ≡ true) × (s ≡ decode rec)
is_held rec r e = some_read (is_record rec) _ (decode rec) (sym e ∙ r)

pub has_room : (rec : List ℕ) (o : Option Search) (s : Search) → o ≡ read_as rec → o ≡ Some s → record_words ≤ length rec
has_room rec o s r e = record-long rec (is_held rec r e).0

pub step-told : (ws rec a left rec' : List ℕ) (n w : ℕ) (o : Option Search) (s : Search) (x : Stepped) → o ≡ read_as rec → o ≡ Some s → Stepping ws s x left
    → Kept (step_reply x.answer) x.search rec rec' → w ≡ step_waits (step_reply x.answer) → a ≡ answer_numbers (step_reply x.answer) w x.tickets false
    → n ≡ answer_number (step_reply x.answer) → StepCalled ws rec n a left rec'
step-told ws rec a left rec' n w o s x r e p k v m y =
    let h = is_held rec r e in
    board.stepped h.0 x (subst (λ (z : Search). Stepping ws z x left) h.1 p) y
    (m ∙ ap (λ (z : ℕ). answer_numbers (step_reply x.answer) z x.tickets false) v) k

pub solve-told : (ws rec a left rec' : List ℕ) (c n : ℕ) (o : Option Search) (s : Search) (x : StepsTaken) → o ≡ read_as rec → o ≡ Some s → Solving ws s c x left
    → Kept (step_reply x.answer) x.search rec rec' → a ≡ answer_numbers (step_reply x.answer) x.waits x.tickets false
    → n ≡ answer_number (step_reply x.answer) → SolveCalled ws rec c n a left rec'
solve-told ws rec a left rec' c n o s x r e p k m y =
    let h = is_held rec r e in
    board.many_stepped h.0 x (subst (λ (z : Search). Solving ws z c x left) h.1 p) y m k

pub told-number : (x : Result ℕ Refusal) (e : Option Refusal) (n : ℕ) → e ≡ result_err x → MatchOption e (n ≡ 0) (λ f. n ≡ number f) → n ≡ answer_number (retrace_reply x)
told-number (Ok m) e n h k = rw h at k
told-number (Err f) e n h k = rw h at k

pub told-moves : (x : Result ℕ Refusal) (m : ℕ) → m ≡ result_unwrap_or x 0 → m ≡ path_moves (retrace_reply x)
told-moves (Ok n) m e = e
told-moves (Err f) m e = e

pub retrace-told : (ws rec p q : List ℕ) (n m : ℕ) (o : Option Search) (s : Search) (x : Result ℕ Refusal) → o ≡ read_as rec → o ≡ Some s → Retracing ws s p x q
    → n ≡ answer_number (retrace_reply x) → m ≡ path_moves (retrace_reply x) → RetraceCalled ws rec p n m q
retrace-told ws rec p q n m o s x r e c k v =
    let h = is_held rec r e in
    board.retraced h.0 x (subst (λ (z : Search). Retracing ws z p x q) h.1 c) k v
