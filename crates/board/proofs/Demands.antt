-- A list of the board's calls is one of the calls that they are made of, so that the demands on those hold of it.
-- Assumes nothing.
use mathlib.Core.Path.{◌≡◌, refl, sym, ap, ap₂, subst, ◌∙◌}
use Rattle.model.specs.declared.SearchStatus.{SearchStatus}
use Rattle.std.specs.declared.result.Result.{Result}
use Rattle.model.specs.declared.Refused.{Refused}
use Rattle.std.specs.Prelude.{Err, Ok}
use mathlib.Core.Bool.{Bool, true, false, true≢false}
use mathlib.Core.List.{List, [], ◌∷◌, ◌++◌}
use Prim.Native.Nat.{ℕ}
use native.Mathlib.Omega.{arith}
use lib.ListN.{replicate}
use Rattle.model.specs.declared.Refusal.{Refusal}
use Rattle.model.specs.declared.Search.{Search}
use Rattle.model.specs.Answers.{Reply, answered, waiting, Status, is_answered, open_reply, initialize_reply, step_reply}
use Rattle.model.specs.Calls.{after_retrace, opened_search}
use Rattle.model.specs.Solve.{is_waiting}
use Rattle.model.specs.Demands.{Call, reading, Act, own_step, own_retrace, Event, stepped, retraced}
use Rattle.layout.specs.Sound.{sound_wordsb}
use Rattle.search_words.specs.Record.{is_record, decode}
use Rattle.search_words.proofs.Inverse.{left_by, record-long}
use Rattle.cache.specs.Open.{Opening}
use Rattle.dijkstra.specs.Calls.{Retracing, Initializing}
use Rattle.dijkstra.proofs.Demand1 as dijkstra
use Rattle.planner.specs.Solve.{last_if, events_of}
use Rattle.planner.specs.Plan.{steps_in as plannedSteps}
use Rattle.planner.proofs.Demand1 as planner
use Rattle.planner.proofs.PlanDemand1 as plan
use Rattle.calls.specs.Demands as calls
use Rattle.calls.proofs.Demands as calls-lists
use Rattle.board.specs.Board.{answer_number, answer_numbers, Kept, OpenCalled, InitializeCalled, StepCalled, SolveCalled, PlanCalled, RetraceCalled}
use Rattle.board.specs.Board as board
use Rattle.board.specs.Demands.{step_told, path_told, step_events, own_steps, initialize_call, step_call, solve_call, plan_call, retrace_call, Part, no_part, own, Called, called_open, called_is_sound, called_initialize, called_step, called_solve, called_plan, called_retrace, CalledAll, none_called, and_then, Chain, ends, own_call, between, Searched, by_initialize, by_plan, History, Demand2, Demand3}
use Rattle.board.proofs.Numbers.{number-some, strange-some, reply-in, waits_in, path-in}
use Rattle.board.proofs.Demand1.{open-refused}

-- ---- what each call is made of, on the words

-- some call of the other crates' stands for it
abbrev Made : List ℕ → Call → List ℕ → Type 0
Made ws x left = (o : calls.Part) × calls.Called ws x left o

-- a call that leaves the words as they were, and only reads
read_only : (ws left : List ℕ) → left ≡ ws → Made ws reading left
read_only ws left e = subst (λ (l : List ℕ). Made ws reading l) (sym e) (calls.no_part, calls.called_is_sound (sound_wordsb ws) refl)

initialize-made : {ws ss gs rec : List ℕ} {r : ℕ} {left rec' : List ℕ} (k : InitializeCalled ws ss gs rec r left rec') → Made ws (initialize_call k) left
initialize-made {ws} {left = left} (board.no_room h n w k) = read_only ws left w
initialize-made {ws} {ss} {gs} (board.initialized room x p n k) = (calls.no_part, calls.called_initialize ss gs x p)

step-made : {ws rec : List ℕ} {r : ℕ} {a left rec' : List ℕ} (k : StepCalled ws rec r a left rec') → Made ws (step_call k) left
step-made {ws} {left = left} (board.no_record h n m w k) = read_only ws left w
step-made {ws} {rec} (board.stepped h x p n m k) = (_, calls.called_step (decode rec) x p)

solve-made : {ws rec : List ℕ} {c r : ℕ} {a left rec' : List ℕ} (k : SolveCalled ws rec c r a left rec') → Made ws (solve_call k) left
solve-made {ws} {left = left} (board.no_record h n m w k) = read_only ws left w
solve-made {ws} {rec} {c} (board.many_stepped h x p n m k) = (_, calls.called_solve (decode rec) c x p)

plan-made : {ws ss gs p rec : List ℕ} {r : ℕ} {a left q rec' : List ℕ} (k : PlanCalled ws ss gs p rec r a left q rec') → Made ws (plan_call k) left
plan-made {ws} {left = left} (board.no_room h n m w y k) = read_only ws left w
plan-made {ws} {ss} {gs} {p} {q = q} (board.planned room x c n m k) = (calls.no_part, calls.called_plan ss gs p x q c)

retrace-made : {ws rec p : List ℕ} {r moves : ℕ} {q : List ℕ} (k : RetraceCalled ws rec p r moves q) → Made ws (retrace_call k) ws
retrace-made {ws} (board.no_record h n m w) = read_only ws ws refl
retrace-made {ws} {rec} {p} {q = q} (board.retraced h x c n m) = (_, calls.called_retrace (decode rec) p x q c)

made : {ws left : List ℕ} {x : Call} {o : Part} → Called ws x left o → Made ws x left
made {ws} {left} (called_open text d t r line p h) = read_only ws left (open-refused ws text d t r line left p h)
made (called_is_sound r e) = (calls.no_part, calls.called_is_sound r e)
made (called_initialize ss gs rec r rec' k) = initialize-made k
made (called_step rec r a rec' k) = step-made k
made (called_solve rec n r a rec' k) = solve-made k
made (called_plan ss gs p rec r a q rec' k) = plan-made k
made (called_retrace rec p r moves q k) = retrace-made k

-- ---- and in the chain of the search whose own it is, as long as its words are a record

-- the record's words after a call: they are a record, and hold the one that came back
record Goes (s : Search) (rec' : List ℕ) : Type 0 where
  is : is_record rec' ≡ true
  holds : decode rec' ≡ s

-- the answer y handed the record s back; refused, it is the one that was handed in
goes : (y : Result SearchStatus Refusal) (s : Search) (rec rec' : List ℕ) → is_record rec ≡ true → Kept (step_reply y) s rec rec'
    → ((f : Refusal) → y ≡ Err f → s ≡ decode rec) → Goes s rec'
goes (Ok x) s rec rec' h k e = let g = left_by k (record-long rec h) in record { is = g.passes; holds = g.reads }
goes (Err f) s rec rec' h k e = record { is = ap is_record k ∙ h; holds = ap decode k ∙ sym (e f refl) }

abbrev InChain : List ℕ → List ℕ → Part → Type 0
InChain ws left no_part = Unit {0}
InChain ws left (own rec a e rec') =
    is_record rec ≡ true
    → (is_record rec' ≡ true) × ((acts : List Act) (es : List Event) → calls.Chain left (decode rec') acts es → calls.Chain ws (decode rec) (a ++ acts) (e ++ es))

step-own : {ws rec : List ℕ} {r : ℕ} {a left rec' : List ℕ} → StepCalled ws rec r a left rec'
    → InChain ws left (own rec (own_step ∷ []) (stepped (step_told r a) ∷ []) rec')
step-own (board.no_record h n m w k) is = absurd (true≢false (sym is ∙ h))
step-own {ws} {rec} {r} {a} {left} {rec'} (board.stepped h x p n m k) is =
    let kept = (dijkstra.demand-1).1 ws (decode rec) x left p in
    let g = goes x.answer x.search rec rec' is k (λ f e. (kept f e).1.0) in
    let told : step_told r a ≡ step_reply x.answer = ap₂ step_told n m ∙ reply-in x.answer _ _ _ in (
      g.is,
      λ acts es c.
          subst (λ (y : Reply Status). calls.Chain ws (decode rec) (own_step ∷ acts) (stepped y ∷ es)) (sym told)
          (calls.own_call (calls.called_step (decode rec) x p) (subst (λ (s : Search). calls.Chain left s acts es) g.holds c)),
    )

-- the steps that the numbers tell are those of the call
steps-in : (y : Result SearchStatus Refusal) (w t : ℕ) (p : Bool) {r : ℕ} {a : List ℕ} → r ≡ answer_number (step_reply y) → a ≡ answer_numbers (step_reply y) w t p
    → ((f : Refusal) → y ≡ Err f → w ≡ 0)
    → step_events r a ≡ replicate w (stepped (answered waiting)) ++ last_if (is_waiting (step_reply y)) (stepped (step_reply y))
steps-in y w t p n m still =
    ap₂ step_events n m
    ∙ ap₂ (λ (c : ℕ) (z : Reply Status). replicate c (stepped (answered waiting)) ++ last_if (is_waiting z) (stepped z)) (waits_in y w t p still) (reply-in y w t p)

solve-own : {ws rec : List ℕ} {c r : ℕ} {a left rec' : List ℕ} → SolveCalled ws rec c r a left rec'
    → InChain ws left (own rec (own_steps (step_events r a)) (step_events r a) rec')
solve-own (board.no_record h n m w k) is = absurd (true≢false (sym is ∙ h))
solve-own {ws} {rec} {c} {r} {a} {left} {rec'} (board.many_stepped h x p n m k) is =
    let kept = planner.demand-1 ws (decode rec) c x left p in
    let g = goes x.answer x.search rec rec' is k (λ f e. (kept f e).1.0) in
    let told : step_events r a ≡ events_of x = steps-in x.answer x.waits x.tickets false n m (λ f e. (kept f e).1.1.0) in (
      g.is,
      λ acts es k.
          subst (λ (l : List Event). calls.Chain ws (decode rec) (own_steps l ++ acts) (l ++ es)) (sym told)
          (calls.own_call (calls.called_solve (decode rec) c x p) (subst (λ (s : Search). calls.Chain left s acts es) g.holds k)),
    )

retrace-own : {ws rec p : List ℕ} {r moves : ℕ} {q : List ℕ} → RetraceCalled ws rec p r moves q
    → InChain ws ws (own rec (own_retrace p ∷ []) (retraced p (record { reply = path_told r moves; path = q }) ∷ []) rec)
retrace-own (board.no_record h n m w) is = absurd (true≢false (sym is ∙ h))
retrace-own {ws} {rec} {p} {r} {moves} {q} (board.retraced h x c n m) is =
    let told : path_told r moves ≡ _ = ap₂ path_told n m ∙ path-in x in (
      is,
      λ acts es k.
          subst (λ (y : Reply ℕ). calls.Chain ws (decode rec) (own_retrace p ∷ acts) (retraced p (record { reply = y; path = q }) ∷ es)) (sym told)
          (calls.own_call (calls.called_retrace (decode rec) p x q c) k),
    )

owned : {ws left : List ℕ} {x : Call} {o : Part} → Called ws x left o → InChain ws left o
owned (called_open text d t r line p h) = tt
owned (called_is_sound r e) = tt
owned (called_initialize ss gs rec r rec' k) = tt
owned (called_step rec r a rec' k) = step-own k
owned (called_solve rec n r a rec' k) = solve-own k
owned (called_plan ss gs p rec r a q rec' k) = tt
owned (called_retrace rec p r moves q k) = retrace-own k

-- ---- lists of them

all_made : {ws left : List ℕ} {xs : List Call} → CalledAll ws xs left → calls.CalledAll ws xs left
all_made none_called = calls.none_called
all_made (and_then x xs) = calls.and_then (made x).1 (all_made xs)

chain-made : {ws rec : List ℕ} {acts : List Act} {es : List Event} → is_record rec ≡ true → Chain ws rec acts es → calls.Chain ws (decode rec) acts es
chain-made is ends = calls.ends
chain-made is (own_call {acts = acts} {es = es} c k) = let g = owned c is in g.1 acts es (chain-made g.0 k)
chain-made is (between x c k) = calls.between x (made c).1 (chain-made is k)

-- a search that was opened: the call answered 0, so its record was written

initialized : {ws ss gs rec : List ℕ} {left rec' : List ℕ} {acts : List Act} {es : List Event} → InitializeCalled ws ss gs rec 0 left rec'
    → Chain left rec' acts es → calls.Searched ws ss gs acts es
initialized {ws} (board.no_room h n w k) c = absurd (omega (arith, strange-some (sound_wordsb ws) 0 n))
initialized {ws} {ss} {gs} {rec} {left} {rec'} {acts} {es} (board.initialized room x p n k) c = go x p n k
  where
    go : (y : Result Search Refusal) → Initializing ws ss gs y left → 0 ≡ answer_number (initialize_reply y) → Kept (initialize_reply y) (opened_search y) rec rec'
        → calls.Searched ws ss gs acts es
    go (Ok s) p n k =
        let g = left_by k room in
        calls.by_initialize s p (subst (λ (s : Search). calls.Chain left s acts es) g.reads (chain-made g.passes c))
    go (Err f) p n k = absurd (omega (arith, n, number-some f))

planned : {ws ss gs p rec a : List ℕ} {left q rec' : List ℕ} {acts : List Act} {es : List Event} → PlanCalled ws ss gs p rec 0 a left q rec'
    → (t : Result ℕ Refusal) → Retracing left (decode rec') p t q → Chain left rec' acts es
    → calls.Searched ws ss gs (own_steps (step_events 0 a) ++ (own_retrace p ∷ acts)) (step_events 0 a ++ (retraced p (after_retrace t q) ∷ es))
planned {ws} (board.no_room h n m w y k) t z c = absurd (omega (arith, strange-some (sound_wordsb ws) 0 n))
planned {ws} {ss} {gs} {p} {rec} {a} {left} {q} {rec'} {acts} {es} (board.planned room x k n m w) t z c = go x.answer refl n w
  where
    told : step_events 0 a ≡ events_of (plannedSteps x)
    told = steps-in x.answer x.waits x.tickets x.has_path n m (λ f e. (plan.demand-1 ws ss gs p x left q k f e).4)

    go : (y : Result SearchStatus Refusal) → x.answer ≡ y → 0 ≡ answer_number (step_reply y) → Kept (step_reply y) x.search rec rec'
        → calls.Searched ws ss gs (own_steps (step_events 0 a) ++ (own_retrace p ∷ acts)) (step_events 0 a ++ (retraced p (after_retrace t q) ∷ es))
    go (Err f) e n w = absurd (omega (arith, n, number-some f))
    go (Ok st) e n w =
        let g = left_by w room in
        subst (λ (l : List Event). calls.Searched ws ss gs (own_steps l ++ (own_retrace p ∷ acts)) (l ++ (retraced p (after_retrace t q) ∷ es))) (sym told)
        (calls.by_plan p x t k (ap (λ (y : Result SearchStatus Refusal). is_answered (step_reply y)) e) (subst (λ (s : Search). Retracing left s p t q) g.reads z)
        (subst (λ (s : Search). calls.Chain left s acts es) g.reads (chain-made g.passes c)))

searched : {ws ss gs : List ℕ} {acts : List Act} {es : List Event} → Searched ws ss gs acts es → calls.Searched ws ss gs acts es
searched (by_initialize k c) = initialized k c
searched (by_plan p t k z c) = planned k t z c

-- an opening that answered 0 is accepted
opened : (lent text : List ℕ) (d t line : ℕ) (first : List ℕ) → OpenCalled lent text d t 0 line first → Opening lent text d t (Ok tt) first
opened lent text d t line first p = go p.answer p.call p.number
  where
    go : (x : Result (Unit {0}) Refused) → Opening lent text d t x first → 0 ≡ answer_number (open_reply x) → Opening lent text d t (Ok tt) first
    go (Ok u) c e = c
    go (Err f) c e = absurd (omega (arith, e, number-some f.refusal))

pub history-made : {text : List ℕ} {d t : ℕ} {before : List Call} {ss gs : List ℕ} {acts : List Act} {es : List Event}
    → History text d t before ss gs acts es → calls.History text d t before ss gs acts es
history-made {text} {d} {t} h =
    record {
      lent = h.lent;
      first = h.first;
      opens = opened h.lent text d t h.line h.first h.opens;
      mid = h.mid;
      called = all_made h.called;
      searched = searched h.searched;
    }

-- ---- the demands

pub demand-2 : Demand2
demand-2 text d t before ss gs acts es h = calls-lists.demand-2 text d t before ss gs acts es (history-made h)

pub demand-3 : Demand3
demand-3 text d t before ss gs acts es h = calls-lists.demand-3 text d t before ss gs acts es (history-made h)
