-- A list of calls by name is one of the calls that they are made of, so that the demands on those hold of it.
-- Assumes nothing.
use mathlib.Core.Path.{◌≡◌, refl, sym, subst}
use Rattle.std.specs.declared.result.Result.{Result}
use Rattle.model.specs.declared.Refusal.{Refusal}
use Rattle.std.specs.Prelude.{Err, Ok}
use mathlib.Core.Bool.{true, true≢false}
use mathlib.Core.List.{List, ◌++◌}
use Prim.Native.Nat.{ℕ}
use Rattle.model.specs.declared.Planned.{Planned}
use Rattle.model.specs.declared.Search.{Search}
use Rattle.model.specs.Answers.{is_answered, step_reply}
use Rattle.model.specs.Solve.{max_steps}
use Rattle.model.specs.Demands.{Call, reading, Act, Event}
use Rattle.cache.proofs.Demand1 as cache
use Rattle.dijkstra.specs.Calls.{Initializing}
use Rattle.dijkstra.specs.Demands as made
use Rattle.dijkstra.proofs.Demand1 as dijkstra
use Rattle.dijkstra.proofs.Demands as dijkstra-lists
use Rattle.planner.specs.Solve.{acts_of, events_of}
use Rattle.planner.specs.Plan.{CallsMade, not_opened, to_the_end, steps_in}
use Rattle.planner.proofs.Demand1 as planner
use Rattle.planner.proofs.PlanDemand1 as plan
use Rattle.planner.proofs.Chains.{in-lists, in-chains, plan-in-lists}
use Rattle.in_place.specs.Lent.{stepped_as}
use Rattle.in_place.proofs.Demand1 as in_place
use Rattle.calls.specs.Demands.{
  Demand1,
  Part,
  no_part,
  own,
  Called,
  called_initialize,
  called_step,
  called_step_in_place,
  called_solve,
  called_retrace,
  called_plan,
  called_is_sound,
  called_open,
  CalledAll,
  none_called,
  and_then,
  Chain,
  ends,
  own_call,
  between,
  Searched,
  by_initialize,
  by_plan,
  History,
  Demand2,
  Demand3,
}

pub demand-1 : Demand1
demand-1 = (cache.demand-1, dijkstra.demand-1, planner.demand-1, plan.demand-1, in_place.demand-1)

-- ---- what each call is made of, on the words

pub called-made : {ws left : List ℕ} {x : Call} {o : Part} → Called ws x left o → made.Made ws x left
called-made (called_initialize ss gs r p) = made.made_initialize ss gs r p
called-made (called_step s r p) = made.made_step s r p
called-made (called_step_in_place s s' r p) = made.made_step s (stepped_as r s') p
called-made (called_solve s n r p) = in-lists _ s n r _ p
called-made (called_retrace s p r q e) = made.made_retrace s p r q e
called-made (called_plan ss gs p r q k) = plan-in-lists _ ss gs p r _ q k
called-made (called_is_sound r e) = made.made_reading
called-made (called_open {ws = ws} {left = left} text d t f p) =
    let kept = (cache.demand-1 ws text d t (Err f) left p).refused f refl in
    subst (λ (l : List ℕ). made.Made ws reading l) (sym kept) made.made_reading

-- ---- and in the chain of the search whose own it is

abbrev InChain : List ℕ → List ℕ → Part → Type 0
InChain ws left no_part = Unit {0}
InChain ws left (own s a e s') = (acts : List Act) (es : List Event) → made.Chain left s' acts es → made.Chain ws s (a ++ acts) (e ++ es)

called-own : {ws left : List ℕ} {x : Call} {o : Part} → Called ws x left o → InChain ws left o
called-own (called_initialize ss gs r p) = tt
called-own (called_step s r p) = λ acts es. made.own-step r p
called-own (called_step_in_place s s' r p) = λ acts es. made.own-step (stepped_as r s') p
called-own (called_solve s n r p) = λ acts es. in-chains _ s n r _ acts es p.called
called-own (called_retrace s p r q e) = λ acts es. made.own-retrace p r q e
called-own (called_plan ss gs p r q k) = tt
called-own (called_is_sound r e) = tt
called-own (called_open text d t f p) = tt

-- ---- lists of them

all_made : {ws left : List ℕ} {xs : List Call} → CalledAll ws xs left → made.MadeAll ws xs left
all_made none_called = made.none_made
all_made (and_then x xs) = made.and_then (called-made x) (all_made xs)

chain-made : {ws : List ℕ} {s : Search} {acts : List Act} {es : List Event} → Chain ws s acts es → made.Chain ws s acts es
chain-made ends = made.ends
chain-made (own_call {acts = acts} {es = es} c k) = called-own c acts es (chain-made k)
chain-made (between x c k) = made.between x (called-made c) (chain-made k)

-- the opening that a search was opened by, and the chain of its own calls from there
record Opened (ws ss gs : List ℕ) (acts : List Act) (es : List Event) : Type 0 where
  search : Search
  next : List ℕ
  initializes : Initializing ws ss gs (Ok search) next
  chain : made.Chain next search acts es

-- one by `plan`: it was accepted, since it answered
planned-opened : {ws ss gs p : List ℕ} {r : Planned} {left q : List ℕ} → CallsMade ws ss gs p r left q → is_answered (step_reply r.answer) ≡ true
    → {acts : List Act} {es : List Event} → made.Chain left r.search acts es → Opened ws ss gs (acts_of (steps_in r) ++ acts) (events_of (steps_in r) ++ es)
planned-opened (not_opened f i) told k = absurd (true≢false (sym told))
planned-opened (to_the_end {mid = mid} {left = left} y e t i s x) told {acts} {es} k =
    record { search = y; next = mid; initializes = i; chain = in-chains mid y max_steps e left acts es s.called k }

searched-opened : {ws ss gs : List ℕ} {acts : List Act} {es : List Event} → Searched ws ss gs acts es → Opened ws ss gs acts es
searched-opened (by_initialize {left = left} s p k) = record { search = s; next = left; initializes = p; chain = chain-made k }
searched-opened (by_plan {q = q} p r t k e x c) = planned-opened k.called e (made.own-retrace p t q x (chain-made c))

pub history-made : {text : List ℕ} {d t : ℕ} {before : List Call} {ss gs : List ℕ} {acts : List Act} {es : List Event}
    → History text d t before ss gs acts es → made.History text d t before ss gs acts es
history-made h =
    let o = searched-opened h.searched in
    record {
      lent = h.lent;
      first = h.first;
      opens = h.opens;
      mid = h.mid;
      made = all_made h.called;
      search = o.search;
      next = o.next;
      initializes = o.initializes;
      chain = o.chain;
    }

pub demand-2 : Demand2
demand-2 text d t before ss gs acts es h = dijkstra-lists.demand-2 text d t before ss gs acts es (history-made h)

pub demand-3 : Demand3
demand-3 text d t before ss gs acts es h = dijkstra-lists.demand-3 text d t before ss gs acts es (history-made h)
