-- A call of `solve` in lists of calls: the search's own steps in its chain, and calls of `step` anywhere. A call of `plan`: the three calls.
-- Assumes nothing.
use mathlib.Core.Path.{◌≡◌, refl, sym, ap, ◌∙◌, subst}
use Rattle.std.specs.Prelude.{Err, Ok}
use Rattle.std.specs.declared.result.Result.{Result}
use Rattle.model.specs.declared.Refusal.{Refusal}
use mathlib.Core.Bool.{Bool, true, true≢false}
use mathlib.Core.Logic.{inl, inr}
use mathlib.Core.List.{List, [], ◌∷◌, ◌++◌, append_assoc, append-nil}
use Prim.Native.Nat.{ℕ, zero, suc}
use native.Mathlib.Numerals.{add-one}
use native.Mathlib.Omega.{arith}
use lib.ListN.{length, replicate, length-append, length-replicate}
use Rattle.model.specs.declared.Search.{Search}
use Rattle.model.specs.Answers.{answered, is_answered, waiting, step_reply, retrace_reply}
use Rattle.model.specs.Solve.{is_waiting}
use Rattle.model.specs.declared.Planned.{Planned}
use Rattle.model.specs.declared.StepsTaken.{StepsTaken}
use Rattle.model.proofs.Solve.{is-waiting, last-cases}
use Rattle.model.specs.Demands.{Act, own_step, Event, stepped}
use Rattle.model.specs.Steps.{Waited, at_first, once_more, all_wait, one_ends}
use Rattle.dijkstra.specs.Calls.{Stepping, Retracing}
use Rattle.dijkstra.specs.Demands.{Made, made_initialize, made_step, made_retrace, made_reading, made_both, Chain, own-step}
use Rattle.planner.specs.Solve.{StepsCalled, waits_call, solving_call, InLists, last_if, InChains}
use Rattle.planner.specs.Plan.{CallsMade, not_opened, to_the_end, planning_call}
use Rattle.planner.specs.Plan as Plan
use Rattle.planner.proofs.Waits.{rested}

-- ---- in the search's chain

abbrev waits : ℕ → List Event
waits w = replicate w (stepped (answered waiting))

one_more : {A : Type 0} (n : ℕ) (a : A) (l : List A) → replicate n a ++ (a ∷ l) ≡ replicate (suc n) a ++ l
one_more zero a l = refl
one_more (suc n) a l = ap (λ x. a ∷ x) (one_more n a l)

module _ {ws : List ℕ} {s : Search} where
  chain-as : {acts acts' : List Act} {es es' : List Event} → acts ≡ acts' → es ≡ es' → Chain ws s acts es → Chain ws s acts' es'
  chain-as {acts} {acts'} {es} {es'} a e k = subst (λ (l : List Event). Chain ws s acts' l) e (subst (λ (l : List Act). Chain ws s l es) a k)

  waits-chain : {w t : ℕ} {mid : List ℕ} {x : Search} → Waited Stepping ws s w t mid x → {acts : List Act} {es : List Event} → Chain mid x acts es
      → Chain ws s (replicate w own_step ++ acts) (waits w ++ es)
  waits-chain at_first k = k
  waits-chain (once_more {w = w} r v p e) {acts} {es} k =
      let told : stepped (step_reply r.answer) ≡ stepped (answered waiting) = ap stepped (is-waiting (step_reply r.answer) e) in
      rw add-one (chain-as (one_more w own_step acts) (ap (λ (x : Event). waits w ++ (x ∷ es)) told ∙ one_more w (stepped (answered waiting)) es)
      (waits-chain v (own-step r p k)))

-- the acts that so many events stand for
own-steps : (es : List Event) (n : ℕ) → length es ≡ n → (acts : List Act) → replicate n own_step ++ acts ≡ replicate (length es) own_step ++ acts
own-steps es n e acts = ap (λ (k : ℕ). replicate k own_step ++ acts) (sym e)

-- w steps that waited are a chain's own
all-waited : (w : ℕ) {ws left : List ℕ} {s x : Search} {t : ℕ} → Waited Stepping ws s w t left x → {acts : List Act} {es : List Event} → Chain left x acts es
    → (last : List Event) → last ≡ [] → Chain ws s (replicate (length (waits w ++ last)) own_step ++ acts) ((waits w ++ last) ++ es)
all-waited w v {acts} {es} k last none =
    let all : waits w ++ last ≡ waits w = ap (λ (l : List Event). waits w ++ l) none ∙ append-nil (waits w) in
    chain-as (own-steps (waits w ++ last) w (ap length all ∙ length-replicate w (stepped (answered waiting))) acts)
    (ap (λ (l : List Event). l ++ es) (sym all)) (waits-chain v k)

pub in-chains : InChains
in-chains ws s n r left acts es (all_wait v z) k = all-waited n v k [] refl
in-chains ws s n r left acts es (one_ends {w = w} {mid = mid} {x = x} q a below v p e told) k = elim (last-cases w (step_reply q.answer)) [
  | inl own ↦
      let last : Event = stepped (step_reply a) in
      let same : last ≡ stepped (step_reply q.answer) = ap stepped (told ∙ own) in
      let all : waits w ++ last_if (is_waiting (step_reply a)) last ≡ waits w ++ (last ∷ []) =
      ap (λ (b : Bool). waits w ++ last_if b last) (ap is_waiting (told ∙ own) ∙ e) in
      let size : length (waits w ++ (last ∷ [])) ≡ suc w =
      omega (arith, length-append (waits w) (last ∷ []), length-replicate w (stepped (answered waiting))) in
      chain-as (one_more w own_step acts ∙ own-steps (waits w ++ last_if (is_waiting (step_reply a)) last) (suc w) (ap length all ∙ size) acts)
      (ap (λ (x : Event). waits w ++ (x ∷ es)) (sym same) ∙ sym (append_assoc (waits w) (last ∷ []) es) ∙ ap (λ (l : List Event). l ++ es) (sym all))
      (waits-chain v (own-step q p k))
  | inr kept ↦
      let h = rested mid x q left p e in
      let back : Chain mid x acts es = subst (λ (y : Search). Chain mid y acts es) h.search (subst (λ (l : List ℕ). Chain l q.search acts es) h.words k) in
      all-waited w v back (last_if (is_waiting (step_reply a)) (stepped (step_reply a)))
      (ap (λ (b : Bool). last_if b (stepped (step_reply a))) (ap is_waiting (told ∙ kept.1)))
]

-- ---- in any list of calls

waits-made : {ws : List ℕ} {s : Search} {w t : ℕ} {mid : List ℕ} {x : Search} (v : Waited Stepping ws s w t mid x) → Made ws (waits_call v) mid
waits-made at_first = made_reading
waits-made (once_more {x = x} r v p e) = made_both (waits-made v) (made_step x r p)

steps-made : {ws : List ℕ} {s : Search} {n : ℕ} {r : StepsTaken} {left : List ℕ} (k : StepsCalled ws s n r left) → Made ws (solving_call k) left
steps-made (all_wait v z) = waits-made v
steps-made (one_ends {x = x} r a below v p e told) = made_both (waits-made v) (made_step x r p)

pub in-lists : InLists
in-lists ws s n r left p = steps-made p.called

calls-made : {ws ss gs p : List ℕ} {r : Planned} {left q : List ℕ} (k : CallsMade ws ss gs p r left q) → Made ws (planning_call k) left
calls-made {ws} {ss} {gs} (not_opened f i) = made_initialize ss gs (Err f) i
calls-made {ws} {ss} {gs} {p} (to_the_end {q = q} x e t i s k) =
    made_both (made_initialize ss gs (Ok x) i) (made_both (steps-made s.called) (made_retrace e.search p t q k))

pub plan-in-lists : Plan.InLists
plan-in-lists ws ss gs p r left q k = calls-made k.called

-- ---- the retrace of a `plan` that is not refused

called-retraced : {ws ss gs p : List ℕ} {r : Planned} {left q : List ℕ} → CallsMade ws ss gs p r left q → is_answered (step_reply r.answer) ≡ true
    → (t : Result ℕ Refusal) × (Retracing left r.search p t q × (r.has_path ≡ is_answered (retrace_reply t)))
called-retraced (not_opened f i) told = absurd (true≢false (sym told))
called-retraced (to_the_end x e t i s k) told = (t, (k, refl))

pub plan-retraced : Plan.Retraced
plan-retraced ws ss gs p r left q k told = called-retraced k.called told
