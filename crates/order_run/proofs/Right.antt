-- What is printed of an order is right, whatever was called before.
-- Assumes nothing.
use mathlib.Core.Path.{◌≡◌, refl, sym, ap, ◌∙◌, subst}
use Rattle.std.specs.Prelude.{Ok}
use mathlib.Core.List.{List, [], ◌∷◌, ◌++◌}
use Prim.Native.Nat.{ℕ, zero, suc, ◌+◌, ◌<◌}
use native.Mathlib.Omega.{arith}
use Rattle.model.specs.declared.Search.{Search}
use Rattle.model.specs.Answers.{Reply, answered, refused}
use Rattle.model.specs.Graph.{Accepted}
use Rattle.model.specs.Calls.{Cache, opened, AfterInitialize, initialize, step}
use Rattle.model.specs.Demands.{Call, initializing, stepping, after, after_all, Act, events, wait_limit}
use Rattle.model.proofs.Faults.{may-initialize, no-fault}
use Rattle.model.proofs.Keeps.{KeptCache, kept-sound, accepted-kept, initialize-keeps, after-all-keeps}
use Rattle.model.proofs.Demand3 as model
use Rattle.layout.specs.Read.{direction_of, read_cache}
use Rattle.cache.specs.Demand1.{Opens}
use Rattle.cache.proofs.Demand1.{demand-1}
use Rattle.sound.proofs.Facts.{sound-words-at}
use Rattle.sound.proofs.Opened.{opened-sound}
use Rattle.model.specs.Solve.{AfterSteps, steps_from, solve, max_steps}
use Rattle.model.proofs.Solve.{steps-none, steps-cases, solve-some}
use Rattle.order_run.specs.Orders.{Ordered, ordered_by, ordered, RightLine, RightLines, OrdersAreCalls}
use Rattle.order_run.specs.Run.{Called, PrintsRight, LinesAreRight, OpensCalled}
use Rattle.order_run.proofs.Texts.{ordered-is}
use Rattle.order_run.proofs.Bounds.{waits-few}
use Rattle.order_run.proofs.Driven.{Rest, line-from}

-- ---- an order

enough-steps : (c : Cache) (s : Search) → solve max_steps c s ≡ steps_from max_steps c s 0 0
enough-steps c s = solve-some 131137 c s

-- by the reply of its opening
ordered-by : (i : ℕ) (c : Cache) (ss gs : List ℕ) (x : Reply (Unit {0})) → (initialize c ss gs).reply ≡ x → (ordered i c ss gs).text ≡ (ordered_by x (initialize c ss gs) i).text
ordered-by i c ss gs x e =
    ap (λ (y : Ordered). y.text) (sym (ordered-is i c ss gs)) ∙ ap (λ (y : Reply (Unit {0})). (ordered_by y (initialize c ss gs) i).text) e

pub right-lines : RightLines
right-lines dir g acc slots before ss gs i e =
    let c₀ : Cache = opened dir g slots in
    let c : Cache = after_all c₀ before in
    let r : AfterInitialize = initialize c ss gs in
    let a₀ : Accepted c₀.domain.graph = model.opened-accepted dir g slots acc in
    let k : KeptCache c₀ c = after-all-keeps c₀ a₀ (model.opened-sound dir g slots) before in
    let a : Accepted c.domain.graph = accepted-kept c₀ c k a₀ in
    let l : KeptCache c r.cache = initialize-keeps c a (kept-sound c₀ c k) ss gs in
    let m = may-initialize c ss gs (no-fault c ss gs e) in
    let rest : (acts : List Act) → Rest dir g ss gs 0 (events r.cache r.search acts) = λ acts.
    let o = model.demand-3 dir g acc slots before ss gs e acts in record { owed = o; few = omega (arith, o.few) } in
    let enough : wait_limit dir g ss gs < max_steps + 0 = omega (arith, waits-few dir g acc ss gs m.few_starts m.few_goals) in
    rw (ordered-by i c ss gs (answered tt) e, enough-steps r.cache r.search)
    (line-from dir g ss gs i max_steps r.cache r.search 0 0 (accepted-kept c r.cache l a) (kept-sound c r.cache l) rest enough)

-- ---- its calls

-- what some steps came to is what calls leave
abbrev Calls : Cache → AfterSteps → Type 0
Calls c d = (xs : List Call) × (d.cache ≡ after_all c xs)

steps-calls : (n : ℕ) (c : Cache) (s : Search) (w t : ℕ) → Calls c (steps_from n c s w t)
unfolding after_all
steps-calls zero c s w t = rw (steps-none c s w t) ([], refl)
steps-calls (suc n) c s w t =
    let r = step c s in
    let ih = steps-calls n r.cache r.search (w + 1) (t + r.tickets) in
    steps-cases (Calls c) c s w t n (λ e. (stepping s ∷ ih.0, ih.1)) (λ e. (stepping s ∷ [], refl))

pub orders-are-calls : OrdersAreCalls
orders-are-calls i c ss gs = rw (sym (ordered-is i c ss gs)) (go r.reply)
  where
    r : AfterInitialize
    r = initialize c ss gs

    first : (xs : List Call) → after_all r.cache xs ≡ after_all c (initializing ss gs ∷ xs)
    first xs = unfold after_all in refl

    go : (x : Reply (Unit {0})) → (xs : List Call) × ((ordered_by x r i).cache ≡ after_all c xs)
    go (refused n l) = (initializing ss gs ∷ [], (unfold after_all in refl))
    go (answered tt) =
        let d = steps-calls max_steps r.cache r.search 0 0 in
        (initializing ss gs ∷ d.0, ap (λ (x : AfterSteps). x.cache) (enough-steps r.cache r.search) ∙ d.1 ∙ first d.0)

-- ---- the lines printed, and the words left for the next order

after_all-append : (c : Cache) (xs ys : List Call) → after_all c (xs ++ ys) ≡ after_all (after_all c xs) ys
unfolding after_all
after_all-append c [] ys = refl
after_all-append c (x ∷ xs) ys = after_all-append (after c x) xs ys

pub lines-are-right : LinesAreRight
lines-are-right dir g t i ws ss gs out r left out' called ran =
    let c : Cache = read_cache ws in
    let calls = orders-are-calls i c ss gs in
    let next : read_cache left ≡ after_all (opened dir g t) (called.calls ++ calls.0) =
    ran.cache ∙ calls.1 ∙ ap (λ (x : Cache). after_all x calls.0) called.cache ∙ sym (after_all-append (opened dir g t) called.calls calls.0) in
    let prints : PrintsRight dir g t i ws ss gs left (ordered i c ss gs).text = record {
      refusal = λ n line e. ordered-by i c ss gs (refused n line) e;
      answer = subst (λ (x : Cache). (initialize x ss gs).reply ≡ answered tt → RightLine dir g ss gs i (ordered i x ss gs).text) (sym called.cache)
          (right-lines dir g called.accepted t called.calls ss gs i);
      next = record { accepted = called.accepted; calls = called.calls ++ calls.0; cache = next; sound = ran.sound };
    } in
    ((ordered i c ss gs).text, (ran.text, prints))

-- ---- an opened cache

pub opens-called : OpensCalled
unfolding after_all
opens-called ws text d t left h =
    let o : Opens ws text d t left = (demand-1 ws text d t (Ok tt) left h).opened refl in
    let called : Called (direction_of d) o.graph t left = record {
      accepted = o.accepted;
      calls = [];
      cache = o.cache;
      sound = sound-words-at left (opened-sound ws text d t left o);
    } in
    (o.graph, (o.read, called))
