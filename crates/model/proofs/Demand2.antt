-- Demand 2: for every list of calls on a cache just opened, and every search opened in it, every status, total and path of its own steps
-- and retraces is the reference's.
-- Assumes nothing.
use mathlib.Core.Path.{◌≡◌, sym, ap, ◌∙◌, subst}
use Rattle.std.specs.declared.option.Option.{Option}
use Rattle.std.specs.Prelude.{None}
use mathlib.Core.Bool.{Bool, true, false}
use mathlib.Core.List.{List}
use Prim.Native.Nat.{ℕ}
use Rattle.model.specs.declared.Search.{Search}
use Rattle.model.specs.Answers.{answered}
use Rattle.model.specs.Graph.{Domain, Accepted}
use Rattle.model.specs.Search.{plant_all, roots_of, goals_of, new_search}
use Rattle.model.specs.Valid.{valid}
use Rattle.model.specs.Calls.{Cache, SoundCache, opened, with_trees, AfterStep, first_fault, initialize_faults, initialize_by, initialize, step_if, step}
use Rattle.model.specs.Demands.{Call, after, after_all, Act, events}
use Rattle.model.specs.Reference as reference
use Rattle.model.proofs.Keeps.{KeptCache, kept-sound, accepted-kept, initialize-keeps, step_keeps, after-keeps, after-all-keeps}
use Rattle.model.proofs.Faults.{MayInitialize, may-initialize, no-fault, step-if}
use Rattle.model.proofs.Valid.{own-valid}
use Rattle.model.proofs.Opens.{slots_of}
use Rattle.model.proofs.Chain.{State, state-later, state-walk}
use Rattle.model.proofs.Demand3.{opened-state, opened-sound, opened-accepted}
use Rattle.model.proofs.Refines.{initialize-is}
use Rattle.model.proofs.RefinesEvents.{after-all-is, events-is}

-- a sound cache and a search's own record
record Held (c : Cache) (s : Search) : Type 0 where
  acc : Accepted c.domain.graph
  ok : SoundCache c
  vs : List ℕ
  gs : List ℕ
  mine : List ℕ
  state : State c.domain vs gs mine c.trees s

held-valid : (c : Cache) (s : Search) → Held c s → valid c.domain c.trees s ≡ true
held-valid c s h = own-valid _ c.domain c.trees h.state.sound s h.state.ready

held-step : (c : Cache) (s : Search) → Held c s → Held (step c s).cache (step c s).search
held-step c s h =
    subst (λ (r : AfterStep). Held r.cache r.search) (sym e) (go s.exhausted (subst (λ (r : AfterStep). KeptCache c r.cache) e (step_keeps c h.acc h.ok s)))
  where
    e : step c s ≡ step_if s.exhausted c s
    e = step-if c s (held-valid c s h)

    go : (b : Bool) → KeptCache c (step_if b c s).cache → Held (step_if b c s).cache (step_if b c s).search
    go true k = h
    go false k = record { acc = h.acc; ok = kept-sound c _ k; vs = h.vs; gs = h.gs; mine = h.mine; state = state-walk c.domain h.acc h.vs h.gs h.mine c.trees s h.state }

held-other : (c : Cache) (s : Search) → Held c s → (x : Call) → Held (after c x) s
held-other c s h x =
    let k : KeptCache c (after c x) = after-keeps c h.acc h.ok x in
    record {
      acc = accepted-kept c (after c x) k h.acc;
      ok = kept-sound c (after c x) k;
      vs = h.vs;
      gs = h.gs;
      mine = h.mine;
      state = subst (λ (d : Domain). State d h.vs h.gs h.mine (after c x).trees s) (sym k.domain) (state-later c.domain h.acc h.vs h.gs h.mine c.trees (after c x).trees s k.keeps h.state);
    }

same_from : (c : Cache) → Accepted c.domain.graph → SoundCache c → (ss gs : List ℕ) → (initialize c ss gs).reply ≡ answered tt → (acts : List Act)
    → reference.events_from c ss gs acts ≡ events (initialize c ss gs).cache (initialize c ss gs).search acts
unfolding initialize
same_from c acc ok ss gs e acts =
    let z : first_fault (initialize_faults c ss gs) ≡ None = no-fault c ss gs e in
    let m : MayInitialize c ss gs = may-initialize c ss gs z in
    let p = plant_all c.domain c.trees (roots_of c.domain.direction ss gs) in
    let us : Cache = with_trees c p.trees in
    let s : Search = new_search p.entries (goals_of c.domain.direction ss gs) in
    let k : KeptCache c us = subst (λ (o : Option ℕ). KeptCache c (initialize_by o c ss gs).cache) z (initialize-keeps c acc ok ss gs) in
    let h : Held us s = record {
      acc = acc;
      ok = kept-sound c us k;
      vs = roots_of c.domain.direction ss gs;
      gs = goals_of c.domain.direction ss gs;
      mine = slots_of c.domain p.trees (roots_of c.domain.direction ss gs);
      state = opened-state c ss gs ok.trees m;
    } in
    ap (λ (o : reference.Opened). reference.events (with_trees c o.trees) o.memory acts) (initialize-is c.domain c.trees ok.trees ss gs)
    ∙ events-is Held held-valid held-step held-other acts us s acc (kept-sound c us k) h
    ∙ ap (λ (o : Option ℕ). events (initialize_by o c ss gs).cache (initialize_by o c ss gs).search acts) (sym z)

pub demand-2 : reference.Demand2
demand-2 dir g acc slots before ss gs e acts =
    let c₀ : Cache = opened dir g slots in
    let c : Cache = after_all c₀ before in
    let a : Accepted c₀.domain.graph = opened-accepted dir g slots acc in
    let k : KeptCache c₀ c = after-all-keeps c₀ a (opened-sound dir g slots) before in
    ap (λ (x : Cache). reference.events_from x ss gs acts) (after-all-is before c₀ a (opened-sound dir g slots))
    ∙ same_from c (accepted-kept c₀ c k a) (kept-sound c₀ c k) ss gs e acts
