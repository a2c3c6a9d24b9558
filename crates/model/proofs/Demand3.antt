-- Demand 3, both directions, in chart direction: for every list of calls on a cache just opened, every search opened in it, and every chain
-- of its own steps and retraces.
-- Assumes nothing.
use mathlib.Core.Path.{◌≡◌, refl, sym, ap, ◌∙◌, subst}
use Rattle.std.specs.Prelude.{Some, None}
use Rattle.std.specs.declared.option.Option.{Option}
use mathlib.Core.Logic.{inl, inr}
use mathlib.Core.Bool.{true}
use mathlib.Core.List.{List, [], ◌∷◌}
use Prim.Native.Nat.{ℕ, ◌+◌, ◌*◌, ◌<◌, ◌≤◌}
use native.Mathlib.Omega.{arith}
use lib.ListN.{length}
use Rattle.model.specs.declared.BestSolution.{BestSolution}
use Rattle.model.specs.declared.Search.{Search}
use Rattle.model.specs.Lists.{all_below}
use Rattle.model.specs.Answers.{answered}
use Rattle.model.specs.Graph.{Graph, Domain, Direction, forward, backward, Accepted, Leads, SearchPath, vertex_count, edge_count, domain, initial_cost}
use Rattle.model.specs.Tree.{Tree, node}
use Rattle.model.specs.Path.{path, words}
use Rattle.model.specs.Sound.{tree, Sound, SoundTrees}
use Rattle.model.specs.Search.{entry, bound_of, bound, roots_of, goals_of, new_search}
use Rattle.model.specs.Calls.{Cache, SoundCache, opened, planted_for, initialize_by, initialize, step, retrace}
use Rattle.model.specs.Demands.{Demand3, Demand3OfCalls, Call, after_all, Act, own_step, own_retrace, other, Event, stepped, retraced, events, Chain, ends, own-step, own-retrace, between, distinct, trees_of, wait_limit, unreachable, Right, Owed}
use Rattle.model.proofs.Worth.{path_worth, least-total}
use Rattle.model.proofs.Least.{path-of}
use Rattle.model.proofs.Turns.{Under}
use Rattle.model.proofs.Faults.{MayInitialize, may-initialize, roots-below, no-fault}
use Rattle.model.proofs.Keeps.{plants-keep, KeptCache, kept-sound, after-all-keeps}
use Rattle.model.proofs.Opens.{Allowed, allowedb, slots_of, slots_length, opened-own, opened-goals, opened-ready, opened-rooted}
use Rattle.model.proofs.Reversed.{back, accepted-domain, leads-back, total-back, back-leads, back_total, reverse-count}
use Rattle.model.proofs.Words.{words-forward, words-backward}
use Rattle.model.proofs.Chain.{lefts, lefts-most, State, Final, outcome_at, outcome_of, outcome_words, Shows, shows-cases, shown-none, shown-some, tells}

-- the words of a node's path are those of the outcome that it shows
paths : (dir : Direction) (g : Graph) (t : Tree) → Sound (domain dir g) t → (n : ℕ) → n < length t.nodes
    → words (domain dir g).direction t.nodes n ≡ outcome_words g (outcome_at (domain dir g).direction t (Some n))
unfolding domain
paths forward g t ok n h = words-forward (domain forward g) t ok n h
paths backward g t ok n h = words-backward (domain backward g) t ok n h g refl

-- ---- what the outcome of a finished search means

module _ (g : Graph) (acc : Accepted g) (ss gs mine : List ℕ) (ts : List Tree) (s : Search) where
  nothing-under : (d : Domain) (k : ℕ) → s.best_solution ≡ None → Under (bound d ts s) k → ⊥
  nothing-under d k z u = subst (λ (x : Option BestSolution). Under (bound_of d ts s x) k) z u

  right-forward : State (domain forward g) ss gs mine ts s → Final (domain forward g) ss gs (bound (domain forward g) ts s) → Right forward g ss gs (outcome_of (domain forward g) ts s)
  unfolding domain initial_cost
  right-forward st f = elim (shows-cases d a ss gs mine ts s st) [ inl z ↦ subst (Right forward g ss gs) (sym (shown-none d a ss gs mine ts s z)) (none-case z) | inr x ↦ subst (Right forward g ss gs) (sym (shown-some d a ss gs mine ts s x)) (some-case x) ]
    where
      d : Domain
      d = domain forward g

      a : Accepted d.graph
      a = acc

      none-case : s.best_solution ≡ None → Right forward g ss gs unreachable
      none-case z b ls p = nothing-under d _ z (f b p.goal ls p.start p.allowed p.sought p.leads)

      some-case : (x : Shows d a ss gs mine ts s) → Right forward g ss gs (outcome_at forward (tree ts (entry s x.i).tree) (Some x.h))
      some-case x =
          let t : Tree = tree ts (entry s x.i).tree in
          let o = st.owned _ x.own in
          let p = path-of d t (st.sound.each _ x.slot) x.h x.inside in
          record {
            path = record { goal = (node t.nodes x.h).vertex; start = o.root; allowed = o.allowed; sought = x.goal.sought; leads = p.0 };
            totals = sym p.1;
            least = λ b ms q. least-total d a (node t.nodes x.h) b q.goal
                (λ ls l. subst (λ (y : Option ℕ). Under y (path_worth d b ls q.goal)) x.bounds (f b q.goal ls q.start q.allowed q.sought l)) ms q.leads;
          }

  right-backward : State (domain backward g) gs ss mine ts s → Final (domain backward g) gs ss (bound (domain backward g) ts s) → Right backward g ss gs (outcome_of (domain backward g) ts s)
  unfolding domain initial_cost
  right-backward st f = elim (shows-cases d a gs ss mine ts s st) [ inl z ↦ subst (Right backward g ss gs) (sym (shown-none d a gs ss mine ts s z)) (none-case z) | inr x ↦ subst (Right backward g ss gs) (sym (shown-some d a gs ss mine ts s x)) (some-case x) ]
    where
      d : Domain
      d = domain backward g

      a : Accepted d.graph
      a = accepted-domain backward g acc

      allowed : (v : ℕ) → Allowed d v
      allowed v z = omega (arith, z)

      -- a path of the search, turned round, is worth at least the bound, and so is every other between its ends
      under : (b : ℕ) (ls : List ℕ) (p : SearchPath backward g ss gs b ls) (ms : List ℕ) → Leads d.graph p.goal ms b → Under (bound d ts s) (path_worth d p.goal ms b)
      under b ls p ms l = f p.goal b ms p.sought (allowed p.goal) p.start l

      turned : (b : ℕ) (ls : List ℕ) (p : SearchPath backward g ss gs b ls) → Leads d.graph p.goal (back ls) b
      turned b ls p = back-leads g ls b p.goal p.leads

      none-case : s.best_solution ≡ None → Right backward g ss gs unreachable
      none-case z b ls p = nothing-under d _ z (under b ls p (back ls) (turned b ls p))

      some-case : (x : Shows d a gs ss mine ts s) → Right backward g ss gs (outcome_at backward (tree ts (entry s x.i).tree) (Some x.h))
      some-case x =
          let t : Tree = tree ts (entry s x.i).tree in
          let o = st.owned _ x.own in
          let p = path-of d t (st.sound.each _ x.slot) x.h x.inside in
          let ls : List ℕ = path t.nodes x.h in
          record {
            path = record { goal = t.start; start = x.goal.sought; allowed = tt; sought = o.root; leads = leads-back g ls t.start (node t.nodes x.h).vertex p.0 };
            totals = omega (arith, p.1, total-back g ls);
            least = λ b ms q.
                let k = least-total d a (node t.nodes x.h) q.goal b (λ ls l. subst (λ (y : Option ℕ). Under y (path_worth d q.goal ls b)) x.bounds (under b ms q ls l)) (back ms) (turned b ms q) in
                omega (arith, k, back_total g ms);
          }

right : (dir : Direction) (g : Graph) → Accepted g → (ss gs mine : List ℕ) (ts : List Tree) (s : Search)
    → State (domain dir g) (roots_of (domain dir g).direction ss gs) (goals_of (domain dir g).direction ss gs) mine ts s
    → Final (domain dir g) (roots_of (domain dir g).direction ss gs) (goals_of (domain dir g).direction ss gs) (bound (domain dir g) ts s)
    → Right dir g ss gs (outcome_of (domain dir g) ts s)
unfolding domain
right forward g acc ss gs mine ts s st f = right-forward g acc ss gs mine ts s st f
right backward g acc ss gs mine ts s st f = right-backward g acc ss gs mine ts s st f

-- ---- the wait limit

trees-are : (dir : Direction) (g : Graph) (ss gs : List ℕ) → distinct (allowedb (domain dir g)) (roots_of (domain dir g).direction ss gs) ≡ trees_of dir g ss gs
unfolding domain initial_cost
trees-are forward g ss gs = refl
trees-are backward g ss gs = refl

edges_are : (dir : Direction) (g : Graph) → edge_count (domain dir g).graph ≡ edge_count g
unfolding domain
edges_are forward g = refl
edges_are backward g = reverse-count g

-- ---- the search as opened

-- the state in which an accepted opening leaves the search
module _ (c : Cache) (ss gs : List ℕ) (ok : SoundTrees c.domain c.trees) (m : MayInitialize c ss gs) where
  abbrev d : Domain
  d = c.domain

  abbrev ts : List Tree
  ts = c.trees

  abbrev vs : List ℕ
  vs = roots_of c.domain.direction ss gs

  abbrev ws : List ℕ
  ws = goals_of c.domain.direction ss gs

  abbrev us : List Tree
  us = (planted_for c ss gs).trees

  abbrev s : Search
  s = new_search (planted_for c ss gs).entries (goals_of c.domain.direction ss gs)

  roots_few : (x : Direction) → length (roots_of x ss gs) ≤ 64
  roots_few forward = m.few_starts
  roots_few backward = m.few_goals

  goals-few : (x : Direction) → length (goals_of x ss gs) ≤ 64
  goals-few forward = m.few_goals
  goals-few backward = m.few_starts

  goals-in : (x : Direction) → all_below (vertex_count d.graph) (goals_of x ss gs) ≡ true
  goals-in forward = m.goals_below
  goals-in backward = m.starts_below

  pub opened-state : State c.domain (roots_of c.domain.direction ss gs) (goals_of c.domain.direction ss gs) (slots_of c.domain us vs) us s
  opened-state =
      record {
        sound = (plants-keep d vs ts ok (roots-below d.direction c ss gs m)).0;
        ready = opened-ready d vs ws ts (roots_few d.direction) (goals-few d.direction) (goals-in d.direction);
        same = opened-goals d vs ws ts (roots_few d.direction) (goals-few d.direction) (goals-in d.direction);
        owned = opened-own d vs ws ts (roots_few d.direction) (goals-few d.direction) (goals-in d.direction);
        rooted = opened-rooted d vs ws ts (roots_few d.direction) (goals-few d.direction) (goals-in d.direction);
      }

module _ (dir : Direction) (g : Graph) (acc : Accepted g) (slots : ℕ) (ts : List Tree) (ok : SoundTrees (domain dir g) ts) (h : length ts ≤ slots) (ss gs : List ℕ) where
  abbrev c : Cache
  c = record { domain = domain dir g; slots = slots; trees = ts }

  module _ (m : MayInitialize c ss gs) where
    abbrev d' : Domain
    d' = domain dir g

    abbrev us' : List Tree
    us' = (planted_for c ss gs).trees

    abbrev s' : Search
    s' = new_search (planted_for c ss gs).entries (goals_of (domain dir g).direction ss gs)

    abbrev vs' : List ℕ
    vs' = roots_of (domain dir g).direction ss gs

    abbrev mine : List ℕ
    mine = slots_of (domain dir g) us' vs'

    state : State d' vs' (goals_of (domain dir g).direction ss gs) mine us' s'
    state = opened-state c ss gs ok m

    limit : 1 + lefts d' us' mine ≤ wait_limit dir g ss gs
    unfolding wait_limit
    limit =
        let n : length mine ≡ length (trees_of dir g ss gs) = slots_length d' us' vs' ∙ ap length (trees-are dir g ss gs) in
        let most : lefts d' us' mine ≤ length (trees_of dir g ss gs) * (1 + edge_count g) =
        subst (λ (k : ℕ). lefts d' us' mine ≤ k * (1 + edge_count g)) n (subst (λ (k : ℕ). lefts d' us' mine ≤ length mine * (1 + k)) (edges_are dir g) (lefts-most d' us' state.sound mine (λ i k. (state.owned i k).inside))) in
        omega arith

    owed : (acts : List Act) → Owed dir g ss gs (events (record { domain = d'; slots = slots; trees = us' }) s' acts)
    owed acts =
        let t = tells d' (accepted-domain dir g acc) vs' (goals_of (domain dir g).direction ss gs) mine slots g (paths dir g) acts us' s' (omega (arith, m.room, h)) state refl in
        record {
          first = t.first;
          last = t.last;
          outcome = t.outcome;
          split = t.split;
          early = t.early;
          few = omega (arith, t.few, limit);
          late = t.late;
          right = λ z. let k = t.closing z in subst (Right dir g ss gs) (sym k.is) (right dir g acc ss gs mine k.ts k.s k.state k.final);
        }

  pub owed-from : (initialize c ss gs).reply ≡ answered tt → (acts : List Act) → Owed dir g ss gs (events (initialize c ss gs).cache (initialize c ss gs).search acts)
  unfolding initialize
  owed-from e acts =
      let z = no-fault c ss gs e in
      subst (λ (o : Option ℕ). Owed dir g ss gs (events (initialize_by o c ss gs).cache (initialize_by o c ss gs).search acts)) (sym z)
      (owed (may-initialize c ss gs z) acts)

-- a cache of a domain and a number of slots
pub cache-is : (d : Domain) (slots : ℕ) (c : Cache) → c.domain ≡ d → c.slots ≡ slots → c ≡ record { domain = d; slots = slots; trees = c.trees }
cache-is d slots c p q i = record { domain = p i; slots = q i; trees = c.trees }

-- a cache just opened is sound
pub opened-sound : (dir : Direction) (g : Graph) (slots : ℕ) → SoundCache (opened dir g slots)
unfolding opened
opened-sound dir g slots = record { within = omega arith; trees = record { differ = λ i j h. absurd (omega arith); each = λ i h. absurd (omega arith) } }

pub opened-accepted : (dir : Direction) (g : Graph) (slots : ℕ) → Accepted g → Accepted (opened dir g slots).domain.graph
unfolding opened
opened-accepted dir g slots acc = accepted-domain dir g acc

pub demand-3 : Demand3
demand-3 dir g acc slots before ss gs e acts =
    let c : Cache = after_all (opened dir g slots) before in
    let k : KeptCache (opened dir g slots) c = after-all-keeps (opened dir g slots) (opened-accepted dir g slots acc) (opened-sound dir g slots) before in
    let p : c.domain ≡ domain dir g = k.domain ∙ unfold opened in refl in
    let q : c.slots ≡ slots = k.slots ∙ unfold opened in refl in
    let is : c ≡ record { domain = domain dir g; slots = slots; trees = c.trees } = cache-is (domain dir g) slots c p q in
    let ok : SoundTrees (domain dir g) c.trees = subst (λ (d : Domain). SoundTrees d c.trees) p (kept-sound (opened dir g slots) c k).trees in
    let h : length c.trees ≤ slots = omega (arith, k.within, q) in
    subst (λ (x : Cache). (initialize x ss gs).reply ≡ answered tt → Owed dir g ss gs (events (initialize x ss gs).cache (initialize x ss gs).search acts)) (sym is)
    (λ r. owed-from dir g acc slots c.trees ok h ss gs r acts) e

-- ---- the same of a plain list of calls and any chain in it

-- a chain is a list of acts: its own calls are marked
pub chain-acts : {c : Cache} {s : Search} {xs : List Call} {es : List Event} → Chain c s xs es → (acts : List Act) × (es ≡ events c s acts)
unfolding events
chain-acts ends = ([], refl)
chain-acts (own-step {c = c} {s = s} k) = let r = chain-acts k in (own_step ∷ r.0, ap (λ (l : List Event). stepped (step c s).reply ∷ l) r.1)
chain-acts (own-retrace {c = c} {s = s} {p = p} k) = let r = chain-acts k in (own_retrace p ∷ r.0, ap (λ (l : List Event). retraced p (retrace c s p) ∷ l) r.1)
chain-acts (between {x = x} k) = let r = chain-acts k in (other x ∷ r.0, r.1)

pub demand-3-calls : Demand3OfCalls
demand-3-calls dir g acc slots before ss gs e xs es k = let r = chain-acts k in subst (Owed dir g ss gs) (sym r.1) (demand-3 dir g acc slots before ss gs e r.0)
