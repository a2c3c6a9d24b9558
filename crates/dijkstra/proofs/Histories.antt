-- A list of calls on words that an accepted opening left is the model's list of calls: the words hold the model's cache after each call, and
-- a search's own calls answer the model's events.
-- Assumes nothing.
use mathlib.Core.Path.{◌≡◌, refl, sym, ap, ap₂, ◌∙◌}
use Rattle.std.specs.Prelude.{Ok}
use mathlib.Core.Bool.{Bool, true}
use mathlib.Core.List.{List, ◌∷◌}
use Prim.Native.Nat.{ℕ}
use Rattle.model.specs.declared.Search.{Search}
use Rattle.model.specs.Answers.{Reply, answered, Status}
use Rattle.model.specs.Graph.{Graph, Accepted}
use Rattle.model.specs.Calls.{Cache, opened, AfterInitialize, initialize, AfterStep, step, AfterRetrace, retrace}
use Rattle.model.specs.Demands.{Call, after, after_all, Act, Event, stepped, retraced, events}
use Rattle.text.specs.Read.{read_graph}
use Rattle.layout.specs.Read.{direction_of, read_cache}
use Rattle.layout.specs.Sound.{sound_wordsb}
use Rattle.cache.specs.Demand1.{Opens}
use Rattle.cache.proofs.Demand1.{demand-1}
use Rattle.sound.proofs.Opened.{opened-sound}
use Rattle.dijkstra.specs.Calls.{initialize_if, initialize_words, step_sound_if, step_words, retrace_if, retrace_words}
use Rattle.dijkstra.specs.Demands.{Made, made_initialize, made_step, made_retrace, made_reading, made_both, MadeAll, none_made, and_then, Chain, ends, own-step, own-retrace, between, History}

-- ---- on sound words each call is the model's

module _ (ws : List ℕ) (ok : sound_wordsb ws ≡ true) where
  pub initialize-is : (ss gs : List ℕ) → initialize_words ws ss gs ≡ initialize (read_cache ws) ss gs
  initialize-is ss gs = ap (λ (b : Bool). initialize_if b (read_cache ws) ss gs) ok

  pub step_is : (s : Search) → step_words ws s ≡ step (read_cache ws) s
  step_is s = ap (λ (b : Bool). step_sound_if b (read_cache ws) s) ok

  pub retrace-is : (s : Search) (p : List ℕ) → retrace_words ws s p ≡ retrace (read_cache ws) s p
  retrace-is s p = ap (λ (b : Bool). retrace_if b (read_cache ws) s p) ok

-- ---- the calls that are no search's own

made-is : {ws left : List ℕ} {x : Call} → Made ws x left → sound_wordsb ws ≡ true → (sound_wordsb left ≡ true) × (read_cache left ≡ after (read_cache ws) x)
unfolding after
made-is (made_initialize {ws = ws} ss gs r p) ok = (p.sound ∙ ok, p.cache ∙ ap (λ (x : AfterInitialize). x.cache) (initialize-is ws ok ss gs))
made-is (made_step {ws = ws} s r p) ok = (p.sound ∙ ok, p.cache ∙ ap (λ (x : AfterStep). x.cache) (step_is ws ok s))
made-is (made_retrace s p r q k) ok = (ok, refl)
made-is made_reading ok = (ok, refl)
made-is (made_both {y = y} m k) ok =
    let first = made-is m ok in
    let rest = made-is k first.0 in
    (rest.0, rest.1 ∙ ap (λ (c : Cache). after c y) first.1)

made-all-is : {ws left : List ℕ} {xs : List Call} → MadeAll ws xs left → sound_wordsb ws ≡ true → (sound_wordsb left ≡ true) × (read_cache left ≡ after_all (read_cache ws) xs)
unfolding after_all
made-all-is none_made ok = (ok, refl)
made-all-is (and_then {xs = xs} m k) ok =
    let first = made-is m ok in
    let rest = made-all-is k first.0 in
    (rest.0, rest.1 ∙ ap (λ (c : Cache). after_all c xs) first.1)

-- ---- the own calls among them

chain-is : {ws : List ℕ} {s : Search} {acts : List Act} {es : List Event} → Chain ws s acts es → sound_wordsb ws ≡ true → es ≡ events (read_cache ws) s acts
unfolding events
chain-is ends ok = refl
chain-is (own-step {ws = ws} {s = s} {acts = acts} r p k) ok =
    let e = step_is ws ok s in
    let rest = chain-is k (p.sound ∙ ok) in
    ap₂ (λ (x : Reply Status) (l : List Event). stepped x ∷ l) (p.answer ∙ ap (λ (x : AfterStep). x.reply) e)
    (rest ∙ ap₂ (λ (c : Cache) (x : Search). events c x acts) (p.cache ∙ ap (λ (x : AfterStep). x.cache) e) (p.search ∙ ap (λ (x : AfterStep). x.search) e))
chain-is (own-retrace {ws = ws} {s = s} p r q e k) ok =
    ap₂ (λ (x : AfterRetrace) (l : List Event). retraced p x ∷ l) (e ∙ retrace-is ws ok s p) (chain-is k ok)
chain-is (between {s = s} {acts = acts} x m k) ok =
    let other = made-is m ok in
    chain-is k other.0 ∙ ap (λ (c : Cache). events c s acts) other.1

-- ---- the whole

-- the model's list of calls: it opens the search, and its own calls give these events
pub record InModel (text : List ℕ) (d t : ℕ) (before : List Call) (ss gs : List ℕ) (acts : List Act) (es : List Event) : Type 0 where
  pub graph : Graph
  pub read : read_graph text ≡ answered graph
  pub accepted : Accepted graph
  pub reply : (initialize (after_all (opened (direction_of d) graph t) before) ss gs).reply ≡ answered tt
  pub same :
      let r = initialize (after_all (opened (direction_of d) graph t) before) ss gs in
      es ≡ events r.cache r.search acts

pub in-model : (text : List ℕ) (d t : ℕ) (before : List Call) (ss gs : List ℕ) (acts : List Act) (es : List Event)
    → History text d t before ss gs acts es → InModel text d t before ss gs acts es
in-model text d t before ss gs acts es h =
    let o : Opens h.lent text d t h.first = (demand-1 h.lent text d t (Ok tt) h.first h.opens).opened refl in
    let m = made-all-is h.made (opened-sound h.lent text d t h.first o) in
    let c : Cache = after_all (opened (direction_of d) o.graph t) before in
    let held : read_cache h.mid ≡ c = m.1 ∙ ap (λ (x : Cache). after_all x before) o.cache in
    let p = h.initializes in
    let is : initialize_words h.mid ss gs ≡ initialize c ss gs = initialize-is h.mid m.0 ss gs ∙ ap (λ (x : Cache). initialize x ss gs) held in
    record {
      graph = o.graph;
      read = o.read;
      accepted = o.accepted;
      reply = sym (p.answer ∙ ap (λ (x : AfterInitialize). x.reply) is);
      same =
          chain-is h.chain (p.sound ∙ m.0)
          ∙ ap₂ (λ (x : Cache) (s : Search). events x s acts) (p.cache ∙ ap (λ (x : AfterInitialize). x.cache) is) (p.search ∙ ap (λ (x : AfterInitialize). x.search) is);
    }
