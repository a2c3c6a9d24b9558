-- The events of a search's own calls among any others are the reference's, where the search's own record is never refused.
-- Assumes nothing.
use mathlib.Core.Path.{◌≡◌, refl, sym, ap, ap₂, ◌∙◌, subst}
use mathlib.Core.Bool.{Bool, true, false}
use mathlib.Core.List.{List, [], ◌∷◌}
use Rattle.model.specs.declared.Search.{Search}
use Rattle.model.specs.Graph.{Domain, Accepted}
use Rattle.model.specs.Tree.{Tree}
use Rattle.model.specs.Valid.{valid}
use Rattle.model.specs.Calls.{Cache, SoundCache, with_trees, AfterStep, step_if, step}
use Rattle.model.specs.Demands.{Call, initializing, stepping, retracing, reading, both, after, after_all, Act, own_step, own_retrace, other, Event, stepped, retraced, events}
use Rattle.model.specs.Reference.{Memory, Answered, read_memory, reply_of, shown_of, path_status}
use Rattle.model.specs.Reference as reference
use Rattle.model.proofs.Keeps.{KeptCache, kept-sound, accepted-kept, step_keeps, after-keeps}
use Rattle.model.proofs.RefinesRead.{valid-readable, read-later}
use Rattle.model.proofs.Faults.{step-if}
use Rattle.model.proofs.RefinesStep.{read-flag, StepIs, if-is, retrace-is, initialize-leaves, step-leaves}

-- ---- any call

pub after_is : (c : Cache) → Accepted c.domain.graph → SoundCache c → (x : Call) → reference.after c x ≡ after c x
unfolding reference.after after
after_is c acc ok (initializing ss gs) = initialize-leaves c acc ok.trees ss gs
after_is c acc ok (stepping s) = step-leaves c acc ok.trees s
after_is c acc ok (retracing s p) = refl
after_is c acc ok reading = refl
after_is c acc ok (both x y) =
    let k : KeptCache c (after c x) = after-keeps c acc ok x in
    ap (λ (z : Cache). reference.after z y) (after_is c acc ok x) ∙ after_is (after c x) (accepted-kept c (after c x) k acc) (kept-sound c (after c x) k) y

pub after-all-is : (xs : List Call) (c : Cache) → Accepted c.domain.graph → SoundCache c → reference.after_all c xs ≡ after_all c xs
unfolding reference.after_all after_all
after-all-is [] c acc ok = refl
after-all-is (x ∷ xs) c acc ok =
    let k : KeptCache c (after c x) = after-keeps c acc ok x in
    ap (λ (z : Cache). reference.after_all z xs) (after_is c acc ok x)
    ∙ after-all-is xs (after c x) (accepted-kept c (after c x) k acc) (kept-sound c (after c x) k)

-- P: what holds of a cache and the search's own record at every call
module _ (P : Cache → Search → Type 0) (fine : (c : Cache) (s : Search) → P c s → valid c.domain c.trees s ≡ true)
    (steps : (c : Cache) (s : Search) → P c s → P (step c s).cache (step c s).search) (others : (c : Cache) (s : Search) → P c s → (x : Call) → P (after c x) s) where
  abbrev memory_of : Cache → Search → Memory
  memory_of c s = read_memory c.domain c.trees s

  -- the same events from this cache and this record on
  abbrev Same : List Act → Cache → Search → Type 0
  Same acts c s = reference.events c (memory_of c s) acts ≡ events c s acts

  own-step : (acts : List Act) (c : Cache) (s : Search) (x : Bool) (r : Answered) → StepIs c.domain r (step_if x c s)
      → Same acts (step_if x c s).cache (step_if x c s).search
      → ◌≡◌ {A = List Event} (stepped (reply_of r.status) ∷ reference.events (with_trees c r.trees) r.memory acts)
      (stepped (step_if x c s).reply ∷ events (step_if x c s).cache (step_if x c s).search acts)
  own-step acts c s true r z ih =
      ap₂ (λ (e : Event) (es : List Event). e ∷ es) (ap stepped z.reply)
      (ap₂ (λ (ts : List Tree) (m : Memory). reference.events (with_trees c ts) m acts) z.trees z.memory ∙ ih)
  own-step acts c s false r z ih =
      ap₂ (λ (e : Event) (es : List Event). e ∷ es) (ap stepped z.reply)
      (ap₂ (λ (ts : List Tree) (m : Memory). reference.events (with_trees c ts) m acts) z.trees z.memory ∙ ih)

  -- another call leaves the record as it is read
  memory_kept : (c c' : Cache) (s : Search) → SoundCache c → P c s → KeptCache c c' → memory_of c s ≡ memory_of c' s
  memory_kept c c' s ok p k =
      sym (read-later c.domain c.trees c'.trees ok.trees k.keeps.1 s (valid-readable c.domain c.trees s ok.trees (fine c s p)))
      ∙ ap (λ (d : Domain). read_memory d c'.trees s) (sym k.domain)

  pub events-is : (acts : List Act) (c : Cache) (s : Search) → Accepted c.domain.graph → SoundCache c → P c s
      → reference.events c (read_memory c.domain c.trees s) acts ≡ events c s acts
  unfolding reference.events events
  events-is [] c s acc ok p = refl
  events-is (own_step ∷ acts) c s acc ok p =
      let k : KeptCache c (step c s).cache = step_keeps c acc ok s in
      let ih = events-is acts (step c s).cache (step c s).search (accepted-kept c (step c s).cache k acc) (kept-sound c (step c s).cache k) (steps c s p) in
      let e : step c s ≡ step_if s.exhausted c s = step-if c s (fine c s p) in
      own-step acts c s s.exhausted (reference.step c.domain c.trees (memory_of c s)) (if-is c acc ok.trees s (fine c s p) s.exhausted refl)
      (subst (λ (z : AfterStep). Same acts z.cache z.search) e ih)
      ∙ ap (λ (z : AfterStep). stepped z.reply ∷ events z.cache z.search acts) (sym e)
  events-is (own_retrace q ∷ acts) c s acc ok p =
      ap₂ (λ (e : Event) (es : List Event). e ∷ es)
      (ap (retraced q) (ap (λ (x : Bool). shown_of (path_status x c.domain.direction (memory_of c s)) q) (read-flag c.domain c.trees s) ∙ retrace-is c acc ok.trees s (fine c s p) q))
      (events-is acts c s acc ok p)
  events-is (other x ∷ acts) c s acc ok p =
      let k : KeptCache c (after c x) = after-keeps c acc ok x in
      ap₂ (λ (z : Cache) (m : Memory). reference.events z m acts) (after_is c acc ok x) (memory_kept c (after c x) s ok p k)
      ∙ events-is acts (after c x) s (accepted-kept c (after c x) k acc) (kept-sound c (after c x) k) (others c s p x)
