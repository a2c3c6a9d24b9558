-- A whole search: the three calls one after the other meet its promise, and the code of `plan` makes them.
-- Assumes nothing.
use mathlib.Core.Path.{◌≡◌, refl, sym, ap, ap₂, ◌∙◌, subst}
use Rattle.model.specs.Search.{empty_search}
use Rattle.std.specs.declared.result.Result.{Result}
use Rattle.std.specs.Prelude.{Err, Ok, None}
use mathlib.Core.Bool.{Bool, true, false}
use mathlib.Core.List.{List}
use Prim.Native.Nat.{ℕ}
use Rattle.model.specs.declared.Planned.{Planned}
use Rattle.model.specs.declared.Refusal.{Refusal}
use Rattle.model.specs.declared.Refusal.TheVariants.{Unsound}
use Rattle.model.specs.declared.Search.{Search}
use Rattle.model.specs.declared.StepsTaken.{StepsTaken}
use Rattle.model.specs.Answers.{Reply, answered, refused, is_answered, number, retrace_reply}
use Rattle.model.specs.Calls.{Cache, AfterInitialize, AfterRetrace, retrace}
use Rattle.model.specs.Solve.{AfterSteps, solve, max_steps}
use Rattle.model.specs.Plan.{AfterPlan, plan_from}
use Rattle.model.proofs.Replies.{answered-refused}
use Rattle.layout.specs.Read.{read_cache}
use Rattle.layout.specs.Sound.{sound_wordsb}
use Rattle.unchecked.specs.declared.SearchRun.{SearchRun}
use Rattle.memory.specs.Standing.{Shows}
use Rattle.unchecked.specs.Retrace.{retrace_shown}
use Rattle.unchecked.specs.Run.{steps_of, RunsToEnd, RunsAfter, Runs}
use Rattle.dijkstra.specs.Calls.{initialize_if, initialize_words, Initializing, retrace_words, Retracing, after_retrace}
use Rattle.dijkstra.proofs.Histories.{retrace-is}
use Rattle.dijkstra.proofs.Initialized as opening
use Rattle.dijkstra.proofs.Retraced as retracing
use Rattle.planner.specs.Solve.{solve_if, solve_words, Solving}
use Rattle.planner.specs.Plan.{plan_if, plan_words, not_opened, to_the_end, Planning, not_planned, CallsPlan}
use Rattle.planner.proofs.Solved.{on-sound}

-- ---- refusal 7 is the opening's

plan-if : (b : Bool) (c : Cache) (ss gs p : List ℕ) → let o = initialize_if b c ss gs in plan_if b c ss gs p ≡ plan_from o.reply o p
plan-if true c ss gs p = refl
plan-if false c ss gs p = refl

-- an opening that is accepted was one on sound words
sound-if : (b : Bool) (c : Cache) (ss gs : List ℕ) → (initialize_if b c ss gs).reply ≡ answered tt → b ≡ true
sound-if true c ss gs e = refl
sound-if false c ss gs e = absurd (answered-refused tt 7 0 (sym e))

module _ (ws ss gs p : List ℕ) where
  abbrev opens : AfterInitialize
  opens = initialize_words ws ss gs

  pub plan-is : {a : Reply (Unit {0})} → opens.reply ≡ a → plan_words ws ss gs p ≡ plan_from a opens p
  plan-is e = plan-if (sound_wordsb ws) (read_cache ws) ss gs p ∙ ap (λ (x : Reply (Unit {0})). plan_from x opens p) e

  -- ---- the opening

  module _ {f : Refusal} {mid : List ℕ} (i : Initializing ws ss gs (Err f) mid) where
    pub refused-is : opens.reply ≡ refused (number f) 0
    refused-is = sym i.answer

    not-planned : Planning ws ss gs p (not_planned f) mid p
    not-planned =
        let is = plan-is refused-is in
        record {
          answer = sym (ap (λ (y : AfterPlan). y.reply) is);
          has-path = sym (ap (λ (y : AfterPlan). y.has_path) is);
          waits = sym (ap (λ (y : AfterPlan). y.waits) is);
          tickets = sym (ap (λ (y : AfterPlan). y.tickets) is);
          search = i.search ∙ sym (ap (λ (y : AfterPlan). y.search) is);
          path = sym (ap (λ (y : AfterPlan). y.path) is);
          cache = i.cache ∙ sym (ap (λ (y : AfterPlan). y.cache) is);
          sound = i.sound;
          called = not_opened f i;
        }

  -- ---- the steps, and the path

  module _ {x : Search} {mid : List ℕ} (i : Initializing ws ss gs (Ok x) mid) where
    pub accepted-is : opens.reply ≡ answered tt
    accepted-is = sym i.answer

    pub accepted-sound : sound_wordsb ws ≡ true
    accepted-sound = sound-if (sound_wordsb ws) (read_cache ws) ss gs accepted-is

    module _ {e : StepsTaken} {left : List ℕ} (s : Solving mid x max_steps e left) where
      abbrev pub end : AfterSteps
      end = solve max_steps opens.cache opens.search

      pub end_is : solve_words mid x max_steps ≡ end
      end_is =
          ap (λ (b : Bool). solve_if b max_steps (read_cache mid) x) (i.sound ∙ accepted-sound)
          ∙ ap₂ (λ (c : Cache) (y : Search). solve max_steps c y) i.cache i.search

      end-cache : read_cache left ≡ end.cache
      end-cache = s.cache ∙ ap (λ (y : AfterSteps). y.cache) end_is

      end-search : e.search ≡ end.search
      end-search = s.search ∙ ap (λ (y : AfterSteps). y.search) end_is

      pub path-is : retrace_words left e.search p ≡ retrace end.cache end.search p
      path-is = retrace-is left (s.sound ∙ i.sound ∙ accepted-sound) e.search p ∙ ap₂ (λ (c : Cache) (y : Search). retrace c y p) end-cache end-search

      pub planned : (t : Result ℕ Refusal) {q : List ℕ} → Retracing left e.search p t q
          → Planning ws ss gs p (record { answer = e.answer; has_path = is_answered (retrace_reply t); waits = e.waits; tickets = e.tickets; search = e.search }) left q
      planned t {q} k =
          let is = plan-is accepted-is in
          let shows : after_retrace t q ≡ retrace end.cache end.search p = k ∙ path-is in
          record {
            answer = s.answer ∙ ap (λ (y : AfterSteps). y.reply) end_is ∙ sym (ap (λ (y : AfterPlan). y.reply) is);
            has-path = ap (λ (y : AfterRetrace). is_answered y.reply) shows ∙ sym (ap (λ (y : AfterPlan). y.has_path) is);
            waits = s.waits ∙ ap (λ (y : AfterSteps). y.waits) end_is ∙ sym (ap (λ (y : AfterPlan). y.waits) is);
            tickets = s.tickets ∙ ap (λ (y : AfterSteps). y.tickets) end_is ∙ sym (ap (λ (y : AfterPlan). y.tickets) is);
            search = end-search ∙ sym (ap (λ (y : AfterPlan). y.search) is);
            path = ap (λ (y : AfterRetrace). y.path) shows ∙ sym (ap (λ (y : AfterPlan). y.path) is);
            cache = end-cache ∙ sym (ap (λ (y : AfterPlan). y.cache) is);
            sound = s.sound ∙ i.sound;
            called = to_the_end x e t i s k;
          }

pub calls-plan : CallsPlan
calls-plan ws ss gs p r left q (not_opened f i) = not-planned ws ss gs p i
calls-plan ws ss gs p r left q (to_the_end x e t i s k) = planned ws ss gs p i s t k

-- ---- the code

pub not_sound : (ws ss gs p : List ℕ) → sound_wordsb ws ≡ false → {r : Planned} → r ≡ not_planned Unsound → Planning ws ss gs p r ws p
not_sound ws ss gs p e {r} is =
    subst (λ (x : Planned). Planning ws ss gs p x ws p) (sym is) (not-planned ws ss gs p (opening.not_sound ws ss gs e))

-- the node of a run can be shown
pub run-shows : {ws ss gs : List ℕ} {r : SearchRun} {left : List ℕ} → Runs ws ss gs r left → Shows left r.shown
run-shows {ws} {ss} {gs} {r} {left} h = go h.opened h.after
  where
    go : (a : Result Search Refusal) → RunsAfter a h.mid r left → Shows left r.shown
    go (Err f) k = subst (λ (y : SearchRun). Shows left y.shown) (sym k.0) tt
    go (Ok s) k = k.shows

module _ (ws ss gs p : List ℕ) (ok : sound_wordsb ws ≡ true) {r : SearchRun} {left : List ℕ} (h : Runs ws ss gs r left)
    (t : Result ℕ Refusal) {q : List ℕ} (k : after_retrace t q ≡ retrace_shown left r.shown p) where
  abbrev Meets : SearchRun → Bool → List ℕ → List ℕ → Type 0
  Meets x b l z = Planning ws ss gs p (record { answer = x.answer; has_path = b; waits = x.waits; tickets = x.tickets; search = x.search }) l z

  opened : {a : Result Search Refusal} → h.opened ≡ a → Initializing ws ss gs a h.mid
  opened e = subst (λ (a : Result Search Refusal). Initializing ws ss gs a h.mid) e (opening.on-sound ws ss gs ok h.opened h.mid h.opens)

  refused-run : (f : Refusal) → h.opened ≡ Err f → RunsAfter (Err f) h.mid r left → Meets r (is_answered (retrace_reply t)) left q
  refused-run f e x =
      let shows : after_retrace t q ≡ record { reply = refused 9 0; path = p } = k ∙ ap (λ (y : SearchRun). retrace_shown left y.shown p) x.0 in
      let m0 : Meets (record { answer = Err f; waits = 0; tickets = 0; shown = None; search = empty_search }) false h.mid p = not-planned ws ss gs p (opened e) in
      let m1 = subst (λ (y : SearchRun). Meets y false h.mid p) (sym x.0) m0 in
      let m2 = subst (λ (b : Bool). Meets r b h.mid p) (sym (ap (λ (y : AfterRetrace). is_answered y.reply) shows)) m1 in
      let m3 = subst (λ (l : List ℕ). Meets r (is_answered (retrace_reply t)) l p) (sym x.1) m2 in
      subst (λ (z : List ℕ). Meets r (is_answered (retrace_reply t)) left z) (sym (ap (λ (y : AfterRetrace). y.path) shows)) m3

  ended-run : (y : Search) → h.opened ≡ Ok y → RunsToEnd h.mid y r left → Meets r (is_answered (retrace_reply t)) left q
  ended-run y e x =
      let i = opened e in
      let sound : sound_wordsb h.mid ≡ true = i.sound ∙ ok in
      let s : Solving h.mid y max_steps (steps_of r) left = on-sound h.mid y sound max_steps (steps_of r) left x.solves in
      planned ws ss gs p i s t (retracing.on-sound left r.search p (s.sound ∙ sound) t q (k ∙ sym (x.retraces p)))

  pub has-run : {b : Bool} → b ≡ is_answered (retrace_reply t) → Meets r b left q
  has-run e = subst (λ (b : Bool). Meets r b left q) (sym e) (go h.opened refl h.after)
    where
      go : (a : Result Search Refusal) → h.opened ≡ a → RunsAfter a h.mid r left → Meets r (is_answered (retrace_reply t)) left q
      go (Err f) e x = refused-run f e x
      go (Ok y) e x = ended-run y e x
