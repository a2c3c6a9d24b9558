-- A search that is stepped to its end after any calls: its line is right.
-- Assumes nothing.
use mathlib.Core.Path.{◌≡◌, refl, sym, ap, ◌∙◌, subst}
use mathlib.Core.Bool.{Bool, true, false, true≢false}
use mathlib.Core.List.{List, [], ◌∷◌, ◌++◌}
use Prim.Native.Nat.{ℕ, zero, suc, ◌+◌, ◌*◌, ◌<◌, ◌≤◌}
use native.Mathlib.Omega.{arith}
use borrow.Author.Tests.{le-ltb}
use lib.ListN.{length, take, drop, replicate, length-replicate}
use lib.Seq.{take-append_seam}
use Rattle.model.specs.declared.Search.{Search}
use Rattle.model.specs.Answers.{Reply, answered, refused, Status, waiting, solved, no_path}
use Rattle.model.specs.Graph.{Graph, Accepted, Direction, path_words}
use Rattle.model.specs.Calls.{Cache, SoundCache, AfterStep, step, AfterRetrace, retrace, written}
use Rattle.model.specs.Demands.{Act, own_step, own_retrace, Event, stepped, retraced, events, wait_limit, Outcome, unreachable, reached, Right, status_of, shown_if, shown_of, Early, Late, Every, steps, Owed}
use Rattle.model.specs.Solve.{is_waiting, last_reply, AfterSteps, steps_from}
use Rattle.model.proofs.Replies.{answered-refused}
use Rattle.model.proofs.Solve.{is-waiting, steps-cases}
use Rattle.model.proofs.Keeps.{kept-sound, accepted-kept, step_keeps}
use Rattle.order_lines.specs.Answers.{answer_line}
use Rattle.order_run.specs.Orders.{line_for, shown_text, driven_text, text_of, RightLine}
use Rattle.order_run.proofs.Bounds.{moves-few}

-- ---- the words of a path

path-length : (g : Graph) (a : ℕ) (ls : List ℕ) → length (path_words g a ls) ≡ 1 + 2 * length ls
path-length g a [] = refl
path-length g a (l ∷ ls) = omega (arith, path-length g a ls)

-- those of a path that was written first
path-taken : (g : Graph) (a : ℕ) (ls p : List ℕ) → take (1 + 2 * length ls) (written (path_words g a ls) p) ≡ path_words g a ls
path-taken g a ls p =
    let ws : List ℕ = path_words g a ls in
    subst (λ (n : ℕ). take n (written ws p) ≡ ws) (path-length g a ls) (take-append_seam ws (drop (length ws) p))

-- ---- the events of a search's own calls

never-waits : (o : Outcome) → ◌≡◌ {A = Reply Status} (answered waiting) (answered (status_of o)) → ⊥
never-waits unreachable e = let x : ◌≡◌ {A = ℕ} 0 1 = cc in omega arith
never-waits (reached k a ls) e = let x : ◌≡◌ {A = ℕ} 0 1 = cc in omega arith

module _ (dir : Direction) (g : Graph) (ss gs : List ℕ) where
  -- what is owed of the events after w waits
  pub record Rest (w : ℕ) (es : List Event) : Type 0 where
    pub owed : Owed dir g ss gs es
    pub few : steps owed.first + w ≤ wait_limit dir g ss gs

  -- an event that is not early, and those after it
  record Ended (w : ℕ) (e : Event) (es : List Event) : Type 0 where
    outcome : Outcome
    few : w ≤ wait_limit dir g ss gs
    right : Right dir g ss gs outcome
    now : Late g outcome e
    late : Every (Late g outcome) es

  after-wait : (w : ℕ) (es : List Event) → Rest w (stepped (answered waiting) ∷ es) → Rest (w + 1) es
  after-wait w es r = go r.owed.first r.owed.last r.owed.split r.owed.early r.few r.owed.late r.owed.right
    where
      o : Outcome
      o = r.owed.outcome

      go : (first last : List Event) → stepped (answered waiting) ∷ es ≡ first ++ last → Every Early first → steps first + w ≤ wait_limit dir g ss gs
          → Every (Late g o) last → (0 < length last → Right dir g ss gs o) → Rest (w + 1) es
      go [] [] e early few late right = absurd (let x : ◌≡◌ {A = ℕ} 0 1 = cc in omega arith)
      go [] (x ∷ last) e early few late right =
          let z : stepped (answered waiting) ≡ x = cc in
          absurd (never-waits o (subst (Late g o) (sym z) late.0))
      go (x ∷ first) last e early few late right =
          let z : stepped (answered waiting) ≡ x = cc in
          let less : suc (steps first) + w ≤ wait_limit dir g ss gs = subst (λ (y : Event). steps (y ∷ first) + w ≤ wait_limit dir g ss gs) (sym z) few in
          record {
            owed = record { first = first; last = last; outcome = o; split = cc; early = early.1; few = omega arith; late = late; right = right };
            few = omega arith;
          }

  ended : (w : ℕ) (e : Event) (es : List Event) → (Early e → ⊥) → Rest w (e ∷ es) → Ended w e es
  ended w e es not-early r = go r.owed.first r.owed.last r.owed.split r.owed.early r.few r.owed.late r.owed.right
    where
      o : Outcome
      o = r.owed.outcome

      go : (first last : List Event) → e ∷ es ≡ first ++ last → Every Early first → steps first + w ≤ wait_limit dir g ss gs
          → Every (Late g o) last → (0 < length last → Right dir g ss gs o) → Ended w e es
      go (x ∷ first) last s early few late right = let z : x ≡ e = cc in absurd (not-early (subst Early z early.0))
      go [] [] s early few late right = absurd (let x : ◌≡◌ {A = ℕ} 0 1 = cc in omega arith)
      go [] (x ∷ last) s early few late right =
          let z : x ≡ e = cc in
          let zs : last ≡ es = cc in
          record { outcome = o; few = omega arith; right = right (omega arith); now = subst (Late g o) z late.0; late = subst (Every (Late g o)) zs late.1 }

  -- ---- an order that is stepped to its end

  module _ (i : ℕ) where
    abbrev pub Line : List ℕ → Type 0
    Line = RightLine dir g ss gs i

    -- a step that answered solved, and the retrace after it
    solved-line : (w t k m : ℕ) (c : Cache) (s : Search) (p : List ℕ) (r : AfterRetrace) → 1 + 2 * m ≤ length p
        → Ended w (stepped (answered (solved k m))) (retraced p r ∷ [])
        → Line (shown_text i (record { cache = c; search = s; reply = answered (solved k m); waits = w; tickets = t }) r.reply r.path)
    solved-line w t k m c s p r fits x = go x.outcome x.right x.now x.late.0
      where
        d : AfterSteps
        d = record { cache = c; search = s; reply = answered (solved k m); waits = w; tickets = t }

        shown : (a : ℕ) (ls : List ℕ) (b : Bool) → b ≡ false → r ≡ shown_if b g a ls p → shown_text i d r.reply r.path ≡ answer_line (line_for i d) (path_words g a ls)
        shown a ls true z e = absurd (let y : ◌≡◌ {A = ℕ} 0 1 = cc in omega arith)
        shown a ls false z e = ap (λ (y : AfterRetrace). shown_text i d y.reply y.path) e ∙ ap (answer_line (line_for i d)) (path-taken g a ls p)

        go : (o : Outcome) → Right dir g ss gs o → ◌≡◌ {A = Reply Status} (answered (solved k m)) (answered (status_of o)) → r ≡ shown_of g o p → Line (shown_text i d r.reply r.path)
        go unreachable y e z = absurd (let n : ◌≡◌ {A = ℕ} 0 1 = cc in omega arith)
        go (reached l a ls) y e z =
            let total : k ≡ l = cc in
            let moves : m ≡ length ls = cc in
            record {
              waits = w;
              tickets = t;
              outcome = reached l a ls;
              few = x.few;
              right = y;
              line = shown a ls _ (le-ltb (length p) (1 + 2 * length ls) (omega arith)) z ∙ ap (λ (n : ℕ). text_of g i w t (reached n a ls)) total;
            }

    none-line : (w t : ℕ) (es : List Event) → Ended w (stepped (answered no_path)) es → Line (text_of g i w t unreachable)
    none-line w t es x = go x.outcome x.right x.now
      where
        go : (o : Outcome) → Right dir g ss gs o → ◌≡◌ {A = Reply Status} (answered no_path) (answered (status_of o)) → Line (text_of g i w t unreachable)
        go unreachable y e = record { waits = w; tickets = t; outcome = unreachable; few = x.few; right = y; line = refl }
        go (reached k a ls) y e = absurd (let n : ◌≡◌ {A = ℕ} 0 1 = cc in omega arith)

    -- n steps are enough for the waits that are left
    pub line-from : (n : ℕ) (c : Cache) (s : Search) (w t : ℕ) → Accepted c.domain.graph → SoundCache c → ((acts : List Act) → Rest w (events c s acts))
        → wait_limit dir g ss gs < n + w → Line (driven_text i (steps_from n c s w t))
    unfolding events
    line-from zero c s w t acc ok rest more = absurd (omega (arith, (rest []).few))
    line-from (suc n) c s w t acc ok rest more =
        let kept = step_keeps c acc ok s in
        let u : ℕ = t + (step c s).tickets in
        let ih = line-from n (step c s).cache (step c s).search (w + 1) u (accepted-kept c (step c s).cache kept acc) (kept-sound c (step c s).cache kept) in
        steps-cases (λ d. Line (driven_text i d)) c s w t n (λ e. ih (λ acts. after-wait w _ (next _ (is-waiting r.reply e) acts)) (omega arith))
        (λ e. go r.reply refl e)
      where
        r : AfterStep
        r = step c s

        p : List ℕ
        p = replicate 2047 0

        next : (x : Reply Status) → r.reply ≡ x → (acts : List Act) → Rest w (stepped x ∷ events r.cache r.search acts)
        next x e acts = subst (λ (y : Reply Status). Rest w (stepped y ∷ events r.cache r.search acts)) e (rest (own_step ∷ acts))

        end : Reply Status → AfterSteps
        end x = record { cache = r.cache; search = r.search; reply = last_reply w x; waits = w; tickets = t + r.tickets }

        -- an answer is told after any number of waits
        told : (x : Status) → r.reply ≡ answered x
            → Line (driven_text i (record { cache = r.cache; search = r.search; reply = answered x; waits = w; tickets = t + r.tickets })) → Line (driven_text i (end r.reply))
        told x e l = subst (λ (y : Reply Status). Line (driven_text i (end y))) (sym e) (by w)
          where
            by : (k : ℕ) → Line (driven_text i (record { cache = r.cache; search = r.search; reply = last_reply k (answered x); waits = w; tickets = t + r.tickets }))
            by zero = l
            by (suc k) = l

        go : (x : Reply Status) → r.reply ≡ x → is_waiting x ≡ false → Line (driven_text i (end r.reply))
        go (answered waiting) e z = absurd (true≢false z)
        go (answered (solved k m)) e z =
            let few : m < 1024 = omega (arith, moves-few c s ok.trees k m e, acc.vertices) in
            let x = ended w _ _ (λ z. let y : ◌≡◌ {A = ℕ} 0 1 = cc in omega arith) (next _ e (own_retrace p ∷ [])) in
            told _ e (solved-line w (t + r.tickets) k m r.cache r.search p (retrace r.cache r.search p) (omega (arith, length-replicate {A = ℕ} 2047 0)) x)
        go (answered no_path) e z = told _ e (none-line w (t + r.tickets) [] (ended w _ _ (λ z. let y : ◌≡◌ {A = ℕ} 0 1 = cc in omega arith) (next _ e [])))
        go (refused k l) e z =
            let x = ended w (stepped (refused k l)) [] (λ z. answered-refused waiting k l (sym z)) (next _ e []) in
            absurd (answered-refused _ k l (sym x.now))
