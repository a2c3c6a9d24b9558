-- Many steps: the definition unfolded once, what a step that does not wait leaves, and what is told of it.
-- Assumes nothing.
use mathlib.Core.Path.{◌≡◌, refl, sym, ap, ◌∙◌, subst}
use Rattle.std.specs.declared.option.Option.{Option}
use Rattle.std.specs.Prelude.{None, Some}
use mathlib.Core.Logic.{◌⊎◌, inl, inr}
use mathlib.Core.Bool.{Bool, true, false, true≢false}
use Prim.Native.Nat.{ℕ, zero, suc, ◌+◌, ◌<◌}
use native.Mathlib.Omega.{arith}
use Rattle.model.specs.declared.Search.{Search}
use Rattle.model.specs.Answers.{Reply, answered, refused, Status, waiting, solved, no_path}
use Rattle.model.specs.Calls.{Cache, first_fault, step_faults, AfterStep, step_if, step_by, step}
use Rattle.model.specs.Solve.{is_waiting, AfterSteps, last_reply, steps_from, solve}
use Rattle.model.proofs.Replies.{answered-refused}

pub is-waiting : (r : Reply Status) → is_waiting r ≡ true → r ≡ answered waiting
is-waiting (answered waiting) e = refl
is-waiting (answered (solved k m)) e = absurd (true≢false (sym e))
is-waiting (answered no_path) e = absurd (true≢false (sym e))
is-waiting (refused n line) e = absurd (true≢false (sym e))

-- ---- the definition, unfolded once

module _ (c : Cache) (s : Search) (w t : ℕ) where
  pub steps-none : steps_from 0 c s w t ≡ record { cache = c; search = s; reply = answered waiting; waits = w; tickets = t }
  unfolding steps_from
  steps-none = refl

  abbrev pub more : ℕ → AfterSteps
  more n = let r = step c s in steps_from n r.cache r.search (w + 1) (t + r.tickets)

  abbrev pub last : AfterSteps
  last = let r = step c s in record { cache = r.cache; search = r.search; reply = last_reply w r.reply; waits = w; tickets = t + r.tickets }

  abbrev after : Bool → ℕ → AfterSteps
  after b n = elim b [ true ↦ more n | false ↦ last ]

  steps-more : (n : ℕ) → steps_from (suc n) c s w t ≡ after (is_waiting (step c s).reply) n
  unfolding steps_from
  steps-more n = refl

  pub steps-wait : (n : ℕ) → is_waiting (step c s).reply ≡ true → steps_from (suc n) c s w t ≡ more n
  steps-wait n e = steps-more n ∙ ap (λ (b : Bool). after b n) e

  pub steps-end : (n : ℕ) → is_waiting (step c s).reply ≡ false → steps_from (suc n) c s w t ≡ last
  steps-end n e = steps-more n ∙ ap (λ (b : Bool). after b n) e

-- a step that waits, and the rest; or the last
pub steps-cases : (P : AfterSteps → Type 0) (c : Cache) (s : Search) (w t n : ℕ) → (is_waiting (step c s).reply ≡ true → P (more c s w t n))
    → (is_waiting (step c s).reply ≡ false → P (last c s w t)) → P (steps_from (suc n) c s w t)
steps-cases P c s w t n waits ends = go (is_waiting (step c s).reply) refl
  where
    go : (b : Bool) → is_waiting (step c s).reply ≡ b → P (steps_from (suc n) c s w t)
    go true e = subst P (sym (steps-wait c s w t n e)) (waits e)
    go false e = subst P (sym (steps-end c s w t n e)) (ends e)

pub solve-none : (c : Cache) (s : Search) → solve 0 c s ≡ record { cache = c; search = s; reply = (step c s).reply; waits = 0; tickets = 0 }
unfolding solve
solve-none c s = refl

pub solve-some : (n : ℕ) (c : Cache) (s : Search) → solve (suc n) c s ≡ steps_from (suc n) c s 0 0
unfolding solve
solve-some n c s = refl

-- ---- "A finished search repeats its answer and takes 0", and a refused one stays as given

pub record Rests (c : Cache) (s : Search) (r : AfterStep) : Type 0 where
  pub cache : r.cache ≡ c
  pub search : r.search ≡ s
  pub tickets : r.tickets ≡ 0

pub step-rests : (c : Cache) (s : Search) → is_waiting (step c s).reply ≡ false → Rests c s (step c s)
unfolding step
step-rests c s = go (first_fault (step_faults c s))
  where
    by-mark : (x : Bool) → is_waiting (step_if x c s).reply ≡ false → Rests c s (step_if x c s)
    by-mark true e = record { cache = refl; search = refl; tickets = refl }
    by-mark false e = absurd (true≢false e)

    go : (o : Option ℕ) → is_waiting (step_by o c s).reply ≡ false → Rests c s (step_by o c s)
    go (Some n) e = record { cache = refl; search = refl; tickets = refl }
    go None e = by-mark s.exhausted e

-- ---- no steps

-- where the first step waits, or there is one, the steps are those from the record given
pub solve-from : (n : ℕ) (c : Cache) (s : Search) → (n ≡ 0 → is_waiting (step c s).reply ≡ true) → solve n c s ≡ steps_from n c s 0 0
solve-from zero c s z =
    let told : (step c s).reply ≡ answered waiting = is-waiting (step c s).reply (z refl) in
    solve-none c s ∙ ap (λ (y : Reply Status). record { cache = c; search = s; reply = y; waits = 0; tickets = 0 }) told ∙ sym (steps-none c s 0 0)
solve-from (suc n) c s z = solve-some n c s

-- with no steps, one that does not wait tells as much
pub solve-looks : (c : Cache) (s : Search) → is_waiting (step c s).reply ≡ false → solve 0 c s ≡ steps_from 1 c s 0 0
solve-looks c s e =
    let k = step-rests c s e in
    let None : 0 ≡ 0 + (step c s).tickets = omega (arith, k.tickets) in
    let reply : Reply Status = (step c s).reply in
    let same : record { cache = c; search = s; reply = reply; waits = 0; tickets = 0 } ≡ last c s 0 0 =
    λ i. record { cache = sym k.cache i; search = sym k.search i; reply = reply; waits = 0; tickets = None i } in
    solve-none c s ∙ same ∙ sym (steps-end c s 0 0 0 e)

-- ---- what is told of the step that ends so many, by its reply

pub told-answered : (w : ℕ) (x : Status) → last_reply w (answered x) ≡ answered x
told-answered zero x = refl
told-answered (suc w) x = refl

pub told-refused : (w n line : ℕ) → (w ≡ 0 → ⊥) → last_reply w (refused n line) ≡ answered waiting
told-refused zero n line later = absurd (later refl)
told-refused (suc w) n line later = refl

-- ---- the same, by what is told

-- the step's own reply; or it is refused after one that waited
pub last-cases : (w : ℕ) (r : Reply Status) → (last_reply w r ≡ r) ⊎ ((0 < w) × (last_reply w r ≡ answered waiting))
last-cases zero r = inl refl
last-cases (suc w) (answered x) = inl refl
last-cases (suc w) (refused n line) = inr (omega arith, refl)

-- a refusal is told of the first step alone
pub refused-first : (w : ℕ) (r : Reply Status) (n line : ℕ) → last_reply w r ≡ refused n line → (w ≡ 0) × (r ≡ refused n line)
refused-first zero r n line e = (refl, e)
refused-first (suc w) (answered x) n line e = absurd (answered-refused x n line e)
refused-first (suc w) (refused m l) n line e = absurd (answered-refused waiting n line e)
