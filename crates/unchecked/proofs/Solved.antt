-- So many steps on sound words meet the promise of `solve` there.
-- Assumes nothing.
use mathlib.Core.Path.{◌≡◌, refl, sym, ap, ap₂, ◌∙◌, subst}
use Rattle.model.specs.declared.SearchStatus.{SearchStatus}
use Rattle.std.specs.declared.result.Result.{Result}
use Rattle.model.specs.declared.Refusal.{Refusal}
use mathlib.Core.Bool.{Bool, true, false}
use mathlib.Core.List.{List}
use Prim.Native.Nat.{ℕ, zero, suc, ◌+◌, ◌-◌, ◌≤◌}
use native.Mathlib.Omega.{arith}
use Rattle.model.specs.declared.Search.{Search}
use Rattle.model.specs.declared.StepsTaken.{StepsTaken}
use Rattle.model.specs.Answers.{Reply, Status, step_reply}
use Rattle.model.specs.Calls.{Cache, step}
use Rattle.model.specs.Solve.{is_waiting, last_reply, AfterSteps, steps_from, solve}
use Rattle.model.proofs.Solve.{is-waiting, steps-none, steps-wait, steps-end, last, solve-some, solve-from, solve-looks}
use Rattle.layout.specs.Read.{read_cache}
use Rattle.sound.specs.Facts.{SoundWords}
use Rattle.unchecked.specs.Step.{Advances}
use Rattle.layout.specs.Leaves.{Leaves, LeavesAfter}
use Rattle.unchecked.specs.Solve.{Solves}
use Rattle.model.specs.Steps.{Waited, StepsMade, all_wait, one_ends}
use Rattle.unchecked.proofs.Advanced.{leaves-same, rests}
use Rattle.unchecked.proofs.Waits.{leaves_all, unmoved, waited-stays}

module _ (ws : List ℕ) (s : Search) (ok : SoundWords ws) where
  abbrev c : Cache
  c = read_cache ws

  -- so many steps, and one more: w waited, and the next one does not
  ends_at : (n : ℕ) {w t : ℕ} {mid : List ℕ} {x : Search} → w ≤ n - 1 → Waited Advances ws s w t mid x → is_waiting (step (read_cache mid) x).reply ≡ false
      → solve n c s ≡ last (read_cache mid) x w t
  ends_at zero {w} {t} {mid} {x} below v e =
      let none : w ≡ 0 = omega arith in
      let same = unmoved v none in
      let first : is_waiting (step c s).reply ≡ false =
      ap₂ (λ (l : List ℕ) (y : Search). is_waiting (step (read_cache l) y).reply) (sym same.words) (sym same.search) ∙ e in
      let one : 1 ≡ w + 1 = omega arith in
      solve-looks c s first ∙ ap (λ (j : ℕ). steps_from j c s 0 0) one ∙ (waited-stays ok v).steps 1 ∙ steps-end (read_cache mid) x w t 0 e
  ends_at (suc n) {w} {t} {mid} {x} below v e =
      let at : suc n ≡ w + suc (n - w) = omega arith in
      solve-some n c s
      ∙ ap (λ (j : ℕ). steps_from j c s 0 0) at
      ∙ (waited-stays ok v).steps (suc (n - w))
      ∙ steps-end (read_cache mid) x w t (n - w) e

  -- by an equation with what the model gives
  solves : {n : ℕ} {r : StepsTaken} {left : List ℕ} → StepsMade Advances (step c s).reply ws s n r left → {y : AfterSteps} → solve n c s ≡ y
      → step_reply r.answer ≡ y.reply → r.waits ≡ y.waits → r.tickets ≡ y.tickets → r.search ≡ y.search → read_cache left ≡ y.cache
      → SoundWords left → LeavesAfter r.waits ws s left → Solves ws s n r left
  solves made e answer waits tickets search cache sound words = record {
    answer = answer ∙ sym (ap (λ (y : AfterSteps). y.reply) e);
    waits = waits ∙ sym (ap (λ (y : AfterSteps). y.waits) e);
    tickets = tickets ∙ sym (ap (λ (y : AfterSteps). y.tickets) e);
    search = search ∙ sym (ap (λ (y : AfterSteps). y.search) e);
    cache = cache ∙ sym (ap (λ (y : AfterSteps). y.cache) e);
    sound = sound;
    words = words;
    made = made;
  }

  pub made-solves : {n : ℕ} {r : StepsTaken} {left : List ℕ} → StepsMade Advances (step c s).reply ws s n r left → Solves ws s n r left
  made-solves {n} (all_wait {t = t} {left = left} {x = x} v z) =
      let h = waited-stays ok v in
      let at : n ≡ n + 0 = omega arith in
      solves (all_wait v z) (solve-from n c s z ∙ ap (λ (j : ℕ). steps_from j c s 0 0) at ∙ h.steps 0 ∙ steps-none (read_cache left) x n t)
      refl refl refl refl refl h.sound h.words
  made-solves {n} (one_ends {w = w} {t = t} {mid = mid} {left = left} {x = x} r a below v p e told) =
      let h = waited-stays ok v in
      let final : is_waiting (step (read_cache mid) x).reply ≡ false = ap is_waiting (sym p.answer) ∙ e in
      let same = leaves_all (step (read_cache mid) x).reply mid x left final p.words in
      solves (one_ends r a below v p e told) (ends_at n below v final) (told ∙ ap (last_reply w) p.answer) refl
      (ap (λ (k : ℕ). t + k) p.tickets) p.search p.cache p.sound (subst (LeavesAfter w ws s) (sym same) h.words)

  -- w steps waited, and the next one answers a, which is told as b
  pub ends-here : {n w t : ℕ} {words : List ℕ} {next : Search} → w ≤ n - 1 → Waited Advances ws s w t words next
      → (a : Result SearchStatus Refusal) → step_reply a ≡ (step (read_cache words) next).reply → is_waiting (step_reply a) ≡ false → {b : Result SearchStatus Refusal} → step_reply b ≡ last_reply w (step_reply a)
      → Solves ws s n (record { answer = b; waits = w; tickets = t; search = next }) words
  ends-here {n} {w} {t} {words} {next} within v a stands e {b} told =
      let none : t + 0 ≡ t = omega arith in
      subst (λ (k : ℕ). Solves ws s n (record { answer = b; waits = w; tickets = k; search = next }) words) none
      (made-solves (one_ends (record { answer = a; tickets = 0; search = next }) b within v (rests words next (waited-stays ok v).sound a stands e) e told))

  -- ---- one step, which tells what it answers

  pub one-advances : {r : StepsTaken} {left : List ℕ} → Solves ws s 1 r left
      → Advances ws s (record { answer = r.answer; tickets = r.tickets; search = r.search }) left
  one-advances {r} {left} h = go (is_waiting (step c s).reply) refl
    where
      leaves : {w : ℕ} → (solve 1 c s).waits ≡ w → LeavesAfter w ws s left
      leaves e = subst (λ (w : ℕ). LeavesAfter w ws s left) (h.waits ∙ e) h.words

      go : (b : Bool) → is_waiting (step c s).reply ≡ b → Advances ws s (record { answer = r.answer; tickets = r.tickets; search = r.search }) left
      go true e =
          let told = is-waiting (step c s).reply e in
          let is = solve-some 0 c s ∙ steps-wait c s 0 0 0 e ∙ steps-none (step c s).cache (step c s).search 1 (0 + (step c s).tickets) in
          record {
            answer = h.answer ∙ ap (λ (y : AfterSteps). y.reply) is ∙ sym told;
            tickets = omega (arith, h.tickets, ap (λ (y : AfterSteps). y.tickets) is);
            search = h.search ∙ ap (λ (y : AfterSteps). y.search) is;
            cache = h.cache ∙ ap (λ (y : AfterSteps). y.cache) is;
            sound = h.sound;
            words = subst (λ (y : Reply Status). Leaves y ws s left) (sym told) (leaves (ap (λ (y : AfterSteps). y.waits) is));
          }
      go false e =
          let is = solve-some 0 c s ∙ steps-end c s 0 0 0 e in
          let same : left ≡ ws = leaves (ap (λ (y : AfterSteps). y.waits) is) in
          record {
            answer = h.answer ∙ ap (λ (y : AfterSteps). y.reply) is;
            tickets = omega (arith, h.tickets, ap (λ (y : AfterSteps). y.tickets) is);
            search = h.search ∙ ap (λ (y : AfterSteps). y.search) is;
            cache = h.cache ∙ ap (λ (y : AfterSteps). y.cache) is;
            sound = h.sound;
            words = subst (Leaves (step c s).reply ws s) (sym same) (leaves-same (step c s).reply ws s);
          }
