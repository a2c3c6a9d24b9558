-- `solve` is refused where the words are not sound, and on sound words what it promises there; and so many calls of `step` meet its promise.
-- Assumes nothing.
use mathlib.Core.Path.{◌≡◌, refl, sym, ap, ap₂, ◌∙◌, subst}
use Rattle.std.specs.Prelude.{Err}
use mathlib.Core.Bool.{Bool, true, false, true≢false}
use mathlib.Core.List.{List}
use Prim.Native.Nat.{ℕ}
use native.Mathlib.Omega.{arith}
use Rattle.model.specs.declared.Refusal.TheVariants.{Unsound}
use Rattle.model.specs.declared.Search.{Search}
use Rattle.model.specs.declared.Stepped.{Stepped}
use Rattle.model.specs.declared.StepsTaken.{StepsTaken}
use Rattle.model.specs.Answers.{Reply, Status, refused, step_reply}
use Rattle.model.specs.Calls.{AfterStep, step}
use Rattle.model.specs.Solve.{is_waiting, last_reply, AfterSteps, solve}
use Rattle.layout.specs.Read.{read_cache}
use Rattle.layout.specs.Sound.{sound_wordsb}
use Rattle.sound.proofs.Facts.{sound-words-at, at-sound-words}
use Rattle.unchecked.specs.Step.{Advances, not_stepped}
use Rattle.unchecked.specs.Solve.{Solves}
use Rattle.model.specs.Steps.{StepPromise, at_first, StepsMade, all_wait, one_ends}
use Rattle.layout.specs.Leaves.{LeavesAfter}
use Rattle.unchecked.proofs.Waits.{unmoved, waited-as}
use Rattle.unchecked.proofs.Solved.{made-solves}
use Rattle.dijkstra.specs.Calls.{step_words, Stepping}
use Rattle.dijkstra.proofs.Stepped.{on-sound as step-on-sound, as-sound as step-as-sound, not_sound as step-not-sound}
use Rattle.dijkstra.proofs.Histories.{step_is}
use Rattle.planner.specs.Solve.{solve_if, solve_words, StepsCalled, Solving, StepsSolve}
use Rattle.planner.proofs.Waits.{rested, unsound-is, unsound-none}

-- ---- sound words: a step by either promise is one by the other

abbrev Sound : List ℕ → Type 0
Sound ws = sound_wordsb ws ≡ true

as_called : (ws : List ℕ) (s : Search) (r : Stepped) (left : List ℕ) → Sound ws → Advances ws s r left → Stepping ws s r left × Sound left
as_called ws s r left ok a = (step-on-sound ws s ok r left a, at-sound-words left a.sound)

as-advanced : (ws : List ℕ) (s : Search) (r : Stepped) (left : List ℕ) → Sound ws → Stepping ws s r left → Advances ws s r left × Sound left
as-advanced ws s r left ok p = (step-as-sound ws s ok r left p, p.sound ∙ ok)

made_as : {P Q : StepPromise} → ((ws : List ℕ) (s : Search) (r : Stepped) (left : List ℕ) → Sound ws → P ws s r left → Q ws s r left × Sound left)
    → {a b : Reply Status} → a ≡ b → {ws : List ℕ} {s : Search} {n : ℕ} {r : StepsTaken} {left : List ℕ} → Sound ws
    → StepsMade P a ws s n r left → StepsMade Q b ws s n r left
made_as kept e ok (all_wait v z) = all_wait (waited-as kept ok v).0 (λ none. ap is_waiting (sym e) ∙ z none)
made_as kept e ok (one_ends {mid = mid} {left = left} {x = x} r a below v p w told) =
    let h = waited-as kept ok v in
    one_ends r a below h.0 (kept mid x r left h.1 p).0 w told

module _ (ws : List ℕ) (s : Search) (ok : Sound ws) where
  first-is : (step_words ws s).reply ≡ (step (read_cache ws) s).reply
  first-is = ap (λ (x : AfterStep). x.reply) (step_is ws ok s)

  module _ (n : ℕ) (r : StepsTaken) (left : List ℕ) where
    pub on-sound : Solves ws s n r left → Solving ws s n r left
    on-sound h =
        let is : solve_words ws s n ≡ solve n (read_cache ws) s = ap (λ (b : Bool). solve_if b n (read_cache ws) s) ok in
        let counted : r.waits ≡ (solve_words ws s n).waits = h.waits ∙ sym (ap (λ (y : AfterSteps). y.waits) is) in
        record {
          answer = h.answer ∙ sym (ap (λ (y : AfterSteps). y.reply) is);
          waits = counted;
          tickets = h.tickets ∙ sym (ap (λ (y : AfterSteps). y.tickets) is);
          search = h.search ∙ sym (ap (λ (y : AfterSteps). y.search) is);
          cache = h.cache ∙ sym (ap (λ (y : AfterSteps). y.cache) is);
          sound = at-sound-words left h.sound ∙ sym ok;
          words = subst (λ (k : ℕ). LeavesAfter k ws s left) counted h.words;
          called = made_as as_called (sym first-is) ok h.made;
        }

    called-solves : StepsCalled ws s n r left → Solving ws s n r left
    called-solves called = on-sound (made-solves ws s (sound-words-at ws ok) (made_as as-advanced first-is ok called))

-- ---- other words

module _ {ws : List ℕ} {s : Search} {n : ℕ} (unsound : sound_wordsb ws ≡ false) where
  -- nothing was done
  unsolved : {r : StepsTaken} {left : List ℕ} → StepsCalled ws s n r left → step_reply r.answer ≡ refused 7 0 → r.waits ≡ 0 → r.tickets ≡ 0
      → r.search ≡ s → left ≡ ws → Solving ws s n r left
  unsolved {r} {left} called answer waits tickets search same =
      let is = ap (λ (b : Bool). solve_if b n (read_cache ws) s) unsound in
      record {
        answer = answer ∙ sym (ap (λ (y : AfterSteps). y.reply) is);
        waits = waits ∙ sym (ap (λ (y : AfterSteps). y.waits) is);
        tickets = tickets ∙ sym (ap (λ (y : AfterSteps). y.tickets) is);
        search = search ∙ sym (ap (λ (y : AfterSteps). y.search) is);
        cache = ap read_cache same ∙ sym (ap (λ (y : AfterSteps). y.cache) is);
        sound = ap sound_wordsb same;
        words = subst (λ (k : ℕ). LeavesAfter k ws s left) (sym (ap (λ (y : AfterSteps). y.waits) is)) same;
        called = called;
      }

  pub not_sound : Solving ws s n (record { answer = Err Unsound; waits = 0; tickets = 0; search = s }) ws
  not_sound =
      unsolved (one_ends (not_stepped s Unsound) (Err Unsound) (omega arith) at_first (step-not-sound ws s unsound) refl refl) refl refl refl refl refl

  refused-solves : {r : StepsTaken} {left : List ℕ} → StepsCalled ws s n r left → Solving ws s n r left
  refused-solves (all_wait v z) =
      absurd (true≢false (sym (z (unsound-none ws s unsound v)) ∙ ap (λ (y : AfterStep). is_waiting y.reply) (unsound-is ws s unsound)))
  refused-solves (one_ends {w = w} {t = t} {mid = mid} {left = left} {x = x} r a below v p e told) =
      let none : w ≡ 0 = unsound-none ws s unsound v in
      let h = unmoved v none in
      let k = rested mid x r left p e in
      let is : (step_words mid x).reply ≡ refused 7 0 =
      ap (λ (y : AfterStep). y.reply) (ap₂ (λ (l : List ℕ) (y : Search). step_words l y) h.words h.search ∙ unsound-is ws s unsound) in
      unsolved (one_ends r a below v p e told) (told ∙ ap (λ (j : ℕ). last_reply j (step_reply r.answer)) none ∙ p.answer ∙ is)
      none (omega (arith, h.tickets, k.tickets)) (k.search ∙ h.search) (k.words ∙ h.words)

pub steps-solve : StepsSolve
steps-solve ws s n r left called = go (sound_wordsb ws) refl
  where
    go : (b : Bool) → sound_wordsb ws ≡ b → Solving ws s n r left
    go true ok = called-solves ws s ok n r left called
    go false unsound = refused-solves unsound called
