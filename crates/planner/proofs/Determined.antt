-- What two calls of `solve` from the same words and record leave is the same, but for the arrangement of the queue words of the entries' trees.
-- Assumes nothing.
use mathlib.Core.Path.{◌≡◌, refl, sym, ap, ◌∙◌}
use mathlib.Core.Bool.{Bool, true, false}
use mathlib.Core.List.{List}
use Prim.Native.Nat.{ℕ, zero, suc}
use native.Mathlib.Omega.{arith}
use lib.ListN.{length, get_or}
use Rattle.model.specs.declared.Search.{Search}
use Rattle.model.specs.Answers.{answered, waiting}
use Rattle.model.specs.Calls.{Cache, AfterStep, step}
use Rattle.model.specs.Solve.{is_waiting, AfterSteps, solve}
use Rattle.model.proofs.Replies.{step-told}
use Rattle.model.proofs.Solve.{is-waiting, steps-end, solve-none, solve-some}
use Rattle.layout.specs.Read.{read_cache}
use Rattle.layout.specs.Sound.{sound_wordsb}
use Rattle.dijkstra.specs.Demands.{QueueWord}
use Rattle.dijkstra.proofs.Histories.{step_is}
use Rattle.dijkstra.proofs.Determined.{same_word, apart-word, entries-in-use}
use Rattle.model.specs.declared.StepsTaken.{StepsTaken}
use Rattle.layout.specs.Leaves.{LeavesAfter}
use Rattle.planner.specs.Solve.{solve_if, solve_words, Determined}

-- ---- some step waited: so did the first, on sound words

first-waits : (n : ℕ) (c : Cache) (s : Search) (k : ℕ) → (solve n c s).waits ≡ suc k → (step c s).reply ≡ answered waiting
first-waits zero c s k e = absurd (omega (arith, e, ap (λ (y : AfterSteps). y.waits) (solve-none c s)))
first-waits (suc n) c s k e = go (is_waiting (step c s).reply) refl
  where
    go : (b : Bool) → is_waiting (step c s).reply ≡ b → (step c s).reply ≡ answered waiting
    go true w = is-waiting (step c s).reply w
    go false w = absurd (omega (arith, e, ap (λ (y : AfterSteps). y.waits) (solve-some n c s ∙ steps-end c s 0 0 n w)))

sound-if : (b : Bool) (n : ℕ) (c : Cache) (s : Search) (k : ℕ) → (solve_if b n c s).waits ≡ suc k → b ≡ true
sound-if true n c s k e = refl
sound-if false n c s k e = absurd (omega arith)

module _ (ws : List ℕ) (s : Search) where
  leaves-length : (w : ℕ) (left : List ℕ) → LeavesAfter w ws s left → length left ≡ length ws
  leaves-length zero left h = ap length h
  leaves-length (suc w) left h = h.len

  leaves_word : (n : ℕ) (left left' : List ℕ) → read_cache left ≡ read_cache left' → sound_wordsb left ≡ sound_wordsb ws → sound_wordsb left' ≡ sound_wordsb ws
      → (w : ℕ) → (solve_words ws s n).waits ≡ w → LeavesAfter w ws s left → LeavesAfter w ws s left'
      → (j : ℕ) → (QueueWord ws s left j → ⊥) → get_or left j 0 ≡ get_or left' j 0
  leaves_word n left left' cache y z zero e a b = same_word ws s left left' cache a b
  leaves_word n left left' cache y z (suc w) e a b =
      let ok = sound-if (sound_wordsb ws) n (read_cache ws) s w e in
      let steps = ap (λ (q : Bool). (solve_if q n (read_cache ws) s).waits) (sym ok) ∙ e in
      let first = ap (λ (x : AfterStep). x.reply) (step_is ws ok s) ∙ first-waits n (read_cache ws) s w steps in
      apart-word ws s left left' a b cache (y ∙ ok) (z ∙ ok) (entries-in-use ws s first)

-- ---- the whole

taken_is : (r r' : StepsTaken) → r.answer ≡ r'.answer → r.waits ≡ r'.waits → r.tickets ≡ r'.tickets → r.search ≡ r'.search → r ≡ r'
taken_is r r' a w t s i = record { answer = a i; waits = w i; tickets = t i; search = s i }

pub determined : Determined
determined ws s n r r' left left' p q =
    let waits : ℕ = (solve_words ws s n).waits in
    let cache : read_cache left ≡ read_cache left' = p.cache ∙ sym q.cache in (
      taken_is r r' (step-told _ _ (p.answer ∙ sym q.answer)) (p.waits ∙ sym q.waits) (p.tickets ∙ sym q.tickets) (p.search ∙ sym q.search),
      record {
        len = leaves-length ws s waits left p.words ∙ sym (leaves-length ws s waits left' q.words);
        word = leaves_word ws s n left left' cache p.sound q.sound waits refl p.words q.words;
        cache = cache;
      },
    )
