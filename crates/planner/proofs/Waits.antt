-- A step that does not wait leaves words and record; and on words that are not sound none waits.
-- Assumes nothing.
use mathlib.Core.Path.{◌≡◌, refl, sym, ap, ap₂, ◌∙◌}
use mathlib.Core.Bool.{Bool, true, false, true≢false}
use mathlib.Core.List.{List}
use Prim.Native.Nat.{ℕ}
use Rattle.model.specs.declared.Search.{Search}
use Rattle.model.specs.declared.Stepped.{Stepped}
use Rattle.model.specs.Answers.{refused, step_reply}
use Rattle.model.specs.Calls.{Cache, AfterStep}
use Rattle.model.specs.Solve.{is_waiting}
use Rattle.model.proofs.Solve.{Rests, step-rests}
use Rattle.layout.specs.Read.{read_cache}
use Rattle.layout.specs.Sound.{sound_wordsb}
use Rattle.model.specs.Steps.{Waited, at_first, once_more}
use Rattle.unchecked.proofs.Waits.{leaves_all, unmoved}
use Rattle.dijkstra.specs.Calls.{step_sound_if, step_words, Stepping}

pub record Rested (ws : List ℕ) (s : Search) (r : Stepped) (left : List ℕ) : Type 0 where
  pub words : left ≡ ws
  pub search : r.search ≡ s
  pub tickets : r.tickets ≡ 0

pub rested : (ws : List ℕ) (s : Search) (r : Stepped) (left : List ℕ) → Stepping ws s r left → is_waiting (step_reply r.answer) ≡ false → Rested ws s r left
rested ws s r left p w =
    let k = sound-if (sound_wordsb ws) (ap is_waiting (sym p.answer) ∙ w) in
    record {
      words = leaves_all (step_words ws s).reply ws s left (ap is_waiting (sym p.answer) ∙ w) p.words;
      search = p.search ∙ k.search;
      tickets = p.tickets ∙ k.tickets;
    }
  where
    c : Cache
    c = read_cache ws

    sound-if : (b : Bool) → is_waiting (step_sound_if b c s).reply ≡ false → Rests c s (step_sound_if b c s)
    sound-if true e = step-rests c s e
    sound-if false e = record { cache = refl; search = refl; tickets = refl }

module _ (ws : List ℕ) (s : Search) (unsound : sound_wordsb ws ≡ false) where
  pub unsound-is : step_words ws s ≡ record { cache = read_cache ws; search = s; reply = refused 7 0; tickets = 0 }
  unsound-is = ap (λ (b : Bool). step_sound_if b (read_cache ws) s) unsound

  pub unsound-none : {w t : ℕ} {mid : List ℕ} {x : Search} → Waited Stepping ws s w t mid x → w ≡ 0
  unsound-none at_first = refl
  unsound-none (once_more {mid = mid} {x = x} r v p e) =
      let same = unmoved v (unsound-none v) in
      let is : step_words mid x ≡ step_words ws s = ap₂ (λ (l : List ℕ) (y : Search). step_words l y) same.words same.search in
      absurd (true≢false (sym e ∙ ap is_waiting (p.answer ∙ ap (λ (y : AfterStep). y.reply) (is ∙ unsound-is))))
