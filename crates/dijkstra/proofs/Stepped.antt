-- `step`: refused where the words are not sound, and on sound words what it promises there.
-- Assumes nothing.
use mathlib.Core.Path.{◌≡◌, refl, sym, ap, ◌∙◌, subst}
use mathlib.Core.Bool.{Bool, true, false}
use mathlib.Core.List.{List}
use Prim.Native.Nat.{ℕ}
use Rattle.model.specs.declared.Refusal.TheVariants.{Unsound}
use Rattle.model.specs.declared.Search.{Search}
use Rattle.model.specs.declared.Stepped.{Stepped}
use Rattle.model.specs.Answers.{Reply, Status}
use Rattle.model.specs.Calls.{AfterStep}
use Rattle.layout.specs.Read.{read_cache}
use Rattle.layout.specs.Sound.{sound_wordsb}
use Rattle.sound.proofs.Facts.{sound-words-at, at-sound-words}
use Rattle.unchecked.specs.Step.{Advances, not_stepped}
use Rattle.layout.specs.Leaves.{Leaves}
use Rattle.unchecked.proofs.Advanced.{leaves-same}
use Rattle.dijkstra.specs.Calls.{step_sound_if, step_words, Stepping}
use Rattle.dijkstra.proofs.Histories.{step_is}

module _ (ws : List ℕ) (s : Search) where
  pub not_sound : sound_wordsb ws ≡ false → Stepping ws s (not_stepped s Unsound) ws
  not_sound e =
      let is = ap (λ (b : Bool). step_sound_if b (read_cache ws) s) e in
      record {
        answer = sym (ap (λ (x : AfterStep). x.reply) is);
        tickets = sym (ap (λ (x : AfterStep). x.tickets) is);
        search = sym (ap (λ (x : AfterStep). x.search) is);
        cache = sym (ap (λ (x : AfterStep). x.cache) is);
        sound = refl;
        words = leaves-same (step_words ws s).reply ws s;
      }

  pub on-sound : sound_wordsb ws ≡ true → (r : Stepped) (left : List ℕ) → Advances ws s r left → Stepping ws s r left
  on-sound ok r left a =
      let is = step_is ws ok s in
      record {
        answer = a.answer ∙ sym (ap (λ (x : AfterStep). x.reply) is);
        tickets = a.tickets ∙ sym (ap (λ (x : AfterStep). x.tickets) is);
        search = a.search ∙ sym (ap (λ (x : AfterStep). x.search) is);
        cache = a.cache ∙ sym (ap (λ (x : AfterStep). x.cache) is);
        sound = at-sound-words left a.sound ∙ sym ok;
        words = subst (λ (x : Reply Status). Leaves x ws s left) (sym (ap (λ (x : AfterStep). x.reply) is)) a.words;
      }

  -- and back
  pub as-sound : sound_wordsb ws ≡ true → (r : Stepped) (left : List ℕ) → Stepping ws s r left → Advances ws s r left
  as-sound ok r left p =
      let is = step_is ws ok s in
      record {
        answer = p.answer ∙ ap (λ (x : AfterStep). x.reply) is;
        tickets = p.tickets ∙ ap (λ (x : AfterStep). x.tickets) is;
        search = p.search ∙ ap (λ (x : AfterStep). x.search) is;
        cache = p.cache ∙ ap (λ (x : AfterStep). x.cache) is;
        sound = sound-words-at left (p.sound ∙ ok);
        words = subst (λ (x : Reply Status). Leaves x ws s left) (ap (λ (x : AfterStep). x.reply) is) p.words;
      }
