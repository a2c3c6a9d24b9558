-- `initialize`: refused where the words are not sound, and on sound words what it promises there.
-- Assumes nothing.
use mathlib.Core.Path.{◌≡◌, refl, sym, ap, ◌∙◌}
use Rattle.std.specs.Prelude.{Err}
use Rattle.model.specs.declared.Search.{Search}
use Rattle.std.specs.declared.result.Result.{Result}
use Rattle.model.specs.declared.Refusal.{Refusal}
use mathlib.Core.Bool.{Bool, true, false}
use mathlib.Core.List.{List}
use Prim.Native.Nat.{ℕ}
use Rattle.model.specs.declared.Refusal.TheVariants.{Unsound}
use Rattle.model.specs.Search.{roots_of}
use Rattle.model.specs.Calls.{AfterInitialize}
use Rattle.layout.specs.Layout.{direction_in}
use Rattle.layout.specs.Read.{direction_of, read_cache}
use Rattle.layout.specs.Sound.{sound_wordsb}
use Rattle.sound.proofs.Facts.{sound-words-at, at-sound-words}
use Rattle.opening.specs.Initialize.{Initializes}
use Rattle.layout.specs.Planted.{initialized_words}
use Rattle.dijkstra.specs.Calls.{initialize_if, Initializing}
use Rattle.dijkstra.proofs.Histories.{initialize-is}

module _ (ws ss gs : List ℕ) where
  abbrev words_after : AfterInitialize → List ℕ
  words_after a = initialized_words a.reply ws (roots_of (direction_of (direction_in ws)) ss gs)

  pub not_sound : sound_wordsb ws ≡ false → Initializing ws ss gs (Err Unsound) ws
  not_sound e =
      let is = ap (λ (b : Bool). initialize_if b (read_cache ws) ss gs) e in
      record {
        answer = sym (ap (λ (a : AfterInitialize). a.reply) is);
        search = sym (ap (λ (a : AfterInitialize). a.search) is);
        words = sym (ap words_after is);
        cache = sym (ap (λ (a : AfterInitialize). a.cache) is);
        sound = refl;
      }

  pub on-sound : sound_wordsb ws ≡ true → (r : Result Search Refusal) (left : List ℕ) → Initializes ws ss gs r left → Initializing ws ss gs r left
  on-sound ok r left h =
      let is = initialize-is ws ok ss gs in
      record {
        answer = h.answer ∙ sym (ap (λ (a : AfterInitialize). a.reply) is);
        search = h.search ∙ sym (ap (λ (a : AfterInitialize). a.search) is);
        words = h.words ∙ sym (ap words_after is);
        cache = h.cache ∙ sym (ap (λ (a : AfterInitialize). a.cache) is);
        sound = at-sound-words left h.sound ∙ sym ok;
      }

  -- and back
  pub as-sound : sound_wordsb ws ≡ true → (r : Result Search Refusal) (left : List ℕ) → Initializing ws ss gs r left → Initializes ws ss gs r left
  as-sound ok r left h =
      let is = initialize-is ws ok ss gs in
      record {
        answer = h.answer ∙ ap (λ (a : AfterInitialize). a.reply) is;
        search = h.search ∙ ap (λ (a : AfterInitialize). a.search) is;
        words = h.words ∙ ap words_after is;
        cache = h.cache ∙ ap (λ (a : AfterInitialize). a.cache) is;
        sound = sound-words-at left (h.sound ∙ ok);
      }
