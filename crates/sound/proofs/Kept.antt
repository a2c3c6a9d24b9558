-- What a struct keeps of sound words, read back: a ghost field says it as `∥ ∥₁`, for it must have one proof at most. The words pass the
-- test, and that is one fact.
-- Assumes nothing.
use mathlib.Core.Bool.{Bool-set, true}
use mathlib.Core.List.{List}
use Prim.Native.Nat.{ℕ}
use Rattle.std.proofs.Math.Logic.{∥∥₁_elim, ∥∥₁_map}
use Rattle.std.specs.Coded.{le_prop}
use Rattle.layout.specs.Sound.{sound_wordsb}
use Rattle.sound.specs.Facts.{SoundWords, InUse}
use Rattle.sound.proofs.Facts.{sound-words-at, at-sound-words}

module _ {ws : List ℕ} where
  pub kept-sound : ∥ SoundWords ws ∥₁ → SoundWords ws
  kept-sound t = sound-words-at ws (∥∥₁_elim t (Bool-set (sound_wordsb ws) true) (at-sound-words ws))

  pub kept-used : {i : ℕ} → ∥ InUse ws i ∥₁ → InUse ws i
  kept-used t = record { sound = kept-sound (∥∥₁_map t (λ u. u.sound)); slot = ∥∥₁_elim t le_prop (λ u. u.slot) }
