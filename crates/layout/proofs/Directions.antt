-- The direction by its word.
-- Assumes nothing.
use mathlib.Core.Path.{◌≡◌, refl}
use mathlib.Core.Logic.{◌≢◌}
use Prim.Native.Nat.{ℕ, zero, suc}
use Rattle.model.specs.Graph.{backward}
use Rattle.layout.specs.Read.{direction_of}

pub backward-word : (d : ℕ) → d ≢ 0 → direction_of d ≡ backward
backward-word zero h = absurd (h refl)
backward-word (suc d) h = refl
