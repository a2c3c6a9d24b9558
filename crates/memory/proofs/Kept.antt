-- What `HeldNode` keeps, read back.
-- Assumes nothing.
use mathlib.Core.List.{List}
use Prim.Native.Nat.{ℕ}
use Rattle.std.proofs.Math.Logic.{∥∥₁_elim, ∥∥₁_map}
use Rattle.std.specs.Coded.{le_prop}
use Rattle.sound.proofs.Kept.{kept-used}
use Rattle.memory.specs.Memory.{HasNode}

pub kept-node : {ws : List ℕ} {i n : ℕ} → ∥ HasNode ws i n ∥₁ → HasNode ws i n
kept-node t = record { used = kept-used (∥∥₁_map t (λ h. h.used)); node = ∥∥₁_elim t le_prop (λ h. h.node) }
