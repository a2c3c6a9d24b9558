-- A step for the proofs by hand: what a local holds is written out.
-- Assumes `Logic`.
use mathlib.Core.Path.{◌≡◌}
use mathlib.Core.List.{List}
use Prim.Native.Nat.{ℕ}
use seplogic.Ra.Ura.{Ura}
use mir.Syntax.{Ty}
use mir.Val.{Val}
use base.Fml.{Share, fat}
use types.Logic.{Logic}
use types.Kit.{Goal, Step, Item, ‵, nth, put, rewrite}

module _ {M : Type 1} {𝓤 : Ura M} {𝓛 : Logic 𝓤} {K : Type 0} {Γ : List (Item 𝓤)} {G : Goal 𝓤 𝓛.H} where
  pub spelt-local : K → (n : ℕ) {q : Share} {τ : Ty} {b o : ℕ} {v w : Val} → nth 𝓛 n Γ ≡ ‵ (fat q τ b o v) → v ≡ w
      → Step K 𝓛 (put 𝓛 n (‵ (fat q τ b o w)) Γ) G Γ G
  spelt-local t n {q} {τ} {b} {o} at_n e = rewrite t n (λ (u : Val). ‵ (fat q τ b o u)) e at_n
