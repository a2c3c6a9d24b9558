-- Start costs: what is known of one, and what its word says.
-- Assumes nothing.
use mathlib.Core.Path.{◌≡◌, sym, ap, ◌∙◌}
use mathlib.Core.Logic.{◌≢◌, ◌⊎◌, inl, inr}
use mathlib.Core.Bool.{Bool, true, false, cond, true≢false}
use Prim.Native.Nat.{ℕ, ◌≤◌}
use native.Mathlib.Decide.{ℕ_discrete}
use native.Mathlib.Omega.{arith}
use borrow.Author.Tests.{eq-eqb, ne_eqb}
use Rattle.std.specs.Prelude.{None, Some}
use Rattle.std.specs.Coded.{le_prop}
use Rattle.std.specs.Option.{is_some}
use Rattle.std.specs.declared.option.Option.{Option}
use Rattle.std.proofs.Math.Nat.{ℕ_set}
use Rattle.model.specs.Limits.{cost_limit}
use Rattle.model.specs.Graph.{absent}
use Rattle.layout.specs.Read.{cost_if}

-- a start cost is absent or within 01's limit in one way: so a fact that says this of every vertex has one proof at most, as a ghost
-- field must
pub start_once : (x : ℕ) → IsProp ((x ≡ absent) ⊎ (x ≤ cost_limit))
start_once x (inl a) (inl b) = ap inl (ℕ_set x absent a b)
start_once x (inl a) (inr b) = absurd (omega (arith, a, b))
start_once x (inr a) (inl b) = absurd (omega (arith, a, b))
start_once x (inr a) (inr b) = ap inr (le_prop a b)

-- ---- the cost o that the word n says

says-none : (n : ℕ) → n ≡ absent → cost_if n ≡ None
says-none n e = ap (λ (b : Bool). cond b None (Some n)) (eq-eqb n absent e)

says-some : (n : ℕ) → n ≢ absent → cost_if n ≡ Some n
says-some n k = ap (λ (b : Bool). cond b None (Some n)) (ne_eqb n absent k)

module _ {o : Option ℕ} {n : ℕ} (said : o ≡ cost_if n) where
  pub cost-none : is_some o ≡ false → n ≡ absent
  cost-none s = elim (ℕ_discrete n absent) [ yes e ↦ e | no k ↦ absurd (true≢false (sym (ap is_some (said ∙ says-some n k)) ∙ s)) ]

  pub cost-some : is_some o ≡ true → n ≢ absent
  cost-some s e = true≢false (sym s ∙ ap is_some (said ∙ says-none n e))

  pub cost-there : n ≢ absent → o ≡ Some n
  cost-there k = said ∙ says-some n k
