-- Whether the growing goes on.
-- Assumes nothing.
use mathlib.Core.Path.{◌≡◌, sym, ap, ap₂, ◌∙◌}
use Rattle.std.specs.declared.option.Option.{Option}
use mathlib.Core.Bool.{Bool, true, false}
use mathlib.Core.List.{List}
use Prim.Native.Nat.{ℕ}
use Rattle.model.specs.Lists.{mem}
use Rattle.model.specs.Tree.{above, going_on}
use Rattle.grow.specs.declared.Next.TheVariants.{On, Found, Over}
use Rattle.grow.specs.Grow.{GoesOn}

-- what was found of the vertex, and of its cost
module _ (gs : List ℕ) (b : Option ℕ) (v k : ℕ) {goal : Bool} (g : goal ≡ mem v gs) where
  pub goes-found : goal ≡ true → GoesOn gs b v k Found
  goes-found t n = ap (λ (x : Bool). going_on x (above k b) n) (sym t ∙ g)

  module _ (f : goal ≡ false) {far : Bool} (a : far ≡ above k b) where
    pub goes_over : far ≡ true → GoesOn gs b v k Over
    goes_over t n = ap₂ (λ (x y : Bool). going_on x y n) (sym f ∙ g) (sym t ∙ a)

    pub goes_on : far ≡ false → GoesOn gs b v k On
    goes_on t n = ap₂ (λ (x y : Bool). going_on x y n) (sym f ∙ g) (sym t ∙ a)
