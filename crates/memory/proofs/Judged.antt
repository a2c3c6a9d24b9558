-- How a search stands, from what was tested.
-- Assumes nothing.
use mathlib.Core.Path.{◌≡◌, refl, sym, ap, subst}
use Rattle.model.specs.declared.BestSolution.{BestSolution}
use Rattle.std.specs.declared.result.Result.{Result}
use Rattle.model.specs.declared.Refusal.{Refusal}
use Rattle.std.specs.declared.option.Option.{Option}
use Rattle.model.specs.declared.Refusal.TheVariants.{InvalidSearch}
use Rattle.std.specs.Prelude.{None, Err, Some}
use mathlib.Core.Bool.{Bool, true, false}
use mathlib.Core.List.{List}
use Prim.Native.Nat.{ℕ}
use Rattle.model.specs.declared.Search.{Search}
use Rattle.model.specs.declared.TreeMemory.{TreeMemory}
use Rattle.model.specs.Search.{entry}
use Rattle.memory.specs.declared.Shown.{Shown}
use Rattle.memory.specs.declared.held_node.HeldNode.{HeldNode}
use Rattle.memory.specs.declared.Standing.{Standing}
use Rattle.memory.specs.Memory.{CanJudge}
use Rattle.memory.specs.Standing.{shown_at, shown_for, shown_in, Shows, HeldIs, standing_of, valid_in, Stands}
use Rattle.memory.proofs.Fits.{held-node}

-- ---- the node shown

module _ (s : Search) where
  pub none-best : s.best_solution ≡ None → shown_in s ≡ None
  none-best e = ap (shown_for s) e

  pub held-best : {b : BestSolution} → s.best_solution ≡ Some b → shown_in s ≡ shown_at (entry s b.entry) (entry s b.entry).solution
  held-best e = ap (shown_for s) e

-- the solution that an entry holds
pub solution-shows : {ws : List ℕ} {e : TreeMemory} → CanJudge ws e → {x : Option Shown} → x ≡ shown_at e e.solution → Shows ws x
solution-shows {ws} {e} can is = subst (Shows ws) (sym is) (go e.solution refl)
  where
    go : (o : Option ℕ) → e.solution ≡ o → Shows ws (shown_at e o)
    go None z = tt
    go (Some n) z = held-node can z

-- ---- from the tests

module _ (ws : List ℕ) (s : Search) where
  pub refuses : false ≡ valid_in ws s → Stands ws s (Err InvalidSearch)
  refuses e = (refl, sym e)

  pub stands : {v : Bool} {x : Option Shown} (o : Option HeldNode) {r : Result Standing Refusal} → v ≡ valid_in ws s → shown_in s ≡ x → HeldIs ws x o
      → r ≡ standing_of v s.exhausted o → Stands ws s r
  stands {v} {x} o e f h g = subst (Stands ws s) (sym g) (go v s.exhausted (sym e) refl)
    where
      go : (v x : Bool) → valid_in ws s ≡ v → s.exhausted ≡ x → Stands ws s (standing_of v x o)
      go false x e d = (refl, e)
      go true false e d = (e, d)
      go true true e d = (e, (d, subst (λ (y : Option Shown). HeldIs ws y o) (sym f) h))
