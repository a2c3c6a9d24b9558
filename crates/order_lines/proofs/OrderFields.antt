-- An order by its fields.
-- Assumes nothing.
use mathlib.Core.Path.{◌≡◌}
use mathlib.Core.Bool.{Bool, false}
use mathlib.Core.List.{List}
use denote.Bor.{Bor}
use denote.Param.Members.{Mut}
use Prim.Native.Nat.{ℕ}
use lib.Dec.{eqb}
use Rattle.std.specs.declared.option.Option.{Option}
use Rattle.std.specs.declared.slice.Split.{Split}
use Rattle.std.specs.Fn.{CalledAt}
use Rattle.std.specs.Slice.Iter.{split_steps, split_rest, split_done, split_callee}
use Rattle.text.proofs.Splits.{onto, pieces_left, pieces-start, splits-start, pieces-step}
use Rattle.order_lines.specs.Orders.{order_from, order_of}

-- by what four calls of `next` give
pub order_fields : {F : Type 0} (g : Mut F (Bor ℕ × Unit {0}) Bool) (l : List ℕ) (s t u v w : Split ℕ F) (f : F) (form starts goals more : Option (Bor (List ℕ)))
    → split_steps g s form t → split_steps g t starts u → split_steps g u goals v → split_steps g v more w
    → split_rest s ≡ l → split_done s ≡ false → split_callee s ≡ f → ((x : ℕ) (y : Bool) (q : F) → CalledAt g f x y q → (q ≡ f) × (y ≡ eqb x 44))
    → order_from (onto form (onto starts (onto goals (onto more (pieces_left 44 w))))) ≡ order_of l
unfolding order_of
order_fields g l s t u v w f form starts goals more first second third fourth rest done callee test =
    let a = pieces-step s t form (splits-start g 44 s callee test) first in
    let b = pieces-step t u starts a.1 second in
    let c = pieces-step u v goals b.1 third in
    let d = pieces-step v w more c.1 fourth in
    rw (← d.0, ← c.0, ← b.0, ← a.0, pieces-start 44 l s rest done)
