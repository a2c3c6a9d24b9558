-- Each vertex is drawn once: with the others exactly if a path leads to it, and else apart.
-- Assumes nothing.
use mathlib.Core.Path.{◌≡◌, sym, ◌∙◌}
use mathlib.Core.Bool.{Bool, true, false, beq, true≢false}
use mathlib.Core.List.{List, Memᴰ}
use Prim.Native.Nat.{ℕ, ◌<◌}
use lib.ListN.{get_or}
use Rattle.std.specs.Cmp.{booleans_Decides}
use Rattle.std.proofs.lemmas.Bool.{false_from_ne_true}
use Rattle.model.specs.Lists.{numbers}
use Rattle.model.proofs.Lists.{numbers-has, those-mem, those-has}
use Rattle.model.specs.Graph.{vertex_count}
use Rattle.reach.specs.Reach.{reach_marks}
use Rattle.reach.proofs.Exactly.{reached-exactly}
use Rattle.drawing.specs.Drawing.{marked}
use Rattle.drawing.specs.Draw.{EachDrawn}

-- those with a mark are the vertices that have it
has-mark : (k : Bool) (marks : List Bool) (n v : ℕ) → Memᴰ v (marked k marks n) → get_or marks v false ≡ k
has-mark k marks n v m = (booleans_Decides (get_or marks v false) k).0 (those-mem (λ x. beq (get_or marks x false) k) (numbers n) v m).1

in-marked : (k : Bool) (marks : List Bool) (n v : ℕ) → v < n → get_or marks v false ≡ k → Memᴰ v (marked k marks n)
in-marked k marks n v h e =
    those-has (λ x. beq (get_or marks x false) k) (numbers n) v (numbers-has n v h) ((booleans_Decides (get_or marks v false) k).1 e)

pub each-drawn : EachDrawn
each-drawn g ok v h =
    let marks : List Bool = reach_marks g in
    let n : ℕ = vertex_count g in
    let exact = reached-exactly g ok v h in
    record {
      reached = (λ m. exact.0 (has-mark true marks n v m), λ r. in-marked true marks n v h (exact.1 r));
      apart = (
        λ m r. true≢false (sym (exact.1 r) ∙ has-mark false marks n v m),
        λ none. in-marked false marks n v h (false_from_ne_true (get_or marks v false) (λ e. none (exact.0 e))),
      );
    }
