-- The goals of a new search, taken one by one.
-- Assumes nothing.
use mathlib.Core.Path.{◌≡◌, sym, ap, ap₂, ◌∙◌}
use Rattle.std.specs.Prelude.{None}
use mathlib.Core.Bool.{false}
use mathlib.Core.List.{List, [], ◌∷◌, ◌++◌, append_assoc, append-nil}
use Prim.Native.Nat.{ℕ, ◌+◌, ◌<◌, ◌≤◌}
use native.Mathlib.Omega.{arith}
use lib.ListN.{length, length-append}
use Rattle.model.specs.declared.TreeMemory.{TreeMemory}
use Rattle.model.specs.declared.Search.{Search}
use Rattle.model.specs.Search.{with_goal, new_search}
use Rattle.model.proofs.Filled.{set-filled}
use Rattle.opening.specs.Initialize.{with_goals}

goal-taken : (es : List TreeMemory) (hs : List ℕ) (g : ℕ) → length hs < 64 → with_goal (new_search es hs) g ≡ new_search es (hs ++ (g ∷ []))
goal-taken es hs g h =
    let count : length hs + 1 ≡ length (hs ++ (g ∷ [])) = omega (arith, length-append hs (g ∷ [])) in
    ap₂ (λ (ks : List ℕ) (n : ℕ). filled es ks n) (set-filled 64 hs g 0 h) count
  where
    filled : List TreeMemory → List ℕ → ℕ → Search
    filled es ks n = record { trees = (new_search es []).trees; tree_count = length es; goal_keys = ks; goal_count = n; best_solution = None; exhausted = false }

taken-on : (es : List TreeMemory) (hs gs : List ℕ) → length hs + length gs ≤ 64 → with_goals (new_search es hs) gs ≡ new_search es (hs ++ gs)
taken-on es hs [] h = ap (new_search es) (sym (append-nil hs))
taken-on es hs (g ∷ gs) h =
    ap (λ (s : Search). with_goals s gs) (goal-taken es hs g (omega (arith, h)))
    ∙ taken-on es (hs ++ (g ∷ [])) gs (omega (arith, h, length-append hs (g ∷ [])))
    ∙ ap (new_search es) (append_assoc hs (g ∷ []) gs)

pub goals-taken : (es : List TreeMemory) (gs : List ℕ) → length gs ≤ 64 → with_goals (new_search es []) gs ≡ new_search es gs
goals-taken es gs h = taken-on es [] gs (omega (arith, h))
