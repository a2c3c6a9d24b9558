-- `retrace` on sound words, refusal by refusal, and the path shown.
-- Assumes nothing.
use mathlib.Core.Path.{◌≡◌, refl, sym, ap, ap₂, ◌∙◌}
use Rattle.std.specs.declared.option.Option.{Option}
use Rattle.std.specs.Prelude.{None, Some, Err}
use mathlib.Core.Bool.{Bool, true, false, ◌&&◌}
use mathlib.Core.List.{List}
use Prim.Native.Nat.{ℕ, ◌+◌, ◌*◌}
use lib.Dec.{ltb}
use lib.ListN.{length}
use Rattle.model.specs.declared.BestSolution.{BestSolution}
use Rattle.model.specs.declared.Refusal.TheVariants.{InvalidSearch, NotSolved}
use Rattle.model.specs.declared.Search.{Search}
use Rattle.model.specs.Answers.{refused}
use Rattle.model.specs.Graph.{Direction}
use Rattle.model.specs.Tree.{Tree, Node}
use Rattle.model.specs.Sound.{tree}
use Rattle.model.specs.Path.{moves_of, words}
use Rattle.model.specs.Search.{entry, as_best}
use Rattle.model.specs.Valid.{valid}
use Rattle.model.specs.Calls.{Cache, is_best, shown_by, shown, shown_tree_by, shown_tree, solved_already, retrace}
use Rattle.model.proofs.Faults.{shown_with, retrace_as, retrace-as, retrace-shown}
use Rattle.model.proofs.Turns.{unsolved-at}
use Rattle.model.proofs.Valid.{valid-at}
use Rattle.layout.specs.Read.{direction_of, read_cache}
use Rattle.memory.specs.declared.Shown.{Shown}
use Rattle.memory.specs.Standing.{shown_in}
use Rattle.unchecked.specs.Retrace.{Retraces, retrace_node_if, retrace_node, retrace_shown}
use Rattle.unchecked.proofs.ShownNode.{shown-cases}
use Rattle.opening.proofs.Initialized.{direction-is}
use Rattle.layout.specs.Layout.{direction_in}

module _ (ws : List ℕ) (s : Search) (p : List ℕ) where
  abbrev c : Cache
  c = read_cache ws

  -- by what the tests give
  given : {v x : Bool} → valid c.domain c.trees s ≡ v → solved_already s ≡ x
      → retrace c s p ≡ retrace_as v x c.domain.direction (shown_tree c.trees s) (shown s) p
  given e f =
      retrace-as c s p ∙ ap₂ (λ (v x : Bool). retrace_as v x c.domain.direction (shown_tree c.trees s) (shown s) p) e f

  pub not_valid : valid c.domain c.trees s ≡ false → Retraces ws s p (Err InvalidSearch) p
  not_valid e = sym (given e refl)

  module _ (fine : valid c.domain c.trees s ≡ true) where
    pub not-finished : s.exhausted ≡ false → Retraces ws s p (Err NotSolved) p
    not-finished e = sym (given fine (ap (λ (x : Bool). x && is_best s.best_solution) e))

    module _ (done : s.exhausted ≡ true) where
      no-best : s.best_solution ≡ None → retrace c s p ≡ record { reply = refused 9 0; path = p }
      no-best e = given fine (ap₂ (λ (x : Bool) (b : Option BestSolution). x && is_best b) done e)

      module _ {i n : ℕ} (best : s.best_solution ≡ as_best i n) where
        -- a finished record that is not refused has the solution that it shows
        is-held : (entry s i).solution ≡ None → ⊥
        is-held e = let h = (valid-at c.domain c.trees s fine).held done i n best in unsolved-at h.0 (sym e ∙ h.1)

        path-shown : (k : ℕ) → (entry s i).solution ≡ Some k → retrace_node ws (entry s i).tree k p ≡ retrace c s p
        path-shown k e =
            same (ltb (length p) (1 + 2 * moves_of ns k))
            ∙ ap (λ (d : Direction). shown_with (ltb (length p) (1 + 2 * moves_of ns k)) (moves_of ns k) (words d ns k) p) (sym (direction-is ws))
            ∙ retrace-shown c.domain.direction t k p (moves_of ns k) (words c.domain.direction ns k) refl refl
            ∙ sym (given fine (ap₂ (λ (x : Bool) (b : Option BestSolution). x && is_best b) done best)
            ∙ ap₂ (λ (u : Tree) (o : Option ℕ). retrace_as true true c.domain.direction u o p)
            (ap (shown_tree_by c.trees s) best) (ap (shown_by s) best ∙ e))
          where
            t : Tree
            t = tree c.trees (entry s i).tree

            ns : List Node
            ns = t.nodes

            same : (b : Bool) → retrace_node_if b ws (entry s i).tree k p ≡ shown_with b (moves_of ns k) (words (direction_of (direction_in ws)) ns k) p
            same true = refl
            same false = refl

      -- the path of the node shown
      pub shown-retraced : retrace c s p ≡ retrace_shown ws (shown_in s) p
      shown-retraced = shown-cases s (λ (x : Option Shown). retrace c s p ≡ retrace_shown ws x p)
          (λ b. no-best b)
          (λ i n b e. absurd (is-held b e))
          (λ i n k b e. sym (path-shown b k e))
