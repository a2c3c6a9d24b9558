-- The first ticket of a tree's words: the word at the queue's first place is the least of the waiting nodes.
-- Assumes nothing.
use mathlib.Core.Path.{◌≡◌, refl, sym, ap, ◌∙◌}
use Rattle.std.specs.declared.option.Option.{Option}
use Rattle.std.specs.Prelude.{None, Some}
use mathlib.Core.Bool.{Bool, false}
use mathlib.Core.List.{List}
use Prim.Native.Nat.{ℕ, ◌+◌, ◌<◌, ◌≤◌}
use native.Mathlib.Nat.{add-zero}
use native.Mathlib.Omega.{arith}
use lib.ListN.{length, get_or}
use Rattle.model.specs.Tree.{Node, evaluation, least}
use Rattle.model.specs.Search.{under, cheaper}
use Rattle.layout.specs.Layout.{node_at, queue_at, queued_in, used_in}
use Rattle.queue.specs.Queue.{evaluation_in, key, rank}
use Rattle.queue.proofs.Heap.{heap-least}
use Rattle.queue.proofs.Times.{times-place, place-times}
use Rattle.tree.specs.Tree.{tree_of, Formed}
use Rattle.entry_turns.specs.Turn.{UnderIs}
use Rattle.tree.proofs.Waiting.{waits, waits-node}
use Rattle.tree.proofs.Popped.{least-key, least-none}
use Rattle.tree.proofs.Closed.{node-fits, node-cost}

module _ {l : ℕ} {t : List ℕ} (f : Formed l t) where
  abbrev ns : List ℕ → List Node
  ns ws = (tree_of ws l t).nodes

  module _ (some-ticket : 0 < queued_in t) where
    abbrev first : ℕ
    first = get_or t (queue_at l) 0

    first-waits : 0 < waits l t first
    first-waits = rw add-zero at (place-times t (queue_at l) (queued_in t) 0 some-ticket)

    first-node : first < used_in t
    first-node = waits-node f first first-waits

    -- what waits has no lesser key
    first_key : (x : ℕ) → 0 < waits l t x → key t first ≤ key t x
    unfolding rank
    first_key x h = let i = times-place t (queue_at l) (queued_in t) x h in rw (add-zero, i.2) at (heap-least f.heap i.0 i.1)

    least_first : (ws : List ℕ) → least (ns ws) (tree_of ws l t).waiting ≡ Some first
    least_first ws = least-key ws f first first-waits first_key

  -- ---- the call

  pub none-under : (b : Option ℕ) → queued_in t ≡ 0 → UnderIs l t b false
  none-under b e ws = sym (ap (λ (o : Option ℕ). under (ns ws) o b) (least-none ws l t f e))

  pub first_fits : (q : ℕ) → (queued_in t ≡ 0 → ⊥) → q ≡ queue_at l → node_at (get_or t q 0) + 4 ≤ length t
  first_fits q ne e = rw e (node-fits f (first-node (omega arith)))

  under_first : (ws : List ℕ) (b : Option ℕ) (n : ℕ) → under (ns ws) (Some n) b ≡ cheaper (evaluation (ns ws) n) b
  under_first ws None n = refl
  under_first ws (Some b) n = refl

  pub some-under : {r : Bool} {k : ℕ} (b : Option ℕ) (q : ℕ) → (queued_in t ≡ 0 → ⊥) → q ≡ queue_at l → k ≡ evaluation_in t (get_or t q 0) → r ≡ cheaper k b
      → UnderIs l t b r
  some-under b q ne e c h ws =
      let more : 0 < queued_in t = omega arith in
      h
      ∙ ap (λ (x : ℕ). cheaper x b) (c ∙ ap (λ (i : ℕ). evaluation_in t (get_or t i 0)) e ∙ sym (node-cost ws _ l t (first more) (first-node more)))
      ∙ sym (ap (λ (o : Option ℕ). under (ns ws) o b) (least_first more ws) ∙ under_first ws b (first more))
