-- The waiting list of a tree has the members of the queue words, if these are all nodes; the first of them costs least.
-- Assumes nothing.
use mathlib.Core.Path.{◌≡◌, sym, ap, ◌∙◌}
use mathlib.Core.Bool.{Bool, true}
use mathlib.Core.List.{List, Memᴰ}
use Prim.Native.Nat.{ℕ, ◌+◌, ◌<◌, ◌≤◌}
use native.Mathlib.Omega.{arith}
use native.Mathlib.Nat.{add-zero}
use lib.Dec.{leb}
use lib.ListN.{length, get_or}
use borrow.Author.Tests.{ltb-true, leb-true, lt-ltb, le-leb}
use Rattle.model.specs.Lists.{numbers, mem, all_below, all_in, any_in}
use Rattle.model.specs.Tree.{evaluation}
use Rattle.model.proofs.Bools.{all_true, all-below, all-in-at, at-all-in, any-in-at, at-any-in}
use Rattle.model.proofs.Lists.{numbers-has, those-mem, those-has, mem-listed, listed-mem}
use Rattle.layout.specs.Layout.{queue_at, part, queued_in, used_in}
use Rattle.layout.specs.Read.{tree_in}
use Rattle.layout.specs.Sound.{queue_in, queue_tests}
use Rattle.queue.specs.Queue.{evaluation_in, key, rank, Heap}
use Rattle.queue.proofs.Heap.{heap-least}
use Rattle.queue.proofs.Times.{times-place, place-times}
use Rattle.tree.proofs.Parts.{below_at}
use Rattle.tree.proofs.Form.{heap-at}
use Rattle.tree.proofs.Waiting.{mem-times}
use Rattle.tree.proofs.Closed.{node-cost}
use Rattle.sound_tree.specs.Check.{Waits}
use Rattle.model.proofs.InTurn.{same_tests}

module _ (ws : List ℕ) (m l : ℕ) (t : List ℕ) (below : all_below (used_in t) (queue_in l t) ≡ true) where
  waiting-queued : (k : ℕ) → Memᴰ k (tree_in ws m l t).waiting → Memᴰ k (queue_in l t)
  unfolding tree_in
  waiting-queued k h = mem-listed k (queue_in l t) (those-mem (λ n. mem n (queue_in l t)) (numbers (used_in t)) k h).1

  queued-waiting : (k : ℕ) → Memᴰ k (queue_in l t) → Memᴰ k (tree_in ws m l t).waiting
  unfolding tree_in
  queued-waiting k h =
      let e : mem k (queue_in l t) ≡ true = listed-mem k (queue_in l t) h in
      those-has (λ n. mem n (queue_in l t)) (numbers (used_in t)) k (numbers-has (used_in t) k (all-below (used_in t) (queue_in l t) below k e)) e

  all-waiting : (p : ℕ → Bool) → all_in p (tree_in ws m l t).waiting ≡ all_in p (queue_in l t)
  all-waiting p =
      same_tests _ _ (λ e. at-all-in p (queue_in l t) (λ k h. all-in-at p (tree_in ws m l t).waiting e k (queued-waiting k h)))
      (λ e. at-all-in p (tree_in ws m l t).waiting (λ k h. all-in-at p (queue_in l t) e k (waiting-queued k h)))

  pub any-waiting : (p : ℕ → Bool) → any_in p (tree_in ws m l t).waiting ≡ any_in p (queue_in l t)
  any-waiting p =
      same_tests _ _
      (λ e. let r = any-in-at p (tree_in ws m l t).waiting e in at-any-in p (queue_in l t) r.0 (waiting-queued r.0 r.1) r.2)
      (λ e. let r = any-in-at p (queue_in l t) e in at-any-in p (tree_in ws m l t).waiting r.0 (queued-waiting r.0 r.1) r.2)

  pub mem-waiting : (k : ℕ) → mem k (tree_in ws m l t).waiting ≡ mem k (queue_in l t)
  mem-waiting k =
      same_tests _ _
      (λ e. listed-mem k (queue_in l t) (waiting-queued k (mem-listed k (tree_in ws m l t).waiting e)))
      (λ e. listed-mem k (tree_in ws m l t).waiting (queued-waiting k (mem-listed k (queue_in l t) e)))

-- ---- the first queue word names a waiting node of the least cost

module _ (ws : List ℕ) (l : ℕ) (t : List ℕ) (w : Waits l ws t) where
  fits : queue_at l + queued_in t ≤ length t
  fits = omega (arith, w.areas.queued, w.areas.fits)

  pub all-below-used : all_below (used_in t) (queue_in l t) ≡ true
  all-below-used = (all_true (queue_tests ws l t (queued_in t)) w.queue).0

  pub queued-node : (i : ℕ) → i < queued_in t → get_or t (queue_at l + i) 0 < used_in t
  queued-node = below_at t (queue_at l) (queued_in t) (used_in t) fits all-below-used

  heap : Heap (rank t (queue_at l)) (queued_in t)
  heap = heap-at ws l t fits (omega (arith, w.areas.used, w.areas.edges)) queued-node (all_true (queue_tests ws l t (queued_in t)) w.queue).1.1.0

  first-least : (i : ℕ) → i < queued_in t → evaluation_in t (get_or t (queue_at l) 0) ≤ evaluation_in t (get_or t (queue_at l + i) 0)
  unfolding rank key
  first-least i h =
      let least : key t (get_or t (queue_at l) 0) ≤ key t (get_or t (queue_at l + i) 0) = rw add-zero at (heap-least heap i h) in
      omega (arith, queued-node i h, w.areas.used, w.areas.edges)

  first-queued : 0 < queued_in t → Memᴰ (get_or t (queue_at l) 0) (queue_in l t)
  first-queued some =
      let often = rw add-zero at (place-times t (queue_at l) (queued_in t) 0 some) in
      mem-listed (get_or t (queue_at l) 0) (queue_in l t) (mem-times t (queue_at l) (queued_in t) _ fits ∙ lt-ltb 0 _ often)

  queued-least : (k : ℕ) → Memᴰ k (queue_in l t) → (k < used_in t) × (evaluation_in t (get_or t (queue_at l) 0) ≤ evaluation_in t k)
  queued-least k h =
      let often = ltb-true 0 _ (sym (mem-times t (queue_at l) (queued_in t) k fits) ∙ listed-mem k (queue_in l t) h) in
      let place = times-place t (queue_at l) (queued_in t) k often in
      rw (← place.2) (queued-node place.0 place.1, first-least place.0 place.1)

module _ (ws : List ℕ) (m l : ℕ) (t : List ℕ) (w : Waits l ws t) where
  pub none-waits : (p : ℕ → Bool) → queued_in t ≡ 0 → all_in p (tree_in ws m l t).waiting ≡ true
  unfolding all_in
  none-waits p e = all-waiting ws m l t (all-below-used ws l t w) p ∙ ap (λ (n : ℕ). all_in p (part (queue_at l) n t)) e

  pub waiting-first : (c : ℕ) → 0 < queued_in t
      → all_in (λ j. leb c (evaluation (tree_in ws m l t).nodes j)) (tree_in ws m l t).waiting ≡ leb c (evaluation_in t (get_or t (queue_at l) 0))
  waiting-first c some = all-waiting ws m l t (all-below-used ws l t w) p ∙ same_tests _ _ at_first from_first
    where
      p : ℕ → Bool
      p j = leb c (evaluation (tree_in ws m l t).nodes j)

      at_first : all_in p (queue_in l t) ≡ true → leb c (evaluation_in t (get_or t (queue_at l) 0)) ≡ true
      at_first e =
          let h = first-queued ws l t w some in
          rw (node-cost ws m l t _ (queued-least ws l t w _ h).0) at (all-in-at p (queue_in l t) e (get_or t (queue_at l) 0) h)

      from_first : leb c (evaluation_in t (get_or t (queue_at l) 0)) ≡ true → all_in p (queue_in l t) ≡ true
      from_first e = at-all-in p (queue_in l t) (λ k h.
          let r = queued-least ws l t w k h in
          le-leb c (evaluation (tree_in ws m l t).nodes k) (omega (arith, leb-true c _ e, node-cost ws m l t k r.0)))
