-- "Tickets taken equal the growth of nodes used less queue length, summed over trees", for every step with any record.
-- Assumes nothing.
use mathlib.Core.Path.{◌≡◌, refl}
use Rattle.std.specs.declared.option.Option.{Option}
use Rattle.std.specs.Prelude.{None, Some}
use mathlib.Core.Bool.{Bool, true, false}
use mathlib.Core.List.{List, [], ◌∷◌}
use Prim.Native.Nat.{ℕ, zero, suc, ◌+◌, ◌<◌, ◌≤◌}
use native.Mathlib.Omega.{arith}
use borrow.Author.Tests.{not-false}
use lib.ListN.{length, set, length-set}
use Rattle.model.specs.declared.Search.{Search}
use Rattle.model.specs.Graph.{Domain, Accepted}
use Rattle.model.specs.Tree.{Tree}
use Rattle.model.specs.Sound.{tree, Sound, SoundTrees}
use Rattle.model.specs.Search.{entry, goals, with_exhausted, Turn, lookup, turn, turn_by, bound, Walk, round, rounds, walk}
use Rattle.model.specs.Valid.{valid}
use Rattle.model.specs.Calls.{Cache, SoundCache, first_fault, step_faults, step_if, step_by, step}
use Rattle.model.specs.Tickets.{sum_of, used, queued, Tickets}
use Rattle.model.proofs.Later as growing
use Rattle.model.proofs.Faults.{or-none}
use Rattle.model.proofs.Recorded.{round-count, round-slots}
use Rattle.model.proofs.Keeps.{round_keeps}
use Rattle.model.proofs.Valid.{valid-at}

sum-set : (f : Tree → ℕ) (ts : List Tree) (i : ℕ) (u : Tree) → i < length ts → sum_of f (set ts i u) + f (tree ts i) ≡ sum_of f ts + f u
unfolding sum_of
sum-set f [] i u h = absurd (omega arith)
sum-set f (t ∷ ts) zero u h = omega arith
sum-set f (t ∷ ts) (suc i) u h = omega (arith, sum-set f ts i u (omega arith))

turn-tickets : (d : Domain) → Accepted d.graph → (gs : List ℕ) (b : Option ℕ) (t : Tree) (known : Option ℕ) → Sound d t
    → length (turn d gs b t known).tree.nodes + length t.waiting ≡ (turn d gs b t known).tickets + (length t.nodes + length (turn d gs b t known).tree.waiting)
unfolding turn
turn-tickets d acc gs b t known ok = go (lookup d t gs known)
  where
    go : (o : Option ℕ) → length (turn_by d gs b t o).tree.nodes + length t.waiting
        ≡ (turn_by d gs b t o).tickets + (length t.nodes + length (turn_by d gs b t o).tree.waiting)
    go None = (growing.grown d acc gs b t ok 10).tickets
    go (Some n) = omega arith

abbrev Slots : Walk → Type 0
Slots w = (i : ℕ) → i < w.search.tree_count → (entry w.search i).tree < length w.trees

module _ (d : Domain) (acc : Accepted d.graph) where
  round-tickets : (i : ℕ) (w : Walk) → SoundTrees d w.trees → (entry w.search i).tree < length w.trees
      → used (round d i w).trees + queued w.trees + w.tickets ≡ (round d i w).tickets + (used w.trees + queued (round d i w).trees)
  unfolding round
  round-tickets i w ok h =
      let k : ℕ = (entry w.search i).tree in
      let u : Turn = turn d (goals w.search) (bound d w.trees w.search) (tree w.trees k) (entry w.search i).last_known_closed_len in
      omega (
        arith,
        turn-tickets d acc (goals w.search) (bound d w.trees w.search) (tree w.trees k) (entry w.search i).last_known_closed_len (ok.each k h),
        sum-set (λ t. length t.nodes) w.trees k u.tree h,
        sum-set (λ t. length t.waiting) w.trees k u.tree h,
      )

  slots-stay : (i : ℕ) (w : Walk) → Slots w → Slots (round d i w)
  unfolding round
  slots-stay i w f j h = rw (round-slots d i w j, length-set w.trees _ _) (f j (omega (arith, round-count d i w)))

  rounds-tickets : (n i : ℕ) (w : Walk) → SoundTrees d w.trees → Slots w → n + i ≤ w.search.tree_count
      → used (rounds d n i w).trees + queued w.trees + w.tickets ≡ (rounds d n i w).tickets + (used w.trees + queued (rounds d n i w).trees)
  unfolding rounds
  rounds-tickets zero i w ok f h = omega arith
  rounds-tickets (suc n) i w ok f h =
      omega (
        arith,
        round-tickets i w ok (f i (omega arith)),
        rounds-tickets n (suc i) (round d i w) (round_keeps d acc i w ok).0 (slots-stay i w f) (omega (arith, round-count d i w)),
      )

  pub walk-tickets : (ts : List Tree) (s : Search) → SoundTrees d ts → ((i : ℕ) → i < s.tree_count → (entry s i).tree < length ts) → Tickets ts (walk d ts s).trees (walk d ts s).tickets
  unfolding walk
  walk-tickets ts s ok f = omega (arith, rounds-tickets s.tree_count 0 (record { trees = ts; search = with_exhausted s true; tickets = 0 }) ok f (omega arith))

-- any step: a refused one, or one of a finished search, takes none
pub step-tickets : (c : Cache) → Accepted c.domain.graph → SoundCache c → (s : Search) → Tickets c.trees (step c s).cache.trees (step c s).tickets
unfolding step
step-tickets c acc ok s = go (first_fault (step_faults c s)) refl
  where
    run : valid c.domain c.trees s ≡ true → (b : Bool) → Tickets c.trees (step_if b c s).cache.trees (step_if b c s).tickets
    run v true = omega arith
    run v false = walk-tickets c.domain acc c.trees s ok.trees (valid-at c.domain c.trees s v).slots

    go : (o : Option ℕ) → first_fault (step_faults c s) ≡ o → Tickets c.trees (step_by o c s).cache.trees (step_by o c s).tickets
    go (Some n) e = omega arith
    go None e = run (not-false _ (or-none _ _ _ e).0) s.exhausted
