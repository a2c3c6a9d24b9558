-- What a step of the model returns: at most so many tickets, and a record whose entries are in the slots of the one given.
-- Assumes nothing.
use mathlib.Core.Path.{◌≡◌, refl}
use mathlib.Core.Bool.{Bool, true, false, not}
use mathlib.Core.List.{[], ◌∷◌}
use Prim.Native.Nat.{ℕ, ◌≤◌}
use native.Mathlib.Omega.{arith}
use Rattle.model.specs.Limits.{step_tickets}
use Rattle.model.specs.declared.Search.{Search}
use Rattle.model.specs.Search.{entry, Walk, walk, with_exhausted}
use Rattle.model.specs.Valid.{valid}
use Rattle.model.specs.Calls.{Cache, step_if, step_by, first_fault, step}
use Rattle.model.proofs.Valid.{valid-at}
use Rattle.entry_turns.proofs.Turning.{rounds-few}
use Rattle.entry_turns.proofs.Walked.{rounds-slots, rounds-count}

module _ (c : Cache) (s : Search) where
  -- where the walk over the entries starts
  abbrev from : Walk
  from = record { trees = c.trees; search = with_exhausted s true; tickets = 0 }

  step_if-few : (x : Bool) → s.tree_count ≤ 64 → (step_if x c s).tickets ≤ step_tickets
  unfolding walk
  step_if-few true h = omega arith
  step_if-few false h = omega (arith, rounds-few c.domain s.tree_count 0 from)

  pub step-few : (step c s).tickets ≤ step_tickets
  unfolding step
  step-few = go (valid c.domain c.trees s) refl
    where
      go : (v : Bool) → valid c.domain c.trees s ≡ v → (step_by (first_fault (record { number = 8; given = not v } ∷ [])) c s).tickets ≤ step_tickets
      go true e = step_if-few s.exhausted (valid-at c.domain c.trees s e).counts
      go false e = omega arith

  -- the record comes back, or it is the walk's
  step-search : (P : Search → Type 0) → P s → P (walk c.domain c.trees s).search → P (step c s).search
  unfolding step
  step-search P same walked = go (valid c.domain c.trees s)
    where
      by : (x : Bool) → P (step_if x c s).search
      by true = same
      by false = walked

      go : (v : Bool) → P (step_by (first_fault (record { number = 8; given = not v } ∷ [])) c s).search
      go true = by s.exhausted
      go false = same

  pub step-slots : (j : ℕ) → (entry (step c s).search j).tree ≡ (entry s j).tree
  unfolding walk
  step-slots j = step-search (λ x. (entry x j).tree ≡ (entry s j).tree) refl (rounds-slots c.domain s.tree_count 0 from j)

  pub step_count : (step c s).search.tree_count ≡ s.tree_count
  unfolding walk
  step_count = step-search (λ x. x.tree_count ≡ s.tree_count) refl (rounds-count c.domain s.tree_count 0 from)
