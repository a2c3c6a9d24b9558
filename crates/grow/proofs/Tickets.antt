-- One ticket of the model, in the code's terms, and when growing stands still.
-- Assumes nothing.
use mathlib.Core.Path.{◌≡◌, refl, subst}
use Rattle.std.specs.declared.option.Option.{Option}
use Rattle.std.specs.Prelude.{None, Some}
use mathlib.Core.Bool.{Bool, true, false}
use mathlib.Core.List.{List}
use Prim.Native.Nat.{ℕ, zero, suc}
use Rattle.model.specs.Graph.{Domain, Accepted}
use Rattle.model.specs.Tree.{Tree, Growth, on, found, over, least, popped, taken, ticket, grow}
use Rattle.model.specs.Sound.{Sound}
use Rattle.model.proofs.Later.{Grew, grown}
use Rattle.grow.specs.Grow.{is_closed, visited_if, going_if}

module _ (d : Domain) (gs : List ℕ) (b : Option ℕ) where
  -- after a ticket for node n
  abbrev pub stepped : Tree → ℕ → ℕ → Growth
  stepped t k n =
      let u = popped t n in
      record { tree = visited_if (is_closed u n) d u n; tickets = suc k; going = going_if (is_closed u n) gs b u n }

  pub ticket_is : (t : Tree) (k n : ℕ) → least t.nodes t.waiting ≡ Some n → ticket d gs b t k on ≡ stepped t k n
  unfolding ticket popped
  ticket_is t k n e = rw e (go (is_closed t n))
    where
      go : (x : Bool) → taken d gs b t k n x ≡ record { tree = visited_if x d (popped t n) n; tickets = suc k; going = going_if x gs b (popped t n) n }
      go true = refl
      go false = refl

  pub ticket-none : (t : Tree) (k : ℕ) → least t.nodes t.waiting ≡ None → ticket d gs b t k on ≡ record { tree = t; tickets = k; going = over }
  unfolding ticket
  ticket-none t k e = rw e refl

  pub grow-over : (j : ℕ) (t : Tree) (k : ℕ) → grow d gs b j (record { tree = t; tickets = k; going = over }) ≡ record { tree = t; tickets = k; going = over }
  unfolding grow
  grow-over zero t k = refl
  grow-over (suc j) t k = grow-over j t k

  pub grow-found : (j : ℕ) (t : Tree) (k n : ℕ) → grow d gs b j (record { tree = t; tickets = k; going = found n }) ≡ record { tree = t; tickets = k; going = found n }
  unfolding grow
  grow-found zero t k n = refl
  grow-found (suc j) t k n = grow-found j t k n

  pub ticket-sound : Accepted d.graph → (t : Tree) (k n : ℕ) → Sound d t → least t.nodes t.waiting ≡ Some n → Sound d (stepped t k n).tree
  unfolding grow
  ticket-sound acc t k n ok e = let one : Grew d gs t (stepped t 0 n) = subst (Grew d gs t) (ticket_is t 0 n e) (grown d acc gs b t ok 1) in one.sound
