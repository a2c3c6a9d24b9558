-- The model's turn in its two cases. It takes at most ten tickets; so do rounds, each.
-- Assumes nothing.
use mathlib.Core.Path.{◌≡◌, ap}
use Rattle.std.specs.declared.option.Option.{Option}
use Rattle.std.specs.Prelude.{None, Some}
use mathlib.Core.Bool.{Bool, true, false, not}
use mathlib.Core.List.{List}
use Prim.Native.Nat.{ℕ, zero, suc, ◌+◌, ◌*◌, ◌≤◌}
use native.Mathlib.Omega.{arith}
use lib.Dec.{eqb}
use Rattle.model.specs.Graph.{Domain}
use Rattle.model.specs.Tree.{Tree, node, closed_at, least, Going, on, found, over, Growth, taken, ticket_of, ticket, grow}
use Rattle.model.specs.Sound.{tree}
use Rattle.model.specs.Search.{entry, goals, lookup, grown, turn_by, turn, bound, Walk, round, rounds}

module _ (d : Domain) (gs : List ℕ) (b : Option ℕ) (t : Tree) where
  abbrev pub growth : Growth
  growth = grow d gs b 10 (record { tree = t; tickets = 0; going = on })

  pub turn-found : (known : Option ℕ) (n : ℕ) → lookup d t gs known ≡ Some n → turn d gs b t known ≡ record { tree = t; known = None; find = Some n; more = false; tickets = 0 }
  unfolding turn
  turn-found known n e = ap (turn_by d gs b t) e

  pub turn-grown : (known : Option ℕ) → lookup d t gs known ≡ None → turn d gs b t known ≡ grown growth b
  unfolding turn
  turn-grown known e = ap (turn_by d gs b t) e

-- ---- tickets

module _ (d : Domain) (gs : List ℕ) (b : Option ℕ) where
  taken-few : (t : Tree) (k n : ℕ) (q : Bool) → (taken d gs b t k n q).tickets ≤ suc k
  unfolding taken
  taken-few t k n true = omega arith
  taken-few t k n false = omega arith

  ticket-few : (t : Tree) (k : ℕ) (g : Going) → (ticket d gs b t k g).tickets ≤ suc k
  unfolding ticket
  ticket-few t k on = go (least t.nodes t.waiting)
    where
      go : (o : Option ℕ) → (ticket_of d gs b t k o).tickets ≤ suc k
      go None = omega arith
      go (Some n) = taken-few t k n (not (eqb (closed_at t.closed (node t.nodes n).vertex) 0))
  ticket-few t k (found i) = omega arith
  ticket-few t k over = omega arith

  pub grow-few : (j : ℕ) (g : Growth) → (grow d gs b j g).tickets ≤ j + g.tickets
  unfolding grow
  grow-few zero g = omega arith
  grow-few (suc j) g =
      let next : Growth = ticket d gs b g.tree g.tickets g.going in
      omega (arith, grow-few j next, ticket-few g.tree g.tickets g.going)

turn_by-few : (d : Domain) (gs : List ℕ) (b : Option ℕ) (t : Tree) (f : Option ℕ) → (turn_by d gs b t f).tickets ≤ 10
unfolding turn_by grown
turn_by-few d gs b t None = omega (arith, grow-few d gs b 10 (record { tree = t; tickets = 0; going = on }))
turn_by-few d gs b t (Some n) = omega arith

pub turn-few : (d : Domain) (gs : List ℕ) (b : Option ℕ) (t : Tree) (known : Option ℕ) → (turn d gs b t known).tickets ≤ 10
unfolding turn
turn-few d gs b t known = turn_by-few d gs b t (lookup d t gs known)

round-few : (d : Domain) (i : ℕ) (w : Walk) → (round d i w).tickets ≤ 10 + w.tickets
unfolding round
round-few d i w =
    let s = w.search in
    let e = entry s i in
    omega (arith, turn-few d (goals s) (bound d w.trees s) (tree w.trees e.tree) e.last_known_closed_len)

pub rounds-few : (d : Domain) (k i : ℕ) (w : Walk) → (rounds d k i w).tickets ≤ 10 * k + w.tickets
unfolding rounds
rounds-few d zero i w = omega arith
rounds-few d (suc k) i w = omega (arith, rounds-few d k (suc i) (round d i w), round-few d i w)
