-- Numbers that lie at an edge: a limit, a bound, a tie and an order of refusals, each computed where a slightly different definition
-- would give another answer.
-- Assumes nothing.
use mathlib.Core.Path.{◌≡◌, refl}
use mathlib.Core.List.{[], ◌∷◌}
use Rattle.model.specs.Answers.{answered, solved}
use Rattle.model.specs.Graph.{Graph, forward, backward, absent}
use Rattle.model.specs.Calls.{opened}
use Rattle.model.specs.Demands.{wait_limit}
use Rattle.model.proofs.Examples.{Told, turned_away, order, row, little, fork}

-- ---- "at most 1 + trees × (1 + links) times"

-- the different starts with a start cost are 0 and 1
limit-forward : wait_limit forward little (0 ∷ 0 ∷ 1 ∷ 3 ∷ []) (2 ∷ []) ≡ 9
unfolding wait_limit little
limit-forward = refl

-- the different wanted motifs are 2, 3 and 0; starts and start costs are not looked at
limit-backward : wait_limit backward little (0 ∷ 1 ∷ []) (2 ∷ 3 ∷ 2 ∷ 0 ∷ 2 ∷ []) ≡ 13
unfolding wait_limit little
limit-backward = refl

-- ---- "a queue whose first cost is under the bound": not one of equal cost

-- from 0 to 1, 2 and 3 at cost 1
unfoldable pub three : Graph
three =
    record {
      initial = 0 ∷ absent ∷ absent ∷ absent ∷ [];
      edges = record { from = 0; to = 1; cost = 1 } ∷ record { from = 0; to = 2; cost = 1 } ∷ record { from = 0; to = 3; cost = 1 } ∷ [];
    }

-- F,0,1 2: after the second find vertex 3 waits at 1, and the search is finished
waits-at-the-bound : row (order (opened forward three 16) (0 ∷ []) (1 ∷ 2 ∷ [])) ≡ record { reply = answered (solved 1 1); waits = 2; tickets = 3; path = 0 ∷ 1 ∷ 2 ∷ [] }
unfolding row order opened three
waits-at-the-bound = refl

-- ---- "the cheapest closed wanted motif, first in the list on ties"

-- F,0,1 2 closes both
unfoldable pub both_closed : Told
unfolding order opened fork
both_closed = order (opened forward fork 16) (0 ∷ []) (1 ∷ 2 ∷ [])

first-in-the-list : row (order both_closed.cache (0 ∷ []) (2 ∷ 1 ∷ [])) ≡ record { reply = answered (solved 1 1); waits = 1; tickets = 0; path = 0 ∷ 1 ∷ 2 ∷ [] }
unfolding row order both_closed
first-in-the-list = refl

first-in-the-other : row (order both_closed.cache (0 ∷ []) (1 ∷ 2 ∷ [])) ≡ record { reply = answered (solved 1 1); waits = 1; tickets = 0; path = 0 ∷ 0 ∷ 1 ∷ [] }
unfolding row order both_closed
first-in-the-other = refl

-- ---- "opening a search 7, 4, 3, 6": one slot, two starts with an initial cost, and 9 is no vertex

number-before-slots : order (opened forward little 1) (0 ∷ 1 ∷ 9 ∷ []) (2 ∷ []) ≡ turned_away (opened forward little 1) 3
unfolding order opened little
number-before-slots = refl
