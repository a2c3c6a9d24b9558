-- A refused call of `step_in_place` leaves words and record.
-- Assumes nothing.
use Rattle.dijkstra.proofs.Demand1 as calls
use Rattle.in_place.specs.Lent.{stepped_as, Demand1}

pub demand-1 : Demand1
demand-1 ws s s' r left p f e = (calls.demand-1).1 ws s (stepped_as r s') left p f e
