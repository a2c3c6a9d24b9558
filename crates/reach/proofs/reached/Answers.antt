use Rattle.std.proofs.Common.{ap, get_or, List, ℕ}
use Rattle.reach.proofs.Taken.{taking-one, taking-all}
use Rattle.reach.proofs.reached.Goals as goal

pub loop-taken-preserved : goal.loop-taken-preserved
loop-taken-preserved c =
    taking-one c.loop-taken.invariant (rw c.len.ensures.value at c.loop-taken-test.true)
    (ap (λ (xs : List ℕ). get_or xs c.loop-taken.taken 0) c.deref.ensures.0) c.mark_ends.ensures

pub returns : goal.returns
returns c =
    taking-all c.loop-taken.invariant (rw c.len.ensures.value at c.loop-taken-test.false)
    c.graph_size-size.ensures.0 c.graph_size-size.ensures.1
