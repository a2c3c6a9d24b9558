use Rattle.std.proofs.Common.{arith, refl}
use Rattle.reach.proofs.Ends.{can-find, ending-none, ending-all, can-follow, can-mark-end, ending-one}
use Rattle.reach.proofs.mark_ends.Goals as goal

pub first_place-place-requires : goal.first_place-place-requires
first_place-place-requires c = can-find c.requires _ (omega arith)

pub first_place-end-requires : goal.first_place-end-requires
first_place-end-requires c = can-find c.requires _ (omega arith)

pub loop-edge-init : goal.loop-edge-init
loop-edge-init c =
    ending-none c.requires c.numbers_at-numbers.ensures c.slots_at-slots.ensures c.first_place-place.ensures
    c.first_place-end.ensures refl c.edges_from-edge-items.ensures c.into_iter-edge-iterator.ensures.into_iter_gives

pub edge_of-edge-requires : goal.edge_of-edge-requires
edge_of-edge-requires c = can-follow c.loop-edge.invariant c.in-Some.ensures.steps

pub mark-requires : goal.mark-requires
mark-requires c =
    can-mark-end c.loop-edge.invariant c.in-Some.ensures.steps c.edge_of-edge.ensures.1.0

pub loop-edge-preserved : goal.loop-edge-preserved
loop-edge-preserved c =
    ending-one c.loop-edge.invariant c.in-Some.ensures.steps c.edge_of-edge.ensures.1.0
    c.mark.ensures

pub returns : goal.returns
returns c = ending-all c.loop-edge.invariant c.in-None.ensures.steps
