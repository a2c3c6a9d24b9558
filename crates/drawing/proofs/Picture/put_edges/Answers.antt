use Rattle.std.proofs.Common.{arith, rules}
use Rattle.drawing.proofs.Joined.{lines_start, lines-room, lines_next}
use Rattle.drawing.proofs.Picture.put_edges.Goals as goal

pub loop-e-init : goal.loop-e-init
loop-e-init c = search (rules, lines_start)

pub put_edge-end-requires : goal.put_edge-end-requires
put_edge-end-requires c =
    let below = rw c.header-e-end.ensures at c.loop-e-test.true in
    (below, lines-room _ _ _ _ _ below c.loop-e.auto.out c.loop-e.invariant c.requires)

pub loop-e-preserved : goal.loop-e-preserved
loop-e-preserved c = lines_next _ _ _ _ (omega (arith, c.requires)) c.loop-e.invariant c.put_edge-end.ensures
