use Rattle.std.proofs.Common.{arith, rules}
use Rattle.drawing.proofs.Joined.{lines_start, lines-room, lines_next}
use Rattle.drawing.proofs.Picture.put_vertices.Goals as goal

pub loop-v-init : goal.loop-v-init
loop-v-init c = search (rules, lines_start)

pub put_vertex-end-requires : goal.put_vertex-end-requires
put_vertex-end-requires c =
    let below = rw c.header-v-end.ensures at c.loop-v-test.true in
    (below, lines-room _ _ _ _ _ below c.loop-v.auto.out c.loop-v.invariant c.requires)

pub loop-v-preserved : goal.loop-v-preserved
loop-v-preserved c = lines_next _ _ _ _ (omega (arith, c.requires)) c.loop-v.invariant c.put_vertex-end.ensures
