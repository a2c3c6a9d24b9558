use Rattle.std.proofs.Common.{rules}
use Rattle.drawing.proofs.Drawn.{held-short, held-drawn}
use Rattle.drawing.proofs.draw_held.Goals as goal

pub returns-then-out-vertices : goal.returns-then-out-vertices
returns-then-out-vertices c = search (rules, held-short)

pub returns : goal.returns
returns c =
    held-drawn c.args.words.now c.args.path.now c.args.out.now c.requires c.reached-marks.result
    (rw (c.header-edges.ensures, c.header-vertices.ensures) at c.if-out-vertices.false) c.reached-marks.ensures c.put_drawing.ensures
