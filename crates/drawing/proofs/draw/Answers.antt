use Rattle.std.proofs.lemmas.Result.{err_from_is_err_and}
use Rattle.drawing.proofs.Drawn.{draw-holds, draw-opened, draw-refused}
use Rattle.drawing.proofs.draw.Goals as goal

pub returns-in_err-open : goal.returns-in_err-open
returns-in_err-open c = let p = err_from_is_err_and c.from_residual.result c.from_residual.ensures.1 in rw (p.1, p.2) (draw-refused _ _ _ _ _ c.in_err-open.ensures)

pub draw_held-requires : goal.draw_held-requires
draw_held-requires c = draw-holds _ _ c.in_ok-open.ensures

pub returns : goal.returns
returns c = draw-opened _ _ _ _ _ c.in_ok-open.ensures c.draw_held.ensures
