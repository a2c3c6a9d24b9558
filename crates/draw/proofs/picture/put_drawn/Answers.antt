use Rattle.draw.proofs.Pictures.{drawn-put, refused-drawn, never-short}
use Rattle.draw.proofs.picture.put_drawn.Goals as goal

pub returns-in-Ok : goal.returns-in-Ok
returns-in-Ok c = drawn-put _ _ _ _ c.in-Ok.n c.in-Ok.ensures

pub returns-in-Err-Chart : goal.returns-in-Err-Chart
returns-in-Err-Chart c =
    let r = refused-drawn _ _ _ _ c.in-Err-Chart.refused (rw c.in-Err-Chart.field-0-is at c.in-Err-Chart.ensures) in
    let put = rw (r.0, c.number.ensures) at c.put_refused.ensures in
    rw r.1 put

pub returns-in-Err-ShortDrawing : goal.returns-in-Err-ShortDrawing
returns-in-Err-ShortDrawing c =
    absurd (never-short _ _ _ _ (rw c.in-Err-ShortDrawing.field-0-is at c.in-Err-ShortDrawing.ensures) c.requires)
