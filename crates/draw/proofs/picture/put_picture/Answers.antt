use Rattle.std.proofs.Common.{rules, tests}
use Rattle.draw.proofs.Pictures.{picture-overlong, picture-plain, picture-refused, picture-found}
use Rattle.draw.proofs.picture.put_picture.Goals as goal

pub returns-then-chart-gt-MAX_BYTES : goal.returns-then-chart-gt-MAX_BYTES
returns-then-chart-gt-MAX_BYTES c = search (rules, tests, picture-overlong)

pub returns-in_default : goal.returns-in_default
returns-in_default c = rw (c.in_default.is, picture-plain c.args.chart.now c.if-chart-gt-MAX_BYTES.false) c.put_drawn.ensures

pub returns-in-Ok : goal.returns-in-Ok
returns-in-Ok c =
    rw (c.in-Some.is, picture-found c.args.chart.now c.if-chart-gt-MAX_BYTES.false c.in-Some.order.now c.in-Ok.n c.find_path.new.path c.in-Ok.ensures.1) c.put_drawn-in-Ok.ensures

pub returns-in-Err : goal.returns-in-Err
returns-in-Err c =
    rw (c.in-Some.is, picture-refused c.args.chart.now c.if-chart-gt-MAX_BYTES.false c.in-Some.order.now c.in-Err.refused c.in-Err.ensures c.number-in-Err.ensures) c.put_refused-in-Err.ensures
