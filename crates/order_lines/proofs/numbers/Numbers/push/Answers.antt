use Rattle.std.proofs.Common.{rules, refl}
use Rattle.order_lines.proofs.Lists.{kept_more, kept_full}
use Rattle.order_lines.proofs.numbers.Numbers.push.Goals as goal

-- src/orders.rt:81:5
pub returns-then-fits : goal.returns-then-fits
returns-then-fits c = λ l e. kept_more c.args.self.now l e c.args.n _ c.if-fits.true (search rules) refl

-- src/orders.rt:81:5
pub returns-else-fits : goal.returns-else-fits
returns-else-fits c = λ l e. kept_full c.args.self.now l e c.args.n c.if-fits.false
