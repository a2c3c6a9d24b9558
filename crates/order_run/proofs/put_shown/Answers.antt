use Rattle.std.proofs.Common.{tests, rules}
use Rattle.order_run.proofs.Sizes.{path-fits, path-text, short-text}
use Rattle.order_run.proofs.Texts.{puts-as}
use Rattle.order_run.proofs.put_shown.Goals as goal

pub returns-in-Ok : goal.returns-in-Ok
returns-in-Ok c = search (rules, tests, path-fits, path-text, puts-as, short-text)
