use Rattle.std.proofs.Common.{rules}
use Rattle.tree.proofs.Closed.{close-new}
use Rattle.tree.proofs.partial_keyed_closed_set.close.Goals as goal

pub returns : goal.returns
returns c = search (rules, close-new)
