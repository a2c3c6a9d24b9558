use Rattle.std.proofs.Common.{rules}
use Rattle.tree.proofs.Popped.{pop-is}
use Rattle.tree.proofs.pop.Goals as goal

pub returns : goal.returns
returns c = search (rules, pop-is)
