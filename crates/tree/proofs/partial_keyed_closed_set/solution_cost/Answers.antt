use Rattle.std.proofs.Common.{rules}
use Rattle.tree.proofs.Goals.{solution-in}
use Rattle.tree.proofs.partial_keyed_closed_set.solution_cost.Goals as goal

pub returns : goal.returns
returns c = search (rules, solution-in)
