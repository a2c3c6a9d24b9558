use Rattle.std.proofs.Common.{rules}
use Rattle.std.proofs.lemmas.Grind.{merely}
use Rattle.sound.proofs.Kept.{kept-used}
use Rattle.memory.proofs.Entries.{best-has-node}
use Rattle.memory.proofs.best_is_valid.Goals as goal

pub invariant_of-solution_cost : goal.invariant_of-solution_cost
invariant_of-solution_cost c = search (rules, merely, best-has-node, kept-used c.args.used.used)
