use Rattle.std.proofs.Common.{rules}
use Rattle.new_trees.proofs.Roots.{matches-none, matches-next}
use Rattle.new_trees.proofs.plan.Goals as goal

pub loop-root-init : goal.loop-root-init
loop-root-init c = search (rules, matches-none)

pub loop-root-preserved : goal.loop-root-preserved
loop-root-preserved c = search (rules, matches-next)
