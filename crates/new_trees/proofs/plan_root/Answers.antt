use Rattle.std.proofs.Common.{rules}
use Rattle.new_trees.proofs.PlanRoot.{plan-skips, plan-shares, plan-plants}
use Rattle.new_trees.proofs.plan_root.Goals as goal

pub returns-then-is_none : goal.returns-then-is_none
returns-then-is_none c = search (rules, plan-skips)

pub returns-then-slot-ne0 : goal.returns-then-slot-ne0
returns-then-slot-ne0 c = search (rules, plan-shares)

pub returns : goal.returns
returns c = search (rules, plan-plants)
