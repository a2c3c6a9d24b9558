use Rattle.std.proofs.Common.{rules}
use Rattle.tree.proofs.Added.{push-open, push-within, push-above}
use Rattle.tree.proofs.push_node.Goals.{in_default-via-in-None-1, in_default-via-in-Some+else-evaluation-evaluation_of}
use Rattle.tree.proofs.push_node.Goals as goal

pub returns : goal.returns
returns c = search (rules, push-within)

pub returns-2 : goal.returns-2
returns-2 c =
    elim c.in_default.branch [
      | in_default-via-in-None-1 w ↦ search (rules, push-open)
      | in_default-via-in-Some+else-evaluation-evaluation_of w ↦ search (rules, push-above)
    ]
