use Rattle.std.proofs.Common.{rules}
use Rattle.tree.proofs.Added.{can-queue, node-added}
use Rattle.tree.proofs.add_node.Goals as goal

pub push-requires : goal.push-requires
push-requires c = search (rules, can-queue)

pub returns : goal.returns
returns c = search (rules, node-added)
