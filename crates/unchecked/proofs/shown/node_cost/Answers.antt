use Rattle.std.proofs.Common.{rules}
use Rattle.sound.proofs.InUse.{has-slot}
use Rattle.memory.proofs.Kept.{kept-node}
use Rattle.unchecked.proofs.Nodes.{node-fits, cost-is}
use Rattle.unchecked.proofs.shown.node_cost.Goals as goal

pub node_of-requires : goal.node_of-requires
node_of-requires c = search (rules, node-fits (kept-node c.args.held.held))

pub slot_words-requires : goal.slot_words-requires
slot_words-requires c = has-slot (kept-node c.args.held.held).used

pub returns : goal.returns
returns c = search (rules, cost-is (kept-node c.args.held.held))
