use Rattle.std.proofs.Common.{rules}
use Rattle.sound.proofs.InUse.{has-slot}
use Rattle.memory.proofs.Kept.{kept-node}
use Rattle.unchecked.proofs.Nodes.{is-hung, moves-are}
use Rattle.unchecked.proofs.shown.moves.Goals as goal

pub moves-requires : goal.moves-requires
moves-requires c = search (rules, is-hung (kept-node c.args.held.held))

pub slot_words-requires : goal.slot_words-requires
slot_words-requires c = has-slot (kept-node c.args.held.held).used

pub returns : goal.returns
returns c = search (rules, moves-are (kept-node c.args.held.held))
