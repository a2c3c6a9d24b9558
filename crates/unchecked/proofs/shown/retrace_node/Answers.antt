use native.Mathlib.Omega.{arith}
use Rattle.std.proofs.Common.{rules}
use Rattle.sound.proofs.InUse.{has-slot}
use Rattle.memory.proofs.Kept.{kept-node}
use Rattle.unchecked.proofs.RetracedNode.{few-moves, can-backtrack, path-written}
use Rattle.unchecked.proofs.shown.retrace_node.Goals as goal

pub overflow_mul-count : goal.overflow_mul-count
overflow_mul-count c = record { fits = omega (arith, few-moves (kept-node c.args.held.held) c.moves-count.ensures) }

pub overflow_add-count : goal.overflow_add-count
overflow_add-count c = record { fits = omega (arith, few-moves (kept-node c.args.held.held) c.moves-count.ensures) }

pub backtrack-requires : goal.backtrack-requires
backtrack-requires c = search (rules, can-backtrack (kept-node c.args.held.held))

pub returns : goal.returns
returns c = search (rules, path-written (kept-node c.args.held.held))

pub slot_words-tree-requires : goal.slot_words-tree-requires
slot_words-tree-requires c = has-slot (kept-node c.args.held.held).used
