use Rattle.text.proofs.Splits.{pieces_left}
use Rattle.order_lines.proofs.Lists.{Reading}
use Rattle.order_lines.proofs.orders.read_list.Given as goal

abbrev pub invariant-loop-number : goal.invariant-loop-number
invariant-loop-number l = Reading l.fn.b l.field l.list (pieces_left l.fn.b l.number-iterator)
