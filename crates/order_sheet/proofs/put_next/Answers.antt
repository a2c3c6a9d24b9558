use Rattle.std.proofs.Common.{arith}
use Rattle.text.proofs.LineCuts.{place-within}
use Rattle.order_sheet.proofs.Whole.{put_last, put-line}
use Rattle.order_sheet.proofs.put_next.Goals as goal

pub overflow_add-end : goal.overflow_add-end
overflow_add-end c =
    omega (arith, place-within c.args.orders.now c.args.part.at c.find.ensures)

pub returns-then-end-orders : goal.returns-then-end-orders
returns-then-end-orders c =
    put_last _ c.requires.left c.requires.can c.find.ensures c.if-end-orders.true (rw c.number.ensures at c.put_refusal.ensures)

pub slice_bounds-line-end : goal.slice_bounds-line-end
slice_bounds-line-end c =
    omega (arith, place-within c.args.orders.now c.args.part.at c.find.ensures)

pub overflow_add-result : goal.overflow_add-result
overflow_add-result c =
    omega (arith, place-within c.args.orders.now c.args.part.at c.find.ensures)

pub returns : goal.returns
returns c =
    put-line _ c.requires.left c.requires.can c.find.ensures c.if-end-orders.false c.put_order.ensures
