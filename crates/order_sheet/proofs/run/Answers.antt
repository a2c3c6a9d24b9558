use Rattle.std.proofs.Common.{rules}
use borrow.Rule.Slice.PartMut.{same_len_mid}
use Rattle.order_sheet.specs.Sheet.{WrittenSoFar}
use Rattle.order_sheet.proofs.Whole.{written-more, written_same, written_next}
use Rattle.order_sheet.proofs.run.Goals.{then-filled, else-filled}
use Rattle.order_sheet.proofs.run.Goals as goal

pub loop-part-preserved : goal.loop-part-preserved
loop-part-preserved c =
    let w = c.loop-part.invariant.so_far in
    let so_far : WrittenSoFar c.args.chart.now c.args.orders.now c.loop-part.lent.forward c.loop-part.lent.backward c.loop-part.out c.if-filled.filled c.loop-part.part =
    elim c.if-filled.branch [ then-filled a ↦ written-more a.filled-is w | else-filled a ↦ written_same a.filled-is w ] in
    record {
      space = search (rules, same_len_mid);
      so_far = written_next so_far c.put_next-part.ensures _;
    }
