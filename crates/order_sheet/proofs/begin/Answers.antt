use Rattle.std.proofs.Common.{◌≤◌, sym, ◌∙◌, refl, length, arith, rules}
use borrow.Author.Tests.{ltb-false}
use Rattle.order_run.specs.Lent.{max_bytes}
use Rattle.order_sheet.specs.Whole.{title}
use Rattle.order_sheet.proofs.Whole.{begin-refused, overlong-chart, overlong-orders, chart-refused, begin-opened}
use Rattle.order_sheet.proofs.begin.Goals.{then-is_overlong-via-then-is_overlong, then-is_overlong-via-else-is_overlong+then-is_overlong-2}
use Rattle.order_sheet.proofs.begin.Goals as goal

pub returns-then-is_overlong : goal.returns-then-is_overlong
returns-then-is_overlong c =
    begin-refused _ 4 _ _
    (elim c.then-is_overlong.branch [
      | then-is_overlong-via-then-is_overlong w ↦ overlong-chart _ _ (sym w.if-is_overlong.true ∙ c.is_overlong.ensures)
      | then-is_overlong-via-else-is_overlong+then-is_overlong-2 w ↦ overlong-orders _ _ (sym w.if-is_overlong.false ∙ c.is_overlong.ensures)
          (sym w.if-is_overlong-2.true ∙ w.is_overlong-else-is_overlong.ensures)
    ])
    c.refused_sheet.ensures

pub returns-in-Err : goal.returns-in-Err
returns-in-Err c =
    begin-refused _ _ _ _
    (chart-refused _ _ (sym c.if-is_overlong.false ∙ c.is_overlong.ensures) (sym c.if-is_overlong-2.false ∙ c.is_overlong-else-is_overlong.ensures)
    _ _ 0 _ refl (search rules) c.in-Err.ensures)
    c.refused_sheet-in-Err.ensures

pub returns-in-Err-open : goal.returns-in-Err-open
returns-in-Err-open c =
    begin-refused _ _ _ _
    (chart-refused _ _ (sym c.if-is_overlong.false ∙ c.is_overlong.ensures) (sym c.if-is_overlong-2.false ∙ c.is_overlong-else-is_overlong.ensures)
    _ _ 1 _ refl (search rules) c.in-Err-open.ensures)
    c.refused_sheet-in-Err-open.ensures

pub returns : goal.returns
unfolding title
returns c =
    let short = sym c.if-is_overlong.false ∙ c.is_overlong.ensures in
    let fewer = sym c.if-is_overlong-2.false ∙ c.is_overlong-else-is_overlong.ensures in
    let few : length c.args.orders.now ≤ max_bytes = omega (arith, ltb-false max_bytes (length c.args.orders.now) (sym fewer)) in
    begin-opened _ _ short fewer _ _ (search rules) few c.in_default.ensures c.in_default-open.ensures c.put_bytes.ensures
