use Rattle.std.proofs.Common.{◌≡◌, None, sym, ◌∙◌, rules, tests}
use Rattle.text.proofs.Splits.{pieces-start, pieces-end, next_piece}
use Rattle.order_lines.proofs.Lists.{list-none, reading-start, reading-none, reading-next, reading-end}
use Rattle.order_lines.proofs.orders.read_list.Goals as goal

pub returns-then-is_empty : goal.returns-then-is_empty
returns-then-is_empty c = list-none _ _ (search (rules, tests)) c.empty_list-list.ensures

pub loop-number-init : goal.loop-number-init
loop-number-init c = search (rules, reading-start, pieces-start)

pub returns-in_err-read_number : goal.returns-in_err-read_number
returns-in_err-read_number c =
    let piece = next_piece c.args.b c.loop-number.yielded c.loop-number.number-iterator _ c.in-Some.number c.loop-number.yielded_by c.in-Some.is c.next.ensures.steps c.into_iter-number-iterator.ensures.into_iter_gives c.split-number-items.ensures.closure (λ y o q k. search (rules, tests)) in
    let none : c.from_residual.result ≡ None = search rules in
    none ∙ reading-none c.loop-number.invariant piece (sym c.read_number.ensures ∙ c.in_err-read_number.was)

pub loop-number-preserved : goal.loop-number-preserved
loop-number-preserved c =
    let piece = next_piece c.args.b c.loop-number.yielded c.loop-number.number-iterator _ c.in-Some.number c.loop-number.yielded_by c.in-Some.is c.next.ensures.steps c.into_iter-number-iterator.ensures.into_iter_gives c.split-number-items.ensures.closure (λ y o q k. search (rules, tests)) in
    search (rules, tests, reading-next)

pub returns : goal.returns
returns c = reading-end c.loop-number.invariant (pieces-end _ _ _ _ c.in-None.is c.next.ensures.steps)
