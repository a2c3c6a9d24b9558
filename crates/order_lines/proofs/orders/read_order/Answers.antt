use Rattle.std.proofs.Common.{rules, tests}
use Rattle.order_lines.proofs.OrderFields.{order_fields}
use Rattle.order_lines.proofs.orders.read_order.Goals as goal

pub returns-in_default : goal.returns-in_default
returns-in_default c =
    let fields = order_fields _ c.args.line.now _ _ _ _ _ _ _ _ _ _ c.next.ensures.steps c.next-2.ensures.steps c.next-3.ensures.steps c.next-4.ensures.steps c.split-fields.ensures.rest c.split-fields.ensures.done c.split-fields.ensures.closure (λ x y q k. search (rules, tests)) in
    search rules

pub returns-in_default-2 : goal.returns-in_default-2
returns-in_default-2 c =
    let fields = order_fields _ c.args.line.now _ _ _ _ _ _ _ _ _ _ c.next.ensures.steps c.next-2.ensures.steps c.next-3.ensures.steps c.next-4.ensures.steps c.split-fields.ensures.rest c.split-fields.ensures.done c.split-fields.ensures.closure (λ x y q k. search (rules, tests)) in
    search rules

pub returns-in_default-3 : goal.returns-in_default-3
returns-in_default-3 c =
    let fields = order_fields _ c.args.line.now _ _ _ _ _ _ _ _ _ _ c.next.ensures.steps c.next-2.ensures.steps c.next-3.ensures.steps c.next-4.ensures.steps c.split-fields.ensures.rest c.split-fields.ensures.done c.split-fields.ensures.closure (λ x y q k. search (rules, tests)) in
    search rules

pub returns-in_err-read_letter : goal.returns-in_err-read_letter
returns-in_err-read_letter c =
    let fields = order_fields _ c.args.line.now _ _ _ _ _ _ _ _ _ _ c.next.ensures.steps c.next-2.ensures.steps c.next-3.ensures.steps c.next-4.ensures.steps c.split-fields.ensures.rest c.split-fields.ensures.done c.split-fields.ensures.closure (λ x y q k. search (rules, tests)) in
    search rules

pub returns-in_err-read_list : goal.returns-in_err-read_list
returns-in_err-read_list c =
    let fields = order_fields _ c.args.line.now _ _ _ _ _ _ _ _ _ _ c.next.ensures.steps c.next-2.ensures.steps c.next-3.ensures.steps c.next-4.ensures.steps c.split-fields.ensures.rest c.split-fields.ensures.done c.split-fields.ensures.closure (λ x y q k. search (rules, tests)) in
    search rules

pub returns-in_err-read_list-2 : goal.returns-in_err-read_list-2
returns-in_err-read_list-2 c =
    let fields = order_fields _ c.args.line.now _ _ _ _ _ _ _ _ _ _ c.next.ensures.steps c.next-2.ensures.steps c.next-3.ensures.steps c.next-4.ensures.steps c.split-fields.ensures.rest c.split-fields.ensures.done c.split-fields.ensures.closure (λ x y q k. search (rules, tests)) in
    search rules

pub returns : goal.returns
returns c =
    let fields = order_fields _ c.args.line.now _ _ _ _ _ _ _ _ _ _ c.next.ensures.steps c.next-2.ensures.steps c.next-3.ensures.steps c.next-4.ensures.steps c.split-fields.ensures.rest c.split-fields.ensures.done c.split-fields.ensures.closure (λ x y q k. search (rules, tests)) in
    search rules
