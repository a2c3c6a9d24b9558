use Rattle.std.proofs.Common.{arith, rules}
use Rattle.put_text.proofs.Decimals.{decimal-length}
use Rattle.put_text.proofs.Puts.{puts_then}
use Rattle.order_lines.proofs.Words.{field_end, answer-length, path-length, line-text}
use Rattle.order_lines.proofs.answers.put_line.Goals as goal

-- src/answers.rt:33:9
pub put_field-a-requires : goal.put_field-a-requires
put_field-a-requires c = search (rules, decimal-length)

-- src/answers.rt:34:9
pub put_answer-b-requires : goal.put_answer-b-requires
put_answer-b-requires c = search (rules, decimal-length, field_end)

-- src/answers.rt:35:9
pub put_field-c-requires : goal.put_field-c-requires
put_field-c-requires c = search (rules, answer-length, decimal-length, field_end)

-- src/answers.rt:36:9
pub put_field-d-requires : goal.put_field-d-requires
put_field-d-requires c = search (rules, answer-length, decimal-length, field_end)

-- src/answers.rt:37:9
pub put_run-e-requires : goal.put_run-e-requires
put_run-e-requires c = search (rules, answer-length, decimal-length, field_end)

-- src/answers.rt:38:5
pub put_byte-requires : goal.put_byte-requires
put_byte-requires c = search (rules, answer-length, decimal-length, field_end, path-length)

-- src/answers.rt:28:1
pub returns : goal.returns
returns c =
    let a = field_end _ c.put_field-a.ensures in
    let b = answer-length c.args.line.answer in
    let w = field_end _ c.put_field-c.ensures in
    let t = field_end _ c.put_field-d.ensures in
    let run = puts_then (omega arith) c.put_run-e.ensures c.put_byte.ensures in
    let tickets = puts_then (omega arith) c.put_field-d.ensures run in
    let waits = puts_then (omega arith) c.put_field-c.ensures tickets in
    let answer = puts_then (omega arith) c.put_answer-b.ensures waits in
    rw (line-text c.args.line c.args.path.now) (puts_then (omega arith) c.put_field-a.ensures answer)
