use Rattle.std.proofs.Common.{arith, rules}
use Rattle.put_text.proofs.Puts.{puts_then}
use Rattle.put_text.proofs.Decimals.{decimal-length}
use Rattle.order_lines.proofs.Words.{refused-length}
use Rattle.order_lines.proofs.answers.put_answer.Goals as goal

-- src/answers.rt:67:13
pub put_field-requires : goal.put_field-requires
put_field-requires c = search (rules, decimal-length)

-- src/answers.rt:72:13
pub put_bytes-requires-in-Refused : goal.put_bytes-requires-in-Refused
put_bytes-requires-in-Refused c = search (rules, refused-length)

-- src/answers.rt:60:1
pub returns-in-Solved : goal.returns-in-Solved
returns-in-Solved c = rw c.in-Solved.is (puts_then (omega arith) c.put_bytes-a.ensures c.put_field.ensures)

-- src/answers.rt:60:1
pub returns-in-Refused : goal.returns-in-Refused
returns-in-Refused c = rw c.in-Refused.is (puts_then (omega arith) c.put_refused_by-a.ensures c.put_bytes-in-Refused.ensures)
