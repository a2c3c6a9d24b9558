use Rattle.std.proofs.Common.{arith, rules}
use Rattle.put_text.proofs.Decimals.{decimal-length}
use Rattle.put_text.proofs.Puts.{puts_then}
use Rattle.order_lines.proofs.Words.{spaced-later}
use Rattle.order_lines.proofs.answers.put_spaced.Goals as goal

-- src/answers.rt:111:9
pub put_word-requires : goal.put_word-requires
put_word-requires c = search (rules, decimal-length)

-- src/answers.rt:114:5
pub put_word-requires-2 : goal.put_word-requires-2
put_word-requires-2 c = search (rules, decimal-length)

-- src/answers.rt:106:1
pub returns : goal.returns
returns c = rw (spaced-later _ _ c.if-i-eq0.false) (puts_then (omega arith) c.put_byte-a.ensures c.put_word-2.ensures)
