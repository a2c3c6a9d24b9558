use Rattle.std.proofs.Common.{arith, rules}
use Rattle.put_text.proofs.Decimals.{decimal-length}
use Rattle.put_text.proofs.Puts.{puts_then}
use Rattle.drawing.proofs.lines.put_numbered.Goals as goal

pub put_word-requires : goal.put_word-requires
put_word-requires c = search (rules, decimal-length)

pub returns : goal.returns
returns c = puts_then (omega arith) c.put_bytes-a.ensures c.put_word.ensures
