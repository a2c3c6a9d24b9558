use Rattle.std.proofs.Common.{arith}
use Rattle.put_text.proofs.Puts.{puts_then}
use Rattle.put_text.proofs.put_field.Goals as goal

pub returns : goal.returns
returns c = puts_then (omega arith) c.put_decimal-a.ensures c.put_byte.ensures
