use Rattle.std.proofs.Common.{rules}
use Rattle.order_lines.specs.Answers.{refused_line}
use Rattle.put_text.proofs.Puts.{puts_then}
use Rattle.order_lines.proofs.Words.{refused-length}
use Rattle.order_lines.proofs.answers.put_refused.Goals as goal

-- src/answers.rt:47:5
pub put_byte-requires : goal.put_byte-requires
unfolding refused_line
put_byte-requires c = search (rules, refused-length)

-- src/answers.rt:42:1
pub returns : goal.returns
unfolding refused_line
returns c = search (rules, puts_then)
