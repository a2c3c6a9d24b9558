use Rattle.std.proofs.Common.{rules, tests}
use Rattle.text.proofs.Numbers.{digit-none, digit-read, digits_more, digits-end}
use Rattle.text.proofs.bytes.digits.Goals as goal

pub returns-then-not-is_ascii_digit : goal.returns-then-not-is_ascii_digit
returns-then-not-is_ascii_digit c = search (rules, tests, digit-none)

pub loop-b-preserved : goal.loop-b-preserved
loop-b-preserved c = search (rules, tests, digit-read, digits_more)

pub returns : goal.returns
returns c = search (rules, digits-end)
