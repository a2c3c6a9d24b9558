use Rattle.std.proofs.Common.{tests, rules}
use Rattle.entry_turns.proofs.LookedUp.{known-finds, unknown-finds}
use Rattle.entry_turns.proofs.look_up_in.Goals as goal

pub returns-then-is_known : goal.returns-then-is_known
returns-then-is_known c = search (rules, tests, known-finds, unknown-finds)

pub returns : goal.returns
returns c = search (rules, tests, known-finds, unknown-finds)
