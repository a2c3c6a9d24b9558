use Rattle.std.proofs.Common.{tests, rules}
use Rattle.entry_turns.proofs.First.{none-under, first_fits, some-under}
use Rattle.entry_turns.proofs.has_ticket_under.Goals as goal

pub returns-then-tree-eq0 : goal.returns-then-tree-eq0
returns-then-tree-eq0 c = search (rules, tests, none-under, some-under)

pub returns : goal.returns
returns c = search (rules, tests, none-under, first_fits, some-under)
