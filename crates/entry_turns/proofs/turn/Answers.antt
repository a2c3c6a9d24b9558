use Rattle.std.proofs.Common.{tests, rules}
use Rattle.entry_turns.proofs.Grown.{turns-grown, turns-found}
use Rattle.entry_turns.proofs.turn.Goals as goal

pub returns-in-None : goal.returns-in-None
returns-in-None c = search (rules, tests, turns-grown)

pub returns-in-Some : goal.returns-in-Some
returns-in-Some c = search (rules, tests, turns-found, turns-grown)
