use Rattle.std.proofs.Common.{tests, rules}
use Rattle.sound.proofs.InUse.{has-slot}
use Rattle.entry_turns.proofs.Entries.{can-look-up, looked-up}
use Rattle.entry_turns.proofs.look_up.Goals as goal

pub returns : goal.returns
returns c = search (rules, tests, can-look-up, has-slot, looked-up)
