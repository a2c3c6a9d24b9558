use Rattle.std.proofs.Common.{tests, rules}
use Rattle.sound.proofs.Kept.{kept-used}
use Rattle.sound.proofs.InUse.{words-formed}
use Rattle.entry_turns.proofs.Entries.{remembers}
use Rattle.entry_turns.proofs.remember.Goals as goal

pub invariant_of-closed : goal.invariant_of-closed
invariant_of-closed c =
    record { formed = words-formed (kept-used c.args.used.used) c.own_words-tree.ensures c.edges-edges.ensures }

pub has_ticket_under-requires : goal.has_ticket_under-requires
has_ticket_under-requires c = words-formed (kept-used c.args.used.used) c.own_words-tree.ensures c.edges-edges.ensures

pub returns : goal.returns
returns c = search (rules, tests, remembers (kept-used c.args.used.used))
