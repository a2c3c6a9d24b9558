use Rattle.std.proofs.Common.{tests, rules}
use Rattle.std.proofs.lemmas.Grind.{merely}
use Rattle.entry_turns.proofs.Grown.{can-remember, grown-turns}
use Rattle.entry_turns.proofs.grow_tree.Goals as goal

pub invariant_of-remember : goal.invariant_of-remember
invariant_of-remember c = record { used = merely (can-remember c.requires c.grow-growth.ensures) }

pub returns : goal.returns
returns c = search (rules, tests, grown-turns)
