use Rattle.std.proofs.Common.{rules}
use Rattle.tree.proofs.Counted.{counted-all}
use Rattle.tree.proofs.partial_keyed_closed_set.PartialKeyedClosedSet.closed_keys_len.Goals as goal

pub returns : goal.returns
returns c = search (rules, counted-all)
