use Rattle.std.proofs.Common.{rules}
use Rattle.cache.proofs.Opening.{can-sized, open-short, open-fits}
use Rattle.cache.proofs.open_sized.Goals as goal

pub invariant_of-size : goal.invariant_of-size
invariant_of-size c = search (rules, can-sized)

pub returns-then-words-needed : goal.returns-then-words-needed
returns-then-words-needed c = search (rules, open-short)

pub returns : goal.returns
returns c = search (rules, open-fits)
