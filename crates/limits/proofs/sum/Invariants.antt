-- The sum stays below the number that it is divided by.
use Rattle.std.proofs.Common.{◌<◌}
use Rattle.limits.proofs.sum.Given as goal

abbrev pub invariant-loop-word : goal.invariant-loop-word
invariant-loop-word l = l.sum < 4294967291
