use Rattle.std.proofs.Common.{◌-◌}
use Rattle.model.specs.Limits.{vertex_limit}
use Rattle.reach.proofs.Taken.{Taking}
use Rattle.reach.proofs.reached.Given as goal

abbrev pub invariant-loop-taken : goal.invariant-loop-taken
invariant-loop-taken l = Taking l.size.vertices l.size.edges l.words l.marks l.list.items l.taken

-- proposed from the loop's first test
abbrev pub decreases-loop-taken : goal.decreases-loop-taken
decreases-loop-taken l = vertex_limit - l.taken
