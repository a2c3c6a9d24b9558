use Rattle.std.proofs.Common.{◌-◌}
use Rattle.model.specs.Solve.{max_steps}
use Rattle.unchecked.proofs.Running.{Running}
use Rattle.unchecked.proofs.run_opened.Given as goal

abbrev pub invariant-loop-next : goal.invariant-loop-next
invariant-loop-next l = Running l.initial.words l.initial.next l.words l.next l.waits l.tickets

abbrev pub decreases-loop-next : goal.decreases-loop-next
decreases-loop-next l = max_steps - l.waits
