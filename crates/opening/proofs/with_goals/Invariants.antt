use Rattle.std.proofs.Common.{length, ◌-◌, ◌≡◌, ◌+◌, ◌≤◌, drop}
use Rattle.opening.specs.Initialize.{with_goals}
use Rattle.opening.proofs.with_goals.Given as goal

abbrev pub invariant-loop-goal : goal.invariant-loop-goal
invariant-loop-goal l =
    (l.search.goal_count + (length l.goals - l.goal-index) ≤ 64) × (with_goals l.search (drop l.goal-index l.goals) ≡ with_goals l.initial.search l.goals)
