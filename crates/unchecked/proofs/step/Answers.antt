use Rattle.std.proofs.Common.{rules}
use Rattle.unchecked.proofs.Solved.{one-advances}
use Rattle.unchecked.proofs.step.Goals as goal

pub returns : goal.returns
returns c = search (rules, one-advances)
