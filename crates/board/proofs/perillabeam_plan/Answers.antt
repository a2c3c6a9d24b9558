use Rattle.std.proofs.Common.{tests, rules}
use Rattle.board.proofs.Told.{plan-told}
use Rattle.board.proofs.perillabeam_plan.Goals as goal

pub returns : goal.returns
returns c = search (rules, tests, plan-told)
