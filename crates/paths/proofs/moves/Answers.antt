use Rattle.std.proofs.Common.{rules}
use Rattle.paths.proofs.Counted.{count_turn, count-end}
use Rattle.paths.proofs.moves.Goals as goal

pub loop-at-preserved : goal.loop-at-preserved
loop-at-preserved c = search (rules, count_turn)

pub returns : goal.returns
returns c = search (rules, count-end)
