use Rattle.std.proofs.Common.{rules}
use Rattle.board.proofs.Told.{retrace-told, told-number, told-moves}
use Rattle.board.proofs.perillabeam_retrace.Goals as goal

pub returns : goal.returns
returns c = search (rules, retrace-told, told-number, told-moves)
