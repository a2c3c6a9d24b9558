use Rattle.std.proofs.Common.{tests, rules}
use Rattle.board.proofs.Told.{has_room, solve-told}
use Rattle.board.proofs.perillabeam_solve.Goals as goal

pub keep-requires : goal.keep-requires
keep-requires c = search (rules, has_room)

pub returns : goal.returns
returns c = search (rules, tests, solve-told)
