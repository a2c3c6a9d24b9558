use Rattle.std.proofs.Common.{tests, rules}
use Rattle.board.proofs.Told.{initialize-told, initialize-refused}
use Rattle.board.proofs.perillabeam_initialize.Goals as goal

pub returns-in-Ok : goal.returns-in-Ok
returns-in-Ok c = search (rules, tests, initialize-told)

pub returns-in-Err : goal.returns-in-Err
returns-in-Err c = search (rules, tests, initialize-refused)
