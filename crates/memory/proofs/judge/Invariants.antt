use Rattle.memory.proofs.Valid.{Passed}
use Rattle.memory.proofs.judge.Given as goal

abbrev pub invariant-loop-i : goal.invariant-loop-i
invariant-loop-i l = Passed l.words l.fn.search l.least l.i
