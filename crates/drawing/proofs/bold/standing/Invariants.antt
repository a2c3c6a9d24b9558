use Rattle.std.proofs.Common.{length}
use Rattle.drawing.proofs.Marks.{Filled, left_of}
use Rattle.drawing.proofs.bold.standing.Given as goal

abbrev pub invariant-loop-word : goal.invariant-loop-word
invariant-loop-word l = Filled l.first l.path l.table l.word-iterator

abbrev pub decreases-loop-word : goal.decreases-loop-word
decreases-loop-word l = length (left_of l.word-iterator)
