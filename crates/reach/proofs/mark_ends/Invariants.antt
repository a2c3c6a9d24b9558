use Rattle.reach.proofs.Ends.{Ending}
use Rattle.reach.proofs.mark_ends.Given as goal

abbrev pub invariant-loop-edge : goal.invariant-loop-edge
invariant-loop-edge l = Ending l.size.vertices l.size.edges l.words l.vertex l.initial.marks l.initial.list.items l.marks l.list.items l.edge-iterator
