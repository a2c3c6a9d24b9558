use Rattle.layout.specs.Layout.{edges_in}
use Rattle.reach.proofs.Starts.{Starting}
use Rattle.reach.proofs.mark_starts.Given as goal

abbrev pub invariant-loop-v : goal.invariant-loop-v
invariant-loop-v l = Starting l.vertices (edges_in l.words) l.words l.marks l.list l.v
