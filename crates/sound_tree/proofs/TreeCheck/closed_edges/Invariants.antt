use Rattle.std.proofs.Common.{◌≡◌, ◌≤◌}
use Rattle.sound_tree.proofs.Edges.{leaving}
use Rattle.sound_tree.proofs.TreeCheck.closed_edges.Given as goal

abbrev pub invariant-loop-e : goal.invariant-loop-e
invariant-loop-e l = (l.count ≤ l.e) × (l.count ≡ leaving l.self.vertices l.self.edges l.self.words.now l.self.tree.now l.e)
