use Rattle.std.proofs.Common.{rules}
use Rattle.sound_tree.proofs.Edges.{closed-there}
use Rattle.sound_tree.proofs.TreeCheck.closed_edges.Goals as goal

pub bounds-self-closed : goal.bounds-self-closed
bounds-self-closed c = search (rules, closed-there)
