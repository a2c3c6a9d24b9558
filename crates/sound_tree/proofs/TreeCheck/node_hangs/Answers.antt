use Rattle.std.proofs.Common.{rules}
use Rattle.sound_tree.proofs.Edges.{closed-there}
use Rattle.sound_tree.proofs.TreeCheck.node_hangs.Goals as goal

pub bounds-self-closed_at : goal.bounds-self-closed_at
bounds-self-closed_at c = search (rules, closed-there)
