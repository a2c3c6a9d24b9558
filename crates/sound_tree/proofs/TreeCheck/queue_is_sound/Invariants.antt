use Rattle.sound_tree.specs.Check.{QueueIs}
use mathlib.Core.Bool.{true}
use Rattle.sound_tree.proofs.TreeCheck.queue_is_sound.Given as goal

abbrev pub invariant-loop-i : goal.invariant-loop-i
invariant-loop-i l = QueueIs l.self.edges l.self.words.now l.self.tree.now l.i true l.marks l.costs
