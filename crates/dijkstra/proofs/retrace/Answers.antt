use Rattle.std.proofs.Common.{rules}
use Rattle.std.proofs.lemmas.Grind.{merely}
use Rattle.sound.proofs.Facts.{sound-words-at}
use Rattle.dijkstra.proofs.retrace.Goals as goal

pub invariant_of-retrace : goal.invariant_of-retrace
invariant_of-retrace c = search (rules, merely, sound-words-at)
