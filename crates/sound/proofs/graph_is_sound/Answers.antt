use Rattle.std.proofs.Common.{arith}
use Rattle.sound.proofs.Cache.{can-index, graph-reads}
use Rattle.sound.proofs.graph_is_sound.Goals as goal

pub index_is_sound-requires : goal.index_is_sound-requires
index_is_sound-requires c = can-index c.args.words.now c.requires c.graph_size-size.ensures.0 c.graph_size-size.ensures.1 (grind arith)

pub returns-then-edges_are_sound : goal.returns-then-edges_are_sound
returns-then-edges_are_sound c = grind (arith, graph-reads c.args.words.now c.requires c.graph_size-size.ensures.0 c.graph_size-size.ensures.1)

pub returns-else-edges_are_sound : goal.returns-else-edges_are_sound
returns-else-edges_are_sound c = grind (arith, graph-reads c.args.words.now c.requires c.graph_size-size.ensures.0 c.graph_size-size.ensures.1)
