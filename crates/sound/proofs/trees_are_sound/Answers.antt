use Rattle.std.proofs.Common.{arith, rules}
use Rattle.sound.proofs.Cache.{trees-in, trees-reads, spare-from}
use Rattle.sound.proofs.trees_are_sound.Goals as goal

pub trees_in_use_are_sound-requires : goal.trees_in_use_are_sound-requires
trees_in_use_are_sound-requires c = search (rules, trees-in)

pub slice_bounds-is_zero-count : goal.slice_bounds-is_zero-count
slice_bounds-is_zero-count c = search (rules, spare-from)

pub slice_bounds-is_zero-start : goal.slice_bounds-is_zero-start
slice_bounds-is_zero-start c = search (rules, spare-from)

pub returns-then-trees_in_use_are_sound : goal.returns-then-trees_in_use_are_sound
returns-then-trees_in_use_are_sound c =
    grind (arith, trees-reads c.requires c.graph_size-size.ensures.0 c.graph_size-size.ensures.1 c.header-trees.ensures c.header.ensures c.slot_at-at.ensures c.slot_at-end.ensures)

pub returns-else-trees_in_use_are_sound : goal.returns-else-trees_in_use_are_sound
returns-else-trees_in_use_are_sound c =
    grind (arith, trees-reads c.requires c.graph_size-size.ensures.0 c.graph_size-size.ensures.1 c.header-trees.ensures c.header.ensures c.slot_at-at.ensures c.slot_at-end.ensures)
