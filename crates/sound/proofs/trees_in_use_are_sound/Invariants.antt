use Rattle.std.proofs.Common.{◌≡◌, true}
use Rattle.sound.specs.Check.{treesb}
use Rattle.model.specs.Sound.{starts as starts_of}
use Rattle.layout.specs.Layout.{vertices_in, edges_in}
use Rattle.layout.specs.Read.{read_trees}
use Rattle.sound_tree.specs.Check.{Marked}
use Rattle.sound.proofs.trees_in_use_are_sound.Given as goal

abbrev pub invariant-loop-i : goal.invariant-loop-i
invariant-loop-i l =
    (treesb l.i l.words ≡ true) × Marked l.starts 1024 (starts_of (read_trees (vertices_in l.words) (edges_in l.words) l.i l.words))
