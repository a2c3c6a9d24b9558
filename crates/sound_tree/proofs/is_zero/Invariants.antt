use Rattle.std.proofs.Common.{◌≡◌}
use Rattle.layout.specs.Sound.{zerosb}
use mathlib.Core.Bool.{◌&&◌}
use lib.Dec.{eqb}
use lib.ListN.{drop}
use Rattle.sound_tree.proofs.is_zero.Given as goal

abbrev pub invariant-loop-word : goal.invariant-loop-word
invariant-loop-word l = zerosb l.words ≡ (eqb l.bits 0 && zerosb (drop l.word-index l.words))
