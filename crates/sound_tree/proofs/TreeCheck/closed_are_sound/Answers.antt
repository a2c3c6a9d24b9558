use Rattle.std.proofs.Common.{rules, refl}
use borrow.Author.Tests.{tests}
use Rattle.sound_tree.proofs.Ranges.{all_upto}
use Rattle.sound_tree.proofs.TreeCheck.closed_are_sound.Goals as goal

pub returns : goal.returns
returns c = all_upto c.all.ensures.ran _ _ (λ x b q k. search (rules, tests)) refl
