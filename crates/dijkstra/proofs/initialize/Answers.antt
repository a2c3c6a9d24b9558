use Rattle.std.proofs.Common.{rules, ◌∙◌, sym}
use Rattle.sound.proofs.Facts.{sound-words-at}
use Rattle.dijkstra.proofs.Initialized.{on-sound}
use Rattle.dijkstra.proofs.initialize.Goals as goal

pub initialize-requires : goal.initialize-requires
initialize-requires c = search (rules, sound-words-at)

pub returns : goal.returns
returns c = on-sound _ _ _ (sym c.is_sound.ensures ∙ c.if-not-is_sound.false) c.initialize.result c.initialize.new.words c.initialize.ensures
