use Rattle.std.proofs.Common.{rules, ◌∙◌, sym}
use Rattle.sound.proofs.Facts.{sound-words-at}
use Rattle.dijkstra.proofs.Stepped.{on-sound}
use Rattle.dijkstra.proofs.step.Goals as goal

pub step-requires : goal.step-requires
step-requires c = search (rules, sound-words-at)

pub returns : goal.returns
returns c = on-sound _ _ (sym c.is_sound.ensures ∙ c.if-not-is_sound.false) c.step.result c.step.new.words c.step.ensures
