use Rattle.std.proofs.Common.{rules, ◌∙◌, sym}
use Rattle.sound.proofs.Facts.{sound-words-at}
use Rattle.planner.proofs.Solved.{not_sound, on-sound}
use Rattle.planner.proofs.solve.Goals as goal

pub returns-then-not-is_sound : goal.returns-then-not-is_sound
returns-then-not-is_sound c = not_sound (sym c.is_sound.ensures ∙ c.if-not-is_sound.true)

pub solve-requires : goal.solve-requires
solve-requires c = search (rules, sound-words-at)

pub returns : goal.returns
returns c = on-sound _ _ (sym c.is_sound.ensures ∙ c.if-not-is_sound.false) _ c.solve.result c.solve.new.words c.solve.ensures
