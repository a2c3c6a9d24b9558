use Rattle.std.proofs.Common.{rules}
use Rattle.sound.proofs.Facts.{sound-words-at}
use Rattle.damaged_cache.proofs.try_grow.Goals as goal

pub grow-grown-requires : goal.grow-grown-requires
grow-grown-requires g c = search (rules, sound-words-at)
