use native.Mathlib.Omega.{arith}
use Rattle.sound.proofs.Kept.{kept-sound}
use Rattle.sound.proofs.known.SoundCache.vertices.Goals as goal

pub header-requires : goal.header-requires
header-requires c = (omega arith, (kept-sound c.args.self.sound).header)
