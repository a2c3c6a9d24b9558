use native.Mathlib.Omega.{arith}
use Rattle.sound.proofs.Kept.{kept-used}
use Rattle.sound.proofs.known.TreeInUse.edges.Goals as goal

pub header-requires : goal.header-requires
header-requires c = (omega arith, (kept-used c.args.self.used).sound.header)
