use Rattle.sound.proofs.Kept.{kept-used}
use Rattle.sound.proofs.InUse.{has-slot}
use Rattle.sound.proofs.known.TreeInUse.own_words.Goals as goal

pub slot_words-requires : goal.slot_words-requires
slot_words-requires c = has-slot (kept-used c.args.self.used)
