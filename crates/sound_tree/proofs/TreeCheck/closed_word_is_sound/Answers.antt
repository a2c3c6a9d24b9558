use Rattle.std.proofs.Common.{rules}
use Rattle.sound_tree.proofs.Closers.{first_fits}
use Rattle.sound_tree.proofs.TreeCheck.closed_word_is_sound.Goals as goal

pub evaluation-requires-else-self-eq0 : goal.evaluation-requires-else-self-eq0
evaluation-requires-else-self-eq0 c = search (rules, first_fits)
