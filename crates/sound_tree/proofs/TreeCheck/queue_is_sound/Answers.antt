use Rattle.std.proofs.Common.{rules}
use Rattle.sound_tree.proofs.QueueTests.{queue-none, queue-fails}
use Rattle.sound_tree.proofs.TreeCheck.queue_is_sound.Goals as goal

pub loop-i-init : goal.loop-i-init
loop-i-init c = search (rules, queue-none)

pub returns-then-not-queue_word_is_sound : goal.returns-then-not-queue_word_is_sound
returns-then-not-queue_word_is_sound c = search (rules, queue-fails)
