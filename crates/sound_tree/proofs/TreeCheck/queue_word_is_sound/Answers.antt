use Rattle.std.proofs.Common.{rules, ◌≡◌, ◌+◌, get_or}
use Rattle.layout.specs.Layout.{vertex_in}
use Rattle.sound_tree.proofs.QueueTests.{no_node, twice, parent-node, before_parent, after-parent, first_word, marked-next}
use Rattle.sound_tree.proofs.TreeCheck.queue_word_is_sound.Goals.{else-i-gt0-via-then-i-gt0+else-precedes, else-i-gt0-via-else-i-gt0}
use Rattle.sound_tree.proofs.TreeCheck.queue_word_is_sound.Goals as goal

pub returns-then-self-node : goal.returns-then-self-node
returns-then-self-node c = search (rules, no_node)

pub returns-then-marks-node : goal.returns-then-marks-node
returns-then-marks-node c = search (rules, twice)

pub precedes-requires : goal.precedes-requires
precedes-requires c = search (rules, parent-node)

pub returns-then-precedes : goal.returns-then-precedes
returns-then-precedes c = search (rules, before_parent)

pub returns : goal.returns
returns c =
    let vertex : c.vertex-vertex.result ≡ vertex_in c.args.self.words.now c.args.self.tree.now (get_or c.args.self.tree.now (c.queue_at-queue.result + c.args.i) 0) = cc in
    elim c.else-i-gt0.branch [
      | else-i-gt0-via-then-i-gt0+else-precedes w ↦ search (rules, marked-next, after-parent)
      | else-i-gt0-via-else-i-gt0 w ↦ search (rules, marked-next, first_word)
    ]
