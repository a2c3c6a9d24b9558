use Rattle.std.proofs.Common.{arith, rules}
use Rattle.order_lines.proofs.Words.{words-room, words-start, words-next}
use Rattle.order_lines.proofs.answers.put_words.Goals as goal

pub loop-i-init : goal.loop-i-init
loop-i-init c = search (rules, words-start)

pub put_spaced-end-requires : goal.put_spaced-end-requires
put_spaced-end-requires c =
    let room = words-room _ _ _ _ _ _ c.loop-i-test.true c.loop-i.invariant.1 c.requires in
    omega arith

pub loop-i-preserved : goal.loop-i-preserved
loop-i-preserved c =
    (omega arith, words-next _ _ _ _ (omega arith) c.loop-i-test.true c.loop-i.invariant.1 c.put_spaced-end.ensures)
