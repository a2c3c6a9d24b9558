use Rattle.model.specs.Valid.{closes_goal}
use Rattle.sound.proofs.Kept.{kept-used}
use Rattle.sound.proofs.InUse.{words-formed, words-vertex, words-value}
use Rattle.memory.proofs.closes_goal.Goals as goal

pub is_closed_goal-requires : goal.is_closed_goal-requires
is_closed_goal-requires c =
    let u = kept-used c.args.used.used in
    record { formed = words-formed u c.own_words.ensures c.edges.ensures; vertices = words-vertex u c.own_words.ensures c.edges.ensures }

pub returns : goal.returns
returns c =
    words-value (kept-used c.args.used.used) c.own_words.ensures c.edges.ensures (λ t. closes_goal c.args.goals.now t c.args.node) c.is_closed_goal.ensures
