use Rattle.std.proofs.Common.{ap, ◌∙◌}
use Rattle.std.specs.Slice.Iter.{iter_rest}
use Rattle.std.specs.Iterator.Adapters.{skip_source, skip_count}
use Rattle.drawing.proofs.Marks.{filled-start, filled_next, filled-end, shorter}
use Rattle.drawing.proofs.bold.standing.Goals as goal

pub loop-word-init : goal.loop-word-init
loop-word-init c =
    filled-start _ _ _ _ c.step_by-word-items.ensures.step_minus_one c.step_by-word-items.ensures.first_take
    (ap (λ u. iter_rest (skip_source u)) c.step_by-word-items.ensures.source ∙ ap iter_rest c.skip.ensures.source ∙ c.iter.ensures.rest)
    (ap skip_count c.step_by-word-items.ensures.source ∙ c.skip.ensures.count ∙ c.from.ensures)
    c.into_iter-word-iterator.ensures.into_iter_gives

pub loop-word-smaller : goal.loop-word-smaller
loop-word-smaller c = shorter c.loop-word.word-iterator c.next.new.self c.in-Some.word c.in-Some.ensures.steps

pub loop-word-preserved : goal.loop-word-preserved
loop-word-preserved c = rw c.mark.ensures (filled_next _ _ _ _ _ c.in-Some.word c.loop-word.invariant c.in-Some.ensures.steps)

pub returns : goal.returns
returns c = filled-end _ _ _ _ _ c.loop-word.invariant c.in-None.ensures.steps
