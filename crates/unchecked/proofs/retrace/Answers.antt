use Rattle.std.proofs.Common.{◌∙◌, sym, ap, subst, Ok}
use Rattle.memory.specs.Standing.{Stands}
use Rattle.unchecked.proofs.RetracedNode.{held-retraced}
use Rattle.unchecked.proofs.Retraced.{not_valid, not-finished, shown-retraced}
use Rattle.unchecked.proofs.retrace.Goals as goal

pub returns-in-Err : goal.returns-in-Err
returns-in-Err c =
    let k = subst (Stands c.args.cache.words.now c.args.search) c.in-Err.is c.judge.ensures in
    not_valid _ _ _ k.1

pub returns-in-Ok-Unfinished : goal.returns-in-Ok-Unfinished
returns-in-Ok-Unfinished c =
    let k = subst (Stands c.args.cache.words.now c.args.search) (c.in-Ok-Unfinished.is ∙ ap Ok c.in-Ok-Unfinished.field-0-is) c.judge.ensures in
    not-finished _ _ _ k.0 k.1

pub returns-in-Ok-Finished : goal.returns-in-Ok-Finished
returns-in-Ok-Finished c =
    let k = subst (Stands c.args.cache.words.now c.args.search) (c.in-Ok-Finished.is ∙ ap Ok c.in-Ok-Finished.field-0-is) c.judge.ensures in
    held-retraced _ _ _ k.1.1 _ _ _ c.retrace_shown.ensures ∙ sym (shown-retraced _ _ _ k.0 k.1.0)
