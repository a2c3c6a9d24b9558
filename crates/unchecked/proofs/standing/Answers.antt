use Rattle.std.proofs.Common.{◌∙◌, sym, ap, subst, Ok}
use Rattle.std.proofs.lemmas.Result.{err_from_is_err_and}
use Rattle.model.specs.Answers.{answered}
use Rattle.memory.specs.Standing.{Stands}
use Rattle.unchecked.proofs.ShownNode.{held-status, status-is}
use Rattle.unchecked.proofs.Advanced.{not_valid, finished, waits}
use Rattle.unchecked.proofs.standing.Goals as goal

pub returns-in_err-judge : goal.returns-in_err-judge
returns-in_err-judge c =
    let p = err_from_is_err_and c.from_residual.result c.from_residual.ensures.1 in
    let k = subst (Stands c.args.cache.words.now c.args.search) (c.in_err-judge.was {u = tt}) c.judge.ensures in
    rw (p.1, p.2, k.0) (sym (not_valid _ _ k.1))

pub returns-in-Unfinished : goal.returns-in-Unfinished
returns-in-Unfinished c =
    let k = subst (Stands c.args.cache.words.now c.args.search) (c.in_ok-judge.was {u = tt} ∙ ap Ok c.in-Unfinished.is) c.judge.ensures in
    sym (waits _ _ k.0 k.1)

pub returns-in-Finished : goal.returns-in-Finished
returns-in-Finished c =
    let k = subst (Stands c.args.cache.words.now c.args.search) (c.in_ok-judge.was {u = tt} ∙ ap Ok c.in-Finished.is) c.judge.ensures in
    ap answered (c.status_of.ensures ∙ held-status _ _ _ k.1.1 ∙ status-is _ c.args.search) ∙ sym (finished _ c.args.search k.0 k.1.0)
