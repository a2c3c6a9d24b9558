use Rattle.std.proofs.Common.{◌∙◌, ap, subst, List, ℕ, length}
use Rattle.std.proofs.Math.ListN.{length-replicate}
use Rattle.std.proofs.lemmas.Result.{err_from_is_err_and}
use Rattle.model.specs.Answers.{Reply}
use Rattle.draw.specs.Picture.{found_by, FoundIs}
use Rattle.draw.proofs.Pictures.{find-refused, find-few, find-opened, found-is}
use Rattle.draw.proofs.picture.find_in.Goals as goal

pub returns-in_err-open : goal.returns-in_err-open
returns-in_err-open c =
    let a = c.args in
    let p = err_from_is_err_and c.from_residual.result c.from_residual.ensures.1 in
    rw (p.1, p.2) (find-refused a.chart.now a.direction c.requires.0 c.open.new.words a.starts.now a.goals.now _ c.in_err-open.ensures)

pub path_found-requires : goal.path_found-requires
path_found-requires c =
    let a = c.args in
    find-few a.chart.now a.direction c.requires.0 c.open.new.words _ _ a.path.now c.requires.1 c.plan.result _ _ c.plan.ensures

pub returns : goal.returns
returns c =
    let a = c.args in
    let r = c.plan.result in
    let q = c.plan.new.path in
    let few = find-few a.chart.now a.direction c.requires.0 c.open.new.words a.starts.now a.goals.now a.path.now c.requires.1 r _ _ c.plan.ensures in
    let is = find-opened a.chart.now a.direction c.requires.0 c.open.new.words a.starts.now a.goals.now a.path.now c.requires.1 r _ _ c.plan.ensures c.in_ok-open.ensures in
    let long = c.plan.auto.path ∙ ap length c.requires.1 ∙ length-replicate {A = ℕ} 2047 0 in
    rw c.path_found.ensures (subst (λ (x : Reply (List ℕ)). FoundIs (found_by r.answer r.has_path) q x) is (found-is r.answer r.has_path q long few))
