use Rattle.std.proofs.Common.{sym, ◌∙◌, subst, List, ℕ}
use Rattle.std.proofs.lemmas.Result.{err_from_is_err_and}
use Rattle.model.specs.Answers.{Reply}
use Rattle.draw.specs.Picture.{FoundIs}
use Rattle.draw.proofs.Pictures.{form-within, ordered, ordered-none}
use Rattle.draw.proofs.picture.find_path.Goals as goal

pub returns-in_err-read : goal.returns-in_err-read
returns-in_err-read c =
    let p = err_from_is_err_and c.from_residual.result c.from_residual.ensures.1 in
    rw (p.1, p.2) (ordered-none _ _ _ _ c.read_order.ensures c.in_err-read.ensures.value)

pub find_in-requires : goal.find_in-requires
find_in-requires c = (form-within c.in_ok-read.read.form c.direction.result c.direction.ensures, c.requires)

pub returns : goal.returns
returns c =
    let read = sym c.in_ok-read.ensures.ok_part ∙ c.read_order.ensures in
    let path = ordered _ _ c.in_ok-read.read read c.direction.ensures c.deref.ensures c.deref-2.ensures in
    subst (λ (x : Reply (List ℕ)). FoundIs c.find_in.result c.find_in.new.path x) path c.find_in.ensures
