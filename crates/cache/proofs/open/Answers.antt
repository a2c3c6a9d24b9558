use Rattle.std.proofs.Common.{rules}
use Rattle.std.proofs.lemmas.Result.{err_from_is_err_and}
use Rattle.cache.proofs.Opening.{open-direction, open-no-slot, open-many-slots, open-fault, open-sizes}
use Rattle.cache.proofs.open.Goals.{then-direction-gt1-via-then-direction-gt1, then-direction-gt1-via-else-direction-gt1+then-slots-eq0, then-direction-gt1-via-else-direction-gt1+else-slots-eq0+then-slots-gt-MAX_SLOTS}
use Rattle.cache.proofs.open.Goals as goal

pub returns-then-direction-gt1 : goal.returns-then-direction-gt1
returns-then-direction-gt1 c =
    elim c.then-direction-gt1.branch [
      | then-direction-gt1-via-then-direction-gt1 w ↦ search (rules, open-direction)
      | then-direction-gt1-via-else-direction-gt1+then-slots-eq0 w ↦ search (rules, open-no-slot)
      | then-direction-gt1-via-else-direction-gt1+else-slots-eq0+then-slots-gt-MAX_SLOTS w ↦ search (rules, open-many-slots)
    ]

pub returns-in_err-counts : goal.returns-in_err-counts
returns-in_err-counts c = let p = err_from_is_err_and c.from_residual.result c.from_residual.ensures.1 in rw (p.1, p.2) (search (rules, open-fault))

pub returns : goal.returns
returns c = let e = c.in_ok-counts.was {u = tt} in search (rules, open-sizes, e)
