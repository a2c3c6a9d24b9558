use Rattle.std.proofs.Common.{rules}
use Rattle.reach.proofs.Starts.{starting-none, starting-skip, starting-one, starting-all}
use Rattle.reach.proofs.mark_starts.Goals.{then-is_some, else-is_some}
use Rattle.reach.proofs.mark_starts.Goals as goal

pub loop-v-init : goal.loop-v-init
loop-v-init c = search (rules, starting-none)

pub loop-v-preserved : goal.loop-v-preserved
loop-v-preserved c =
    elim c.if-is_some.branch [ then-is_some w ↦ search (rules, starting-one) | else-is_some w ↦ search (rules, starting-skip) ]

pub returns : goal.returns
returns c = search (rules, starting-all)
