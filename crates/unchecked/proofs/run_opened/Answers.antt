use native.Mathlib.Omega.{arith}
use Rattle.std.proofs.Common.{◌∙◌, rules}
use Rattle.unchecked.proofs.ShownNode.{holder-is, held-status}
use Rattle.unchecked.proofs.Waits.{advances-few, waited-few}
use Rattle.unchecked.proofs.Running.{running-first, running-can, running-advances, running_more, running-shows, running-ends}
use Rattle.unchecked.proofs.run_opened.Goals as goal

pub loop-next-init : goal.loop-next-init
loop-next-init c = search (rules, running-first)

pub step_trees-stepped-requires : goal.step_trees-stepped-requires
step_trees-stepped-requires c = search (rules, running-can)

pub overflow_add-tickets : goal.overflow_add-tickets
overflow_add-tickets c =
    let g = c.loop-next.invariant in
    record { fits = omega (arith, advances-few (running-advances g c.loop-next-test.true c.step_trees-stepped.ensures), waited-few g.waited, g.within) }

pub loop-next-preserved : goal.loop-next-preserved
loop-next-preserved c = search (rules, running_more)

pub held_in-requires : goal.held_in-requires
held_in-requires c =
    running-shows c.loop-next.invariant c.loop-next-test.false (c.shown_of-shown.ensures ∙ holder-is c.loop-next.next c.best_entry.ensures)

pub returns : goal.returns
returns c =
    running-ends c.loop-next.invariant c.loop-next-test.false (c.shown_of-shown.ensures ∙ holder-is c.loop-next.next c.best_entry.ensures)
    c.status_of.result (c.status_of.ensures ∙ held-status _ _ _ c.held_in.ensures)
