use native.Mathlib.Omega.{arith}
use Rattle.std.proofs.Common.{◌∙◌, sym, refl, tests, rules}
use Rattle.model.specs.Steps.{at_first}
use Rattle.entry_turns.proofs.Round.{best-place}
use Rattle.unchecked.proofs.Waits.{advances-few, waited-few}
use Rattle.unchecked.proofs.Solved.{ends-here}
use Rattle.unchecked.proofs.Underway.{going-first, going-length, going-can, going-ends, going-advances, going_more, going-shows, going-answers}
use Rattle.unchecked.proofs.solve.Goals as goal

pub returns-then-not-is_waiting : goal.returns-then-not-is_waiting
returns-then-not-is_waiting c =
    ends-here _ _ c.requires (omega arith) at_first c.standing-answer.result c.standing-answer.ensures
    (sym c.is_waiting.ensures ∙ c.if-not-is_waiting.true) refl

pub loop-waits-init : goal.loop-waits-init
loop-waits-init c =
    going-first c.requires c.standing-answer.result c.standing-answer.ensures (sym c.is_waiting.ensures ∙ c.if-not-is_waiting.false)

pub offset_bounds-next-best_entry : goal.offset_bounds-next-best_entry
offset_bounds-next-best_entry c = search (rules, best-place (going-can c.loop-waits.invariant) c.best_entry.ensures)

pub bounds-next-best_entry : goal.bounds-next-best_entry
bounds-next-best_entry c = search (rules, tests, best-place, going-can, going-length, waited-few)

pub last_answer-requires : goal.last_answer-requires
last_answer-requires c = search (rules, going-shows)

pub returns-then-next : goal.returns-then-next
returns-then-next c = search (rules, going-answers)

pub step_trees-turned-requires : goal.step_trees-turned-requires
step_trees-turned-requires c = search (rules, going-can)

pub overflow_add-tickets : goal.overflow_add-tickets
overflow_add-tickets c =
    let g = c.loop-waits.invariant in
    let few = advances-few (going-advances g c.if-next.false c.step_trees-turned.ensures) in
    record { fits = omega (arith, few, waited-few g.waited, c.loop-waits-test.true, c.ranges.steps.fits) }

pub loop-waits-preserved : goal.loop-waits-preserved
loop-waits-preserved c = search (rules, going_more)

pub returns : goal.returns
returns c = search (rules, going-ends)
