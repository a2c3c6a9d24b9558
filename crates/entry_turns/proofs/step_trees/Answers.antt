use Rattle.std.proofs.Common.{rules, ◌≡◌, ◌∙◌, sym, ap, Bool, arith}
use Rattle.model.specs.declared.Search.{Search}
use Rattle.model.specs.Search.{remembered, unfinished_if}
use Rattle.entry_turns.proofs.Held.{with_found}
use Rattle.entry_turns.proofs.Round.{best-place, can-bound, bound-is, can-turn, can-record, few-tickets, rounds}
use Rattle.entry_turns.proofs.Walked.{walked_none, has-entry, goals-lent, walked-few, walked_next, walked_all}
use Rattle.entry_turns.proofs.step_trees.Goals as goal
use Rattle.entry_turns.proofs.step_trees.Goals.{then-r, else-r, in-Some, in_default, in-Some-judge, in_default-judge, Joined-r, Joined-r-2, Joined-judge}

pub loop-i-init : goal.loop-i-init
loop-i-init c = search (rules, walked_none)

pub offset_bounds-next-best_entry : goal.offset_bounds-next-best_entry
offset_bounds-next-best_entry c = search (rules, best-place (has-entry c.loop-i.invariant c.loop-i-test.true).can c.best_entry.ensures)

pub bounds-next-best_entry : goal.bounds-next-best_entry
bounds-next-best_entry c = best-place (has-entry c.loop-i.invariant c.loop-i-test.true).can c.best_entry.ensures

pub cost_bound-bound-requires : goal.cost_bound-bound-requires
cost_bound-bound-requires c = can-bound (has-entry c.loop-i.invariant c.loop-i-test.true) c.best_entry.ensures

pub turn-r-requires : goal.turn-r-requires
turn-r-requires c = search (rules, can-turn, goals-lent, has-entry)

-- the record with the count, with the mark, and with the find
counted : (c : Joined-r) → c.match-r.next ≡ remembered c.loop-i.next c.loop-i.i c.turn-r.result.known
counted c =
    elim c.match-r.branch [
      | in-Some w ↦ w.next-is ∙ w.with_known_len-next.ensures ∙ sym (ap (remembered _ _) w.in-Some.is)
      | in_default w ↦ w.next-is ∙ sym (ap (remembered _ _) w.in_default.is)
    ]

marked : (c : Joined-r-2) → c.if-r.next ≡ unfinished_if c.turn-r.result.more c.match-r.next
marked c =
    let by : Bool → Search = λ m. unfinished_if m c.match-r.next in
    elim c.if-r.branch [
      | then-r w ↦ w.next-is ∙ w.with_exhausted-next-then-r.ensures ∙ sym (ap by w.if-r.true)
      | else-r w ↦ w.next-is ∙ sym (ap by w.if-r.false)
    ]

found : (c : Joined-judge) → c.match-judge.next ≡ with_found c.if-r.next c.loop-i.i c.judge.result
found c =
    elim c.match-judge.branch [
      | in-Some-judge w ↦ w.next-is ∙ w.with_find-next.ensures ∙ sym (ap (with_found _ _) w.in-Some-judge.is)
      | in_default-judge w ↦ w.next-is ∙ sym (ap (with_found _ _) w.in_default-judge.is)
    ]

pub judge-requires : goal.judge-requires
judge-requires c =
    let has = has-entry c.loop-i.invariant c.loop-i-test.true in
    can-record has (goals-lent c.loop-i.invariant c.loop-i-test.true) (bound-is has c.best_entry.ensures c.cost_bound-bound.ensures) c.turn-r.ensures

pub overflow_add-tickets : goal.overflow_add-tickets
overflow_add-tickets c =
    let w = c.loop-i.invariant in
    let has = has-entry w c.loop-i-test.true in
    let bound = bound-is has c.best_entry.ensures c.cost_bound-bound.ensures in
    let few = few-tickets has (goals-lent w c.loop-i-test.true) bound c.turn-r.ensures in
    record { fits = omega (arith, few, walked-few w c.loop-i-test.true) }

pub loop-i-preserved : goal.loop-i-preserved
loop-i-preserved c =
    let j = (goal.at.loop-i-preserved c).Joined-judge in
    let k = (goal.at.loop-i-preserved c).Joined-r in
    let r = (goal.at.loop-i-preserved c).Joined-r-2 in
    let w = c.loop-i.invariant in
    let has = has-entry w c.loop-i-test.true in
    let bound = bound-is has c.best_entry.ensures c.cost_bound-bound.ensures in
    walked_next w c.loop-i-test.true
    (rounds has (goals-lent w c.loop-i-test.true) bound c.turn-r.ensures (counted k) (marked r) c.judge.ensures (found j))

pub returns : goal.returns
returns c = search (rules, walked_all)
