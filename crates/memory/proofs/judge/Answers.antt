use Rattle.std.proofs.lemmas.Grind.{merely}
use Rattle.sound.proofs.Kept.{kept-sound}
use Rattle.std.proofs.Common.{rules, ◌∙◌, sym, None}
use Rattle.memory.proofs.Costs.{none-is}
use Rattle.memory.proofs.Judged.{none-best, held-best, solution-shows, stands}
use Rattle.memory.proofs.Valid.{many-trees, many_goals, goals-refuse, none_passed, entry-refuses, can-judge, one-passed, no-best, best-beyond, best-can, best-in-use, best-is}
use Rattle.memory.proofs.judge.Goals as goal

pub returns-then-search-gt-MAX_ENTRIES : goal.returns-then-search-gt-MAX_ENTRIES
returns-then-search-gt-MAX_ENTRIES c = search many-trees

pub returns-then-search-gt-MAX_ENTRIES-2 : goal.returns-then-search-gt-MAX_ENTRIES-2
returns-then-search-gt-MAX_ENTRIES-2 c = search many_goals

pub returns-then-not-are_vertices : goal.returns-then-not-are_vertices
returns-then-not-are_vertices c = search (goals-refuse c.args.cache.words.now c.args.search (kept-sound c.args.cache.sound))

pub loop-i-init : goal.loop-i-init
loop-i-init c = search (rules, none_passed c.args.cache.words.now c.args.search (kept-sound c.args.cache.sound))

pub returns-then-not-entry_is_valid : goal.returns-then-not-entry_is_valid
returns-then-not-entry_is_valid c = search entry-refuses

pub held_cost-held-requires : goal.held_cost-held-requires
held_cost-held-requires c = search can-judge

pub loop-i-preserved : goal.loop-i-preserved
loop-i-preserved c = search one-passed

pub returns-in_default : goal.returns-in_default
returns-in_default c =
    stands c.args.cache.words.now c.args.search None (no-best c.loop-i.invariant c.loop-i-test.false c.in_default.is (none-is c.loop-i.least _ c.is_none.ensures)) (none-best c.args.search c.in_default.is)
    tt c.stands.ensures

pub returns-then-search-best : goal.returns-then-search-best
returns-then-search-best c = search best-beyond

pub invariant_of-used : goal.invariant_of-used
invariant_of-used c = record { used = merely (best-in-use c.loop-i.invariant c.loop-i-test.false c.in-Some.is c.if-search-best.false) }

pub held_in-requires : goal.held_in-requires
held_in-requires c =
    solution-shows (best-can c.loop-i.invariant c.loop-i-test.false c.in-Some.is c.if-search-best.false) c.shown_at.ensures

pub returns : goal.returns
returns c =
    let p = c.loop-i.invariant in
    stands c.args.cache.words.now c.args.search c.held_in.result (best-is p c.loop-i-test.false c.in-Some.is c.if-search-best.false c.best_is_valid-is_valid.ensures)
    (held-best c.args.search c.in-Some.is ∙ sym c.shown_at.ensures) c.held_in.ensures c.stands-2.ensures
