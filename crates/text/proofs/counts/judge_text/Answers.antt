use mathlib.Core.Path.{ap, ◌∙◌}
use Rattle.std.proofs.Common.{◌≡◌, Ok, rules, tests}
use Rattle.std.specs.Iterator.Adapters.{enumerate_source}
use Rattle.text.proofs.Inclusive.{counted_cut, no_counted}
use Rattle.text.proofs.Judged.{judging-first, judged-last, judged-fault, judging-next}
use Rattle.text.proofs.counts.judge_text.Goals as goal

pub loop-i-init : goal.loop-i-init
loop-i-init c = search (rules, judging-first)

pub returns-in_err-counts : goal.returns-in_err-counts
returns-in_err-counts c =
    let cut = counted_cut c.loop-i.yielded _ c.loop-i.i-iterator _ c.in-Some.i c.in-Some.piece c.loop-i.yielded_by c.in-Some.is c.next.ensures.steps (ap enumerate_source c.into_iter-i-iterator.ensures.into_iter_gives ∙ c.enumerate-i-items.ensures.source) c.split_inclusive.ensures.closure (λ y b q k. search (rules, tests)) in
    search (rules, judged-fault)

pub loop-i-preserved : goal.loop-i-preserved
loop-i-preserved c =
    let cut = counted_cut c.loop-i.yielded _ c.loop-i.i-iterator _ c.in-Some.i c.in-Some.piece c.loop-i.yielded_by c.in-Some.is c.next.ensures.steps (ap enumerate_source c.into_iter-i-iterator.ensures.into_iter_gives ∙ c.enumerate-i-items.ensures.source) c.split_inclusive.ensures.closure (λ y b q k. search (rules, tests)) in
    let judged : c.judge.result ≡ Ok c.in_ok-counts.counts = search rules in
    let passed = rw judged at c.judge.ensures in
    rw cut.2 (judging-next c.loop-i.invariant cut.0 c.read_ended.ensures passed.0 passed.1)

pub returns : goal.returns
returns c = judged-last c.loop-i.invariant (no_counted _ _ _ c.in-None.is c.next.ensures.steps)
