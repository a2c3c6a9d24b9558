use Rattle.std.proofs.Common.{◌+◌}
use Rattle.text.proofs.Judged.{Judging}
use Rattle.text.proofs.counts.judge_text.Given as goal

-- the lines above are as many as the count; the line below has the next number
abbrev pub invariant-loop-i : goal.invariant-loop-i
invariant-loop-i l = Judging l.text l.counts (l.i-iterator.count + 1) l.i-iterator.iter.rest.now
