use Rattle.std.proofs.Common.{length, ◌≡◌}
use Rattle.put_text.specs.Puts.{Puts}
use Rattle.order_lines.specs.Answers.{words_text}
use lib.ListN.{take}
use Rattle.order_lines.proofs.answers.put_words.Given as goal

abbrev pub invariant-loop-i : goal.invariant-loop-i
invariant-loop-i l = (length l.out ≡ length l.initial.out) × Puts l.initial.out l.at (words_text (take l.i l.words)) l.end l.out
