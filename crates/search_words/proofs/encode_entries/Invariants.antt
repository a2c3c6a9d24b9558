use Rattle.search_words.proofs.Stores.{Stored}
use Rattle.search_words.proofs.encode_entries.Given as goal

abbrev pub invariant-loop-i : goal.invariant-loop-i
invariant-loop-i l = Stored l.initial.words l.words l.fn.trees l.i
