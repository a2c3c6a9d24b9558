use Rattle.std.proofs.Common.{rules}
use Rattle.search_words.specs.Record.{entries_words}
use Rattle.search_words.proofs.Stores.{one_entry}
use Rattle.search_words.proofs.encode_entries.Goals as goal

-- src/lib.rt:224:5
pub loop-i-init : goal.loop-i-init
unfolding entries_words
loop-i-init c = search rules

-- src/lib.rt:224:5
pub loop-i-preserved : goal.loop-i-preserved
loop-i-preserved c = search (rules, one_entry)
