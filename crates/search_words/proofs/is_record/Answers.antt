use Rattle.std.proofs.Common.{rules}
use Rattle.search_words.proofs.Judged.{too_few, no-mark, no-best, by_entries}
use Rattle.search_words.proofs.is_record.Goals as goal

-- src/lib.rt:35:9
pub returns-then-words-lt-RECORD_WORDS : goal.returns-then-words-lt-RECORD_WORDS
returns-then-words-lt-RECORD_WORDS c = search (rules, too_few)

-- src/lib.rt:38:9
pub returns-then-words-gt1 : goal.returns-then-words-gt1
returns-then-words-gt1 c = search (rules, no-mark)

-- src/lib.rt:41:9
pub returns-then-not-is_best : goal.returns-then-not-is_best
returns-then-not-is_best c = search (rules, no-best)

-- src/lib.rt:31:1
pub returns : goal.returns
returns c = search (rules, by_entries)
