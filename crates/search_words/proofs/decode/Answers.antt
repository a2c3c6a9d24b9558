use Rattle.std.proofs.Common.{rules}
use Rattle.search_words.specs.Record.{decode}
use Rattle.search_words.proofs.Tags.{mark-read}
use Rattle.search_words.proofs.decode.Goals as goal

-- src/lib.rt:91:1
pub returns : goal.returns
unfolding decode
returns c = search (rules, mark-read)
