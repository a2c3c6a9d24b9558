use Rattle.std.proofs.Common.{rules}
use Rattle.search_words.proofs.Stores.{copied}
use Rattle.search_words.proofs.encode_goals.Goals as goal

-- src/lib.rt:189:1
pub returns : goal.returns
returns c = search (rules, copied)
