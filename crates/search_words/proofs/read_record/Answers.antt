use Rattle.std.proofs.Common.{rules}
use Rattle.search_words.proofs.Inverse.{record-long}
use Rattle.search_words.proofs.read_record.Goals as goal

pub then-requires : goal.then-requires
then-requires c = search (rules, record-long)
