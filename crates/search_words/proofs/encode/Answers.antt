use Rattle.std.proofs.Common.{rules}
use Rattle.model.proofs.Arrays.{arrays-long}
use Rattle.search_words.proofs.Stores.{record-stored}
use Rattle.search_words.proofs.encode.Goals as goal

-- src/lib.rt:175:1
pub returns : goal.returns
returns c = search (rules, arrays-long, record-stored)
