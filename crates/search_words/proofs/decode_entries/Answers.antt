use Rattle.std.proofs.Common.{rules}
use Rattle.model.specs.Search.{blank}
use Rattle.search_words.specs.Record.{entry_in}
use Rattle.search_words.proofs.Filled.{made-all}
use Rattle.search_words.proofs.decode_entries.Goals as goal

-- src/lib.rt:118:1
pub returns : goal.returns
returns c = made-all (entry_in c.args.words.now) _ (λ i y q k. search rules) c.from_fn.result 64 blank c.from_fn.ensures.items
