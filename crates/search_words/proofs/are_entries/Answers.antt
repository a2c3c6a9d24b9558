use Rattle.std.proofs.Common.{rules, refl, ◌∙◌}
use Rattle.std.proofs.lemmas.Iterator.{YieldsList-from_range}
use Rattle.std.proofs.lemmas.Iterator.Search.{all_from_yields_List}
use Rattle.search_words.specs.Record.{entryb}
use Rattle.search_words.proofs.Filled.{all-upto}
use Rattle.search_words.proofs.are_entries.Goals as goal

-- src/lib.rt:118:1
pub returns : goal.returns
returns c =
    all_from_yields_List (entryb c.args.words.now) _ _ _ c.all.ensures.ran (YieldsList-from_range 0 64 64 refl refl) (λ x b q k. search rules)
    ∙ all-upto (entryb c.args.words.now) 64
