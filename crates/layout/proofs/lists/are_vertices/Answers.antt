use Rattle.std.proofs.Common.{rules, ◌∙◌}
use borrow.Author.Tests.{tests}
use lib.Dec.{ltb}
use Rattle.std.proofs.lemmas.Iterator.{YieldsList-from_slice}
use Rattle.std.proofs.lemmas.Iterator.Search.{all_from_yields_List}
use Rattle.layout.proofs.Members.{below_all}
use Rattle.layout.proofs.lists.are_vertices.Goals as goal

pub returns : goal.returns
returns c =
    all_from_yields_List (λ x. ltb x c.args.vertices) _ _ _ c.all.ensures.ran (YieldsList-from_slice c.args.list.now cc) (λ x b q k. search (rules, tests))
    ∙ below_all c.args.vertices c.args.list.now
