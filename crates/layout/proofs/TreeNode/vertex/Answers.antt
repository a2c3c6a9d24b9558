use Rattle.std.proofs.Common.{rules}
use Rattle.layout.proofs.Places.{word_first}
use Rattle.layout.proofs.Trees.{vertex-word}
use Rattle.layout.proofs.TreeNode.vertex.Goals as goal

pub returns : goal.returns
returns c = search (rules, vertex-word, word_first)
