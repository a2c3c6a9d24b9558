use Rattle.std.proofs.Common.{tests, rules}
use Rattle.sound.proofs.Cache.{trees-none, starts_none, tree-fails, has-mark, start-twice, trees-more, starts-marked}
use Rattle.sound.proofs.trees_in_use_are_sound.Goals as goal

pub loop-i-init : goal.loop-i-init
loop-i-init c = search (rules, starts_none, trees-none)

pub returns-then-not-tree_is_sound : goal.returns-then-not-tree_is_sound
returns-then-not-tree_is_sound c = search (rules, tree-fails)

pub bounds-starts-start : goal.bounds-starts-start
bounds-starts-start c = search (rules, has-mark)

pub returns-then-starts-start : goal.returns-then-starts-start
returns-then-starts-start c = search (rules, start-twice)

pub bounds-starts-start-in-loop-i : goal.bounds-starts-start-in-loop-i
bounds-starts-start-in-loop-i c = search (rules, has-mark)

pub loop-i-preserved : goal.loop-i-preserved
loop-i-preserved c = search (rules, tests, trees-more, starts-marked)
