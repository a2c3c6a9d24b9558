use Rattle.std.proofs.Common.{◌≡◌, count_by, ◌==◌, take}
use Rattle.tree.proofs.partial_keyed_closed_set.PartialKeyedClosedSet.closed_keys_len.Given as goal

abbrev pub invariant-loop-word : goal.invariant-loop-word
invariant-loop-word l = l.unclosed ≡ count_by (λ x. x == 0) (take l.word-index l.closed)
