-- The path of a search on sound words: what the code promises. It is the model's `retrace` (model/specs/Calls.antt) on the cache that the
-- words hold.
-- Assumes nothing.
use Rattle.std.specs.Prelude.{◌≡◌, Bool, true, false, List, ℕ, ◌+◌, ◌*◌, ltb, length, None, Some}
use Rattle.std.specs.declared.option.Option.{Option}
use Rattle.std.specs.declared.result.Result.{Result}
use Rattle.model.specs.declared.Refusal.{Refusal}
use Rattle.model.specs.declared.Search.{Search}
use Rattle.model.specs.Answers.{answered, refused}
use Rattle.model.specs.Sound.{tree}
use Rattle.model.specs.Path.{moves_of, words}
use Rattle.model.specs.Calls.{AfterRetrace, retrace, written, after_retrace}
use Rattle.layout.specs.Layout.{direction_in}
use Rattle.layout.specs.Read.{direction_of, read_cache}
use Rattle.memory.specs.declared.Shown.{Shown}
use Rattle.memory.specs.declared.held_node.HeldNode.{HeldNode}

abbrev pub Retraces : List ℕ → Search → List ℕ → Result ℕ Refusal → List ℕ → Type 0
Retraces ws s p r q = after_retrace r q ≡ retrace (read_cache ws) s p

-- ---- what the functions beneath promise

-- the path to node n of the tree in a slot, if the slice p has room

abbrev pub retrace_node_if : Bool → List ℕ → ℕ → ℕ → List ℕ → AfterRetrace
retrace_node_if true ws slot n p = record { reply = refused 10 0; path = p }
retrace_node_if false ws slot n p =
    let ns = (tree (read_cache ws).trees slot).nodes in
    record { reply = answered (moves_of ns n); path = written (words (direction_of (direction_in ws)) ns n) p }

abbrev pub retrace_node : List ℕ → ℕ → ℕ → List ℕ → AfterRetrace
retrace_node ws slot n p = retrace_node_if (ltb (length p) (1 + 2 * moves_of (tree (read_cache ws).trees slot).nodes n)) ws slot n p

abbrev pub RetracesNode : List ℕ → ℕ → ℕ → List ℕ → Result ℕ Refusal → List ℕ → Type 0
RetracesNode ws slot n p r q = after_retrace r q ≡ retrace_node ws slot n p

-- the path to the node shown
abbrev pub retrace_shown : List ℕ → Option Shown → List ℕ → AfterRetrace
retrace_shown ws None p = record { reply = refused 9 0; path = p }
retrace_shown ws (Some x) p = retrace_node ws x.slot x.node p

abbrev pub RetracesHeld : Option HeldNode → List ℕ → Result ℕ Refusal → List ℕ → Type 0
RetracesHeld None p r q = after_retrace r q ≡ record { reply = refused 9 0; path = p }
RetracesHeld (Some h) p r q = RetracesNode h.words.now h.slot h.node p r q
