-- How a search stands: its record is refused, or it is unfinished, or it is finished and shows the solution that the best's entry holds.
-- Assumes nothing.
use Rattle.std.specs.Prelude.{◌≡◌, Bool, true, false, List, None, Some, ℕ, Err, Ok}
use Rattle.std.specs.declared.result.Result.{Result}
use Rattle.model.specs.declared.Refusal.{Refusal}
use Rattle.model.specs.declared.Refusal.TheVariants.{InvalidSearch}
use Rattle.std.specs.declared.option.Option.{Option}
use Rattle.model.specs.declared.BestSolution.{BestSolution}
use Rattle.model.specs.declared.Search.{Search}
use Rattle.model.specs.declared.TreeMemory.{TreeMemory}
use Rattle.model.specs.Search.{entry}
use Rattle.model.specs.Valid.{valid}
use Rattle.layout.specs.Read.{read_cache}
use Rattle.memory.specs.Memory.{HasNode}
use Rattle.memory.specs.declared.held_node.HeldNode.{HeldNode}
use Rattle.memory.specs.declared.Shown.{Shown}
use Rattle.memory.specs.declared.Standing.{Standing}
use Rattle.memory.specs.declared.Standing.TheVariants.{Unfinished, Finished}

-- node n of the tree in slot i
abbrev pub shown_node : ℕ → ℕ → Option Shown
shown_node i n = Some (record { slot = i; node = n })

abbrev pub shown_at : TreeMemory → Option ℕ → Option Shown
shown_at e None = None
shown_at e (Some n) = shown_node e.tree n

abbrev pub shown_for : Search → Option BestSolution → Option Shown
shown_for s None = None
shown_for s (Some b) = shown_at (entry s b.entry) (entry s b.entry).solution

abbrev pub shown_in : Search → Option Shown
shown_in s = shown_for s s.best_solution

-- the node is one of the tree in its slot
abbrev pub Shows : List ℕ → Option Shown → Type 0
Shows ws None = Unit {0}
Shows ws (Some x) = HasNode ws x.slot x.node

-- the node o that the words ws hold is the one shown
abbrev pub HeldIs : List ℕ → Option Shown → Option HeldNode → Type 0
HeldIs ws None None = Unit {0}
HeldIs ws None (Some h) = ⊥
HeldIs ws (Some x) None = ⊥
HeldIs ws (Some x) (Some h) = (h.words.now ≡ ws) × ((h.slot ≡ x.slot) × (h.node ≡ x.node))

-- by whether the record is valid, and whether it is finished
abbrev pub standing_of : Bool → Bool → Option HeldNode → Result Standing Refusal
standing_of false x o = Err InvalidSearch
standing_of true false o = Ok Unfinished
standing_of true true o = Ok (Finished o)

-- whether the record s is valid
abbrev pub valid_in : List ℕ → Search → Bool
valid_in ws s = valid (read_cache ws).domain (read_cache ws).trees s

abbrev pub Stands : List ℕ → Search → Result Standing Refusal → Type 0
Stands ws s (Err f) = (f ≡ InvalidSearch) × (valid_in ws s ≡ false)
Stands ws s (Ok Unfinished) = (valid_in ws s ≡ true) × (s.exhausted ≡ false)
Stands ws s (Ok (Finished o)) = (valid_in ws s ≡ true) × ((s.exhausted ≡ true) × HeldIs ws (shown_in s) o)
