-- The node that a finished search shows, and what is answered of it.
-- Assumes nothing.
use Rattle.std.specs.Prelude.{List, None, Some}
use Rattle.std.specs.declared.option.Option.{Option}
use Rattle.model.specs.declared.BestSolution.{BestSolution}
use Rattle.model.specs.declared.TreeMemory.{TreeMemory}
use Rattle.model.specs.Answers.{Reply, answered, Status, waiting, solved, no_path}
use Rattle.model.specs.Tree.{Tree, node}
use Rattle.model.specs.Sound.{tree}
use Rattle.model.specs.Path.{moves_of}
use Rattle.layout.specs.Read.{read_cache}
use Rattle.memory.specs.declared.held_node.HeldNode.{HeldNode}
use Rattle.memory.specs.declared.Shown.{Shown}
use Rattle.memory.specs.Standing.{shown_at, shown_node}

-- the solution that the entry e holds, which found the best
abbrev pub shown_of : Option BestSolution → TreeMemory → Option Shown
shown_of None e = None
shown_of (Some b) e = shown_at e e.solution

-- what a finished search answers
abbrev pub status_of : List Tree → Option Shown → Status
status_of ts None = no_path
status_of ts (Some x) = let ns = (tree ts x.slot).nodes in solved (node ns x.node).cost (moves_of ns x.node)

-- and by the node that is held
abbrev pub status_held : Option HeldNode → Status
status_held None = no_path
status_held (Some h) = status_of (read_cache h.words.now).trees (shown_node h.slot h.node)

-- what is told of a search that some steps finished: the same, and where the best's entry e holds nothing, that it waits
abbrev pub last_status : List Tree → Option Shown → Status
last_status ts None = waiting
last_status ts (Some x) = status_of ts (Some x)

abbrev pub last_answer : List Tree → Option BestSolution → TreeMemory → Reply Status
last_answer ts None e = answered no_path
last_answer ts (Some b) e = answered (last_status ts (shown_at e e.solution))
