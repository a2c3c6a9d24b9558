use Rattle.memory.proofs.Goals.{goal-unused, goal-other, goal-same}
use Rattle.memory.proofs.is_closed_goal.Goals as goal

pub returns-then-tree-node : goal.returns-then-tree-node
returns-then-tree-node c = search goal-unused

pub returns-else-contains : goal.returns-else-contains
returns-else-contains c = search goal-other

pub returns-then-contains : goal.returns-then-contains
returns-then-contains c = search goal-same
