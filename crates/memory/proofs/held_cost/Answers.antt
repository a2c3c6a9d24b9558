use Rattle.memory.proofs.Judged.{solution-shows}
use Rattle.memory.proofs.held_cost.Goals as goal

pub held_in-requires : goal.held_in-requires
held_in-requires c = solution-shows c.requires c.shown_at.ensures
