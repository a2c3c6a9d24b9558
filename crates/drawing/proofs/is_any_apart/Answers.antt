use Rattle.std.proofs.Common.{arith, ◌∙◌}
use Rattle.drawing.proofs.Joined.{apart-among}
use Rattle.drawing.proofs.is_any_apart.Goals as goal

pub returns : goal.returns
returns c = c.contains.ensures.value ∙ apart-among c.args.marks.now c.args.vertices (omega arith)
