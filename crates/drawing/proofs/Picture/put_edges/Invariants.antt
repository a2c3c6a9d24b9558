use Rattle.put_text.specs.Puts.{Puts}
use Rattle.drawing.specs.Puts.{edge_of}
use Rattle.model.specs.Lists.{numbers, joined}
use Rattle.drawing.proofs.Picture.put_edges.Given as goal

abbrev pub invariant-loop-e : goal.invariant-loop-e
invariant-loop-e l = Puts l.initial.out l.at (joined (edge_of l.self.words.now l.self.bold_edges.now) (numbers l.e)) l.end l.out
