use Rattle.put_text.specs.Puts.{Puts}
use Rattle.drawing.specs.Puts.{vertex_if}
use Rattle.model.specs.Lists.{numbers, joined}
use Rattle.drawing.proofs.Picture.put_vertices.Given as goal

abbrev pub invariant-loop-v : goal.invariant-loop-v
invariant-loop-v l = Puts l.initial.out l.at (joined (vertex_if l.self.words.now l.self.marks.now l.mark l.self.bold_vertices.now) (numbers l.v)) l.end l.out
