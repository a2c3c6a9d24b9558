use Rattle.std.proofs.Common.{rules, arith}
use Rattle.put_text.proofs.GraphLines.{vertex-most}
use Rattle.limits.proofs.put_vertices.Goals as goal

pub put_vertex-at-requires : goal.put_vertex-at-requires
put_vertex-at-requires c = (search rules, omega (arith, vertex-most))
