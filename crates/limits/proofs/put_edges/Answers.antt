use Rattle.std.proofs.Common.{rules, arith}
use Rattle.put_text.proofs.GraphLines.{edge-most}
use Rattle.limits.proofs.put_edges.Goals as goal

pub put_edge-at-requires : goal.put_edge-at-requires
put_edge-at-requires c = ((omega arith, omega arith, search rules), omega (arith, edge-most))
