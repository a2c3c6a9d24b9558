use Rattle.std.proofs.Common.{arith}
use Rattle.put_text.proofs.Puts.{puts_then}
use Rattle.put_text.proofs.GraphLines.{field_length, vertex_length, vertex-parts}
use Rattle.put_text.proofs.put_vertex.Goals as goal

pub returns : goal.returns
returns c =
    let e = vertex_length c.args.vertex c.args.initial in
    let f = field_length c.args.vertex in
    let initial = puts_then (omega arith) c.put_initial-c.ensures c.put_byte.ensures in
    let fields = puts_then (omega arith) c.put_field-b.ensures initial in
    rw (vertex-parts c.args.vertex c.args.initial) (puts_then (omega arith) c.put_bytes-a.ensures fields)
