use Rattle.std.proofs.Common.{arith}
use Rattle.put_text.proofs.Puts.{puts_then}
use Rattle.put_text.proofs.GraphLines.{field_length, edge_length, edge-parts}
use Rattle.put_text.proofs.put_edge.Goals as goal

pub returns : goal.returns
returns c =
    let e = edge_length c.args.from c.args.to c.args.cost in
    let f = field_length c.args.from in
    let t = field_length c.args.to in
    let cost = puts_then (omega arith) c.put_decimal-d.ensures c.put_byte.ensures in
    let to = puts_then (omega arith) c.put_field-c.ensures cost in
    let from = puts_then (omega arith) c.put_field-b.ensures to in
    rw (edge-parts c.args.from c.args.to c.args.cost) (puts_then (omega arith) c.put_bytes-a.ensures from)
