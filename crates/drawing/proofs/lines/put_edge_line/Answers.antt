use Rattle.std.proofs.Common.{arith}
use Rattle.text.specs.Bytes.{bytes}
use Rattle.put_text.proofs.Puts.{puts_then}
use Rattle.drawing.specs.Drawing.{edge_line}
use Rattle.drawing.proofs.LineTexts.{numbered-end, end-room}
use Rattle.drawing.proofs.lines.put_edge_line.Goals as goal

pub put_numbered-b-requires : goal.put_numbered-b-requires
put_numbered-b-requires c =
    let a = numbered-end (bytes "  ") c.args.edge.from c.put_numbered-a.ensures in
    omega arith

pub put_numbered-c-requires : goal.put_numbered-c-requires
put_numbered-c-requires c =
    let a = numbered-end (bytes "  ") c.args.edge.from c.put_numbered-a.ensures in
    let b = numbered-end (bytes " -> ") c.args.edge.to c.put_numbered-b.ensures in
    omega arith

pub put_bytes-requires : goal.put_bytes-requires
put_bytes-requires c =
    let a = numbered-end (bytes "  ") c.args.edge.from c.put_numbered-a.ensures in
    let b = numbered-end (bytes " -> ") c.args.edge.to c.put_numbered-b.ensures in
    let k = numbered-end (bytes " [label=\"") c.args.edge.cost c.put_numbered-c.ensures in
    omega (arith, end-room c.args.bold c.line_end.ensures)

pub returns : goal.returns
unfolding edge_line
returns c =
    let a = numbered-end (bytes "  ") c.args.edge.from c.put_numbered-a.ensures in
    let b = numbered-end (bytes " -> ") c.args.edge.to c.put_numbered-b.ensures in
    let label = puts_then (omega arith) c.put_numbered-c.ensures (rw c.line_end.ensures at c.put_bytes.ensures) in
    let to = puts_then (omega arith) c.put_numbered-b.ensures label in
    puts_then (omega arith) c.put_numbered-a.ensures to
