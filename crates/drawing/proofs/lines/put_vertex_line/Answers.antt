use Rattle.std.proofs.Common.{arith}
use Rattle.text.specs.Bytes.{bytes}
use Rattle.put_text.proofs.Puts.{puts_then}
use Rattle.drawing.specs.Drawing.{vertex_line}
use Rattle.drawing.proofs.LineTexts.{numbered-end, end-room, initial-length}
use Rattle.drawing.proofs.lines.put_vertex_line.Goals as goal

pub put_numbered-b-requires : goal.put_numbered-b-requires
put_numbered-b-requires c =
    let a = numbered-end (bytes "  ") c.args.vertex c.put_numbered-a.ensures in
    omega arith

pub put_initial_label-c-requires : goal.put_initial_label-c-requires
put_initial_label-c-requires c =
    let a = numbered-end (bytes "  ") c.args.vertex c.put_numbered-a.ensures in
    let b = numbered-end (bytes " [label=\"") c.args.vertex c.put_numbered-b.ensures in
    omega arith

pub put_bytes-requires : goal.put_bytes-requires
put_bytes-requires c =
    let a = numbered-end (bytes "  ") c.args.vertex c.put_numbered-a.ensures in
    let b = numbered-end (bytes " [label=\"") c.args.vertex c.put_numbered-b.ensures in
    omega (arith, end-room c.args.bold c.line_end.ensures, initial-length c.args.initial)

pub returns : goal.returns
unfolding vertex_line
returns c =
    let a = numbered-end (bytes "  ") c.args.vertex c.put_numbered-a.ensures in
    let b = numbered-end (bytes " [label=\"") c.args.vertex c.put_numbered-b.ensures in
    let initial = puts_then (omega arith) c.put_initial_label-c.ensures (rw c.line_end.ensures at c.put_bytes.ensures) in
    let label = puts_then (omega arith) c.put_numbered-b.ensures initial in
    puts_then (omega arith) c.put_numbered-a.ensures label
