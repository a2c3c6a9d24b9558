use Rattle.std.proofs.Common.{subst, arith, ℕ, List}
use Rattle.put_text.specs.Puts.{Puts}
use Rattle.put_text.proofs.Puts.{puts_then}
use Rattle.drawing.proofs.Whole.{drawing-is, drawing-room}
use Rattle.drawing.proofs.put_drawing.Goals as goal

pub put_vertices-b-requires : goal.put_vertices-b-requires
put_vertices-b-requires c =
    let room = drawing-room c.args.words.now c.args.marks.now c.requires.0 c.standing-vertices.result c.standing-edges.result _ c.requires.1 in
    omega arith

pub put_apart-c-requires : goal.put_apart-c-requires
put_apart-c-requires c =
    let room = drawing-room c.args.words.now c.args.marks.now c.requires.0 c.standing-vertices.result c.standing-edges.result _ c.requires.1 in
    omega arith

pub put_edges-d-requires : goal.put_edges-d-requires
put_edges-d-requires c =
    let room = drawing-room c.args.words.now c.args.marks.now c.requires.0 c.standing-vertices.result c.standing-edges.result _ c.requires.1 in
    omega arith

pub put_bytes-requires : goal.put_bytes-requires
put_bytes-requires c =
    let room = drawing-room c.args.words.now c.args.marks.now c.requires.0 c.standing-vertices.result c.standing-edges.result _ c.requires.1 in
    omega arith

pub returns : goal.returns
returns c =
    let room = drawing-room c.args.words.now c.args.marks.now c.requires.0 c.standing-vertices.result c.standing-edges.result _ c.requires.1 in
    let closed = puts_then (omega arith) c.put_edges-d.ensures c.put_bytes.ensures in
    let apart = puts_then (omega arith) c.put_apart-c.ensures closed in
    let vertices = puts_then (omega arith) c.put_vertices-b.ensures apart in
    subst (λ (l : List ℕ). Puts c.args.out.now 0 l c.put_bytes.result c.put_bytes.new.out)
    (drawing-is c.args.words.now c.args.marks.now c.requires.0 c.args.path.now _ _ c.standing-vertices.ensures c.standing-edges.ensures)
    (puts_then (omega arith) c.put_bytes-a.ensures vertices)
