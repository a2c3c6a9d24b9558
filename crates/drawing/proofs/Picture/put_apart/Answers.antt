use mathlib.Core.Path.{◌∙◌}
use Rattle.std.proofs.Common.{sym, arith}
use Rattle.put_text.proofs.Puts.{puts_then}
use Rattle.drawing.proofs.Joined.{cluster-some, cluster-length}
use Rattle.drawing.proofs.Picture.put_apart.Goals as goal

pub put_bytes-a-requires : goal.put_bytes-a-requires
put_bytes-a-requires c =
    let some = sym (rw c.header.ensures at c.is_any_apart.ensures) ∙ c.if-not-is_any_apart.false in
    let room = cluster-length c.args.self.words.now c.args.self.marks.now c.args.self.bold_vertices.now some in
    omega (arith, c.requires)

pub put_vertices-b-requires : goal.put_vertices-b-requires
put_vertices-b-requires c =
    let some = sym (rw c.header.ensures at c.is_any_apart.ensures) ∙ c.if-not-is_any_apart.false in
    let room = cluster-length c.args.self.words.now c.args.self.marks.now c.args.self.bold_vertices.now some in
    omega (arith, c.requires)

pub put_bytes-requires : goal.put_bytes-requires
put_bytes-requires c =
    let some = sym (rw c.header.ensures at c.is_any_apart.ensures) ∙ c.if-not-is_any_apart.false in
    let room = cluster-length c.args.self.words.now c.args.self.marks.now c.args.self.bold_vertices.now some in
    omega (arith, c.requires)

pub returns : goal.returns
returns c =
    let some = sym (rw c.header.ensures at c.is_any_apart.ensures) ∙ c.if-not-is_any_apart.false in
    let room = cluster-length c.args.self.words.now c.args.self.marks.now c.args.self.bold_vertices.now some in
    let vertices = puts_then (omega (arith, c.requires)) c.put_vertices-b.ensures c.put_bytes.ensures in
    rw (cluster-some c.args.self.words.now c.args.self.marks.now c.args.self.bold_vertices.now some)
    (puts_then (omega (arith, c.requires)) c.put_bytes-a.ensures vertices)
