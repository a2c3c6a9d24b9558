use Rattle.std.proofs.Common.{ℕ, ◌≡◌, ◌-◌, length, arith}
use Rattle.std.proofs.Math.ListN.{length-set}
use borrow.Rule.Slice.PartMut.{mid_len, same_len_mid}
use Rattle.paths.proofs.Backtracked.{Below, root-backtracks, parent-less, parent-can, two-words, parent-room, forward-backtracks, backward-backtracks}
use Rattle.layout.specs.Layout.{vertex_in}
use Rattle.paths.proofs.+backtrack.Goals as goal
use Rattle.paths.proofs.+backtrack.Goals.{After-edge-edge}

-- the node and its parent, from where the node's edge was read
child : (t : ℕ) (c : After-edge-edge t) → Below
    c.args.words.now
    c.args.tree.now
    c.args.node
    c.parent-parent.result
    c.edge-edge.result
    c.vertex-vertex.result
    (length c.args.path.now)
child t c =
    record {
      can = c.requires;
      child = c.if-node-eq0.false;
      parent = cc;
      edge = cc;
      vertex = cc;
    }

pub returns-then-node-eq0 : goal.returns-then-node-eq0
returns-then-node-eq0 t c =
    let vertex : c.vertex-vertex.result ≡ vertex_in c.args.words.now c.args.tree.now c.args.node = cc in
    root-backtracks c.requires vertex c.if-node-eq0.true

-- ---- forward

pub backtrack-written-requires : goal.backtrack-written-requires
backtrack-written-requires t c =
    let b = child t (goal.at.backtrack-written-requires t c).After-edge-edge in
    (omega (arith, parent-less b, c.decreases), parent-can b (omega arith))

pub offset_bounds-path-written : goal.offset_bounds-path-written
offset_bounds-path-written t c =
    record { fits = omega (arith, parent-room (child t (goal.at.offset_bounds-path-written t c).After-edge-edge) c.backtrack-written.ensures) }

pub bounds-path-written : goal.bounds-path-written
bounds-path-written t c =
    omega (arith, parent-room (child t (goal.at.bounds-path-written t c).After-edge-edge) c.backtrack-written.ensures, c.backtrack-written.auto.path)

pub overflow_add-path : goal.overflow_add-path
overflow_add-path t c =
    record { fits = omega (arith, parent-room (child t (goal.at.overflow_add-path t c).After-edge-edge) c.backtrack-written.ensures) }

pub offset_bounds-path-written-then-words-eq0 : goal.offset_bounds-path-written-then-words-eq0
offset_bounds-path-written-then-words-eq0 t c =
    record { fits = omega (arith, parent-room (child t (goal.at.offset_bounds-path-written-then-words-eq0 t c).After-edge-edge) c.backtrack-written.ensures) }

pub bounds-path-written-then-words-eq0 : goal.bounds-path-written-then-words-eq0
bounds-path-written-then-words-eq0 t c =
    simp length-set
    (omega (arith, parent-room (child t (goal.at.bounds-path-written-then-words-eq0 t c).After-edge-edge) c.backtrack-written.ensures, c.backtrack-written.auto.path))

pub overflow_add-result : goal.overflow_add-result
overflow_add-result t c =
    record { fits = omega (arith, parent-room (child t (goal.at.overflow_add-result t c).After-edge-edge) c.backtrack-written.ensures) }

pub returns-then-words-eq0 : goal.returns-then-words-eq0
returns-then-words-eq0 t c =
    forward-backtracks (child t (goal.at.returns-then-words-eq0 t c).After-edge-edge) c.if-words-eq0.true c.backtrack-written.ensures

-- ---- backward

pub slice_bounds-backtrack-count : goal.slice_bounds-backtrack-count
slice_bounds-backtrack-count t c = two-words (child t (goal.at.slice_bounds-backtrack-count t c).After-edge-edge)

pub slice_bounds-backtrack-start : goal.slice_bounds-backtrack-start
slice_bounds-backtrack-start t c = two-words (child t (goal.at.slice_bounds-backtrack-start t c).After-edge-edge)

pub backtrack-written-requires-2 : goal.backtrack-written-requires-2
backtrack-written-requires-2 t c =
    let b = child t (goal.at.backtrack-written-requires-2 t c).After-edge-edge in
    let path = c.args.path.now in
    (omega (arith, parent-less b, c.decreases), parent-can b (omega (arith, two-words b, mid_len 2 (length path) path (omega arith))))

pub bounds-path-1 : goal.bounds-path-1
bounds-path-1 t c =
    let path = c.args.path.now in
    let two = two-words (child t (goal.at.bounds-path-1 t c).After-edge-edge) in
    let back = same_len_mid 2 (length path - 2) path c.backtrack-written-2.new.path c.backtrack-written-2.auto.path in
    simp length-set (omega (arith, two, back))

pub overflow_add-result-2 : goal.overflow_add-result-2
overflow_add-result-2 t c =
    record { fits = omega (arith, parent-room (child t (goal.at.overflow_add-result-2 t c).After-edge-edge) c.backtrack-written-2.ensures) }

pub returns : goal.returns
returns t c = backward-backtracks (child t (goal.at.returns t c).After-edge-edge) c.if-words-eq0.false c.backtrack-written-2.ensures
