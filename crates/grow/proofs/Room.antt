-- A node of a sound tree: its vertex, its cost, and the room for the edges of a vertex that is not closed yet; so it can be visited.
-- Assumes nothing.
use mathlib.Core.Path.{◌≡◌, sym, ap, ◌∙◌}
use mathlib.Core.Bool.{false}
use mathlib.Core.List.{List}
use Prim.Native.Nat.{ℕ, ◌+◌, ◌<◌, ◌≤◌}
use native.Mathlib.Omega.{arith}
use borrow.Author.Tests.{eqb-true, not-false}
use lib.ListN.{length, set}
use Rattle.model.specs.Graph.{Domain, Accepted, choices, vertex_count, edge_count}
use Rattle.model.specs.Tree.{Tree, node, closed_at, popped}
use Rattle.model.specs.Sound.{Sound}
use Rattle.model.proofs.Choices.{closed-more, closed-few, choices-few}
use Rattle.model.proofs.Least.{node-inside}
use Rattle.model.proofs.Room.{nodes-le, cost-bound}
use Rattle.layout.proofs.Edges.{vertex-count-in, edge-count-in}
use Rattle.layout.proofs.Trees.{tree-nodes}
use Rattle.grow.specs.Grow.{is_closed, CanVisit}
use Rattle.layout.specs.Layout.{used_in}
use Rattle.layout.specs.declared.slots.Slot.{Slot}
use Rattle.layout.specs.Slots.{words_in, tree_at, domain_at}
use Rattle.sound.specs.Facts.{Ready}

module _ (d : Domain) (acc : Accepted d.graph) (t : Tree) (ok : Sound d t) where
  pub node-cost : (n : ℕ) → n < length t.nodes → (node t.nodes n).cost ≤ 2100000000
  node-cost n h = omega (arith, cost-bound d acc t ok n h, nodes-le d t ok, acc.edges)

  choices-room : (v : ℕ) → v < vertex_count d.graph → closed_at t.closed v ≡ 0 → length t.nodes + length (choices d v) ≤ 1 + edge_count d.graph
  choices-room v h e =
      omega (
        arith,
        ok.few,
        closed-more d.graph t.closed v 0 (omega (arith, ok.sized)) e,
        closed-few d.graph (set t.closed v 1),
        choices-few d v,
      )

-- a node of a sound tree can be visited once it was taken
module _ {s : Slot} {ws : List ℕ} (t : Tree) (n : ℕ) (r : Ready s ws) (e : tree_at s ws ≡ popped t n) (ok : Sound (domain_at s ws) t) (h : n < length t.nodes) where
  abbrev d : Domain
  d = domain_at s ws

  abbrev v : ℕ
  v = (node t.nodes n).vertex

  used : length t.nodes ≡ used_in (words_in s ws)
  unfolding popped
  used = ap (λ (x : Tree). length x.nodes) (sym e) ∙ tree-nodes ws s.vertices s.edges (words_in s ws)

  vertices : vertex_count d.graph ≡ s.vertices
  vertices = vertex-count-in s.vertices s.edges ws (omega (arith, r.held.fits))

  inside : v < vertex_count d.graph
  inside = node-inside d r.held.accepted t ok n h

  room : is_closed (popped t n) n ≡ false → used_in (words_in s ws) + length (choices d v) ≤ 1 + s.edges
  unfolding popped
  room z =
      omega (
        arith,
        used,
        edge-count-in s.vertices s.edges ws,
        choices-room d r.held.accepted t ok v inside (eqb-true (closed_at t.closed v) 0 (not-false _ z)),
      )

  pub can-visit : CanVisit s ws n
  unfolding popped
  can-visit =
      record {
        ready = r;
        used = omega (arith, used, h);
        vertex = rw e (omega (arith, inside, vertices));
        cost = rw e (node-cost d r.held.accepted t ok n h);
        room = rw e room;
      }
