-- Queueing an edge.
-- Assumes nothing.
use mathlib.Core.Path.{◌≡◌, sym, ap, ap₂, subst, ◌∙◌}
use mathlib.Core.List.{List}
use Prim.Native.Nat.{ℕ, ◌+◌, ◌-◌, ◌<◌}
use native.Mathlib.Omega.{arith}
use lib.ListN.{length}
use borrow.Rule.Slice.PartMut.{put_mid, mid_of}
use Rattle.model.specs.Graph.{Graph, edge_count, to, cost}
use Rattle.model.specs.Tree.{push_node, child}
use Rattle.layout.specs.Layout.{to_in, edge_cost_in}
use Rattle.layout.specs.Read.{graph_in}
use Rattle.layout.proofs.Edges.{edge-count-in, vertex-count-in, to_word, cost-word}
use Rattle.layout.specs.declared.slots.Slot.{Slot}
use Rattle.layout.specs.Slots.{tree_at, domain_at}
use Rattle.queue.specs.Queue.{figures}
use Rattle.tree.specs.Tree.{CanPushNode, node_of, PushesNode}
use Rattle.tree.specs.declared.Node.{Node as NodeWords}
use Rattle.sound.proofs.InUse.{ready-length, mid-slot, tree_lent}
use Rattle.grow.specs.Grow.{SlotHolds, CanPushChoice}
use Rattle.grow.proofs.Slots.{put_holds}

-- w: the edge's number as a place
module _ {s : Slot} {ws : List ℕ} {k e w : ℕ} (h : CanPushChoice s ws k e) (is : w ≡ e) where
  abbrev graph : Graph
  graph = graph_in s.vertices s.edges ws

  usable : e < edge_count graph
  usable = omega (arith, h.edge, edge-count-in s.vertices s.edges ws)

  -- x: its cost
  module _ {x : ℕ} (costs : x ≡ edge_cost_in s.vertices ws w) where
    cost-is : x ≡ cost graph e
    cost-is = costs ∙ ap (edge_cost_in s.vertices ws) is ∙ sym (cost-word s.vertices s.edges ws e h.edge)

    pub cost-fits : k + x < 4294967296
    cost-fits = omega (arith, cost-is, h.cost, h.ready.held.accepted.costs e usable)

    -- y: the vertex that it enters; n: the node that it hangs on
    module _ {y : ℕ} (enters : y ≡ to_in s.vertices ws w) (n : ℕ) where
      abbrev new : NodeWords
      new = record { vertex = y; cost = k + x; parent = n; edge = e }

      vertex-is : y ≡ to graph e
      vertex-is = enters ∙ ap (to_in s.vertices ws) is ∙ sym (to_word s.vertices s.edges ws e h.edge)

      pub can-push : CanPushNode s.edges (mid_of s.at (s.end - s.at) ws) new
      can-push =
          subst (λ (t : List ℕ). CanPushNode s.edges t new) (sym (mid-slot h.ready.slot ws)) (record {
            add = record { formed = h.ready.formed; room = h.room };
            vertex =
                omega (
                  arith,
                  ready-length h.ready,
                  vertex-is,
                  h.ready.held.accepted.enters e usable,
                  vertex-count-in s.vertices s.edges ws (omega (arith, h.ready.held.fits)),
                );
          })

      child-is : node_of new ≡ child (domain_at s ws) n (figures k) e
      child-is = λ i. record { vertex = vertex-is i; cost = k + cost-is i; parent = n; edge = e }

      -- ys: the words that came back
      pub pushed : {ys : List ℕ} → length ys ≡ length (mid_of s.at (s.end - s.at) ws)
          → PushesNode s.edges (mid_of s.at (s.end - s.at) ws) ys (node_of new)
          → SlotHolds s ws (put_mid s.at (s.end - s.at) ws ys) (push_node (tree_at s ws) (child (domain_at s ws) n (figures k) e))
      pushed {ys} len left =
          put_holds h.ready ys len left.formed (left.tree ws ∙ ap₂ push_node (tree_lent h.ready) child-is)
