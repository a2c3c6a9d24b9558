-- Queueing the edges of a vertex one by one.
-- Assumes nothing.
use mathlib.Core.Path.{◌≡◌, sym, ap, ap₂, subst, ◌∙◌}
use mathlib.Core.List.{List}
use Prim.Native.Nat.{ℕ, ◌+◌, ◌-◌, ◌<◌, ◌≤◌}
use native.Mathlib.Omega.{arith}
use lib.ListN.{length, get_or, take, drop}
use lib.Seq.{take_all, get_or-take}
use borrow.Rule.Slice.PartMut.{mid_of, mid_len}
use Rattle.model.specs.Graph.{Domain, choices, edge_numbers, vertex_count}
use Rattle.model.specs.Tree.{Tree, Node, push_node, child, push_all}
use Rattle.layout.specs.Layout.{place_in, numbers_at, slots_at, used_in}
use Rattle.layout.specs.Words.{first_place}
use Rattle.layout.proofs.Edges.{edge-count-in, vertex-count-in}
use Rattle.layout.proofs.Places.{word-behind}
use Rattle.layout.proofs.Trees.{tree-nodes}
use Rattle.layout.specs.declared.slots.Slot.{Slot}
use Rattle.layout.specs.Slots.{words_in, tree_at, domain_at}
use Rattle.queue.specs.Queue.{figures}
use Rattle.edges.specs.Edges.{next_at}
use Rattle.edges.specs.declared.Placed.{Placed}
use Rattle.std.specs.Prelude.{Some, None}
use Rattle.edges.proofs.Found.{Found, edge-found, end-found}
use Rattle.sound.specs.Facts.{Ready}
use Rattle.grow.specs.Grow.{SlotHolds, CanPushChoice, CanPushChoices}
use Rattle.grow.proofs.Slots.{holds-refl, holds-trans, ready-after, domain-after}
use Rattle.graph.proofs.Choices.{edge-below, next_place, choice-at, places-fit}
use Rattle.grow.proofs.Choices.{push-next, push-few}

-- before the edge at a place: those of vertex v stand from `first` up to `last`, and the ones before the place are queued, hung on
-- node n of cost k
pub record Pushing (s : Slot) (ws : List ℕ) (n v k first last : ℕ) (left : List ℕ) (place : ℕ) : Type 0 where
  pub can : CanPushChoices s ws v k
  pub starts : first ≡ first_place (domain_at s ws) v
  pub ends : last ≡ first + length (choices (domain_at s ws) v)
  pub above : first ≤ place
  pub within : place ≤ last
  pub used : used_in (words_in s left) ≤ used_in (words_in s ws) + (place - first)
  pub holds : SlotHolds s ws left (push_all (domain_at s ws) n (figures k) (tree_at s ws) (take (place - first) (choices (domain_at s ws) v)))

module _ {s : Slot} {ws : List ℕ} {v k : ℕ} (h : CanPushChoices s ws v k) where
  module _ {w x first last : ℕ} (n : ℕ) (e : w ≡ v) (a : first ≡ place_in s.vertices s.edges ws w)
      (f : x ≡ v) (b : last ≡ place_in s.vertices s.edges ws (x + 1)) where
    starts-at : first ≡ first_place (domain_at s ws) v
    starts-at = a ∙ ap (place_in s.vertices s.edges ws) e ∙ h.ready.held.place v (omega (arith, h.vertex))

    ends_at : last ≡ first + length (choices (domain_at s ws) v)
    ends_at =
        b
        ∙ ap (λ (i : ℕ). place_in s.vertices s.edges ws (i + 1)) f
        ∙ h.ready.held.place (v + 1) (omega (arith, h.vertex))
        ∙ next_place (domain_at s ws) v
        ∙ ap (λ (i : ℕ). i + length (choices (domain_at s ws) v)) (sym starts-at)

    pub pushing-none : Pushing s ws n v k first last ws first
    unfolding push_all
    pushing-none = record {
      can = h;
      starts = starts-at;
      ends = ends_at;
      above = omega arith;
      within = omega (arith, ends_at);
      used = omega arith;
      holds = let none : first - first ≡ 0 = omega arith in rw none (holds-refl h.ready);
    }

module _ {s : Slot} {ws left : List ℕ} {n v k first last place : ℕ} (i : Pushing s ws n v k first last left place)
    {a b : ℕ} (at : a ≡ numbers_at s.vertices s.edges) (upto : b ≡ slots_at s.vertices s.edges) where
  abbrev d : Domain
  d = domain_at s ws

  -- the edge numbers that are lent
  abbrev ns : List ℕ
  ns = mid_of a (b - a) left

  now-ready : Ready s left
  now-ready = ready-after i.can.ready i.holds

  part-fits : b ≤ length left
  part-fits = omega (arith, upto, now-ready.held.fits)

  numbers-count : length ns ≡ s.edges
  numbers-count = mid_len a b left part-fits ∙ omega (arith, at, upto)

  vertex-in : v < vertex_count d.graph
  vertex-in = omega (arith, i.can.vertex, vertex-count-in s.vertices s.edges ws (omega (arith, i.can.ready.held.fits)))

  last_fits : last ≤ s.edges
  last_fits = omega (arith, i.starts, i.ends, places-fit d v vertex-in i.can.ready.held.accepted, edge-count-in s.vertices s.edges ws)

  module _ {r : Placed} (said : r ≡ next_at ns place last) where
    pub pushing-end : r.edge ≡ None → SlotHolds s ws left (push_all d n (figures k) (tree_at s ws) (choices d v))
    pushing-end is =
        let stop : last ≤ place = end-found ns place last said (omega (arith, numbers-count, last_fits)) is in
        subst (λ (cs : List ℕ). SlotHolds s ws left (push_all d n (figures k) (tree_at s ws) cs))
        (take_all (place - first) (choices d v) (omega (arith, i.ends, i.within)))
        i.holds

    module _ {e : ℕ} (is : r.edge ≡ Some e) where
      abbrev after : ℕ
      after = r.place

      found : Found ns place last e after
      found = edge-found ns place last said is

      edge_at : e ≡ get_or (edge_numbers (domain_at s left)) place 0
      edge_at =
          let here : a + place ≡ numbers_at s.vertices s.edges + place = omega (arith, at) in
          found.edge
          ∙ get_or-take (b - a) (drop a left) place 0 (omega (arith, at, upto, found.before, last_fits))
          ∙ word-behind a left place (numbers_at s.vertices s.edges + place) here
          ∙ now-ready.held.number place (omega (arith, found.before, last_fits))

      pub can-push-next : CanPushChoice s left k e
      can-push-next =
          let count = edge-count-in s.vertices s.edges left in
          record {
            ready = now-ready;
            edge = omega (arith, edge_at, count, edge-below (domain_at s left) now-ready.held.accepted place (omega (arith, count, found.before, last_fits)));
            cost = i.can.cost;
            room = omega (arith, found.before, i.can.room, i.used, i.above, i.ends);
          }

      abbrev j : ℕ
      j = place - first

      in-choices : j < length (choices d v)
      in-choices = omega (arith, found.before, i.ends, i.above)

      -- the edge is the next one of the vertex
      edge-is : e ≡ get_or (choices d v) j 0
      edge-is =
          let here : place ≡ first_place d v + j = omega (arith, i.starts, i.above) in
          edge_at
          ∙ ap (λ (x : Domain). get_or (edge_numbers x) place 0) (domain-after i.can.ready i.holds)
          ∙ ap (λ (p : ℕ). get_or (edge_numbers d) p 0) here
          ∙ choice-at d v vertex-in j in-choices

      abbrev new : Node
      new = child (domain_at s left) n (figures k) e

      module _ {next : List ℕ} (g : SlotHolds s left next (push_node (tree_at s left) new)) where
        tree_is : push_node (tree_at s left) new ≡ push_all d n (figures k) (tree_at s ws) (take (after - first) (choices d v))
        tree_is =
            let past : j + 1 ≡ after - first = omega (arith, i.above, found.after) in
            ap₂ (λ (t : Tree) (x : Domain). push_node t (child x n (figures k) e)) i.holds.tree (domain-after i.can.ready i.holds)
            ∙ ap (λ (l : ℕ). push_node (push_all d n (figures k) (tree_at s ws) (take j (choices d v))) (child d n (figures k) l)) edge-is
            ∙ sym (push-next d n (figures k) (tree_at s ws) (choices d v) j in-choices)
            ∙ ap (λ (m : ℕ). push_all d n (figures k) (tree_at s ws) (take m (choices d v))) past

        pub pushing-one : Pushing s ws n v k first last next after
        pushing-one = record {
          can = i.can;
          starts = i.starts;
          ends = i.ends;
          above = omega (arith, i.above, found.after);
          within = omega (arith, found.before, found.after);
          used =
              omega (
                arith,
                i.used,
                i.above,
                found.after,
                push-few (tree_at s left) new,
                tree-nodes left s.vertices s.edges (words_in s left),
                tree-nodes next s.vertices s.edges (words_in s next),
                ap (λ (t : Tree). length t.nodes) g.tree,
              );
          holds = subst (SlotHolds s ws next) tree_is (holds-trans i.holds g);
        }
