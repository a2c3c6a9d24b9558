-- Visiting a node: its vertex is closed already, or the node closes it and its edges are queued.
-- Assumes nothing.
use mathlib.Core.Path.{◌≡◌, sym, ap, ap₂, ◌∙◌, subst}
use Rattle.std.specs.declared.option.Option.{Option}
use mathlib.Core.Bool.{Bool, true, false, not}
use mathlib.Core.List.{List}
use Prim.Native.Nat.{ℕ, ◌-◌}
use native.Mathlib.Omega.{arith}
use lib.ListN.{length}
use borrow.Author.Tests.{eq-eqb, ne_eqb}
use borrow.Rule.Slice.PartMut.{put_mid, mid_of, put_same}
use Rattle.model.specs.Lists.{mem}
use Rattle.model.specs.Graph.{Domain, choices}
use Rattle.model.specs.Tree.{Node, Tree, node, closed_at, evaluation_of, close, push_all, expanded, above, going_on}
use Rattle.model.proofs.Worth.{evaluation-same}
use Rattle.layout.specs.Layout.{edges_in, vertices_in, used_in, vertex_in, cost_in, closed_word_in, NodeFits}
use Rattle.layout.specs.Read.{node_in}
use Rattle.layout.proofs.Trees.{tree-nodes, tree-node}
use Rattle.layout.specs.declared.slots.Slot.{Slot}
use Rattle.layout.specs.Slots.{slot_words, words_in, tree_at, domain_at}
use Rattle.queue.specs.Queue.{figures}
use Rattle.tree.specs.Tree.{CanClose, Closes, CloseIs}
use Rattle.tree.proofs.Closed.{tree-word, node-fits}
use Rattle.tree.specs.declared.partial_keyed_closed_set.CloseResult.{CloseResult}
use Rattle.tree.specs.declared.partial_keyed_closed_set.CloseResult.TheVariants.{Accepted, Rejected}
use Rattle.sound.proofs.InUse.{ready_words, ready-length, mid-slot, tree_lent}
use Rattle.grow.specs.declared.Next.{Next}
use Rattle.grow.specs.declared.Next.TheVariants.{On}
use Rattle.grow.specs.Grow.{is_closed, SlotHolds, CanPushChoices, CanVisit, visited_if, going_if, GoesOn, Visits}
use Rattle.grow.proofs.Slots.{put_holds, holds-refl, holds-trans, ready-after, domain-after}
use Rattle.grow.proofs.Choices.{push-figures}

module _ {s : Slot} {ws : List ℕ} {n : ℕ} (h : CanVisit s ws n) where
  abbrev lent : List ℕ
  lent = mid_of s.at (s.end - s.at) ws

  part : lent ≡ words_in s ws
  part = mid-slot h.ready.slot ws

  abbrev tree : Tree
  tree = tree_at s ws

  abbrev it : Node
  it = node tree.nodes n

  node-words : it ≡ node_in ws (words_in s ws) n
  node-words = tree-node ws s.vertices s.edges (words_in s ws) n h.used

  -- t: the slot's words, as they are handed out
  pub node-within : {t : List ℕ} {i : ℕ} → t ≡ slot_words (vertices_in ws) (edges_in ws) s.number ws → i ≡ n → NodeFits (length t) i
  node-within e at = omega (arith, at, ap length (ready_words h.ready e), node-fits h.ready.formed h.used)

  -- u: the same in the node's hands; v: the vertex read of them
  module _ {t u : List ℕ} (e : t ≡ slot_words (vertices_in ws) (edges_in ws) s.number ws) (own : u ≡ t) {i v : ℕ} (at : i ≡ n) (read : v ≡ vertex_in ws u i) where
    own-words : u ≡ words_in s ws
    own-words = own ∙ ready_words h.ready e

    vertex-is : v ≡ it.vertex
    vertex-is = read ∙ ap₂ (λ (x : List ℕ) (k : ℕ). vertex_in ws x k) own-words at ∙ sym (ap (λ (x : Node). x.vertex) node-words)

    pub can-close : CanClose s.edges lent v n
    can-close = subst (λ (t : List ℕ). CanClose s.edges t v n) (sym part) (record {
      formed = h.ready.formed;
      vertex = omega (arith, ready-length h.ready, h.vertex, vertex-is);
      node = h.used;
    })

    word-is : closed_word_in s.edges lent v ≡ closed_at tree.closed it.vertex
    word-is =
        sym (tree-word ws s.edges lent v can-close.vertex)
        ∙ ap₂ (λ (t : Tree) (x : ℕ). closed_at t.closed x) (tree_lent h.ready) vertex-is

    -- ys: the words that came back
    module _ (ys : List ℕ) (r : CloseResult) (closing : CloseIs s.edges lent ys v n r) where
      abbrev back : List ℕ
      back = put_mid s.at (s.end - s.at) ws ys

      pub visit-closed : r ≡ Rejected → (gs : List ℕ) (b : Option ℕ) → Visits s ws back n gs b On
      visit-closed rejected gs b =
          let c : CloseIs s.edges lent ys v n Rejected = rw rejected at closing in
          let same : back ≡ ws = ap (put_mid s.at (s.end - s.at) ws) c.1 ∙ put_same s.at (s.end - s.at) ws in
          let is : is_closed tree n ≡ true = ap not (ne_eqb (closed_at tree.closed it.vertex) 0 (omega (arith, c.0, word-is))) in
          subst (λ (left : List ℕ). Visits s ws left n gs b On) (sym same) (record {
            holds = subst (λ (x : Bool). SlotHolds s ws ws (visited_if x (domain_at s ws) tree n)) (sym is) (holds-refl h.ready);
            going = sym (ap (λ (x : Bool). going_if x gs b tree n) is);
          })

      -- k: the cost read of the slot's words
      module _ (accepted : r ≡ Accepted) (len : length ys ≡ length lent) {k : ℕ} (reads : k ≡ cost_in u i) where
        cost-is : k ≡ it.cost
        cost-is = reads ∙ ap₂ (λ (x : List ℕ) (i : ℕ). cost_in x i) own-words at ∙ sym (ap (λ (x : Node). x.cost) node-words)

        closes : Closes s.edges lent ys v n
        closes = rw accepted at closing

        is_open : is_closed tree n ≡ false
        is_open = ap not (eq-eqb (closed_at tree.closed it.vertex) 0 (sym word-is ∙ closes.before))

        closed : SlotHolds s ws back (close tree it.vertex n)
        closed =
            put_holds h.ready ys len closes.formed
            (closes.tree ws ∙ ap₂ (λ (t : Tree) (x : ℕ). close t x n) (tree_lent h.ready) vertex-is)

        domain : domain_at s back ≡ domain_at s ws
        domain = domain-after h.ready closed

        used : used_in (words_in s back) ≡ used_in (words_in s ws)
        unfolding close
        used =
            sym (tree-nodes back s.vertices s.edges (words_in s back))
            ∙ ap (λ (t : Tree). length t.nodes) closed.tree
            ∙ tree-nodes ws s.vertices s.edges (words_in s ws)

        pub can-push-choices : CanPushChoices s back v k
        can-push-choices = record {
          ready = ready-after h.ready closed;
          vertex = omega (arith, h.vertex, vertex-is);
          cost = omega (arith, h.cost, cost-is);
          room = rw (used, domain, vertex-is) (h.room is_open);
        }

        -- m: the node's evaluation, from its cost
        pub visit-open : (left : List ℕ) (gs : List ℕ) (b : Option ℕ) (g : Next) {m : ℕ}
            → SlotHolds s back left (push_all (domain_at s back) n (figures k) (tree_at s back) (choices (domain_at s back) v)) → m ≡ evaluation_of (figures k) → GoesOn gs b v m g
            → Visits s ws left n gs b g
        unfolding expanded
        visit-open left gs b g held weighs goes = record {
          holds = subst (SlotHolds s ws left) grown (holds-trans closed held);
          going =
              goes n
              ∙ ap₂ (λ (x y : ℕ). going_on (mem x gs) (above y b) n) vertex-is (weighs ∙ evaluation-same (figures k) it cost-is)
              ∙ sym (ap (λ (x : Bool). going_if x gs b tree n) is_open);
        }
          where
            grown : push_all (domain_at s back) n (figures k) (tree_at s back) (choices (domain_at s back) v) ≡ visited_if (is_closed tree n) (domain_at s ws) tree n
            grown =
                ap₂ (λ (d : Domain) (t : Tree). push_all d n (figures k) t (choices d v)) domain closed.tree
                ∙ ap₂ (λ (x y : ℕ). push_all (domain_at s ws) n (figures x) (close tree it.vertex n) (choices (domain_at s ws) y)) cost-is vertex-is
                ∙ push-figures (domain_at s ws) n it (close tree it.vertex n) (choices (domain_at s ws) it.vertex)
                ∙ sym (ap (λ (x : Bool). visited_if x (domain_at s ws) tree n) is_open)
