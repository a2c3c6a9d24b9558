-- The loop of `grow`: what is known at each turn, after a ticket, and at the end.
-- Assumes nothing.
use mathlib.Core.Path.{◌≡◌, refl, sym, ap, ◌∙◌, subst}
use Rattle.std.specs.declared.option.Option.{Option}
use Rattle.std.specs.Prelude.{None, Some}
use mathlib.Core.List.{List}
use Prim.Native.Nat.{ℕ, suc, ◌+◌, ◌-◌, ◌<◌, ◌≤◌}
use native.Mathlib.Omega.{arith}
use borrow.Rule.Slice.PartMut.{put_mid, mid_of, put_same}
use lib.ListN.{length, set, length-set}
use Rattle.model.specs.Graph.{Domain}
use Rattle.model.specs.Tree.{Tree, Going, on, least, popped, ticket, grow}
use Rattle.model.specs.Sound.{Sound}
use Rattle.model.specs.Search.{find_of}
use Rattle.model.proofs.Later as later
use Rattle.layout.specs.Layout.{queued_at, closed_words_at, edges_in, vertices_in}
use Rattle.layout.specs.Read.{read_cache}
use Rattle.layout.proofs.Trees.{tree-nodes}
use Rattle.layout.specs.declared.slots.Slot.{Slot}
use Rattle.layout.specs.Slots.{slot_of, tree_at, domain_at}
use Rattle.tree.specs.Tree.{tree_of, Formed, Pops, PopIs}
use Rattle.sound.proofs.Slots.{tree-in-at}
use Rattle.sound.specs.Facts.{InUse, Ready}
use Rattle.sound.proofs.InUse.{mid-slot, tree_lent, slot-ready}
use Rattle.grow.specs.declared.Next.{Next}
use Rattle.grow.specs.declared.Next.TheVariants as next
use Rattle.grow.specs.Grow.{growth_of, Grew, SlotHolds, CanVisit, going_of, Visits}
use Rattle.grow.proofs.Slots.{part-size, lent_again, put-again, put_holds, holds-trans, holds-refl, ready-after, domain-after}
use Rattle.grow.proofs.Tickets.{stepped, ticket_is, ticket-none, ticket-sound, grow-over, grow-found}
use Rattle.grow.proofs.Room.{can-visit}
use Rattle.grow.proofs.Kept.{kept}

-- ---- the end: the slot holds the tree of the model's growth

module _ {ws : List ℕ} {i : ℕ} (gs : List ℕ) (b : Option ℕ) (can : InUse ws i) where
  growth-is : growth_of ws i gs b ≡ grow (domain_at (slot_of ws i) ws) gs b 10 (record { tree = tree_at (slot_of ws i) ws; tickets = 0; going = on })
  unfolding read_cache
  growth-is =
      ap (λ (t : Tree). grow (domain_at (slot_of ws i) ws) gs b 10 (record { tree = t; tickets = 0; going = on }))
      (tree-in-at (vertices_in ws) (edges_in ws) ws can.slot)

  grew : {left : List ℕ} {k : ℕ} {g : Going} {u : Tree} → growth_of ws i gs b ≡ record { tree = u; tickets = k; going = g } → SlotHolds (slot_of ws i) ws left u
      → Grew ws i gs b (record { tickets = k; solution = find_of g }) left
  grew {left} {k} {g} {u} e h =
      let d : Domain = domain_at (slot_of ws i) ws in
      let t : Tree = tree_at (slot_of ws i) ws in
      let all : later.Grew d gs t (growth_of ws i gs b) = rw growth-is (later.grown d can.sound.held.accepted gs b t (can.sound.sound i can.slot) 10) in
      let still = kept ws left i u can.sound can.slot h (rw e at all.sound) (rw e at all.later.start) in
      record {
        tickets = rw e;
        solution = rw e;
        cache = rw e still.1;
        sound = still.0;
        outside = h.outside;
      }

-- ---- at each turn

-- the model's growth is what growing by the tickets left comes to, from the tree that the slot holds
pub record Growing (ws : List ℕ) (i : ℕ) (gs : List ℕ) (b : Option ℕ) (s : Slot) (words : List ℕ) (left tickets : ℕ) : Type 0 where
  pub can : InUse ws i
  pub slot : s ≡ slot_of ws i
  pub ready : Ready s words
  pub holds : SlotHolds s ws words (tree_at s words)
  pub sound : Sound (domain_at s ws) (tree_at s words)
  pub count : left + tickets ≡ 10
  pub grows : growth_of ws i gs b ≡ grow (domain_at s ws) gs b left (record { tree = tree_at s words; tickets = tickets; going = on })

pub growing-none : {ws : List ℕ} {i : ℕ} (gs : List ℕ) (b : Option ℕ) {s : Slot} → InUse ws i → s ≡ slot_of ws i → Growing ws i gs b s ws 10 0
growing-none {ws} {i} gs b {s} can e =
    subst (λ (x : Slot). Growing ws i gs b x ws 10 0) (sym e) (record {
      can = can;
      slot = refl;
      ready = slot-ready ws i can.sound can.slot;
      holds = holds-refl (slot-ready ws i can.sound can.slot);
      sound = can.sound.sound i can.slot;
      count = omega arith;
      grows = growth-is gs b can;
    })

module _ {ws : List ℕ} {i : ℕ} {gs : List ℕ} {b : Option ℕ} {s : Slot} {words : List ℕ} {left tickets : ℕ} (g : Growing ws i gs b s words left tickets) where
  abbrev t : Tree
  t = tree_at s words

  -- the part that is lent
  abbrev lent : List ℕ
  lent = mid_of s.at (s.end - s.at) words

  first : Ready s ws
  first = subst (λ (x : Slot). Ready x ws) (sym g.slot) (slot-ready ws i g.can.sound g.can.slot)

  -- the growth is known, and the slot holds its tree
  finished : {after : List ℕ} {k : ℕ} {z : Going} {u : Tree} → growth_of ws i gs b ≡ record { tree = u; tickets = k; going = z } → SlotHolds s ws after u
      → Grew ws i gs b (record { tickets = k; solution = find_of z }) after
  finished {after} {k} {z} {u} e h = grew gs b g.can e (subst (λ (x : Slot). SlotHolds x ws after u) g.slot h)

  pub growing-all : left ≤ 0 → Grew ws i gs b (record { tickets = tickets; solution = None }) words
  unfolding grow
  growing-all h = let e : left ≡ 0 = omega arith in finished (rw e at g.grows) g.holds

  pub can-take : Formed s.edges lent
  can-take = subst (Formed s.edges) (sym (mid-slot g.ready.slot words)) g.ready.formed

  module _ (more : 0 < left) (ys : List ℕ) (same : length ys ≡ length lent) where
    abbrev d : Domain
    d = domain_at s ws

    abbrev mid : List ℕ
    mid = put_mid s.at (s.end - s.at) words ys

    next-is : growth_of ws i gs b ≡ grow d gs b (left - 1) (ticket d gs b t tickets on)
    unfolding grow
    next-is =
        let e : left ≡ suc (left - 1) = omega arith in
        subst (λ (n : ℕ). growth_of ws i gs b ≡ grow d gs b n (record { tree = t; tickets = tickets; going = on })) e g.grows

    -- no ticket was left
    pub growing-dry : {r : Option (ℕ × ℕ)} → PopIs s.edges lent ys r → r ≡ None
        → Grew ws i gs b (record { tickets = tickets; solution = None }) mid
    growing-dry p e =
        let q : PopIs s.edges lent ys None = rw e at p in
        let none_left : least t.nodes t.waiting ≡ None = subst (λ (x : Tree). least x.nodes x.waiting ≡ None) (tree_lent g.ready) (q.0 words) in
        rw (q.1, put_same s.at (s.end - s.at) words)
        (finished (next-is ∙ ap (grow d gs b (left - 1)) (ticket-none d gs b t tickets none_left) ∙ grow-over d gs b (left - 1) t tickets) g.holds)

    -- the queue's length can be stored
    pub can_store : queued_at < length (mid_of s.at (s.end - s.at) mid)
    can_store = rw (lent_again g.ready ys same) (omega (arith, part-size g.ready ys same))

    module _ {k m : ℕ} {r : Option (ℕ × ℕ)} (p : PopIs s.edges lent ys r) (e : r ≡ Some (k, m))
        {zs : List ℕ} (put : zs ≡ set (mid_of s.at (s.end - s.at) mid) queued_at m) where
      -- the tree's words, and all words, with the length stored
      abbrev us : List ℕ
      us = set ys queued_at m

      abbrev stored : List ℕ
      stored = put_mid s.at (s.end - s.at) mid zs

      pops : Pops s.edges lent us k m
      pops = let q : PopIs s.edges lent ys (Some (k, m)) = rw e at p in q.1

      least-is : least t.nodes t.waiting ≡ Some k
      least-is = subst (λ (x : Tree). least x.nodes x.waiting ≡ Some k) (tree_lent g.ready) (pops.first words)

      left-tree : tree_of words s.edges us ≡ popped t k
      left-tree = pops.tree words ∙ ap (λ (x : Tree). popped x k) (tree_lent g.ready)

      stored_is : stored ≡ put_mid s.at (s.end - s.at) words us
      stored_is =
          ap (put_mid s.at (s.end - s.at) mid) (put ∙ ap (λ (x : List ℕ). set x queued_at m) (lent_again g.ready ys same))
          ∙ put-again g.ready ys same us

      taken : SlotHolds s words stored (popped t k)
      taken = subst (λ (x : List ℕ). SlotHolds s words x (popped t k)) (sym stored_is) (put_holds g.ready us (length-set ys queued_at m ∙ same) pops.formed left-tree)

      still : domain_at s stored ≡ d
      still = domain-after g.ready taken ∙ domain-after first g.holds

      in-nodes : k < length t.nodes
      unfolding popped
      in-nodes = omega (arith, pops.node, tree-nodes words (length us - closed_words_at s.edges) s.edges us, ap (λ (x : Tree). length x.nodes) left-tree)

      pub can-visit-first : CanVisit s stored k
      can-visit-first = can-visit t k (ready-after g.ready taken) taken.tree (subst (λ (x : Domain). Sound x t) (sym still) g.sound) in-nodes

      module _ {after : List ℕ} {v : Next} (w : Visits s stored after k gs b v) where
        visited : SlotHolds s ws after (stepped d gs b t tickets k).tree
        visited = rw (taken.tree, still) at (holds-trans g.holds (holds-trans taken w.holds))

        now : growth_of ws i gs b ≡ grow d gs b (left - 1) (record { tree = tree_at s after; tickets = tickets + 1; going = going_of k v })
        now =
            let going : going_of k v ≡ (stepped d gs b t tickets k).going = rw taken.tree at w.going in
            let one : suc tickets ≡ tickets + 1 = omega arith in
            next-is
            ∙ ap (grow d gs b (left - 1)) (ticket_is d gs b t tickets k least-is ∙ (λ x. record { tree = sym visited.tree x; tickets = one x; going = sym going x }))

        holds-now : SlotHolds s ws after (tree_at s after)
        holds-now = record { outside = visited.outside; formed = visited.formed; tree = refl }

        pub growing-on : v ≡ next.On → Growing ws i gs b s after (left - 1) (tickets + 1)
        growing-on o =
            record {
              can = g.can;
              slot = g.slot;
              ready = ready-after first holds-now;
              holds = holds-now;
              sound = rw visited.tree (ticket-sound d gs b first.held.accepted t tickets k g.sound least-is);
              count = omega (arith, g.count);
              grows = rw o at now;
            }

        pub growing-found : v ≡ next.Found → Grew ws i gs b (record { tickets = tickets + 1; solution = Some k }) after
        growing-found o = finished ((rw o at now) ∙ grow-found d gs b (left - 1) (tree_at s after) (tickets + 1) k) holds-now

        pub growing-over : v ≡ next.Over → Grew ws i gs b (record { tickets = tickets + 1; solution = None }) after
        growing-over o = finished ((rw o at now) ∙ grow-over d gs b (left - 1) (tree_at s after) (tickets + 1)) holds-now
