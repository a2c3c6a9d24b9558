-- The words of a slot: what they are after a part was lent and has come back, and that the graph's words stay.
-- Assumes nothing.
use mathlib.Core.Path.{◌≡◌, refl, sym, ap, ap₂, subst, ◌∙◌}
use mathlib.Core.Logic.{inl, inr}
use mathlib.Core.List.{List, ◌++◌}
use Prim.Native.Nat.{ℕ, ◌+◌, ◌-◌, ◌<◌, ◌≤◌}
use native.Mathlib.Omega.{arith}
use lib.ListN.{length, get_or, drop}
use lib.Seq.{get_or-take, get_or-drop}
use borrow.Rule.Slice.PartMut.{put_mid, mid_of, take_put, drop_put}
use Rattle.model.specs.Tree.{Tree}
use Rattle.layout.specs.Layout.{header_words, vertex_count_at, edge_count_at, tree_words}
use Rattle.layout.specs.Read.{tree_in}
use Rattle.layout.proofs.Trees.{GraphStays, tree-graph}
use Rattle.layout.specs.declared.slots.Slot.{Slot}
use Rattle.layout.specs.Slots.{words_in, tree_at, domain_at}
use Rattle.graph.proofs.Parts.{put-mid, mid-put, put-length}
use Rattle.tree.specs.Tree.{Formed, tree_of}
use Rattle.tree.proofs.Same.{tree-of}
use Rattle.sound.proofs.Held.{domain-same, held_same}
use Rattle.sound.proofs.InUse.{mid-slot, ready-length}
use Rattle.sound.specs.Facts.{Ready}
use Rattle.grow.specs.Grow.{Outside, SlotHolds}

-- ---- a part that came back

module _ (l ys : List ℕ) (a e : ℕ) (ae : a ≤ e) (el : e ≤ length l) (n : length ys ≡ e - a) where
  put-below : (j : ℕ) → j < a → get_or (put_mid a (e - a) l ys) j 0 ≡ get_or l j 0
  put-below j h =
      sym (get_or-take a (put_mid a (e - a) l ys) j 0 h)
      ∙ ap (λ (x : List ℕ). get_or x j 0) (take_put a (e - a) l ys (omega arith))
      ∙ get_or-take a l j 0 h

  put-above : (j : ℕ) → e ≤ j → get_or (put_mid a (e - a) l ys) j 0 ≡ get_or l j 0
  put-above j h = tail (put_mid a (e - a) l ys) ∙ ap (λ (x : List ℕ). get_or x (j - e) 0) (drop_put a e l ys ae el n) ∙ sym (tail l)
    where
      tail : (x : List ℕ) → get_or x j 0 ≡ get_or (drop e x) (j - e) 0
      tail x =
          let at : j ≡ e + (j - e) = omega arith in
          ap (λ (i : ℕ). get_or x i 0) at ∙ sym (get_or-drop e x (j - e) 0)

module _ {s : Slot} {ws : List ℕ} (r : Ready s ws) (ys : List ℕ) (same : length ys ≡ length (mid_of s.at (s.end - s.at) ws)) where
  -- the words with the part that came back
  abbrev back : List ℕ
  back = put_mid s.at (s.end - s.at) ws ys

  ae : s.at ≤ s.end
  ae = omega (arith, r.slot.at, r.slot.end)

  pub part-size : length ys ≡ tree_words s.vertices s.edges
  part-size = same ∙ ap length (mid-slot r.slot ws) ∙ ready-length r

  n : length ys ≡ s.end - s.at
  n = omega (arith, part-size, r.slot.at, r.slot.end)

  pub lent_again : mid_of s.at (s.end - s.at) back ≡ ys
  lent_again = mid-put ws ys s.at s.end ae r.fits n

  -- another part in its place
  pub put-again : (zs : List ℕ) → put_mid s.at (s.end - s.at) back zs ≡ put_mid s.at (s.end - s.at) ws zs
  put-again zs =
      put-mid back zs s.at s.end ae
      ∙ ap₂ (λ (x y : List ℕ). x ++ (zs ++ y)) (take_put s.at (s.end - s.at) ws ys (omega (arith, ae, r.fits))) (drop_put s.at s.end ws ys ae r.fits n)
      ∙ sym (put-mid ws zs s.at s.end ae)

  -- before the slots nothing was lent
  graph-back : GraphStays s.vertices s.edges ws back
  graph-back j ne b = put-below ws ys s.at s.end ae r.fits n j (omega (arith, r.slot.at))

  pub put_holds : {u : Tree} → Formed s.edges ys → tree_of ws s.edges ys ≡ u → SlotHolds s ws back u
  put_holds formed tree =
      let words : words_in s back ≡ ys = sym (mid-slot r.slot back) ∙ lent_again in
      record {
        outside = record {
          len = put-length ws ys s.at s.end ae r.fits n;
          word = λ j h. elim h [
            | inl b ↦ put-below ws ys s.at s.end ae r.fits n j (omega (arith, r.slot.at))
            | inr b ↦ put-above ws ys s.at s.end ae r.fits n j (omega (arith, r.slot.end))
          ];
        };
        formed = subst (Formed s.edges) (sym words) formed;
        tree =
            ap (tree_in back s.vertices s.edges) words
            ∙ tree-graph s.vertices s.edges ws back ys graph-back
            ∙ sym (tree-of ws s.vertices s.edges ys part-size)
            ∙ tree;
      }

-- ---- one change after the other

outside_trans : {m l i : ℕ} {ws mid left : List ℕ} → Outside m l i ws mid → Outside m l i mid left → Outside m l i ws left
outside_trans a b = record { len = b.len ∙ a.len; word = λ j h. b.word j h ∙ a.word j h }

pub holds-trans : {s : Slot} {ws mid left : List ℕ} {u v : Tree} → SlotHolds s ws mid u → SlotHolds s mid left v → SlotHolds s ws left v
holds-trans a b = record { outside = outside_trans a.outside b.outside; formed = b.formed; tree = b.tree }

pub holds-refl : {s : Slot} {ws : List ℕ} → Ready s ws → SlotHolds s ws ws (tree_at s ws)
holds-refl r = record { outside = record { len = refl; word = λ j h. refl }; formed = r.formed; tree = refl }

-- ---- the graph's words stand before all slots

module _ {s : Slot} {ws left : List ℕ} {u : Tree} (r : Ready s ws) (h : SlotHolds s ws left u) where
  graph-stays : GraphStays s.vertices s.edges ws left
  graph-stays j ne b = h.outside.word j (inl (omega arith))

  header-stays : (j : ℕ) → j < header_words → get_or ws j 0 ≡ get_or left j 0
  header-stays j b = sym (h.outside.word j (inl (omega arith)))

  pub ready-after : Ready s left
  ready-after = record {
    vertices = r.vertices ∙ header-stays vertex_count_at (omega arith);
    edges = r.edges ∙ header-stays edge_count_at (omega arith);
    slot = r.slot;
    held = held_same s.vertices s.edges ws left h.outside.len graph-stays r.held;
    fits = omega (arith, r.fits, h.outside.len);
    formed = h.formed;
  }

  pub domain-after : domain_at s left ≡ domain_at s ws
  domain-after = domain-same s.vertices s.edges ws left h.outside.len graph-stays r.held.fits
