-- The part of the words that `slot_of` places is the slot's.
-- Assumes nothing.
use mathlib.Core.Path.{◌≡◌, ap, ap₂, ◌∙◌}
use mathlib.Core.List.{List}
use Prim.Native.Nat.{ℕ, ◌+◌, ◌-◌, ◌≤◌}
use native.Mathlib.Omega.{arith}
use lib.ListN.{length}
use Rattle.layout.specs.declared.slots.Slot.{Slot}
use Rattle.layout.specs.Layout.{vertices_in, edges_in, slot_at, tree_words, part}
use Rattle.layout.specs.Slots.{slot_words, slot_of, HasSlot}
use Rattle.layout.proofs.Places.{part_length}
use Rattle.layout.proofs.Sizes.{slots-fit}

module _ {ws : List ℕ} {i : ℕ} (h : HasSlot ws i) where
  pub slot-words-length : length (slot_words (vertices_in ws) (edges_in ws) i ws) ≡ tree_words (vertices_in ws) (edges_in ws)
  slot-words-length = part_length (slot_at (vertices_in ws) (edges_in ws) i) (tree_words (vertices_in ws) (edges_in ws)) ws h.fits

  module _ {s : Slot} (e : s ≡ slot_of ws i) where
    at : s.at ≡ slot_at (vertices_in ws) (edges_in ws) i
    at = ap (λ (x : Slot). x.at) e

    end : s.end ≡ slot_at (vertices_in ws) (edges_in ws) i + tree_words (vertices_in ws) (edges_in ws)
    end = ap (λ (x : Slot). x.end) e

    pub slot_small : s.at ≤ 1000000
    slot_small =
        let sized = h.numbered.sized in
        omega (arith, at, sized.vertices, sized.edges, slots-fit {t = i} sized (omega (arith, h.numbered.few)))

    pub slot-starts : s.at ≤ s.end
    slot-starts = omega (arith, at, end)

    pub slot-ends : s.end ≤ length ws
    slot-ends = omega (arith, end, h.fits)

    pub slot-part : part s.at (s.end - s.at) ws ≡ slot_words (vertices_in ws) (edges_in ws) i ws
    slot-part =
        let size : s.end - s.at ≡ tree_words (vertices_in ws) (edges_in ws) = omega (arith, at, end) in
        ap₂ (λ (a n : ℕ). part a n ws) at size

    pub slot-part-length : length (part s.at (s.end - s.at) ws) ≡ tree_words (vertices_in ws) (edges_in ws)
    slot-part-length = ap length slot-part ∙ slot-words-length
