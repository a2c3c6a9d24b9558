-- What is known of a cache's sound words: the tests of the definition as facts, for proofs.
-- Assumes nothing.
use Rattle.std.specs.Prelude.{◌≡◌, List, ℕ, ◌<◌, ◌≤◌, length, get_or}
use Rattle.model.specs.Limits.{slot_limit}
use Rattle.model.specs.Sound.{Sound}
use Rattle.layout.specs.Layout.{header_words, slot_at, needed, direction_in, edges_in, slots_in, start_in, trees_in, vertices_in}
use Rattle.layout.specs.Read.{tree_in, domain_of}
use Rattle.layout.specs.declared.slots.Slot.{Slot}
use Rattle.layout.specs.Slots.{slot_words, SlotIs, words_in}
use Rattle.layout.specs.Held.{Held}
use Rattle.tree.specs.Tree.{Formed}

-- m vertices, l edges, u of s slots in use
pub record SoundIn (m l s u : ℕ) (ws : List ℕ) : Type 0 where
  pub header : header_words ≤ length ws
  pub direction : direction_in ws ≤ 1
  pub some_slot : 1 ≤ s
  pub slots : s ≤ slot_limit
  pub used : u ≤ s
  pub fits : needed m l s ≤ length ws
  pub held : Held m l ws
  pub differ : (i j : ℕ) → i < u → j < u → start_in (slot_words m l i ws) ≡ start_in (slot_words m l j ws) → i ≡ j
  pub formed : (i : ℕ) → i < u → Formed l (slot_words m l i ws)
  pub sound : (i : ℕ) → i < u → Sound (domain_of m l ws) (tree_in ws m l (slot_words m l i ws))
  pub spare : (i : ℕ) → slot_at m l u ≤ i → i < needed m l s → get_or ws i 0 ≡ 0

abbrev pub SoundWords : List ℕ → Type 0
SoundWords ws = SoundIn (vertices_in ws) (edges_in ws) (slots_in ws) (trees_in ws) ws

-- slot i is in use
pub record InUse (ws : List ℕ) (i : ℕ) : Type 0 where
  pub sound : SoundWords ws
  pub slot : i < trees_in ws

-- a slot of a cache whose graph is held, and whose own words are formed
pub record Ready (s : Slot) (ws : List ℕ) : Type 0 where
  pub vertices : s.vertices ≡ vertices_in ws
  pub edges : s.edges ≡ edges_in ws
  pub slot : SlotIs s
  pub held : Held s.vertices s.edges ws
  pub fits : s.end ≤ length ws
  pub formed : Formed s.edges (words_in s ws)
