-- A slot of a cache: its places, its own words, and the tree in them.
-- Assumes nothing.
use Rattle.std.specs.Prelude.{◌≡◌, List, ℕ, ◌+◌, ◌<◌, ◌≤◌, length}
use Rattle.model.specs.Limits.{slot_limit}
use Rattle.model.specs.Graph.{Domain}
use Rattle.model.specs.Tree.{Tree}
use Rattle.layout.specs.declared.slots.Slot.{Slot}
use Rattle.layout.specs.Layout.{Sized, header_words, vertices_in, edges_in, slot_at, tree_words, part}
use Rattle.layout.specs.Read.{tree_in, domain_of}

-- the words of slot i
abbrev pub slot_words : ℕ → ℕ → ℕ → List ℕ → List ℕ
slot_words m l i ws = part (slot_at m l i) (tree_words m l) ws

-- slot i of the words
abbrev pub slot_of : List ℕ → ℕ → Slot
slot_of ws i =
    let m = vertices_in ws in
    let l = edges_in ws in
    record { vertices = m; edges = l; number = i; at = slot_at m l i; end = slot_at m l i + tree_words m l }

-- the places are those of the slot
pub record SlotIs (s : Slot) : Type 0 where
  pub few : s.number < slot_limit
  pub at : s.at ≡ slot_at s.vertices s.edges s.number
  pub end : s.end ≡ slot_at s.vertices s.edges s.number + tree_words s.vertices s.edges

-- the words that a slot has, and the tree in them
abbrev pub words_in : Slot → List ℕ → List ℕ
words_in s ws = slot_words s.vertices s.edges s.number ws

abbrev pub tree_at : Slot → List ℕ → Tree
tree_at s ws = tree_in ws s.vertices s.edges (words_in s ws)

abbrev pub domain_at : Slot → List ℕ → Domain
domain_at s ws = domain_of s.vertices s.edges ws

-- ---- what functions of slots ask for

-- a slot's places fit a machine's number
pub record Numbered (ws : List ℕ) (i : ℕ) : Type 0 where
  pub header : header_words ≤ length ws
  pub sized : Sized (vertices_in ws) (edges_in ws)
  pub few : i < slot_limit

-- the words have slot i
pub record HasSlot (ws : List ℕ) (i : ℕ) : Type 0 where
  pub numbered : Numbered ws i
  pub fits : slot_at (vertices_in ws) (edges_in ws) i + tree_words (vertices_in ws) (edges_in ws) ≤ length ws
