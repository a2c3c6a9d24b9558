-- The slots of a cache stand side by side, and its trees are read off them one by one.
-- Assumes nothing.
use mathlib.Core.Path.{◌≡◌, ap, ◌∙◌}
use mathlib.Core.List.{List}
use Prim.Native.Nat.{ℕ, ◌+◌, ◌<◌, ◌≤◌}
use native.Mathlib.Nat.{mul-le-mul_right}
use native.Mathlib.Omega.{arith}
use lib.ListN.{length, get_or, length-map, get_or-map}
use Rattle.model.specs.Lists.{numbers}
use Rattle.model.specs.Tree.{Tree}
use Rattle.model.specs.Sound.{no_tree, tree, starts}
use Rattle.model.proofs.Lists.{up-length, map-up-at}
use Rattle.layout.specs.Layout.{tree_words, slot_at, start_in}
use Rattle.layout.specs.Read.{tree_in, read_trees}
use Rattle.layout.proofs.Places.{part_length}
use Rattle.layout.specs.Slots.{slot_words}

pub slot-order : (m l : ℕ) {i j : ℕ} → i ≤ j → slot_at m l i ≤ slot_at m l j
slot-order m l h = omega (arith, mul-le-mul_right (tree_words m l) h)

-- slot i ends before slot j
pub slot-before : (m l : ℕ) {i j : ℕ} → i < j → slot_at m l i + tree_words m l ≤ slot_at m l j
slot-before m l h = omega (arith, slot-order m l h)

module _ (m l : ℕ) (ws : List ℕ) {i n : ℕ} (h : i < n) where
  pub slot-length : slot_at m l n ≤ length ws → length (slot_words m l i ws) ≡ tree_words m l
  slot-length fits = part_length (slot_at m l i) (tree_words m l) ws (omega (arith, slot-before m l h))

  -- tree i of n, and the vertex at which it starts
  pub tree-in-at : tree (read_trees m l n ws) i ≡ tree_in ws m l (slot_words m l i ws)
  tree-in-at = map-up-at (λ j. tree_in ws m l (slot_words m l j ws)) no_tree n 0 i h ∙ ap (λ (j : ℕ). tree_in ws m l (slot_words m l j ws)) (omega arith)

  pub start-in-at : get_or (starts (read_trees m l n ws)) i 0 ≡ start_in (slot_words m l i ws)
  unfolding tree_in
  start-in-at = get_or-map (λ (t : Tree). t.start) (read_trees m l n ws) i no_tree ∙ ap (λ (t : Tree). t.start) tree-in-at

pub trees-in-length : (m l n : ℕ) (ws : List ℕ) → length (read_trees m l n ws) ≡ n
trees-in-length m l n ws = length-map (numbers n) _ ∙ up-length n 0

pub starts-in-length : (m l n : ℕ) (ws : List ℕ) → length (starts (read_trees m l n ws)) ≡ n
starts-in-length m l n ws = length-map (read_trees m l n ws) _ ∙ trees-in-length m l n ws
