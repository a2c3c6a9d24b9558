-- Which words a step, or many, leaves as they were: what is promised of every word that is not given by an equation.
-- Assumes nothing.
use Rattle.std.specs.Prelude.{◌≡◌, List, ℕ, zero, suc, ◌+◌, ◌<◌, ◌≤◌, length, get_or}
use Rattle.model.specs.declared.Search.{Search}
use Rattle.model.specs.Answers.{Reply, answered, refused, Status, waiting, solved, no_path}
use Rattle.model.specs.Search.{entry}
use Rattle.layout.specs.Layout.{slot_at, tree_words, edges_in, vertices_in}

-- word j stands in the slot of one of the entries
pub record InSlot (ws : List ℕ) (s : Search) (j : ℕ) : Type 0 where
  pub which : ℕ
  pub is_entry : which < s.tree_count
  pub from : slot_at (vertices_in ws) (edges_in ws) (entry s which).tree ≤ j
  pub below : j < slot_at (vertices_in ws) (edges_in ws) (entry s which).tree + tree_words (vertices_in ws) (edges_in ws)

-- every word outside of the entries' slots is as it was; what is free is the arrangement of the queue words in them
pub record Apart (ws : List ℕ) (s : Search) (left : List ℕ) : Type 0 where
  pub len : length left ≡ length ws
  pub word : (j : ℕ) → (InSlot ws s j → ⊥) → get_or left j 0 ≡ get_or ws j 0

-- "Book, run slice and search stay as given", and a finished search "repeats its answer and takes 0": a refused or finished search's step
-- leaves the words; another's leaves those outside of its entries' slots
abbrev pub Leaves : Reply Status → List ℕ → Search → List ℕ → Type 0
Leaves (answered waiting) ws s left = Apart ws s left
Leaves (answered (solved k m)) ws s left = left ≡ ws
Leaves (answered no_path) ws s left = left ≡ ws
Leaves (refused n line) ws s left = left ≡ ws

-- where no step waited no word was written; otherwise those outside of the entries' slots stay
abbrev pub LeavesAfter : ℕ → List ℕ → Search → List ℕ → Type 0
LeavesAfter zero ws s left = left ≡ ws
LeavesAfter (suc w) ws s left = Apart ws s left
