-- The node that a search shows: it is one of a tree in use, and what is answered of it is the model's.
-- Assumes nothing.
use mathlib.Core.Path.{◌≡◌, refl, sym, ap, ◌∙◌}
use Rattle.std.specs.declared.option.Option.{Option}
use Rattle.std.specs.Prelude.{None, Some}
use mathlib.Core.List.{List}
use Prim.Native.Nat.{ℕ}
use Rattle.model.specs.declared.BestSolution.{BestSolution}
use Rattle.model.specs.declared.Search.{Search}
use Rattle.model.specs.Tree.{Tree}
use Rattle.model.specs.Sound.{tree}
use Rattle.model.specs.Search.{entry, as_best}
use Rattle.model.specs.Calls.{shown_by, shown_tree_by, status_at, final_status}
use Rattle.layout.specs.Read.{read_cache}
use Rattle.memory.proofs.Fits.{held-node}
use Rattle.entry_turns.specs.Turn.{CanStep, best_entry}
use Rattle.memory.specs.declared.Shown.{Shown}
use Rattle.memory.specs.declared.held_node.HeldNode.{HeldNode}
use Rattle.memory.specs.Standing.{shown_at, shown_for, shown_in, shown_node, Shows, HeldIs}
use Rattle.unchecked.specs.Shown.{shown_of, status_of, status_held}

-- ---- by what the record holds

module _ (s : Search) where
  -- by cases: nothing is best; the best's entry holds nothing; it holds a node
  pub shown-cases : (P : Option Shown → Type 0) → (s.best_solution ≡ None → P None)
      → ((i n : ℕ) → s.best_solution ≡ as_best i n → (entry s i).solution ≡ None → P None)
      → ((i n h : ℕ) → s.best_solution ≡ as_best i n → (entry s i).solution ≡ Some h → P (shown_node (entry s i).tree h)) → P (shown_in s)
  shown-cases P no-best no_Node held = go s.best_solution refl
    where
      at : (i n : ℕ) → s.best_solution ≡ as_best i n → (o : Option ℕ) → (entry s i).solution ≡ o → P (shown_at (entry s i) o)
      at i n b None e = no_Node i n b e
      at i n b (Some h) e = held i n h b e

      go : (b : Option BestSolution) → s.best_solution ≡ b → P (shown_for s b)
      go None b = no-best b
      go (Some b') b = at b'.entry b'.node b (entry s b'.entry).solution refl

-- ---- what is answered

pub status-is : (ts : List Tree) (s : Search) → status_of ts (shown_in s) ≡ final_status ts s
unfolding final_status
status-is ts s = shown-cases s (λ (x : Option Shown). status_of ts x ≡ final_status ts s)
    (λ b. sym (by b))
    (λ i n b e. sym (by b ∙ ap (status_at (tree ts (entry s i).tree)) e))
    (λ i n h b e. sym (by b ∙ ap (status_at (tree ts (entry s i).tree)) e))
  where
    by : {b : Option BestSolution} → s.best_solution ≡ b → status_at (shown_tree_by ts s s.best_solution) (shown_by s s.best_solution) ≡ status_at (shown_tree_by ts s b) (shown_by s b)
    by e = ap (λ (b : Option BestSolution). status_at (shown_tree_by ts s b) (shown_by s b)) e

-- ---- by the node that is held

module _ (ws : List ℕ) where
  pub held-status : (x : Option Shown) (o : Option HeldNode) → HeldIs ws x o → status_held o ≡ status_of (read_cache ws).trees x
  held-status None None z = refl
  held-status None (Some h) z = absurd z
  held-status (Some x) None z = absurd z
  held-status (Some x) (Some h) z = λ i. status_of (read_cache (z.0 i)).trees (shown_node (z.1.0 i) (z.1.1 i))

-- ---- by the entry that found the best

holder-shows : (s : Search) (b : Option BestSolution) → shown_of b (entry s (best_entry b)) ≡ shown_for s b
holder-shows s None = refl
holder-shows s (Some b) = refl

pub holder-is : (s : Search) {j : ℕ} → j ≡ best_entry s.best_solution → shown_of s.best_solution (entry s j) ≡ shown_in s
holder-is s e = ap (λ (k : ℕ). shown_of s.best_solution (entry s k)) e ∙ holder-shows s s.best_solution

-- ---- of a record that may be stepped

module _ {ws : List ℕ} {s : Search} (v : CanStep ws s) where
  pub shows : Shows ws (shown_in s)
  shows = shown-cases s (Shows ws) (λ b. tt) (λ i n b e. tt) (λ i n h b e. held-node (v.sound, v.fits.held i (v.fits.best i n b).0) e)
