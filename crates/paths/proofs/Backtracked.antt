-- The path of a node in a slice: the root's, and another node's by its parent's.
-- Assumes nothing.
use mathlib.Core.Path.{◌≡◌, sym, ap, ap₂, ◌∙◌}
use mathlib.Core.List.{List, [], ◌∷◌}
use Prim.Native.Nat.{ℕ, ◌+◌, ◌-◌, ◌*◌, ◌<◌, ◌≤◌}
use native.Mathlib.Omega.{arith}
use lib.ListN.{length, set}
use borrow.Rule.Slice.PartMut.{mid_of, put_mid}
use Rattle.model.specs.Graph.{Direction}
use Rattle.model.specs.Path.{moves_of, moved, words}
use Rattle.model.specs.Calls.{written}
use Rattle.model.proofs.Words.{words_count}
use Rattle.layout.specs.Layout.{vertex_in, parent_in, edge_in}
use Rattle.layout.specs.Read.{direction_of}
use Rattle.layout.proofs.Directions.{backward-word}
use Rattle.paths.specs.Path.{nodes_of, CanBacktrack, Backtracks}
use Rattle.paths.proofs.Steps.{root-moves}
use Rattle.paths.proofs.Written.{written-first, written_behind, written-before}
use Rattle.paths.proofs.Parents.{hung-parent, hung-moves, hung-words, hung-root}

pub root-backtracks : {ws t p : List ℕ} {dir n v : ℕ} → CanBacktrack ws t n (length p) → v ≡ vertex_in ws t n → n ≡ 0 → Backtracks ws t dir n p 1 (set p 0 v)
root-backtracks {ws} {t} {p} {dir} {n} {v} can vertex e = record {
  count = omega (arith, root-moves (nodes_of ws t), ap (moves_of (nodes_of ws t)) e);
  path =
      written-first v p (omega (arith, can.room))
      ∙ ap (λ (xs : List ℕ). written xs p) (ap (λ (x : ℕ). x ∷ []) vertex ∙ sym (hung-root t n can.hung ws (direction_of dir) e));
}

-- node n is not the root: its parent is node up, its own words are the edge l and the vertex v
pub record Below (ws t : List ℕ) (n up l v k : ℕ) : Type 0 where
  pub can : CanBacktrack ws t n k
  pub child : n ≡ 0 → ⊥
  pub parent : up ≡ parent_in t n
  pub edge : l ≡ edge_in t n
  pub vertex : v ≡ vertex_in ws t n

module _ {ws t : List ℕ} {n up l v k : ℕ} (b : Below ws t n up l v k) where
  pos : 0 < n
  pos = omega (arith, b.child)

  pub parent-less : up < n
  parent-less = omega (arith, b.parent, b.can.hung.parents n pos (omega arith))

  parent-moves : moves_of (nodes_of ws t) n ≡ 1 + moves_of (nodes_of ws t) up
  parent-moves = hung-moves t n b.can.hung ws pos ∙ ap (λ (i : ℕ). 1 + moves_of (nodes_of ws t) i) (sym b.parent)

  parent-words : (dir : Direction) → words dir (nodes_of ws t) n ≡ moved dir (words dir (nodes_of ws t) up) l v
  parent-words dir = rw (b.parent, b.edge, b.vertex) (hung-words t n b.can.hung ws dir pos)

  -- the parent's path asks for two words less
  pub parent-can : {j : ℕ} → k ≤ j + 2 → CanBacktrack ws t up j
  parent-can h = record { header = b.can.header; hung = rw b.parent (hung-parent t n b.can.hung pos); room = omega (arith, b.can.room, parent-moves) }

  pub two-words : 2 ≤ k
  two-words = omega (arith, b.can.room, parent-moves)

  pub parent-room : {dir r : ℕ} {p q : List ℕ} → Backtracks ws t dir up p r q → r + 2 ≤ k
  parent-room done = omega (arith, done.count, b.can.room, parent-moves)

  next-count : {dir r : ℕ} {p q : List ℕ} → Backtracks ws t dir up p r q → r + 2 ≡ 1 + 2 * moves_of (nodes_of ws t) n
  next-count done = omega (arith, done.count, parent-moves)

module _ {ws t p q : List ℕ} {n up l v dir r : ℕ} (b : Below ws t n up l v (length p)) where
  pub forward-backtracks : dir ≡ 0 → Backtracks ws t dir up p r q → Backtracks ws t dir n p (r + 2) (set (set q r l) (r + 1) v)
  forward-backtracks z done =
      let xs : List ℕ = words (direction_of dir) (nodes_of ws t) up in
      let size : r ≡ length xs = done.count ∙ sym (words_count (direction_of dir) (nodes_of ws t) up) in
      record {
        count = next-count b done;
        path =
            ap₂ (λ (x : List ℕ) (k : ℕ). set (set x k l) (k + 1) v) done.path size
            ∙ written_behind xs p l v (omega (arith, parent-room b done))
            ∙ ap (λ (d : Direction). written (moved d xs l v) p) (sym (ap direction_of z))
            ∙ ap (λ (x : List ℕ). written x p) (sym (parent-words b (direction_of dir)));
      }

  pub backward-backtracks : (dir ≡ 0 → ⊥) → Backtracks ws t dir up (mid_of 2 (length p - 2) p) r q → Backtracks ws t dir n p (r + 2) (set (set (put_mid 2 (length p - 2) p q) 0 v) 1 l)
  backward-backtracks z done =
      let xs : List ℕ = words (direction_of dir) (nodes_of ws t) up in
      record {
        count = next-count b done;
        path =
            ap (λ (x : List ℕ). set (set (put_mid 2 (length p - 2) p x) 0 v) 1 l) done.path
            ∙ written-before xs p l v (two-words b)
            ∙ ap (λ (d : Direction). written (moved d xs l v) p) (sym (backward-word dir z))
            ∙ ap (λ (x : List ℕ). written x p) (sym (parent-words b (direction_of dir)));
      }
