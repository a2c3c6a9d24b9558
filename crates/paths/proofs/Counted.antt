-- Counting the moves on the way from a node to the root.
-- Assumes nothing.
use mathlib.Core.Path.{◌≡◌, ap, ap₂, ◌∙◌}
use mathlib.Core.List.{List}
use Prim.Native.Nat.{ℕ, ◌+◌, ◌<◌, ◌≤◌}
use native.Mathlib.Omega.{arith}
use Rattle.layout.specs.Layout.{parent_in}
use Rattle.model.specs.Path.{moves_of}
use Rattle.paths.specs.Path.{nodes_of, Hung}
use Rattle.paths.proofs.Steps.{root-moves}
use Rattle.paths.proofs.Parents.{hung-parent, hung-moves}

-- from node n the way has come to node i in m moves
pub record Counted (t : List ℕ) (n m i : ℕ) : Type 0 where
  pub hung : Hung t i
  pub moves : (ws : List ℕ) → m + moves_of (nodes_of ws t) i ≡ moves_of (nodes_of ws t) n
  pub few : m + i ≤ n

pub count-start : {t : List ℕ} {n : ℕ} → Hung t n → Counted t n 0 n
count-start h = record { hung = h; moves = λ ws. omega arith; few = omega arith }

module _ {t : List ℕ} {n m i : ℕ} (k : Counted t n m i) where
  pub count_less : {x j : ℕ} → 0 < i → x ≡ parent_in t i → j ≡ x → j < i
  count_less pos e w = omega (arith, k.hung.parents i pos (omega arith))

  pub count_turn : {s : List ℕ} {k x j : ℕ} → 0 < i → s ≡ t → k ≡ i → x ≡ parent_in s k → j ≡ x → Counted t n (m + 1) j
  count_turn pos same at read w =
      let e = read ∙ ap₂ (λ (x : List ℕ) (y : ℕ). parent_in x y) same at in
      let up = w ∙ e in
      record {
        hung = rw up (hung-parent t i k.hung pos);
        moves = λ ws. omega (arith, k.moves ws, hung-moves t i k.hung ws pos, ap (moves_of (nodes_of ws t)) up);
        few = omega (arith, k.few, count_less pos e w);
      }

  pub count-end : i ≤ 0 → (ws : List ℕ) → m ≡ moves_of (nodes_of ws t) n
  count-end z ws = let e : i ≡ 0 = omega arith in omega (arith, k.moves ws, root-moves (nodes_of ws t), ap (moves_of (nodes_of ws t)) e)
