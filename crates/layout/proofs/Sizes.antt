-- How many words a cache needs.
-- Assumes nothing.
use mathlib.Core.Path.{◌≡◌, ap}
use Prim.Native.Nat.{ℕ, ◌+◌, ◌*◌, ◌≤◌}
use native.Mathlib.Omega.{arith}
use native.Mathlib.Nat.{mul-le-mul_left}
use Rattle.model.specs.Limits.{vertex_limit, edge_limit, slot_limit}
use Rattle.layout.specs.Layout.{Sized, tree_words, needed}

-- the words of all slots, at the most
abbrev pub slots_most : ℕ
slots_most = slot_limit * tree_words vertex_limit edge_limit

-- they fit a machine's number
pub slots-fit : {m l t : ℕ} → Sized m l → t ≤ slot_limit → t * tree_words m l ≤ slots_most
slots-fit {m} {l} {t} s h =
    let a : t * tree_words m l ≤ t * tree_words vertex_limit edge_limit = mul-le-mul_left t (omega (arith, s.vertices, s.edges)) in
    omega arith

-- the formula of document 01
pub needed-is : (m l t : ℕ) → needed m l t ≡ 6 + 2 * m + 4 * l + t * (8 + 5 * l + m)
needed-is m l t =
    let tree : tree_words m l ≡ 8 + 5 * l + m = omega arith in
    omega (arith, ap (λ (n : ℕ). t * n) tree)
