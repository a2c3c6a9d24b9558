-- The lines of a graph as their parts are put, and how long they are.
-- Assumes nothing.
use mathlib.Core.Path.{◌≡◌}
use mathlib.Core.Bool.{Bool, true, false}
use mathlib.Core.List.{List, [], ◌∷◌, ◌++◌, append_assoc}
use Prim.Native.Nat.{ℕ, ◌+◌, ◌≤◌}
use native.Mathlib.Omega.{arith}
use lib.Dec.{eqb}
use lib.ListN.{length, length-append}
use Rattle.model.specs.Graph.{absent}
use Rattle.text.specs.Print.{decimal, initial_by, vertex_text, edge_text}
use Rattle.put_text.specs.Puts.{initial_text}
use Rattle.put_text.proofs.Decimals.{decimal-length}

-- a number and a comma
abbrev pub field : ℕ → List ℕ
field n = decimal n ++ (44 ∷ [])

pub field_length : (n : ℕ) → length (field n) ≡ length (decimal n) + 1
field_length n = length-append (decimal n) (44 ∷ [])

pub vertex-parts : (v c : ℕ) → vertex_text v c ≡ (77 ∷ 44 ∷ []) ++ (field v ++ (initial_text c ++ (10 ∷ [])))
unfolding vertex_text
vertex-parts v c = simp append_assoc

pub edge-parts : (m n c : ℕ) → edge_text (record { from = m; to = n; cost = c }) ≡ (76 ∷ 44 ∷ []) ++ (field m ++ (field n ++ (decimal c ++ (10 ∷ []))))
unfolding edge_text
edge-parts m n c = simp append_assoc

initial-length : (c : ℕ) → length (initial_text c) ≤ 10
initial-length c = go (eqb c absent)
  where
    go : (t : Bool) → length (initial_by t c) ≤ 10
    go true = omega arith
    go false = decimal-length c

pub vertex_length : (v c : ℕ) → length (vertex_text v c) ≡ 2 + (length (decimal v) + (1 + (length (initial_text c) + 1)))
unfolding vertex_text
vertex_length v c =
    omega (arith, length-append (decimal v) (44 ∷ (initial_text c ++ (10 ∷ []))), length-append (initial_text c) (10 ∷ []))

pub edge_length : (m n c : ℕ) → length (edge_text (record { from = m; to = n; cost = c }))
    ≡ 2 + (length (decimal m) + (1 + (length (decimal n) + (1 + (length (decimal c) + 1)))))
unfolding edge_text
edge_length m n c =
    omega (arith, length-append (decimal m) (44 ∷ (decimal n ++ (44 ∷ (decimal c ++ (10 ∷ []))))), length-append (decimal n) (44 ∷ (decimal c ++ (10 ∷ []))), length-append (decimal c) (10 ∷ []))

pub vertex-most : (v c : ℕ) → length (vertex_text v c) ≤ 24
vertex-most v c = omega (arith, vertex_length v c, decimal-length v, initial-length c)

pub edge-most : (m n c : ℕ) → length (edge_text (record { from = m; to = n; cost = c })) ≤ 35
edge-most m n c = omega (arith, edge_length m n c, decimal-length m, decimal-length n, decimal-length c)
