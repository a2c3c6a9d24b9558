-- A text put into bytes.
-- Assumes nothing.
use Rattle.std.specs.Prelude.{◌≡◌, List, ◌++◌, ℕ, ◌+◌, ◌<◌, length, take, drop, eqb}
use Rattle.model.specs.Graph.{absent}
use Rattle.text.specs.Print.{initial_by}

-- out with a text in place of the bytes from at on
abbrev pub puts : List ℕ → ℕ → List ℕ → List ℕ
puts out at t = take at out ++ (t ++ drop (at + length t) out)

-- the text stands from at on, and r is where it ends
pub record Puts (out : List ℕ) (at : ℕ) (t : List ℕ) (r : ℕ) (left : List ℕ) : Type 0 where
  pub end : r ≡ at + length t
  pub bytes : left ≡ puts out at t

-- numbers of at most 10 digits
abbrev pub Written : ℕ → ℕ → ℕ → Type 0
Written m n k = (m < 10000000000) × (n < 10000000000) × (k < 10000000000)

-- ---- what the functions beneath promise each other

-- an initial cost, as a vertex line has it
abbrev pub initial_text : ℕ → List ℕ
initial_text c = initial_by (eqb c absent) c
