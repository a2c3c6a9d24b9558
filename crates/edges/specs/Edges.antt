-- "a struct with a reference to the link words, place and end": the edge at a place of the edge numbers, and the place past it.
-- Assumes nothing.
use Rattle.std.specs.Prelude.{◌≡◌, Bool, true, false, List, ℕ, ◌+◌, ◌-◌, ltb, length, get_or, take, drop, Some, None}
use Rattle.std.specs.declared.option.Option.{Option}
use Rattle.edges.specs.declared.SimpleGraphEdges.{SimpleGraphEdges}
use Rattle.edges.specs.declared.Placed.{Placed}

-- the end, unless the place is before that of the vertex and before that of the numbers
abbrev pub next_if : Bool → Bool → List ℕ → ℕ → Placed
next_if true true ns p = record { edge = Some (get_or ns p 0); place = p + 1 }
next_if true false ns p = record { edge = None; place = p }
next_if false within ns p = record { edge = None; place = p }

abbrev pub next_at : List ℕ → ℕ → ℕ → Placed
next_at ns p e = next_if (ltb p e) (ltb p (length ns)) ns p

-- the same at a cursor
abbrev pub next_of : SimpleGraphEdges → Placed
next_of c = next_at c.numbers.now c.place c.end

-- the edges that a cursor still has to give
abbrev pub edges_left : SimpleGraphEdges → List ℕ
edges_left c = take (c.end - c.place) (drop c.place c.numbers.now)

-- the cursor c gave r and moved to m: the same numbers, one place on, the same end; at the end c itself
pub record Advances (c : SimpleGraphEdges) (r : Option ℕ) (m : SimpleGraphEdges) : Type 0 where
  pub edge : r ≡ (next_of c).edge
  pub numbers : m.numbers ≡ c.numbers
  pub place : m.place ≡ (next_of c).place
  pub end : m.end ≡ c.end
