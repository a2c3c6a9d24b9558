-- The edges of a vertex among the edge numbers.
-- Assumes nothing.
use mathlib.Core.Path.{◌≡◌, sym, ap, ap₂, ◌∙◌}
use mathlib.Core.List.{List, [], ◌++◌, append_assoc}
use Prim.Native.Nat.{ℕ, zero, suc, ◌+◌, ◌-◌, ◌<◌, ◌≤◌}
use native.Mathlib.Omega.{arith}
use lib.ListN.{length, get_or, length-append, get_or-append}
use lib.Seq.{get_or-append-add}
use Rattle.model.specs.Lists.{up_from, numbers, joined}
use Rattle.model.specs.Graph.{Domain, Accepted, vertex_count, edge_count, choices, edge_numbers}
use Rattle.model.proofs.Choices.{edge-numbers-mem}
use Rattle.layout.specs.Words.{first_place}
use Rattle.graph.proofs.Lengths.{numbers-length}
use Rattle.graph.proofs.Ordered.{get_or-mem}

-- each edge number is one of an edge
pub edge-below : (d : Domain) → Accepted d.graph → (p : ℕ) → p < edge_count d.graph → get_or (edge_numbers d) p 0 < edge_count d.graph
edge-below d ok p h =
    edge-numbers-mem d (get_or (edge_numbers d) p 0) (get_or-mem (edge_numbers d) p (omega (arith, numbers-length d.direction d.graph ok)))

-- ---- where the edges of a vertex stand

-- of t numbers from n on: k of them, the one after these, and the rest
joined-split : (f : ℕ → List ℕ) (t k n : ℕ) → k < t
    → joined f (up_from t n) ≡ joined f (up_from k n) ++ (f (n + k) ++ joined f (up_from (t - suc k) (suc (n + k))))
unfolding joined
joined-split f zero k n h = absurd (omega arith)
joined-split f (suc t) zero n h =
    let at : n ≡ n + 0 = omega arith in
    let left : t ≡ suc t - 1 = omega arith in
    ap₂ (λ (x r : ℕ). f x ++ joined f (up_from r (suc x))) at left
joined-split f (suc t) (suc k) n h =
    let at : suc n + k ≡ n + suc k = omega arith in
    let left : t - suc k ≡ suc t - suc (suc k) = omega arith in
    ap (λ (l : List ℕ). f n ++ l) (joined-split f t k (suc n) (omega arith))
    ∙ sym (append_assoc (f n) (joined f (up_from k (suc n))) _)
    ∙ ap₂ (λ (x r : ℕ). joined f (up_from (suc k) n) ++ (f x ++ joined f (up_from r (suc x)))) at left

numbers-split : (f : ℕ → List ℕ) (v n : ℕ) → v < n → joined f (numbers n) ≡ joined f (numbers v) ++ (f v ++ joined f (up_from (n - suc v) (suc v)))
numbers-split f v n h =
    let at : 0 + v ≡ v = omega arith in
    joined-split f n v 0 h ∙ ap (λ (x : ℕ). joined f (numbers v) ++ (f x ++ joined f (up_from (n - suc v) (suc x)))) at

module _ (d : Domain) (v : ℕ) where
  pub next_place : first_place d (v + 1) ≡ first_place d v + length (choices d v)
  unfolding first_place joined
  next_place =
      let none : v + 1 - suc v ≡ 0 = omega arith in
      ap length (numbers-split (choices d) v (v + 1) (omega arith) ∙ ap (λ (r : ℕ). joined (choices d) (numbers v) ++ (choices d v ++ joined (choices d) (up_from r (suc v)))) none)
      ∙ length-append (joined (choices d) (numbers v)) (choices d v ++ [])
      ∙ omega (arith, length-append (choices d v) [])

  module _ (h : v < vertex_count d.graph) where
    abbrev rest : List ℕ
    rest = joined (choices d) (up_from (vertex_count d.graph - suc v) (suc v))

    split : edge_numbers d ≡ joined (choices d) (numbers v) ++ (choices d v ++ rest)
    unfolding edge_numbers
    split = numbers-split (choices d) v (vertex_count d.graph) h

    pub choice-at : (j : ℕ) → j < length (choices d v) → get_or (edge_numbers d) (first_place d v + j) 0 ≡ get_or (choices d v) j 0
    unfolding first_place
    choice-at j b =
        ap (λ (l : List ℕ). get_or l (first_place d v + j) 0) split
        ∙ get_or-append-add (joined (choices d) (numbers v)) (choices d v ++ rest) j 0
        ∙ get_or-append (choices d v) rest 0 j b

    pub places-fit : Accepted d.graph → first_place d v + length (choices d v) ≤ edge_count d.graph
    unfolding first_place
    places-fit ok =
        omega (
          arith,
          ap length split,
          length-append (joined (choices d) (numbers v)) (choices d v ++ rest),
          length-append (choices d v) rest,
          numbers-length d.direction d.graph ok,
        )
