-- The edges of a vertex in the order in which they are queued are the edges that leave it, and no more in number; how many leave closed vertices.
-- Assumes nothing.
use mathlib.Core.Path.{◌≡◌, refl, sym, ◌∙◌}
use mathlib.Core.Logic.{◌⊎◌, inl, inr}
use mathlib.Core.Bool.{Bool, true, false, not, ◌&&◌}
use mathlib.Core.List.{List, Memᴰ}
use Prim.Native.Nat.{ℕ, zero, suc, ◌+◌, ◌<◌, ◌≤◌}
use native.Mathlib.Decide.{dec_le, ℕ_discrete}
use native.Mathlib.Nat.{lt_of_not-le}
use native.Mathlib.Omega.{arith}
use borrow.Author.Tests.{eqb-true, eq-eqb, ne_eqb, le-leb, lt-leb}
use lib.Dec.{eqb, leb, eqb-suc-zero}
use lib.ListN.{length, set, length-append}
use lib.Seq.{get_or-set_same, get_or-set_other}
use Rattle.model.specs.Lists.{up_from, numbers, those, joined}
use Rattle.model.specs.Graph.{Graph, Domain, Direction, forward, backward, Accepted, Usable, from, to, vertex_count, edge_count, edges_in_use, leaving, between, choices_by, choices, edge_numbers}
use Rattle.model.specs.Tree.{closed_at}
use Rattle.model.specs.Sound.{closed_edges}
use Rattle.model.proofs.Bools.{and-true, true-and}
use Rattle.model.proofs.Lists.{up-length, numbers-mem, numbers-has, those-mem, those-has, those-length, those-le, those-split, Splits, joined-mem, joined-has}

-- ---- the edges in use

pub in-use-mem : (g : Graph) (l : ℕ) → Memᴰ l (edges_in_use g) → Usable g l
in-use-mem g l m = numbers-mem (edge_count g) l m

pub in-use-has : (g : Graph) (l : ℕ) → Usable g l → Memᴰ l (edges_in_use g)
in-use-has g l h = numbers-has (edge_count g) l h

in-use-length : (g : Graph) → length (edges_in_use g) ≡ edge_count g
in-use-length g = up-length (edge_count g) 0

-- ---- the edges that leave a vertex

pub leaving-mem : (g : Graph) (v l : ℕ) → Memᴰ l (leaving g v) → Usable g l × (from g l ≡ v)
unfolding leaving
leaving-mem g v l m =
    let r = those-mem (λ (x : ℕ). eqb (from g x) v) (edges_in_use g) l m in
    (in-use-mem g l r.0, eqb-true (from g l) v r.1)

pub leaving-has : (g : Graph) (v l : ℕ) → Usable g l → from g l ≡ v → Memᴰ l (leaving g v)
unfolding leaving
leaving-has g v l h e = those-has (λ (x : ℕ). eqb (from g x) v) (edges_in_use g) l (in-use-has g l h) (eq-eqb (from g l) v e)

pub between-mem : (g : Graph) (v u l : ℕ) → Memᴰ l (between g v u) → Usable g l × (from g l ≡ v) × (to g l ≡ u)
unfolding between
between-mem g v u l m =
    let r = those-mem (λ (x : ℕ). eqb (from g x) v && eqb (to g x) u) (edges_in_use g) l m in
    let b = and-true (eqb (from g l) v) (eqb (to g l) u) r.1 in
    (in-use-mem g l r.0, eqb-true (from g l) v b.0, eqb-true (to g l) u b.1)

pub between-has : (g : Graph) (v u l : ℕ) → Usable g l → from g l ≡ v → to g l ≡ u → Memᴰ l (between g v u)
unfolding between
between-has g v u l h e f =
    those-has (λ (x : ℕ). eqb (from g x) v && eqb (to g x) u) (edges_in_use g) l (in-use-has g l h)
    (true-and (eqb (from g l) v) (eqb (to g l) u) (eq-eqb (from g l) v e) (eq-eqb (to g l) u f))

-- ---- in the order in which they are queued

by-mem : (dir : Direction) (g : Graph) (v l : ℕ) → Memᴰ l (choices_by dir g v) → Usable g l × (from g l ≡ v)
by-mem forward g v l m = leaving-mem g v l m
by-mem backward g v l m =
    let r = joined-mem (between g v) (numbers (vertex_count g)) l m in
    let b = between-mem g v r.0 l r.2 in
    (b.0, b.1)

pub choices-mem : (d : Domain) (v l : ℕ) → Memᴰ l (choices d v) → Usable d.graph l × (from d.graph l ≡ v)
unfolding choices
choices-mem d v l m = by-mem d.direction d.graph v l m

by-has : (dir : Direction) (g : Graph) → Accepted g → (v l : ℕ) → Usable g l → from g l ≡ v → Memᴰ l (choices_by dir g v)
by-has forward g acc v l h e = leaving-has g v l h e
by-has backward g acc v l h e =
    joined-has (between g v) (numbers (vertex_count g)) (to g l) l (numbers-has (vertex_count g) (to g l) (acc.enters l h)) (between-has g v (to g l) l h e refl)

pub choices-has : (d : Domain) → Accepted d.graph → (v l : ℕ) → Usable d.graph l → from d.graph l ≡ v → Memᴰ l (choices d v)
unfolding choices
choices-has d acc v l h e = by-has d.direction d.graph acc v l h e

-- ---- how many

-- the edges that leave v and enter n or a higher number
abbrev entering : Graph → ℕ → ℕ → ℕ → Bool
entering g v n l = eqb (from g l) v && leb n (to g l)

-- they enter n, or a higher number yet
entering-splits : (g : Graph) (v n l : ℕ) → Splits (entering g v (suc n)) (λ (x : ℕ). eqb (from g x) v && eqb (to g x) n) (entering g v n) l
entering-splits g v n l = go (eqb (from g l) v) (dec_le (to g l) n) (ℕ_discrete (to g l) n)
  where
    go : (b : Bool) → Dec (to g l ≤ n) → Dec (to g l ≡ n)
        → (((b && eqb (to g l) n) ≡ false) × ((b && leb n (to g l)) ≡ (b && leb (suc n) (to g l))))
        ⊎ (((b && leb (suc n) (to g l)) ≡ false) × ((b && eqb (to g l) n) ≡ true) × ((b && leb n (to g l)) ≡ true))
    go false h e = inl (refl, refl)
    go true h (yes e) = inr (lt-leb (suc n) (to g l) (omega arith), eq-eqb (to g l) n e, le-leb n (to g l) (omega arith))
    go true (yes h) (no e) =
        let less : to g l < n = omega arith in
        inl (ne_eqb (to g l) n e, lt-leb n (to g l) less ∙ sym (lt-leb (suc n) (to g l) (omega arith)))
    go true (no h) (no e) = let more : n < to g l = lt_of_not-le h in inl (ne_eqb (to g l) n e, le-leb n (to g l) (omega arith) ∙ sym (le-leb (suc n) (to g l) (omega arith)))

-- over k vertices from n on
betweens : (g : Graph) (v k n : ℕ) → length (joined (between g v) (up_from k n)) ≤ length (those (entering g v n) (edges_in_use g))
unfolding joined between
betweens g v zero n = omega arith
betweens g v (suc k) n =
    omega (
      arith,
      betweens g v k (suc n),
      length-append (between g v n) (joined (between g v) (up_from k (suc n))),
      those-split (entering g v (suc n)) (λ (x : ℕ). eqb (from g x) v && eqb (to g x) n) (entering g v n) (entering-splits g v n) (edges_in_use g),
    )

by-few : (dir : Direction) (g : Graph) (v : ℕ) → length (choices_by dir g v) ≤ length (leaving g v)
unfolding leaving
by-few forward g v = omega arith
by-few backward g v =
    omega (
      arith,
      betweens g v (vertex_count g) 0,
      those-le (entering g v 0) (λ (l : ℕ). eqb (from g l) v) (λ l e. (and-true (eqb (from g l) v) (leb 0 (to g l)) e).0) (edges_in_use g),
    )

pub choices-few : (d : Domain) (v : ℕ) → length (choices d v) ≤ length (leaving d.graph v)
unfolding choices
choices-few d v = by-few d.direction d.graph v

-- ---- the edges that leave closed vertices

-- one more vertex closed: more by those that leave it
pub closed-more : (g : Graph) (cl : List ℕ) (v n : ℕ) → v < length cl → closed_at cl v ≡ 0
    → length (closed_edges g (set cl v (suc n))) ≡ length (closed_edges g cl) + length (leaving g v)
unfolding closed_edges leaving
closed-more g cl v n inside free =
    those-split (λ (l : ℕ). not (eqb (closed_at cl (from g l)) 0)) (λ (l : ℕ). eqb (from g l) v) (λ (l : ℕ). not (eqb (closed_at (set cl v (suc n)) (from g l)) 0)) splits
    (edges_in_use g)
  where
    splits : (l : ℕ) → Splits (λ (x : ℕ). not (eqb (closed_at cl (from g x)) 0)) (λ (x : ℕ). eqb (from g x) v) (λ (x : ℕ). not (eqb (closed_at (set cl v (suc n)) (from g x)) 0)) l
    splits l = elim (ℕ_discrete (from g l) v) [
      | yes e ↦ inr (rw (e, free), eq-eqb (from g l) v e, rw (e, get_or-set_same cl v (suc n) 0 inside, eqb-suc-zero n))
      | no e ↦ inl (ne_eqb (from g l) v e, rw (get_or-set_other cl v (from g l) (suc n) 0 e))
    ]

pub closed-few : (g : Graph) (cl : List ℕ) → length (closed_edges g cl) ≤ edge_count g
unfolding closed_edges
closed-few g cl =
    omega (arith, those-length (λ (l : ℕ). not (eqb (closed_at cl (from g l)) 0)) (edges_in_use g), in-use-length g)

-- ---- the edge numbers of all vertices: each edge in use is among them, and no other

pub edge-numbers-mem : (d : Domain) (l : ℕ) → Memᴰ l (edge_numbers d) → Usable d.graph l
unfolding edge_numbers
edge-numbers-mem d l m = let r = joined-mem (choices d) (numbers (vertex_count d.graph)) l m in (choices-mem d r.0 l r.2).0

pub edge-numbers-has : (d : Domain) → Accepted d.graph → (l : ℕ) → Usable d.graph l → Memᴰ l (edge_numbers d)
unfolding edge_numbers
edge-numbers-has d acc l h =
    joined-has (choices d) (numbers (vertex_count d.graph)) (from d.graph l) l (numbers-has (vertex_count d.graph) _ (acc.leaves l h)) (choices-has d acc (from d.graph l) l h refl)
