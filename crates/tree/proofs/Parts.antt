-- Tests of a part of the words: what they say word by word.
-- Assumes nothing.
use mathlib.Core.Path.{◌≡◌, refl, sym, ◌∙◌}
use mathlib.Core.Logic.{◌≢◌}
use mathlib.Core.Bool.{true}
use mathlib.Core.List.{List, [], ◌∷◌}
use Prim.Native.Nat.{ℕ, zero, suc, ◌+◌, ◌-◌, ◌<◌, ◌≤◌}
use native.Mathlib.Omega.{arith}
use native.Mathlib.Decide.{ℕ_discrete, dec_lt}
use lib.Dec.{eqb, ltb}
use lib.ListN.{length, get_or, drop, length-take}
use borrow.Author.Tests.{ltb-true, eqb-true, lt-ltb, eq-eqb}
use Rattle.model.specs.Lists.{all_below}
use Rattle.model.specs.Sound.{distinctb}
use Rattle.model.proofs.Bools.{and-true, true-and}
use Rattle.model.proofs.Tests.{distinct-at, at-distinct}
use Rattle.layout.specs.Layout.{part}
use Rattle.layout.specs.Sound.{zerosb}
use Rattle.layout.proofs.Places.{part_at, part_length}
use Rattle.queue.specs.Queue.{times}
use Rattle.queue.proofs.Times.{one_same, one-other, times_more, times-place, place-times}

-- ---- unused words are 0

zeros-in : (xs : List ℕ) → zerosb xs ≡ true → (i : ℕ) → get_or xs i 0 ≡ 0
unfolding zerosb
zeros-in [] e i = refl
zeros-in (x ∷ xs) e zero = eqb-true x 0 (and-true (eqb x 0) (zerosb xs) e).0
zeros-in (x ∷ xs) e (suc i) = zeros-in xs (and-true (eqb x 0) (zerosb xs) e).1 i

in-zeros : (xs : List ℕ) → ((i : ℕ) → i < length xs → get_or xs i 0 ≡ 0) → zerosb xs ≡ true
unfolding zerosb
in-zeros [] f = refl
in-zeros (x ∷ xs) f = true-and (eqb x 0) (zerosb xs) (eq-eqb x 0 (f 0 (omega arith))) (in-zeros xs (λ i h. f (suc i) (omega arith)))

module _ (t : List ℕ) (a e : ℕ) where
  pub zeros-at : zerosb (part a (e - a) t) ≡ true → (i : ℕ) → a ≤ i → i < e → get_or t i 0 ≡ 0
  zeros-at z i h k =
      let at : a + (i - a) ≡ i = omega arith in
      rw (← at) (sym (part_at a (e - a) t (i - a) (omega arith)) ∙ zeros-in (part a (e - a) t) z (i - a))

  pub at-zeros : ((i : ℕ) → a ≤ i → i < e → get_or t i 0 ≡ 0) → zerosb (part a (e - a) t) ≡ true
  at-zeros f = in-zeros (part a (e - a) t) (λ i h.
      let k : i < e - a = omega (arith, length-take (e - a) (drop a t)) in
      part_at a (e - a) t i k ∙ f (a + i) (omega arith) (omega arith))

-- ---- words below a number

pub below_in : (u : ℕ) (xs : List ℕ) → all_below u xs ≡ true → (i : ℕ) → i < length xs → get_or xs i 0 < u
below_in u [] e i h = absurd (omega arith)
below_in u (x ∷ xs) e zero h = ltb-true x u (and-true (ltb x u) (all_below u xs) e).0
below_in u (x ∷ xs) e (suc i) h = below_in u xs (and-true (ltb x u) (all_below u xs) e).1 i (omega arith)

in-below : (u : ℕ) (xs : List ℕ) → ((i : ℕ) → i < length xs → get_or xs i 0 < u) → all_below u xs ≡ true
in-below u [] f = refl
in-below u (x ∷ xs) f = true-and (ltb x u) (all_below u xs) (lt-ltb x u (f 0 (omega arith))) (in-below u xs (λ i h. f (suc i) (omega arith)))

module _ (t : List ℕ) (q n u : ℕ) (fits : q + n ≤ length t) where
  pub below_at : all_below u (part q n t) ≡ true → (i : ℕ) → i < n → get_or t (q + i) 0 < u
  below_at e i h = rw (← part_at q n t i h) (below_in u (part q n t) e i (omega (arith, part_length q n t fits)))

  pub at-below : ((i : ℕ) → i < n → get_or t (q + i) 0 < u) → all_below u (part q n t) ≡ true
  at-below f = in-below u (part q n t) (λ i h. let k : i < n = omega (arith, part_length q n t fits) in rw (part_at q n t i k) (f i k))

-- ---- distinct words: each is counted once

-- no two of the n words from q on are one
abbrev Differ : List ℕ → ℕ → ℕ → Type 0
Differ t q n = (i j : ℕ) → i < j → j < n → get_or t (q + i) 0 ≢ get_or t (q + j) 0

differ-once : (t : List ℕ) (q n x : ℕ) → Differ t q n → times t q n x ≤ 1
unfolding times
differ-once t q zero x d = omega arith
differ-once t q (suc n) x d = elim (ℕ_discrete (get_or t (q + n) 0) x) [
  | no ne ↦ omega (arith, one-other (get_or t (q + n) 0) x ne, differ-once t q n x (λ i j h k. d i j h (omega arith)))
  | yes e ↦ elim (ℕ_discrete (times t q n x) 0) [
    | yes z ↦ omega (arith, one_same (get_or t (q + n) 0) x e)
    | no nz ↦ absurd (let p = times-place t q n x (omega arith) in d p.0 n p.1 (omega arith) (p.2 ∙ sym e))
  ]
]

times-le : (t : List ℕ) (q m n x : ℕ) → m ≤ n → times t q m x ≤ times t q n x
unfolding times
times-le t q m zero x h = let z : m ≡ 0 = omega arith in rw z (omega arith)
times-le t q m (suc n) x h = elim (ℕ_discrete m (suc n)) [ yes e ↦ rw e (omega arith) | no ne ↦ omega (arith, times-le t q m n x (omega arith)) ]

once-differ : (t : List ℕ) (q n : ℕ) → ((x : ℕ) → times t q n x ≤ 1) → Differ t q n
once-differ t q n f i j h k s =
    let x : ℕ = get_or t (q + i) 0 in
    omega (arith, f x, times-le t q (j + 1) n x (omega arith), times_more t q j x, place-times t q j i h, one_same (get_or t (q + j) 0) x (sym s))

module _ (t : List ℕ) (q n : ℕ) (fits : q + n ≤ length t) where
  len : length (part q n t) ≡ n
  len = part_length q n t fits

  pub times-once : distinctb (part q n t) ≡ true → (x : ℕ) → times t q n x ≤ 1
  times-once e x = differ-once t q n x (λ i j h k s.
      let same : get_or (part q n t) i 0 ≡ get_or (part q n t) j 0 = part_at q n t i (omega arith) ∙ s ∙ sym (part_at q n t j k) in
      omega (arith, distinct-at (part q n t) e i j (omega (arith, len)) (omega (arith, len)) same))

  pub once-distinct : ((x : ℕ) → times t q n x ≤ 1) → distinctb (part q n t) ≡ true
  once-distinct f = at-distinct (part q n t) (λ i j h k s.
      let same : get_or t (q + i) 0 ≡ get_or t (q + j) 0 = sym (part_at q n t i (omega (arith, len))) ∙ s ∙ part_at q n t j (omega (arith, len)) in
      elim (dec_lt i j) [
        | yes a ↦ absurd (once-differ t q n f i j a (omega (arith, len)) same)
        | no a ↦ elim (dec_lt j i) [ yes b ↦ absurd (once-differ t q n f j i b (omega (arith, len)) (sym same)) | no b ↦ omega arith ]
      ])
