-- A tag and the numbers after it: as the code tests them, written back, and read back.
-- Assumes nothing.
use mathlib.Core.Path.{◌≡◌, refl, sym, ap, ◌∙◌}
use Rattle.std.specs.declared.option.Option.{Option}
use Rattle.std.specs.Prelude.{None, Some}
use mathlib.Core.Logic.{◌⊎◌, inl, inr}
use mathlib.Core.Bool.{Bool, true, false, not, ◌&&◌, or-false}
use mathlib.Core.List.{List, [], ◌∷◌, ◌++◌}
use Prim.Native.Nat.{ℕ, zero, suc, ◌≤◌}
use native.Mathlib.Omega.{arith}
use borrow.Author.Tests.{eqb-true, eq-eqb, ne_eqb}
use lib.Dec.{eqb, leb}
use lib.ListN.{get_or, drop}
use Rattle.model.specs.declared.BestSolution.{BestSolution}
use Rattle.model.proofs.Bools.{and-true, or_cases}
use Rattle.search_words.specs.Record.{option_words, best_words, mark_word, option_of, best_of, mark_of, tagb, optionb, bestb}

-- ---- as the code tests them

pub tag-none : (k : ℕ) (zeros : Bool) → k ≡ 0 → zeros ≡ tagb k zeros
tag-none k zeros e = sym (ap (λ (x : ℕ). tagb x zeros) e ∙ or-false zeros)

pub tag-some : (k : ℕ) (zeros : Bool) → (k ≡ 0 → ⊥) → eqb k 1 ≡ tagb k zeros
tag-some k zeros h = rw (ne_eqb k 0 h)

pub mark-read : (k : ℕ) → not (eqb k 0) ≡ mark_of k
mark-read zero = refl
mark-read (suc k) = rw (ne_eqb (suc k) 0 (λ e. omega arith))

pub both_zero : (x : Bool) (i n : ℕ) → i ≡ 0 → x ≡ eqb n 0 → x ≡ (eqb i 0 && eqb n 0)
both_zero x i n e q = q ∙ rw (eq-eqb i 0 e)

pub not-zero : (x : Bool) (i n : ℕ) → (i ≡ 0 → ⊥) → x ≡ eqb i 0 → x ≡ (eqb i 0 && eqb n 0)
not-zero x i n h q = q ∙ rw (ne_eqb i 0 h)

pub both-pass : (x y a b : Bool) → x ≡ a → x ≡ true → y ≡ b → y ≡ (a && b)
both-pass x y a b e p q = q ∙ rw (sym e ∙ p)

pub first-fails : (x a b : Bool) → x ≡ a → x ≡ false → x ≡ (a && b)
first-fails x a b e p = p ∙ rw (sym e ∙ p)

-- ---- words that pass the test are written back as they were

tag-cases : (k : ℕ) (zeros : Bool) → tagb k zeros ≡ true → ((k ≡ 0) × (zeros ≡ true)) ⊎ (k ≡ 1)
tag-cases k zeros e = elim (or_cases (eqb k 0 && zeros) (eqb k 1) e) [ inl p ↦ (let q = and-true (eqb k 0) zeros p in inl (eqb-true k 0 q.0, q.1)) | inr p ↦ inr (eqb-true k 1 p) ]

pub option_written : (k n : ℕ) → optionb k n ≡ true → option_words (option_of k n) ≡ k ∷ n ∷ []
option_written k n e = elim (tag-cases k (eqb n 0) e) [ inl p ↦ rw (p.0, eqb-true n 0 p.1) | inr p ↦ rw p ]

pub best-written : (k i n : ℕ) → bestb k i n ≡ true → best_words (best_of k i n) ≡ k ∷ i ∷ n ∷ []
best-written k i n e = elim (tag-cases k (eqb i 0 && eqb n 0) e) [ inl p ↦ (let q = and-true (eqb i 0) (eqb n 0) p.1 in rw (p.0, eqb-true i 0 q.0, eqb-true n 0 q.1)) | inr p ↦ rw p ]

pub mark-written : (k : ℕ) → k ≤ 1 → mark_word (mark_of k) ≡ k
mark-written zero h = refl
mark-written (suc k) h = omega arith

-- ---- words that were written pass the test, and are read as they were

-- the words w of a count and a node
pub record OptionsRead (k : Option ℕ) (o : Option ℕ) (w : List ℕ) : Type 0 where
  pub known : option_of (get_or w 0 0) (get_or w 1 0) ≡ k
  pub solution : option_of (get_or w 2 0) (get_or w 3 0) ≡ o
  pub known_passes : optionb (get_or w 0 0) (get_or w 1 0) ≡ true
  pub solution_passes : optionb (get_or w 2 0) (get_or w 3 0) ≡ true

pub options-read : (k : Option ℕ) (o : Option ℕ) → OptionsRead k o (option_words k ++ option_words o)
options-read None None = record { known = refl; solution = refl; known_passes = refl; solution_passes = refl }
options-read None (Some n) = record { known = refl; solution = refl; known_passes = refl; solution_passes = refl }
options-read (Some m) None = record { known = refl; solution = refl; known_passes = refl; solution_passes = refl }
options-read (Some m) (Some n) = record { known = refl; solution = refl; known_passes = refl; solution_passes = refl }

-- the words w of a best, with the words l past them
pub record BestRead (b : Option BestSolution) (l w : List ℕ) : Type 0 where
  pub reads : best_of (get_or w 0 0) (get_or w 1 0) (get_or w 2 0) ≡ b
  pub passes : bestb (get_or w 0 0) (get_or w 1 0) (get_or w 2 0) ≡ true
  pub past : drop 3 w ≡ l

pub best-read : (b : Option BestSolution) (l : List ℕ) → BestRead b l (best_words b ++ l)
best-read None l = record { reads = refl; passes = refl; past = refl }
best-read (Some b) l = record { reads = refl; passes = refl; past = refl }

pub mark-back : (b : Bool) → mark_of (mark_word b) ≡ b
mark-back false = refl
mark-back true = refl

pub mark-passes : (b : Bool) → leb (mark_word b) 1 ≡ true
mark-passes false = refl
mark-passes true = refl
