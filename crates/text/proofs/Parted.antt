-- Where a text is parted: at the first byte b there is a cut, and a text without b is one piece.
-- Assumes nothing.
use mathlib.Core.Path.{◌≡◌, refl}
use mathlib.Core.Bool.{Bool, true, false, cond}
use mathlib.Core.List.{List, [], ◌∷◌}
use Prim.Native.Nat.{ℕ, suc, ◌+◌, ◌<◌, ◌≤◌}
use native.Mathlib.Numerals.{add-one}
use native.Mathlib.Omega.{arith}
use borrow.Author.Tests.{ltb-false}
use lib.Dec.{eqb, ltb}
use lib.ListN.{length, take, drop}
use Rattle.std.specs.Prelude.{Some, None}
use Rattle.std.specs.declared.option.Option.{Option}
use Rattle.std.specs.Option.{unwrap_or}
use Rattle.std.specs.List.{position_or_len}
use Rattle.std.proofs.lemmas.List.Recursion.{is_position_or_len}
use Rattle.text.specs.Bytes.{place, place_by, parted, parting}

pub place-le : (b : ℕ) (l : List ℕ) → place b l ≤ length l
unfolding place
place-le b [] = omega arith
place-le b (x ∷ xs) = go (place-le b xs) (eqb x b)
  where
    go : place b xs ≤ length xs → (t : Bool) → place_by t (place b xs) ≤ suc (length xs)
    go r true = omega arith
    go r false = omega arith

pub parted-cut : (b : ℕ) (l : List ℕ) → place b l < length l → parted b l ≡ take (place b l) l ∷ parted b (drop (place b l + 1) l)
unfolding place parted
parted-cut b [] h = absurd (omega arith)
parted-cut b (x ∷ xs) h = go (parted-cut b xs) (eqb x b) h
  where
    go : (place b xs < length xs → parted b xs ≡ take (place b xs) xs ∷ parted b (drop (place b xs + 1) xs))
        → (t : Bool) → place_by t (place b xs) < suc (length xs)
        → parting t x (parted b xs) ≡ take (place_by t (place b xs)) (x ∷ xs) ∷ parted b (drop (place_by t (place b xs) + 1) (x ∷ xs))
    go r true l = refl
    go r false l = rw (r (omega arith), add-one (place b xs), add-one (suc (place b xs)))

pub parted-whole : (b : ℕ) (l : List ℕ) → place b l ≡ length l → parted b l ≡ l ∷ []
unfolding place parted
parted-whole b [] e = refl
parted-whole b (x ∷ xs) e = go (parted-whole b xs) (eqb x b) e
  where
    go : (place b xs ≡ length xs → parted b xs ≡ xs ∷ [])
        → (t : Bool) → place_by t (place b xs) ≡ suc (length xs) → parting t x (parted b xs) ≡ (x ∷ xs) ∷ []
    go r true q = absurd (omega arith)
    go r false q = rw (r (omega arith))

-- where `position` finds it
pub position-place : (b : ℕ) (l : List ℕ) → place b l ≡ position_or_len (λ x. eqb x b) l
unfolding place
position-place b l = is_position_or_len (place b) (λ x. eqb x b) refl (λ x xs. go (eqb x b) (place b xs)) l
  where
    go : (t : Bool) (n : ℕ) → place_by t n ≡ cond t 0 (1 + n)
    go true n = refl
    go false n = omega arith

pub place_found : (b : ℕ) (l : List ℕ) {o : Option ℕ} {r : ℕ}
    → o ≡ cond (ltb (position_or_len (λ x. eqb x b) l) (length l)) (Some (position_or_len (λ x. eqb x b) l)) None
    → r ≡ unwrap_or o (length l) → r ≡ place b l
place_found b l e q = rw (q, e, ← position-place b l) (go (ltb (place b l) (length l)) refl)
  where
    go : (t : Bool) → ltb (place b l) (length l) ≡ t → unwrap_or (cond t (Some (place b l)) None) (length l) ≡ place b l
    go true h = refl
    go false h = omega (arith, ltb-false (place b l) (length l) h, place-le b l)

-- a text has a first piece
pub parted-some : (P : List (List ℕ) → Type 0) → ((p : List ℕ) (ps : List (List ℕ)) → P (p ∷ ps)) → (b : ℕ) (l : List ℕ) → P (parted b l)
unfolding parted
parted-some P some b [] = some [] []
parted-some P some b (x ∷ xs) = go (eqb x b) (parted b xs)
  where
    go : (t : Bool) (ps : List (List ℕ)) → P (parting t x ps)
    go true ps = some [] ps
    go false [] = some (x ∷ []) []
    go false (p ∷ ps) = some (x ∷ p) ps
