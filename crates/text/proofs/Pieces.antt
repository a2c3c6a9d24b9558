-- A text and its pieces: the pieces put together again, and pieces without the byte that parts them.
-- Assumes nothing.
use mathlib.Core.Path.{◌≡◌, refl, sym, ap, ◌∙◌}
use mathlib.Core.Bool.{Bool, true, false}
use mathlib.Core.List.{List, [], ◌∷◌, ◌++◌, append-nil}
use Prim.Native.Nat.{ℕ, ◌<◌, ◌≤◌}
use native.Mathlib.Omega.{arith}
use borrow.Author.Tests.{eqb-true, eq-eqb, ne_eqb}
use lib.Dec.{eqb}
use Rattle.text.specs.Bytes.{parted, parting}
use Rattle.text.proofs.Parted.{parted-some}

-- ---- put together, with b between them

abbrev pub rejoined_from : ℕ → List ℕ → List (List ℕ) → List ℕ
rejoined_from b p [] = p
rejoined_from b p (q ∷ qs) = p ++ (b ∷ rejoined_from b q qs)

abbrev pub rejoined : ℕ → List (List ℕ) → List ℕ
rejoined b [] = []
rejoined b (p ∷ ps) = rejoined_from b p ps

rejoined-cons : (b x : ℕ) (p : List ℕ) (ps : List (List ℕ)) → rejoined_from b (x ∷ p) ps ≡ x ∷ rejoined_from b p ps
rejoined-cons b x p [] = refl
rejoined-cons b x p (q ∷ qs) = refl

pub rejoined-parted : (b : ℕ) (l : List ℕ) → rejoined b (parted b l) ≡ l
unfolding parted
rejoined-parted b [] = refl
rejoined-parted b (x ∷ xs) =
    parted-some (λ ps. rejoined b ps ≡ xs → rejoined b (parting (eqb x b) x ps) ≡ x ∷ xs) (go (eqb x b) refl) b xs (rejoined-parted b xs)
  where
    go : (t : Bool) → eqb x b ≡ t → (p : List ℕ) (ps : List (List ℕ)) → rejoined_from b p ps ≡ xs → rejoined b (parting t x (p ∷ ps)) ≡ x ∷ xs
    go true e p ps r = rw (eqb-true x b e, r)
    go false e p ps r = rejoined-cons b x p ps ∙ ap (λ (l : List ℕ). x ∷ l) r

-- ---- bytes above b

abbrev pub Above : ℕ → List ℕ → Type 0
Above b [] = Unit {0}
Above b (x ∷ xs) = (b < x) × Above b xs

pub above-append : (b : ℕ) (l r : List ℕ) → Above b l → Above b r → Above b (l ++ r)
above-append b [] r p q = q
above-append b (x ∷ l) r p q = (p.0, above-append b l r p.1 q)

pub above-less : (a b : ℕ) (l : List ℕ) → a ≤ b → Above b l → Above a l
above-less a b [] h p = tt
above-less a b (x ∷ l) h p = (omega arith, above-less a b l h p.1)

-- a first piece p before bytes that have an empty one
first_piece : (b : ℕ) (p l : List ℕ) {ps : List (List ℕ)} → Above b p → parted b l ≡ [] ∷ ps → parted b (p ++ l) ≡ p ∷ ps
unfolding parted
first_piece b [] l h e = e
first_piece b (x ∷ p) l h e = rw (ne_eqb x b (omega arith), first_piece b p l h.1 e)

pub parted-next : (b : ℕ) (p l : List ℕ) → Above b p → parted b (p ++ (b ∷ l)) ≡ p ∷ parted b l
unfolding parted
parted-next b p l h = first_piece b p (b ∷ l) h (rw (eq-eqb b b refl))

pub parted-last : (b : ℕ) (p : List ℕ) → Above b p → parted b p ≡ p ∷ []
unfolding parted
parted-last b p h = ap (parted b) (sym (append-nil p)) ∙ first_piece b p [] h refl
