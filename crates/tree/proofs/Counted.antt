-- Counting the closed words of a tree: all but those that are 0.
-- Assumes nothing.
use mathlib.Core.Path.{◌≡◌, refl, ap, ◌∙◌}
use mathlib.Core.Bool.{Bool, true, false, cond}
use mathlib.Core.List.{List, [], ◌∷◌}
use Prim.Native.Nat.{ℕ, suc, ◌+◌, ◌-◌, ◌≤◌}
use native.Mathlib.Omega.{arith}
use lib.Dec.{eqb}
use lib.ListN.{length, take, drop}
use lib.Seq.{take_all}
use Rattle.std.proofs.Common.{count_by, ◌==◌}
use Rattle.std.proofs.lemmas.List.Sums.{sum_by-cons}
use Rattle.model.specs.Search.{count_if, closed_count}
use Rattle.layout.specs.Layout.{closed_words_at}
use Rattle.layout.specs.Read.{tree_in}
use Rattle.tree.specs.Tree.{tree_of}

one_more : (b : Bool) (m n : ℕ) {k : ℕ} → m + n ≡ k → count_if b m + (cond b 1 0 + n) ≡ suc k
one_more true m n h = omega arith
one_more false m n h = omega arith

-- the words that are not 0, and the others
parted : (xs : List ℕ) → closed_count xs + count_by (λ x. x == 0) xs ≡ length xs
unfolding closed_count
parted [] = refl
parted (x ∷ xs) = rw (sum_by-cons (λ y. cond (y == 0) 1 0) x xs) (one_more (eqb x 0) (closed_count xs) (count_by (λ y. y == 0) xs) (parted xs))

-- the first i words are all of them, and k of those are 0
counted : (xs : List ℕ) (i k : ℕ) → k ≡ count_by (λ x. x == 0) (take i xs) → length xs ≤ i → length xs - k ≡ closed_count xs
counted xs i k e h = omega (arith, parted xs, e ∙ ap (count_by (λ x. x == 0)) (take_all i xs h))

pub counted-all : (l p : ℕ) {i k : ℕ} (t : List ℕ) → p ≡ closed_words_at l → k ≡ count_by (λ x. x == 0) (take i (take (length t - p) (drop p t)))
    → length (take (length t - p) (drop p t)) ≤ i → (ws : List ℕ) → length (take (length t - p) (drop p t)) - k ≡ closed_count (tree_of ws l t).closed
unfolding tree_in
counted-all l p {i} {k} t e f h ws =
    counted (take (length t - p) (drop p t)) i k f h
    ∙ ap (λ (x : ℕ). closed_count (take (length t - x) (drop x t))) e
