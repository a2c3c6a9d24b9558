-- Words that stayed hold the same part and the same closed words; a slot's words hold one tree in either reading.
-- Assumes nothing.
use mathlib.Core.Path.{◌≡◌, sym, ap, ◌∙◌}
use mathlib.Core.List.{List}
use Prim.Native.Nat.{ℕ, ◌+◌, ◌-◌, ◌<◌, ◌≤◌}
use native.Mathlib.Omega.{arith}
use lib.ListN.{length, get_or, drop, length-take, length-drop}
use lib.Seq.{ext_get_or}
use Rattle.layout.specs.Layout.{closed_words_at, tree_words, part}
use Rattle.layout.specs.Read.{tree_in}
use Rattle.layout.proofs.Places.{part_at}
use Rattle.tree.specs.Tree.{tree_of}

-- the n words from a on
pub part_same : (a n : ℕ) (s t : List ℕ) → length t ≡ length s → ((j : ℕ) → j < n → get_or t (a + j) 0 ≡ get_or s (a + j) 0) → part a n t ≡ part a n s
part_same a n s t e f =
    ext_get_or 0 (part a n t) (part a n s) (rw (length-take n (drop a t), length-take n (drop a s), length-drop a t, length-drop a s, e)) (λ i h.
    let k : i < n = omega (arith, length-take n (drop a t)) in
    part_at a n t i k ∙ f i k ∙ sym (part_at a n s i k))

-- the closed words of a tree, which are its last
pub closed_same : (ws : List ℕ) (l : ℕ) (s t : List ℕ) → length t ≡ length s → ((j : ℕ) → closed_words_at l ≤ j → get_or t j 0 ≡ get_or s j 0) → (tree_of ws l t).closed ≡ (tree_of ws l s).closed
unfolding tree_in
closed_same ws l s t e f =
    ap (λ (n : ℕ). part (closed_words_at l) (n - closed_words_at l) t) e ∙ part_same (closed_words_at l) (length s - closed_words_at l) s t e (λ j _. f (closed_words_at l + j) (omega arith))

-- all words behind the queue are closed words
pub tree-of : (ws : List ℕ) (m l : ℕ) (t : List ℕ) → length t ≡ tree_words m l → tree_of ws l t ≡ tree_in ws m l t
tree-of ws m l t n =
    let all : length t - closed_words_at l ≡ m = omega (arith, n) in
    ap (λ (k : ℕ). tree_in ws k l t) all
