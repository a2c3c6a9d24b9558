-- Words stored in a row: what stands there then, and what stays.
-- Assumes nothing.
use mathlib.Core.Path.{◌≡◌, refl, sym, ap, ◌∙◌}
use mathlib.Core.List.{List, ◌++◌, append_assoc}
use Prim.Native.Nat.{ℕ, ◌+◌, ◌<◌, ◌≤◌}
use native.Mathlib.Decide.{dec_lt}
use native.Mathlib.Omega.{arith}
use lib.ListN.{length, get_or, take, drop, length-take, length-drop, take-append-drop, get_or-eq_default}
use lib.Seq.{sets, sets-eq, drop-append-le, drop-drop}
use borrow.Rule.Slice.PartMut.{put_mid, mid_of, post_of}
use Rattle.tree.proofs.Added.{get_or-sets-other, get_or-sets-at}

-- in front of zeros
pub stored_at : (vs l : List ℕ) (i k : ℕ) → i + k < length l → (length vs ≤ k → get_or l (i + k) 0 ≡ 0) → get_or (sets l i vs) (i + k) 0 ≡ get_or vs k 0
stored_at vs l i k h z = elim (dec_lt k (length vs)) [
  | yes b ↦ get_or-sets-at vs l i k (i + k) refl b h
  | no b ↦ get_or-sets-other vs l i (i + k) (λ n nb e. b (omega arith)) ∙ z (omega arith) ∙ sym (get_or-eq_default vs 0 (let q : length vs ≤ k = omega arith in q))
]

-- from the start of a part that was lent
pub stored-part : (a k : ℕ) (l vs : List ℕ) → length vs ≤ k → a + length vs ≤ length l → put_mid a k l (sets (mid_of a k l) 0 vs) ≡ sets l a vs
stored-part a k l vs short fits =
    let n = length vs in
    let mid = mid_of a k l in
    let post = post_of a k l in
    let room : n ≤ length mid = omega (arith, length-take k (drop a l), length-drop a l) in
    let all : 0 + n ≡ n = omega arith in
    ap (λ (z : List ℕ). take a l ++ (z ++ post)) (sets-eq vs mid 0 (rw all room) ∙ ap (λ (j : ℕ). vs ++ drop j mid) all)
    ∙ ap (λ (z : List ℕ). take a l ++ z)
    (append_assoc vs (drop n mid) post ∙ ap (λ (z : List ℕ). vs ++ z) (sym (drop-append-le n mid post room) ∙ ap (drop n) (take-append-drop k (drop a l)) ∙ drop-drop n a l))
    ∙ sym (sets-eq vs l a fits ∙ append_assoc (take a l) vs (drop (a + n) l))
