-- Laws of a part of a list that was lent and has come back: the part itself, and what is left before and behind it.
-- Assumes nothing.
use mathlib.Core.Path.{◌≡◌, refl, sym, ap, ap₂, ◌∙◌}
use mathlib.Core.List.{List, ◌∷◌, ◌++◌, append_assoc}
use Prim.Native.Nat.{ℕ, zero, suc, ◌+◌, ◌-◌, ◌≤◌}
use native.Mathlib.Omega.{arith}
use lib.ListN.{length, take, drop, replicate, length-append, length-replicate}
use lib.Seq.{take_at, drop_at, drop-drop, length-take-le}
use borrow.Rule.Slice.PartMut.{put_mid, mid_of, post_of, mid_len, same_len_mid, Post-is, drop_put}

-- n words from p on, by where they start and end
pub mid_at : (l : List ℕ) {a e p : ℕ} (n : ℕ) → a ≡ p → e ≡ p + n → mid_of a (e - a) l ≡ mid_of p n l
mid_at l {a} {e} {p} n h k = let size : e - a ≡ n = omega arith in ap₂ (λ (i j : ℕ). mid_of i j l) h size

-- the whole, with ys from a up to e
pub put-mid : (l ys : List ℕ) (a e : ℕ) → a ≤ e → put_mid a (e - a) l ys ≡ take a l ++ (ys ++ drop e l)
put-mid l ys a e h = ap (λ (r : List ℕ). take a l ++ (ys ++ r)) (Post-is a e l h)

module _ (l ys : List ℕ) (a e : ℕ) (ae : a ≤ e) (el : e ≤ length l) (n : length ys ≡ e - a) where
  -- the part is what came back
  pub mid-put : mid_of a (e - a) (put_mid a (e - a) l ys) ≡ ys
  mid-put =
      ap (take (e - a)) (drop_at (take a l) (ys ++ post_of a (e - a) l) a (length-take-le a l (omega arith)))
      ∙ take_at ys (post_of a (e - a) l) (e - a) n

  pub put-length : length (put_mid a (e - a) l ys) ≡ length l
  put-length = same_len_mid a (e - a) l ys (n ∙ sym (mid_len a e l el))

  pub take-to-put : take e (put_mid a (e - a) l ys) ≡ take a l ++ ys
  take-to-put =
      ap (take e) (sym (append_assoc (take a l) ys (post_of a (e - a) l)))
      ∙ take_at (take a l ++ ys) (post_of a (e - a) l) e (omega (arith, length-append (take a l) ys, length-take-le a l (omega arith)))

  pub drop-from-put : (f : ℕ) → e ≤ f → drop f (put_mid a (e - a) l ys) ≡ drop f l
  drop-from-put f h =
      let at : e + (f - e) ≡ f = omega arith in
      rw (← at) (sym (drop-drop (f - e) e _) ∙ ap (drop (f - e)) (drop_put a e l ys ae el n) ∙ drop-drop (f - e) e l)

  -- two parts side by side
  pub put_next : (zs : List ℕ) (f : ℕ) → e ≤ f
      → put_mid e (f - e) (put_mid a (e - a) l ys) zs ≡ take a l ++ (ys ++ (zs ++ drop f l))
  put_next zs f ef =
      put-mid (put_mid a (e - a) l ys) zs e f ef
      ∙ ap₂ (λ (p q : List ℕ). p ++ (zs ++ q)) take-to-put (drop-from-put f ef)
      ∙ append_assoc (take a l) ys (zs ++ drop f l)

-- ---- a part from the start on

module _ (l ys : List ℕ) (e : ℕ) (h : e ≤ length l) (n : length ys ≡ length (mid_of 0 (e - 0) l)) where
  same : length ys ≡ e - 0
  same = n ∙ mid_len 0 e l h

  pub front-put : mid_of 0 (e - 0) (put_mid 0 (e - 0) l ys) ≡ ys
  front-put = mid-put l ys 0 e (omega arith) h same

-- of a table of n zeros
take-replicate : (k n x : ℕ) → k ≤ n → take k (replicate n x) ≡ replicate k x
take-replicate zero n x h = refl
take-replicate (suc k) zero x h = absurd (omega arith)
take-replicate (suc k) (suc n) x h = ap (λ (l : List ℕ). x ∷ l) (take-replicate k n x (omega arith))

module _ (n e : ℕ) (h : e ≤ n) where
  pub zeros-fit : e ≤ length (replicate {A = ℕ} n 0)
  zeros-fit = rw (length-replicate {A = ℕ} n 0) h

  pub zeros-length : length (mid_of 0 (e - 0) (replicate {A = ℕ} n 0)) ≡ e
  zeros-length = mid_len 0 e (replicate n 0) zeros-fit ∙ omega arith

  pub zeros-part : mid_of 0 (e - 0) (replicate {A = ℕ} n 0) ≡ replicate e 0
  zeros-part = take-replicate (e - 0) n 0 (omega arith) ∙ ap (λ (k : ℕ). replicate k 0) (omega arith)
