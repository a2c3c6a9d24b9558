-- The waiting nodes of a tree's words, by how often each number stands in the queue.
-- Assumes nothing.
use mathlib.Core.Path.{◌≡◌, refl, sym, ap, ap₂, ◌∙◌, fun_ext}
use mathlib.Core.Bool.{Bool, true, false, not, ◌&&◌, ◌||◌, or-false}
use mathlib.Core.List.{List, [], ◌∷◌, ◌++◌, Memᴰ}
use Prim.Native.Nat.{ℕ, zero, suc, ◌+◌, ◌<◌, ◌≤◌}
use native.Mathlib.Omega.{arith}
use native.Mathlib.Nat.{add-zero}
use native.Mathlib.Numerals.{add-one}
use native.Mathlib.Decide.{ℕ_discrete}
use lib.Dec.{eqb, ltb}
use lib.ListN.{length, get_or, drop, length-drop}
use lib.Seq.{take-suc, get_or-drop}
use borrow.Author.Tests.{lt-ltb, le-ltb, ltb-true, eq-eqb, ne_eqb}
use Rattle.model.specs.Lists.{numbers, keep, those, mem}
use Rattle.model.specs.Tree.{without}
use Rattle.model.proofs.Bools.{true-or-right}
use Rattle.model.proofs.Lists.{numbers-mem, numbers-has, numbers-snoc, those-mem, those-has, those-snoc, those-same, mem-snoc}
use Rattle.layout.specs.Layout.{queue_at, part, queued_in, used_in}
use Rattle.layout.specs.Read.{tree_in}
use Rattle.queue.specs.Queue.{one, times}
use Rattle.queue.proofs.Times.{one_same, one-other, times-place}
use Rattle.tree.specs.Tree.{tree_of, Formed}

-- ---- membership of the queue words as a count

-- one word more
more : (n w x : ℕ) → (ltb 0 n || eqb x w) ≡ ltb 0 (n + one w x)
more n w x = elim (ℕ_discrete w x) [
  | yes e ↦ true-or-right (ltb 0 n) (eqb x w) (eq-eqb x w (sym e)) ∙ sym (lt-ltb 0 (n + one w x) (omega (arith, one_same w x e)))
  | no ne ↦ rw (ne_eqb x w (λ e. ne (sym e)), one-other w x ne, add-zero) (or-false (ltb 0 n))
]

pub mem-times : (t : List ℕ) (q n x : ℕ) → q + n ≤ length t → mem x (part q n t) ≡ ltb 0 (times t q n x)
unfolding mem times
mem-times t q zero x h = refl
mem-times t q (suc n) x h =
    ap (mem x) (take-suc (drop q t) n 0 (omega (arith, length-drop q t)))
    ∙ mem-snoc x (get_or (drop q t) n 0) (part q n t)
    ∙ ap (λ (b : Bool). b || eqb x (get_or (drop q t) n 0)) (mem-times t q n x (omega arith))
    ∙ ap (λ (w : ℕ). ltb 0 (times t q n x) || eqb x w) (get_or-drop q t n 0)
    ∙ more (times t q n x) (get_or t (q + n) 0) x

-- the numbers at which a test passes, without k
those-without : (p r : ℕ → Bool) (k : ℕ) → ((i : ℕ) → r i ≡ (not (eqb i k) && p i)) → (xs : List ℕ) → those r xs ≡ without k (those p xs)
unfolding those without
those-without p r k f [] = refl
those-without p r k f (x ∷ xs) = rw (f x, those-without p r k f xs) (go (p x) (not (eqb x k)) refl)
  where
    go : (a b : Bool) → not (eqb x k) ≡ b → keep (b && a) x (without k (those p xs)) ≡ without k (keep a x (those p xs))
    go true true e = rw (e, without)
    go true false e = rw (e, without)
    go false true e = refl
    go false false e = refl

-- ---- the waiting nodes of a tree

-- how often x stands in the queue
abbrev pub waits : ℕ → List ℕ → ℕ → ℕ
waits l t x = times t (queue_at l) (queued_in t) x

abbrev waitsb : ℕ → List ℕ → ℕ → Bool
waitsb l t x = ltb 0 (waits l t x)

waiting-is : (ws : List ℕ) (l : ℕ) (t : List ℕ) → queue_at l + queued_in t ≤ length t → (tree_of ws l t).waiting ≡ those (waitsb l t) (numbers (used_in t))
unfolding tree_in
waiting-is ws l t h =
    ap (λ (p : ℕ → Bool). those p (numbers (used_in t))) (fun_ext (λ x. mem-times t (queue_at l) (queued_in t) x h))

module _ (ws : List ℕ) (l : ℕ) (t : List ℕ) (h : queue_at l + queued_in t ≤ length t) (x : ℕ) where
  pub waiting-mem : Memᴰ x (tree_of ws l t).waiting → 0 < waits l t x
  waiting-mem m = ltb-true 0 (waits l t x) (those-mem (waitsb l t) (numbers (used_in t)) x (rw (waiting-is ws l t h) at m)).1

  pub waiting-has : x < used_in t → 0 < waits l t x → Memᴰ x (tree_of ws l t).waiting
  waiting-has u w =
      rw (waiting-is ws l t h) (those-has (waitsb l t) (numbers (used_in t)) x (numbers-has (used_in t) x u) (lt-ltb 0 (waits l t x) w))

module _ (ws : List ℕ) (l : ℕ) (s t : List ℕ) (hs : queue_at l + queued_in s ≤ length s) (ht : queue_at l + queued_in t ≤ length t) where
  -- node k was taken
  pub waiting-popped : (k : ℕ) → used_in t ≡ used_in s → ((x : ℕ) → waits l t x + one k x ≡ waits l s x) → waits l s k ≤ 1
      → (tree_of ws l t).waiting ≡ without k (tree_of ws l s).waiting
  waiting-popped k u f once =
      rw (waiting-is ws l t ht, u, waiting-is ws l s hs) (those-without (waitsb l s) (waitsb l t) k test (numbers (used_in s)))
    where
      test : (x : ℕ) → waitsb l t x ≡ (not (eqb x k) && waitsb l s x)
      test x = elim (ℕ_discrete x k) [
        | yes e ↦ rw (eq-eqb x k e) (le-ltb 0 (waits l t x) (omega (arith, f x, one_same k x (sym e), ap (waits l s) e)))
        | no ne ↦
            let same : waits l t x ≡ waits l s x = omega (arith, f x, one-other k x (λ e. ne (sym e))) in
            rw (ne_eqb x k ne, same)
      ]

  -- the node with the next number was queued
  pub waiting-pushed : used_in t ≡ used_in s + 1 → ((x : ℕ) → waits l t x ≡ waits l s x + one (used_in s) x)
      → (tree_of ws l t).waiting ≡ (tree_of ws l s).waiting ++ (used_in s ∷ [])
  waiting-pushed u f =
      rw (waiting-is ws l t ht, u, add-one, waiting-is ws l s hs)
      (ap (those (waitsb l t)) (numbers-snoc n)
      ∙ those-snoc (waitsb l t) (numbers n) n
      ∙ ap₂ (λ (xs : List ℕ) (b : Bool). xs ++ keep b n []) (those-same (waitsb l t) (waitsb l s) (numbers n) test) last)
    where
      n : ℕ
      n = used_in s

      test : (x : ℕ) → Memᴰ x (numbers n) → waitsb l t x ≡ waitsb l s x
      test x h = let same : waits l t x ≡ waits l s x = omega (arith, f x, one-other n x (omega (arith, numbers-mem n x h))) in rw same

      last : waitsb l t n ≡ true
      last = lt-ltb 0 (waits l t n) (omega (arith, f n, one_same n n refl))

-- what waits is a node
pub waits-node : {l : ℕ} {t : List ℕ} → Formed l t → (x : ℕ) → 0 < waits l t x → x < used_in t
waits-node {l} {t} f x h = let i = times-place t (queue_at l) (queued_in t) x h in omega (arith, f.nodes i.0 i.1, i.2)
