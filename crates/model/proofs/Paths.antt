-- Paths with one more edge at the end: where they lead, what they cost, their words.
-- Assumes nothing.
use mathlib.Core.Path.{◌≡◌, refl, sym, ap, ◌∙◌}
use mathlib.Core.List.{List, [], ◌∷◌, ◌++◌}
use Prim.Native.Nat.{ℕ, ◌+◌, ◌*◌, ◌≤◌}
use native.Mathlib.Omega.{arith}
use lib.ListN.{length}
use Rattle.model.specs.Graph.{Graph, Accepted, from, to, cost, Usable, Leads, total, move_words}

pub leads-snoc : (g : Graph) (a b l : ℕ) (ls : List ℕ) → Leads g a ls b → Usable g l → from g l ≡ b → Leads g a (ls ++ (l ∷ [])) (to g l)
leads-snoc g a b l [] r h e = (h, e ∙ sym r, refl)
leads-snoc g a b l (k ∷ ks) r h e = (r.0, r.1, leads-snoc g (to g k) b l ks r.2 h e)

pub total-snoc : (g : Graph) (l : ℕ) (ls : List ℕ) → total g (ls ++ (l ∷ [])) ≡ total g ls + cost g l
total-snoc g l [] = omega arith
total-snoc g l (k ∷ ks) = omega (arith, total-snoc g l ks)

pub move_words-snoc : (g : Graph) (l : ℕ) (ls : List ℕ) → move_words g (ls ++ (l ∷ [])) ≡ move_words g ls ++ (l ∷ to g l ∷ [])
move_words-snoc g l [] = refl
move_words-snoc g l (k ∷ ks) = ap (λ (r : List ℕ). k ∷ to g k ∷ r) (move_words-snoc g l ks)

-- the edges of a path cost at most 999,999 each
pub total-le : (g : Graph) → Accepted g → (ls : List ℕ) (a b : ℕ) → Leads g a ls b → total g ls ≤ 999999 * length ls
total-le g acc [] a b r = omega arith
total-le g acc (l ∷ ls) a b r = omega (arith, acc.costs l r.0, total-le g acc ls (to g l) b r.2)
