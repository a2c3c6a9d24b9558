-- One step of the way to a node: its words are its parent's with an edge and a vertex more, where parents have smaller numbers.
-- Assumes nothing.
use mathlib.Core.Path.{◌≡◌, refl, sym, ap, ◌∙◌}
use mathlib.Core.Logic.{◌≢◌}
use mathlib.Core.Bool.{Bool}
use mathlib.Core.List.{List, [], ◌∷◌}
use Prim.Native.Nat.{ℕ, zero, suc, ◌+◌, ◌<◌, ◌≤◌}
use native.Mathlib.Omega.{arith}
use native.Mathlib.Decide.{ℕ_discrete}
use borrow.Author.Tests.{ne_eqb}
use lib.ListN.{length, length-append}
use Rattle.model.specs.Graph.{Direction, forward}
use Rattle.model.specs.Tree.{Node, node}
use Rattle.model.specs.Path.{moves_of, moved, words_if, words_in, words}
use Rattle.model.proofs.Words.{words_count}

-- from node n on each parent's number is smaller
abbrev pub Lower : List Node → ℕ → Type 0
Lower ns n = (i : ℕ) → 0 < i → i ≤ n → (node ns i).parent < i

module _ (dir : Direction) (ns : List Node) where
  root_in : (b n : ℕ) → n ≡ 0 → words_in dir ns b n ≡ (node ns n).vertex ∷ []
  unfolding words_in
  root_in zero n e = refl
  root_in (suc b) n e = rw e refl

  next-in : (b n : ℕ) → n ≢ 0 → words_in dir ns (suc b) n ≡ moved dir (words_in dir ns b (node ns n).parent) (node ns n).edge (node ns n).vertex
  unfolding words_in
  next-in b n z = ap (λ (x : Bool). words_if x dir (words_in dir ns b (node ns n).parent) (node ns n).edge (node ns n).vertex) (ne_eqb n 0 z)

  -- any bound that is at least n gives the same words
  any-bound : (b c n : ℕ) → n ≤ b → n ≤ c → Lower ns n → words_in dir ns b n ≡ words_in dir ns c n
  any-bound zero c n h k low = root_in zero n (omega arith) ∙ sym (root_in c n (omega arith))
  any-bound (suc b) zero n h k low = root_in (suc b) n (omega arith) ∙ sym (root_in zero n (omega arith))
  any-bound (suc b) (suc c) n h k low = elim (ℕ_discrete n 0) [
    | yes z ↦ root_in (suc b) n z ∙ sym (root_in (suc c) n z)
    | no z ↦
        let less : (node ns n).parent < n = low n (omega arith) (omega arith) in
        next-in b n z
        ∙ ap (λ (r : List ℕ). moved dir r (node ns n).edge (node ns n).vertex)
        (any-bound b c (node ns n).parent (omega arith) (omega arith) (λ i pos le. low i pos (omega arith)))
        ∙ sym (next-in c n z)
  ]

  pub root-words : words dir ns 0 ≡ (node ns 0).vertex ∷ []
  unfolding words
  root-words = root_in 0 0 refl

  pub next-words : (n : ℕ) → 0 < n → Lower ns n → words dir ns n ≡ moved dir (words dir ns (node ns n).parent) (node ns n).edge (node ns n).vertex
  unfolding words
  next-words n pos low =
      let less : (node ns n).parent < n = low n pos (omega arith) in
      any-bound n (suc n) n (omega arith) (omega arith) low
      ∙ next-in n n (omega arith)
      ∙ ap (λ (r : List ℕ). moved dir r (node ns n).edge (node ns n).vertex)
      (any-bound n (node ns n).parent (node ns n).parent (omega arith) (omega arith) (λ i p le. low i p (omega arith)))

pub root-moves : (ns : List Node) → moves_of ns 0 ≡ 0
root-moves ns = omega (arith, words_count forward ns 0, ap length (root-words forward ns))

pub next-moves : (ns : List Node) (n : ℕ) → 0 < n → Lower ns n → moves_of ns n ≡ 1 + moves_of ns (node ns n).parent
next-moves ns n pos low =
    omega (
      arith,
      words_count forward ns n,
      words_count forward ns (node ns n).parent,
      ap length (next-words forward ns n pos low),
      length-append (words forward ns (node ns n).parent) ((node ns n).edge ∷ (node ns n).vertex ∷ []),
    )
