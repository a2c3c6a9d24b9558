-- In a sound tree the words of a node are those of its path: forward as it stands, backward read from the node to the root; and how many they are.
-- Assumes nothing.
use mathlib.Core.Path.{◌≡◌, refl, sym, ap, ap₂, ◌∙◌}
use mathlib.Core.Bool.{Bool, true, false}
use mathlib.Core.List.{List, [], ◌∷◌, ◌++◌}
use Prim.Native.Nat.{ℕ, zero, suc, ◌+◌, ◌*◌, ◌<◌, ◌≤◌}
use native.Mathlib.Omega.{arith}
use borrow.Author.Tests.{eqb-true, eqb-false}
use lib.Dec.{eqb}
use lib.ListN.{length, length-append}
use Rattle.model.specs.Graph.{Graph, Domain, from, to, move_words, path_words, Direction, forward, backward, reversed}
use Rattle.model.specs.Tree.{Tree, Node, node}
use Rattle.model.specs.Sound.{Sound, Hangs}
use Rattle.model.specs.Path.{snoc_if, path_in, path, moves_of, moved, words_if, words_in, words}
use Rattle.model.proofs.Paths.{move_words-snoc}
use Rattle.model.proofs.Reversed.{back, back-snoc, reverse-from}

moved_length : (dir : Direction) (r : List ℕ) (l v : ℕ) → length (moved dir r l v) ≡ length r + 2
moved_length forward r l v = length-append r (l ∷ v ∷ [])
moved_length backward r l v = omega arith

module _ (d : Domain) (t : Tree) (ok : Sound d t) where
  abbrev vertex_of : ℕ → ℕ
  vertex_of n = (node t.nodes n).vertex

  abbrev edge_of : ℕ → ℕ
  edge_of n = (node t.nodes n).edge

  abbrev parent_of : ℕ → ℕ
  parent_of n = (node t.nodes n).parent

  -- ---- forward

  abbrev Forward : List ℕ → List ℕ → Type 0
  Forward ws ls = ws ≡ path_words d.graph t.start ls

  root-forward : (n : ℕ) → n ≡ 0 → Forward (vertex_of n ∷ []) []
  root-forward n e = rw e (ap (λ (v : ℕ). v ∷ []) ok.root_vertex)

  step-forward : (n : ℕ) (ws ls : List ℕ) → Hangs d t.nodes t.closed n → Forward ws ls → Forward (ws ++ (edge_of n ∷ vertex_of n ∷ [])) (ls ++ (edge_of n ∷ []))
  step-forward n ws ls h e =
      ap₂ (λ (r : List ℕ) (v : ℕ). r ++ (edge_of n ∷ v ∷ [])) e (sym h.enters)
      ∙ ap (λ (r : List ℕ). t.start ∷ r) (sym (move_words-snoc d.graph (edge_of n) ls))

  forward-in : (b n : ℕ) → n ≤ b → n < length t.nodes → Forward (words_in forward t.nodes b n) (path_in t.nodes b n)
  unfolding path_in words_in
  forward-in zero n le h = root-forward n (omega arith)
  forward-in (suc b) n le h = go (λ p. forward-in b p) (eqb n 0) refl
    where
      go : ((p : ℕ) → p ≤ b → p < length t.nodes → Forward (words_in forward t.nodes b p) (path_in t.nodes b p))
          → (q : Bool) → eqb n 0 ≡ q
          → Forward (words_if q forward (words_in forward t.nodes b (parent_of n)) (edge_of n) (vertex_of n)) (snoc_if q (path_in t.nodes b (parent_of n)) (edge_of n))
      go ih true e = root-forward n (eqb-true n 0 e)
      go ih false e =
          let k : Hangs d t.nodes t.closed n = ok.hangs n (eqb-false n 0 e) h in
          step-forward n (words_in forward t.nodes b (parent_of n)) (path_in t.nodes b (parent_of n)) k (ih (parent_of n) (omega arith) (omega arith))

  pub words-forward : (n : ℕ) → n < length t.nodes → words forward t.nodes n ≡ path_words d.graph t.start (path t.nodes n)
  unfolding path words
  words-forward n h = forward-in n n (omega arith) h

  -- ---- backward

  module _ (g : Graph) (turn : d.graph ≡ reversed g) where
    abbrev Backward : ℕ → List ℕ → List ℕ → Type 0
    Backward n ws ls = ws ≡ path_words g (vertex_of n) (back ls)

    root-backward : (n : ℕ) → Backward n (vertex_of n ∷ []) []
    unfolding back
    root-backward n = refl

    -- the edge of a node enters its parent's vertex
    edge-enters : (n : ℕ) → Hangs d t.nodes t.closed n → to g (edge_of n) ≡ vertex_of (parent_of n)
    edge-enters n h = sym (reverse-from g (edge_of n)) ∙ ap (λ (x : Graph). from x (edge_of n)) (sym turn) ∙ h.leaves

    step-backward : (n : ℕ) (ws ls : List ℕ) → Hangs d t.nodes t.closed n → Backward (parent_of n) ws ls
        → Backward n (vertex_of n ∷ edge_of n ∷ ws) (ls ++ (edge_of n ∷ []))
    step-backward n ws ls h e =
        ap (λ (r : List ℕ). vertex_of n ∷ edge_of n ∷ r) e
        ∙ ap (λ (v : ℕ). vertex_of n ∷ edge_of n ∷ v ∷ move_words g (back ls)) (sym (edge-enters n h))
        ∙ ap (λ (r : List ℕ). vertex_of n ∷ move_words g r) (sym (back-snoc ls (edge_of n)))

    backward-in : (b n : ℕ) → n ≤ b → n < length t.nodes → Backward n (words_in backward t.nodes b n) (path_in t.nodes b n)
    unfolding path_in words_in
    backward-in zero n le h = root-backward n
    backward-in (suc b) n le h = go (λ p. backward-in b p) (eqb n 0) refl
      where
        go : ((p : ℕ) → p ≤ b → p < length t.nodes → Backward p (words_in backward t.nodes b p) (path_in t.nodes b p))
            → (q : Bool) → eqb n 0 ≡ q
            → Backward n (words_if q backward (words_in backward t.nodes b (parent_of n)) (edge_of n) (vertex_of n)) (snoc_if q (path_in t.nodes b (parent_of n)) (edge_of n))
        go ih true e = root-backward n
        go ih false e =
            let k : Hangs d t.nodes t.closed n = ok.hangs n (eqb-false n 0 e) h in
            step-backward n (words_in backward t.nodes b (parent_of n)) (path_in t.nodes b (parent_of n)) k (ih (parent_of n) (omega arith) (omega arith))

  pub words-backward : (n : ℕ) → n < length t.nodes → (g : Graph) → d.graph ≡ reversed g
      → words backward t.nodes n ≡ path_words g (node t.nodes n).vertex (back (path t.nodes n))
  unfolding path words
  words-backward n h g turn = backward-in g turn n n (omega arith) h

-- ---- how many

-- of any list of nodes
length-in : (dir : Direction) (ns : List Node) (b n : ℕ) → length (words_in dir ns b n) ≡ 1 + 2 * length (path_in ns b n)
unfolding path_in words_in
length-in dir ns zero n = refl
length-in dir ns (suc b) n = go (length-in dir ns b (node ns n).parent) (eqb n 0)
  where
    go : length (words_in dir ns b (node ns n).parent) ≡ 1 + 2 * length (path_in ns b (node ns n).parent) → (q : Bool)
        → length (words_if q dir (words_in dir ns b (node ns n).parent) (node ns n).edge (node ns n).vertex)
        ≡ 1 + 2 * length (snoc_if q (path_in ns b (node ns n).parent) (node ns n).edge)
    go ih true = refl
    go ih false =
        omega (
          arith,
          ih,
          moved_length dir (words_in dir ns b (node ns n).parent) (node ns n).edge (node ns n).vertex,
          length-append (path_in ns b (node ns n).parent) ((node ns n).edge ∷ []),
        )

pub words_count : (dir : Direction) (ns : List Node) (n : ℕ) → length (words dir ns n) ≡ 1 + 2 * moves_of ns n
unfolding path words
words_count dir ns n = length-in dir ns n n
