-- The path of a node: the edges from the root to it, and the words that `retrace` writes.
-- Assumes nothing.
use Rattle.std.specs.Prelude.{Bool, true, false, List, [], ◌∷◌, ◌++◌, ℕ, zero, suc, eqb, length}
use Rattle.model.specs.Graph.{Direction, forward, backward}
use Rattle.model.specs.Tree.{Node, node}

abbrev pub snoc_if : Bool → List ℕ → ℕ → List ℕ
snoc_if true r l = []
snoc_if false r l = r ++ (l ∷ [])

-- the edges from the root to node n. A parent's number is smaller, so b, which is at least n, bounds the way back
unfoldable pub path_in : List Node → ℕ → ℕ → List ℕ
path_in ns zero n = []
path_in ns (suc b) n = snoc_if (eqb n 0) (path_in ns b (node ns n).parent) (node ns n).edge

unfoldable pub path : List Node → ℕ → List ℕ
unfolding path_in
path ns n = path_in ns n n

abbrev pub moves_of : List Node → ℕ → ℕ
moves_of ns n = length (path ns n)

-- "a function that calls itself on the parent", whose words come first; backward the path runs from the node to the root
abbrev pub moved : Direction → List ℕ → ℕ → ℕ → List ℕ
moved forward r l v = r ++ (l ∷ v ∷ [])
moved backward r l v = v ∷ l ∷ r

abbrev pub words_if : Bool → Direction → List ℕ → ℕ → ℕ → List ℕ
words_if true dir r l v = v ∷ []
words_if false dir r l v = moved dir r l v

unfoldable pub words_in : Direction → List Node → ℕ → ℕ → List ℕ
words_in dir ns zero n = (node ns n).vertex ∷ []
words_in dir ns (suc b) n = words_if (eqb n 0) dir (words_in dir ns b (node ns n).parent) (node ns n).edge (node ns n).vertex

-- "first motif, then link and motif for each move, always in chart direction with chart link numbers"
unfoldable pub words : Direction → List Node → ℕ → List ℕ
unfolding words_in
words dir ns n = words_in dir ns n n
