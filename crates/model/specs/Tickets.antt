-- "Tickets taken equal the growth of nodes used less queue length, summed over trees."
-- Assumes nothing.
use Rattle.std.specs.Prelude.{◌≡◌, List, [], ◌∷◌, ℕ, ◌+◌, length}
use Rattle.model.specs.Tree.{Tree}

-- the sum of f over the trees
unfoldable pub sum_of : (Tree → ℕ) → List Tree → ℕ
sum_of f [] = 0
sum_of f (t ∷ ts) = f t + sum_of f ts

abbrev pub used : List Tree → ℕ
used ts = sum_of (λ t. length t.nodes) ts

abbrev pub queued : List Tree → ℕ
queued ts = sum_of (λ t. length t.waiting) ts

-- from ts to ts' so many tickets were taken: the growth of nodes used less queue length, as a sum on both sides
abbrev pub Tickets : List Tree → List Tree → ℕ → Type 0
Tickets ts ts' k = used ts' + queued ts ≡ k + (used ts + queued ts')
