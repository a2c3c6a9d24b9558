-- The words that opening a search leaves: "New trees take the next slots in list order."
-- Assumes nothing.
use Rattle.std.specs.Prelude.{List, [], ◌∷◌, ◌++◌, ℕ, ◌+◌, length, drop, set}
use Rattle.std.proofs.lemmas.List.Edits.{sets}
use Rattle.model.specs.Answers.{Reply, answered, refused}
use Rattle.model.specs.Graph.{absent, initial_cost}
use Rattle.model.specs.Sound.{starts}
use Rattle.model.specs.Search.{Planted, plant_all}
use Rattle.layout.specs.Layout.{tree_count_at, slot_at, edges_in, trees_in, vertices_in}
use Rattle.layout.specs.Words.{tree_header, node_words}
use Rattle.layout.specs.Read.{read_cache}

-- the first words of a new tree: its header, with one node used and one in the queue, and the root, that starts at v and costs k; the one
-- queue word is 0, the root's number
abbrev pub root_words : ℕ → ℕ → List ℕ
root_words v k = tree_header v 1 1 ++ node_words (record { vertex = v; cost = k; parent = absent; edge = absent })

-- the words with a tree more, that starts at v
unfoldable pub planted : List ℕ → ℕ → List ℕ
unfolding initial_cost read_cache
planted ws v =
    let used = trees_in ws in
    set (sets ws (slot_at (vertices_in ws) (edges_in ws) used) (root_words v (initial_cost (read_cache ws).domain v))) tree_count_at (used + 1)

unfoldable pub planted_all : List ℕ → List ℕ → List ℕ
unfolding planted
planted_all ws [] = ws
planted_all ws (v ∷ vs) = planted_all (planted ws v) vs

-- the model's planting, in the cache that the words hold
abbrev pub planted_in : List ℕ → List ℕ → Planted
planted_in ws vs = let c = read_cache ws in plant_all c.domain c.trees vs

-- where the new trees of a search from the roots vs start
abbrev pub new_starts : List ℕ → List ℕ → List ℕ
new_starts ws vs = drop (length (read_cache ws).trees) (starts (planted_in ws vs).trees)

-- "Book, run slice and search stay as given" in a refusal; otherwise "New trees take the next slots in list order"
abbrev pub initialized_words : Reply (Unit {0}) → List ℕ → List ℕ → List ℕ
initialized_words (answered x) ws vs = planted_all ws (new_starts ws vs)
initialized_words (refused n line) ws vs = ws
