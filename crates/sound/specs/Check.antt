-- What the functions of the check promise each other: each answers one clause of the definition (model's Sound), or a few.
-- Assumes nothing.
use Rattle.std.specs.Prelude.{◌≡◌, Bool, true, ◌&&◌, List, ℕ, ◌≤◌, length}
use Rattle.model.specs.Limits.{slot_limit}
use Rattle.model.specs.Lists.{allb, upto}
use Rattle.model.specs.Sound.{starts, distinctb}
use Rattle.layout.specs.Layout.{Sized, header_words, places_at, slot_at, edges_in, vertices_in}
use Rattle.layout.specs.Read.{read_trees, domain_of, read_cache}
use Rattle.layout.specs.Sound.{header_tests, graph_tests, tree_wordsb}
use Rattle.layout.specs.Held.{Held}
use Rattle.layout.specs.Slots.{slot_words}

-- the words hold m initial costs and l edges
pub record HasGraph (m l : ℕ) (ws : List ℕ) : Type 0 where
  pub sized : Sized m l
  pub fits : places_at m l ≤ length ws

-- header and graph passed their tests
pub record CanCheckTrees (ws : List ℕ) : Type 0 where
  pub header : allb (header_tests ws) ≡ true
  pub graph : allb (graph_tests (read_cache ws).domain ws) ≡ true

-- the words hold the graph, and as many slots
pub record TreesIn (used : ℕ) (ws : List ℕ) : Type 0 where
  pub header : header_words ≤ length ws
  pub held : Held (vertices_in ws) (edges_in ws) ws
  pub few : used ≤ slot_limit
  pub fits : slot_at (vertices_in ws) (edges_in ws) used ≤ length ws

-- "start motifs differ, and in each tree: .."
unfoldable pub treesb : ℕ → List ℕ → Bool
unfolding upto distinctb tree_wordsb
treesb used ws =
    let m = vertices_in ws in
    let l = edges_in ws in
    distinctb (starts (read_trees m l used ws)) && upto (λ i. tree_wordsb (domain_of m l ws) ws m l (slot_words m l i ws)) used
