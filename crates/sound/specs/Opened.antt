-- Words whose header and graph are such as opening writes.
-- Assumes nothing.
use Rattle.std.specs.Prelude.{◌≡◌, ◌≢◌, ◌↔◌, true, ◌&&◌, List, ℕ, ◌<◌, ◌≤◌, get_or}
use Rattle.model.specs.Lists.{allb}
use Rattle.layout.specs.Layout.{tree_count_at, slots_at, direction_in, edges_in, slots_in, trees_in, vertices_in}
use Rattle.layout.specs.Read.{read_cache}
use Rattle.layout.specs.Sound.{header_tests, graph_tests}
use Rattle.cache.specs.Demand1.{Opens}

-- "header and chart words are such as opening writes": an accepted opening of these very words, with some text, writes each word before
-- the slots as it is, but the count of trees in use (word 4), which it writes as 0 and which is at most T
pub record SuchAsOpening (ws : List ℕ) : Type 0 where
  pub text : List ℕ
  pub left : List ℕ
  pub opens : Opens ws text (direction_in ws) (slots_in ws) left
  pub same : (j : ℕ) → j < slots_at (vertices_in ws) (edges_in ws) → j ≢ tree_count_at → get_or left j 0 ≡ get_or ws j 0
  pub used : trees_in ws ≤ slots_in ws

-- the tests of header and graph, of which the definition of sound words is made, pass exactly of such words
abbrev pub ExactlySuch : Type 0
ExactlySuch = (ws : List ℕ) → ((allb (header_tests ws) && allb (graph_tests (read_cache ws).domain ws)) ≡ true) ↔ SuchAsOpening ws
