-- Header and edges: what is so if the tests of the header pass, and the tests of an edge as its words have them.
-- Assumes nothing.
use mathlib.Core.Path.{◌≡◌}
use mathlib.Core.Bool.{true}
use mathlib.Core.List.{List, [], ◌∷◌}
use Prim.Native.Nat.{ℕ, ◌<◌, ◌≤◌}
use native.Mathlib.Omega.{arith}
use borrow.Author.Tests.{leb-true, le-leb}
use lib.Dec.{leb, ltb}
use lib.ListN.{length}
use Rattle.model.specs.Lists.{allb}
use Rattle.model.specs.Graph.{vertex_count}
use Rattle.model.proofs.Bools.{all_true, true-given}
use Rattle.layout.specs.Layout.{Sized, header_words, needed, direction_in, edge_cost_in, edges_in, from_in, slots_in, to_in, trees_in, vertices_in}
use Rattle.layout.specs.Read.{graph_in}
use Rattle.layout.specs.Sound.{header_tests, edge_tests}
use Rattle.layout.proofs.Edges.{vertex-count-in, from-word, to_word, cost-word}
use Rattle.sound.specs.Check.{HasGraph}

-- ---- the header

-- what is so if all pass: m vertices, l edges, u of s slots in use
pub record Headed (m l s u : ℕ) (ws : List ℕ) : Type 0 where
  pub header : header_words ≤ length ws
  pub direction : direction_in ws ≤ 1
  pub sized : Sized m l
  pub some_slot : 1 ≤ s
  pub slots : s ≤ 64
  pub used : u ≤ s
  pub fits : needed m l s ≤ length ws

pub headed : (ws : List ℕ) → allb (header_tests ws) ≡ true → Headed (vertices_in ws) (edges_in ws) (slots_in ws) (trees_in ws) ws
headed ws e =
    let r = all_true (header_tests ws) e in
    let r₄ = r.1.1.1.1 in
    record {
      header = leb-true _ _ r.0;
      direction = leb-true _ _ r.1.0;
      sized = record { vertices = leb-true _ _ r.1.1.0; edges = leb-true _ _ r.1.1.1.0 };
      some_slot = leb-true _ _ r₄.0;
      slots = leb-true _ _ r₄.1.0;
      used = leb-true _ _ r₄.1.1.0;
      fits = leb-true _ _ r₄.1.1.1.0;
    }

pub at-headed : (ws : List ℕ) → Headed (vertices_in ws) (edges_in ws) (slots_in ws) (trees_in ws) ws → allb (header_tests ws) ≡ true
at-headed ws h =
    true-given (header_tests ws)
    (le-leb _ _ h.header)
    (le-leb _ _ h.direction)
    (le-leb _ _ h.sized.vertices)
    (le-leb _ _ h.sized.edges)
    (le-leb _ _ h.some_slot)
    (le-leb _ _ h.slots)
    (le-leb _ _ h.used)
    (le-leb _ _ h.fits)

-- ---- edges

pub edge_reads : (m l : ℕ) (ws : List ℕ) (e : ℕ) → HasGraph m l ws → e < l
    → allb (edge_tests (graph_in m l ws) e) ≡ allb (ltb (from_in m ws e) m ∷ ltb (to_in m ws e) m ∷ leb (edge_cost_in m ws e) 999999 ∷ [])
edge_reads m l ws e has h =
    let count : vertex_count (graph_in m l ws) ≡ m = vertex-count-in m l ws (omega (arith, has.fits)) in
    λ i. allb (ltb (from-word m l ws e h i) (count i) ∷ ltb (to_word m l ws e h i) (count i) ∷ leb (cost-word m l ws e h i) 999999 ∷ [])
