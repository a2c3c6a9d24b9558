-- Growing by computation, on the sample of `layout`: a tree of three nodes, of which node 1 (vertex 1, cost 4) and node 2 (vertex 2,
-- cost 9) wait.
-- Assumes nothing.
use mathlib.Core.Path.{◌≡◌, refl, sym, ap, ◌∙◌}
use Rattle.std.specs.Prelude.{None, Some}
use mathlib.Core.Logic.{inl}
use mathlib.Core.List.{List, [], ◌∷◌}
use Prim.Native.Nat.{ℕ, ◌<◌}
use native.Mathlib.Omega.{arith}
use lib.ListN.{length}
use Rattle.model.specs.Worth.{evaluation_of}
use Rattle.model.specs.Tree.{Tree, Growth, Going, found, over, grow}
use Rattle.model.specs.Sound.{tree}
use Rattle.model.specs.Calls.{Cache}
use Rattle.layout.specs.Layout.{used_in, vertex_in, tree_count_at, edges_in, trees_in, vertices_in}
use Rattle.layout.specs.Read.{read_cache}
use Rattle.layout.proofs.Trees.{tree-nodes}
use Rattle.layout.proofs.Examples.{sample}
use Rattle.layout.specs.Slots.{slot_words}
use Rattle.sound.proofs.Facts.{tree-read}
use Rattle.grow.specs.declared.Grown.{Grown}
use Rattle.grow.specs.Grow.{growth_of, Grew}

-- tickets taken, nodes used then, and how it ended
abbrev told : Growth → ℕ × (ℕ × Going)
told g = (g.tickets, (length g.tree.nodes, g.going))

-- the last ticket is for a closed vertex
to_the_end : told (growth_of sample 0 [] None) ≡ (3, (4, over))
unfolding sample read_cache vertex_in grow evaluation_of
to_the_end = refl

-- "a wanted motif is a find and stops"
goal-found : told (growth_of sample 0 (2 ∷ []) None) ≡ (2, (4, found 3))
unfolding sample read_cache vertex_in grow evaluation_of
goal-found = refl

-- "then a cost above the bound stops": its edges are queued before
above-bound : told (growth_of sample 0 [] (Some 3)) ≡ (1, (4, over))
unfolding sample read_cache vertex_in grow evaluation_of
above-bound = refl

-- a cost at the bound does not stop
at_bound : told (growth_of sample 0 [] (Some 4)) ≡ (2, (4, over))
unfolding sample read_cache vertex_in grow evaluation_of
at_bound = refl

-- ---- what the promise shuts out

-- a program that tests the bound before it queues the edges: it would leave three nodes
edges-before-bound : (r : Grown) (left : List ℕ) → Grew sample 0 [] (Some 3) r left
    → (r.tickets ≡ 1) × (used_in (slot_words (vertices_in left) (edges_in left) 0 left) ≡ 4)
unfolding sample read_cache vertex_in grow evaluation_of
edges-before-bound r left g =
    let two : trees_in left ≡ 2 = g.outside.word tree_count_at (inl (omega arith)) in
    let used : 0 < trees_in left = omega arith in (
      g.tickets,
      sym (tree-nodes left (vertices_in left) (edges_in left) (slot_words (vertices_in left) (edges_in left) 0 left))
          ∙ sym (ap (λ (t : Tree). length t.nodes) (tree-read left used))
          ∙ ap (λ (c : Cache). length (tree c.trees 0).nodes) g.cache,
    )
