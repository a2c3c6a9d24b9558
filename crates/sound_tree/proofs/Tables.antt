-- The tests for which the tables of marks and least costs are there, one after the other: what each asks for, and what its answer says.
-- Assumes nothing.
use mathlib.Core.Path.{◌≡◌, sym}
use mathlib.Core.List.{List, [], ◌∷◌}
use Prim.Native.Nat.{ℕ, suc, ◌+◌, ◌≤◌}
use native.Mathlib.Omega.{arith}
use lib.Dec.{leb}
use lib.ListN.{length}
use Rattle.model.specs.Lists.{allb, upto}
use Rattle.model.specs.Graph.{Domain, edge_count, edges_in_use}
use Rattle.model.specs.Tree.{Tree}
use Rattle.model.specs.Sound.{closed_edges, closerb, begunb, onwardb}
use Rattle.model.proofs.Lists.{up-length, those-length}
use Rattle.layout.specs.Layout.{queued_in, used_in}
use Rattle.layout.specs.Read.{tree_in, domain_of}
use Rattle.layout.proofs.Edges.{edge-count-in}
use Rattle.layout.proofs.Trees.{tree-nodes}
use Rattle.layout.specs.Sound.{queue_tests}
use Rattle.tree.specs.Tree.{tree_of}
use Rattle.tree.proofs.Same.{tree-of}
use Rattle.sound_tree.specs.Check.{Areas, Counted, Hung, tables_tests}
use Rattle.sound_tree.proofs.Edges.{all_edges}

pub areas : {m l : ℕ} {ws t : List ℕ} → Counted m l ws t → Areas l t
areas h = record { edges = h.can.held.sized.edges; fits = omega (arith, h.can.len); used = h.used; queued = h.queued }

pub few_edges : (m l : ℕ) (ws t : List ℕ) → Hung m l ws t → length (closed_edges (domain_of m l ws).graph (tree_in ws m l t).closed) ≤ 2048
unfolding closed_edges
few_edges m l ws t h =
    let g = (domain_of m l ws).graph in
    let fewer : length (closed_edges g (tree_in ws m l t).closed) ≤ length (edges_in_use g) = those-length _ (edges_in_use g) in
    omega (arith, up-length (edge_count g) 0, edge-count-in m l ws, h.counted.can.held.sized.edges)

-- as the functions answer
pub tables_read : (m l : ℕ) (ws t : List ℕ) → Hung m l ws t
    → allb (tables_tests (domain_of m l ws) ws m l t)
    ≡ allb (allb (queue_tests ws l t (queued_in t))
    ∷ upto (closerb (tree_of ws l t)) m
    ∷ leb (used_in t) (1 + length (closed_edges (domain_of m l ws).graph (tree_in ws m l t).closed))
    ∷ begunb (tree_of ws l t)
    ∷ upto (onwardb (domain_of m l ws) (tree_in ws m l t)) l
    ∷ [])
tables_read m l ws t h = λ i.
    allb (allb (queue_tests ws l t (queued_in t)) ∷ upto (closerb (same i)) m ∷ leb (tree-nodes ws m l t i) (more i) ∷ begunb (same i) ∷ all_edges m l ws (onwardb d u) i ∷ [])
  where
    d : Domain
    d = domain_of m l ws

    u : Tree
    u = tree_in ws m l t

    same : u ≡ tree_of ws l t
    same = sym (tree-of ws m l t h.counted.can.len)

    more : suc (length (closed_edges d.graph u.closed)) ≡ 1 + length (closed_edges d.graph u.closed)
    more = omega arith
