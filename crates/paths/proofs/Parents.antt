-- A node that hangs on its parent: the parent hangs too, and the node's words and moves are the parent's with one move more.
-- Assumes nothing.
use mathlib.Core.Path.{◌≡◌, sym, ap, ◌∙◌}
use mathlib.Core.List.{List, [], ◌∷◌}
use Prim.Native.Nat.{ℕ, ◌+◌, ◌<◌}
use native.Mathlib.Omega.{arith}
use lib.ListN.{length}
use Rattle.model.specs.Graph.{Direction}
use Rattle.model.specs.Tree.{Node, node}
use Rattle.model.specs.Path.{moves_of, moved, words}
use Rattle.layout.specs.Layout.{used_in, NodeFits, vertex_in, parent_in, edge_in}
use Rattle.layout.specs.Read.{node_in}
use Rattle.layout.proofs.Trees.{node_at_lem}
use Rattle.paths.specs.Path.{nodes_of, Hung}
use Rattle.paths.proofs.Steps.{Lower, root-words, next-words, next-moves}

module _ (t : List ℕ) (n : ℕ) (h : Hung t n) where
  is-node : (ws : List ℕ) → node (nodes_of ws t) n ≡ node_in ws t n
  is-node ws = node_at_lem ws (used_in t) t n h.used

  lower : (ws : List ℕ) → Lower (nodes_of ws t) n
  lower ws i pos le = rw (node_at_lem ws (used_in t) t i (omega (arith, h.used))) (h.parents i pos le)

  pub hung-parent : 0 < n → Hung t (parent_in t n)
  hung-parent pos = record { used = omega (arith, h.used, h.parents n pos (omega arith)); within = h.within; parents = λ i p le. h.parents i p (omega (arith, h.parents n pos (omega arith))) }

  pub hung-moves : (ws : List ℕ) → 0 < n → moves_of (nodes_of ws t) n ≡ 1 + moves_of (nodes_of ws t) (parent_in t n)
  hung-moves ws pos = next-moves (nodes_of ws t) n pos (lower ws) ∙ ap (λ (x : Node). 1 + moves_of (nodes_of ws t) x.parent) (is-node ws)

  pub hung-words : (ws : List ℕ) (dir : Direction) → 0 < n → words dir (nodes_of ws t) n ≡ moved dir (words dir (nodes_of ws t) (parent_in t n)) (edge_in t n) (vertex_in ws t n)
  hung-words ws dir pos =
      next-words dir (nodes_of ws t) n pos (lower ws)
      ∙ ap (λ (x : Node). moved dir (words dir (nodes_of ws t) x.parent) x.edge x.vertex) (is-node ws)

  pub hung-root : (ws : List ℕ) (dir : Direction) → n ≡ 0 → words dir (nodes_of ws t) n ≡ vertex_in ws t n ∷ []
  hung-root ws dir e =
      ap (λ (k : ℕ). words dir (nodes_of ws t) k) e
      ∙ root-words dir (nodes_of ws t)
      ∙ ap (λ (k : ℕ). (node (nodes_of ws t) k).vertex ∷ []) (sym e)
      ∙ ap (λ (x : Node). x.vertex ∷ []) (is-node ws)

  pub hung-fits : NodeFits (length t) n
  hung-fits = omega (arith, h.used, h.within)
