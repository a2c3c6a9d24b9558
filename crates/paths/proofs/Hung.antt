-- In a sound tree each node hangs.
-- Assumes nothing.
use mathlib.Core.List.{List}
use Prim.Native.Nat.{ℕ, ◌<◌}
use native.Mathlib.Omega.{arith}
use Rattle.model.specs.Graph.{Domain}
use Rattle.model.specs.Sound.{Sound}
use Rattle.layout.specs.Read.{tree_in}
use Rattle.layout.proofs.Trees.{tree-nodes, tree-node}
use Rattle.tree.specs.Tree.{Formed}
use Rattle.paths.specs.Path.{Hung}
use Rattle.layout.specs.Layout.{used_in}

pub sound-hung : (d : Domain) (ws t : List ℕ) (l m n : ℕ) → Formed l t → Sound d (tree_in ws m l t) → n < used_in t → Hung t n
sound-hung d ws t l m n f ok h =
    record {
      used = h;
      within = omega (arith, f.fits, f.used);
      parents = λ i pos le.
          let at : i < used_in t = omega arith in
          rw (tree-node ws m l t i at) at (ok.hangs i (omega arith) (rw (tree-nodes ws m l t) at)).lower;
    }
