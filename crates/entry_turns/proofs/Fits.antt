-- A record that fits the trees fits them after a round.
-- Assumes nothing.
use mathlib.Core.Path.{sym, ◌∙◌, subst}
use mathlib.Core.List.{List}
use Prim.Native.Nat.{ℕ, ◌<◌}
use native.Mathlib.Omega.{arith}
use lib.ListN.{length-set}
use Rattle.model.specs.declared.Search.{Search}
use Rattle.model.specs.Graph.{Domain, Accepted}
use Rattle.model.specs.Tree.{Tree}
use Rattle.model.specs.Sound.{SoundTrees}
use Rattle.model.specs.Search.{Walk, round}
use Rattle.model.proofs.Recorded.{round-after}
use Rattle.model.proofs.RefinesRead.{Readable}
use Rattle.model.proofs.RefinesRound.{round-reads}
use Rattle.memory.specs.Memory.{Fits}

fits-reads : (d : Domain) {m : ℕ} {ts : List Tree} {s : Search} → Fits m ts s → Readable d ts s
fits-reads d f = record {
  sized = omega (arith, f.listed.trees, f.listed.entries);
  slots = λ i h. (f.held i h).slot;
  held = λ i n h. (f.held i h).node n;
  best = f.best;
}

pub round-fits : (d : Domain) → Accepted d.graph → {m : ℕ} (i : ℕ) (w : Walk) → SoundTrees d w.trees → i < w.search.tree_count → Fits m w.trees w.search
    → Fits m (round d i w).trees (round d i w).search
round-fits d acc {m} i w ok h f =
    let same = round-after d i w in
    let r = subst (λ (x : Walk). Readable d x.trees x.search) same (round-reads d acc i w ok (fits-reads d f) h) in
    subst (λ (x : Walk). Fits m x.trees x.search) (sym same) (record {
      listed = record { trees = length-set w.search.trees i _ ∙ f.listed.trees; entries = f.listed.entries; keys = f.listed.keys; goals = f.listed.goals };
      goals = f.goals;
      held = λ j k. record { slot = r.slots j k; node = λ n. r.held j n k };
      best = r.best;
    })
