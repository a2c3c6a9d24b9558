-- What was planned may be planted, where the slots suffice; for the caller of both.
-- Assumes nothing.
use mathlib.Core.Path.{◌≡◌, refl, sym, ap, ◌∙◌}
use mathlib.Core.Logic.{inl, inr}
use mathlib.Core.Bool.{true, true≢false}
use mathlib.Core.List.{List, [], ◌∷◌, map, map-append}
use Prim.Native.Nat.{ℕ, suc, ◌+◌, ◌<◌, ◌≤◌}
use native.Mathlib.Omega.{arith}
use lib.ListN.{length, get_or, take, drop, length-map}
use lib.Seq.{length-take-le, drop_at}
use Rattle.model.specs.Lists.{mem}
use Rattle.model.specs.Graph.{Domain}
use Rattle.model.specs.Tree.{Tree, new_tree}
use Rattle.model.specs.Sound.{SoundTrees, starts}
use Rattle.model.proofs.Lists.{mem-nil, mem-cases}
use Rattle.model.proofs.Keeps.{plants-keep}
use Rattle.layout.specs.Read.{read_cache}
use Rattle.sound.proofs.Facts.{trees-length, sound-cache, vertices-read}
use Rattle.new_trees.specs.declared.TreePlan.{TreePlan}
use Rattle.new_trees.specs.Plant.{CanPlantAll, CanPlan, Plans}
use Rattle.layout.specs.Planted.{planted_in}
use Rattle.new_trees.proofs.NewTrees.{new-length}
use Rattle.layout.specs.Layout.{slots_in, trees_in, vertices_in}

listed_below : (n : ℕ) (vs : List ℕ) → ((i : ℕ) → i < length vs → get_or vs i 0 < n) → (v : ℕ) → mem v vs ≡ true → v < n
listed_below n [] f v e = absurd (true≢false (sym e ∙ mem-nil v))
listed_below n (x ∷ vs) f v e = elim (mem-cases v x vs e) [
  | inl z ↦ omega (arith, z, f 0 (omega arith))
  | inr z ↦ listed_below n vs (λ i h. f (suc i) (omega arith)) v z
]

new-starts : (d : Domain) (vs : List ℕ) → starts (map (new_tree d) vs) ≡ vs
unfolding new_tree
new-starts d [] = refl
new-starts d (v ∷ vs) = ap (λ (xs : List ℕ). v ∷ xs) (new-starts d vs)

module _ {ws vs : List ℕ} {r : TreePlan} (ok : CanPlan ws vs) (p : Plans ws vs r) where
  abbrev d : Domain
  d = (read_cache ws).domain

  abbrev ts : List Tree
  ts = (read_cache ws).trees

  abbrev new : List ℕ
  new = take r.count r.starts

  new-count : length new ≡ r.count
  new-count = length-take-le r.count r.starts (omega (arith, p.count, p.starts))

  pub planned-length : length (planted_in ws vs).trees ≡ trees_in ws + r.count
  planned-length = omega (arith, ap length p.trees, new-length d ts new, new-count, trees-length ws)

  pub planned-starts : take r.count r.starts ≡ drop (length (read_cache ws).trees) (starts (planted_in ws vs).trees)
  planned-starts =
      sym (
      ap (λ (us : List Tree). drop (length ts) (starts us)) p.trees
      ∙ ap (drop (length ts)) (map-append (λ (t : Tree). t.start) ts (map (new_tree d) new))
      ∙ drop_at (starts ts) (starts (map (new_tree d) new)) (length ts) (length-map ts (λ (t : Tree). t.start))
      ∙ new-starts d new)

  planned-sound : SoundTrees d (planted_in ws vs).trees
  planned-sound = (plants-keep d vs ts (sound-cache ws ok.sound).trees (λ v e. rw (vertices-read ok.sound) (listed_below (vertices_in ws) vs ok.vertices v e))).0

  pub can-plant-all : trees_in ws + r.count ≤ slots_in ws → CanPlantAll ws (take r.count r.starts)
  can-plant-all room = record { sound = ok.sound; room = omega (arith, room, new-count); trees = rw (← p.trees) planned-sound }
