-- Trees with new ones behind them.
-- Assumes nothing.
use mathlib.Core.Path.{◌≡◌, sym, ap, ◌∙◌}
use mathlib.Core.List.{List, [], ◌∷◌, ◌++◌, append_assoc, map, map-append}
use Prim.Native.Nat.{ℕ, suc, ◌+◌, ◌<◌}
use native.Mathlib.Omega.{arith}
use lib.ListN.{length, get_or, take, drop, length-append, length-map, take-append-drop, get_or-append}
use lib.Seq.{take-suc}
use Rattle.model.specs.Graph.{Domain}
use Rattle.model.specs.Tree.{Tree, new_tree}
use Rattle.model.specs.Sound.{SoundTrees, no_tree, tree}
use Rattle.new_trees.specs.Plant.{with_new}

-- one element more of a list
pub take_next : {A : Type 0} (z : A) (l : List A) (i : ℕ) → i < length l → take (i + 1) l ≡ take i l ++ (get_or l i z ∷ [])
take_next z l i h =
    let next : i + 1 ≡ suc i = omega arith in
    rw next (take-suc l i z h)

module _ (d : Domain) (ts : List Tree) where
  pub new-append : (vs ws : List ℕ) → with_new d (with_new d ts vs) ws ≡ with_new d ts (vs ++ ws)
  new-append vs ws = append_assoc ts (map (new_tree d) vs) (map (new_tree d) ws) ∙ ap (λ (us : List Tree). ts ++ us) (sym (map-append (new_tree d) vs ws))

  pub new-length : (vs : List ℕ) → length (with_new d ts vs) ≡ length ts + length vs
  new-length vs = omega (arith, length-append ts (map (new_tree d) vs), length-map vs (new_tree d))

  -- the first of sound trees are sound
  sound-front : (us : List Tree) → SoundTrees d (ts ++ us) → SoundTrees d ts
  sound-front us ok = record {
    differ = λ i j a b e. ok.differ i j (more a) (more b) (ap (λ (t : Tree). t.start) (old a) ∙ e ∙ sym (ap (λ (t : Tree). t.start) (old b)));
    each = λ i a. rw (old a) at (ok.each i (more a));
  }
    where
      more : {i : ℕ} → i < length ts → i < length (ts ++ us)
      more a = omega (arith, length-append ts us)

      old : {i : ℕ} → i < length ts → tree (ts ++ us) i ≡ tree ts i
      old {i} a = get_or-append ts us no_tree i a

pub sound-new : (d : Domain) (ts : List Tree) (vs : List ℕ) (n : ℕ) → SoundTrees d (with_new d ts vs) → SoundTrees d (with_new d ts (take n vs))
sound-new d ts vs n ok =
    sound-front d (with_new d ts (take n vs)) (map (new_tree d) (drop n vs)) (rw (new-append d ts (take n vs) (drop n vs), take-append-drop n vs) ok)
