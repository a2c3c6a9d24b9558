-- The slot of each start vertex, in a table: with one tree more, and for all trees of a cache.
-- Assumes nothing.
use mathlib.Core.Path.{◌≡◌, refl, sym, ap, ◌∙◌}
use Rattle.std.specs.declared.option.Option.{Option}
use Rattle.std.specs.Prelude.{None, Some}
use mathlib.Core.Logic.{◌≢◌}
use mathlib.Core.Bool.{Bool, true, false}
use mathlib.Core.List.{List, [], ◌∷◌, ◌++◌}
use Prim.Native.Nat.{ℕ, suc, ◌+◌, ◌<◌, ◌≤◌}
use native.Mathlib.Decide.{ℕ_discrete}
use native.Mathlib.Omega.{arith}
use borrow.Author.Tests.{ne_eqb}
use lib.Dec.{eqb}
use lib.ListN.{length, get_or, set, take, replicate, length-set, length-take, length-replicate, get_or-replicate}
use lib.Seq.{get_or-set_same, get_or-set_other, get_or-take, take_all, length-take-le}
use Rattle.model.specs.Tree.{Tree}
use Rattle.model.specs.Sound.{SoundTrees, no_tree, tree}
use Rattle.model.specs.Search.{seek}
use Rattle.model.proofs.Keeps.{seek_if, seek-at, seek-new}
use Rattle.layout.specs.Layout.{edges_in, start_in, trees_in, vertices_in}
use Rattle.layout.specs.Slots.{slot_words}
use Rattle.layout.specs.Read.{tree_in, read_cache}
use Rattle.sound.specs.Facts.{SoundWords}
use Rattle.sound.proofs.Facts.{trees-length, tree-read, sound-accepted, sound-cache}
use Rattle.new_trees.specs.Plant.{slot_word, SlotTable}
use Rattle.new_trees.proofs.NewTrees.{take_next}

-- a tree more that does not start at v
seek-other : (ts : List Tree) (t : Tree) (v k : ℕ) → t.start ≢ v → seek (ts ++ (t ∷ [])) v k ≡ seek ts v k
unfolding seek
seek-other [] t v k ne = ap (seek_if [] v k) (ne_eqb t.start v ne)
seek-other (u ∷ ts) t v k ne = go (seek-other ts t v (suc k) ne) (eqb u.start v)
  where
    go : seek (ts ++ (t ∷ [])) v (suc k) ≡ seek ts v (suc k) → (b : Bool) → seek_if (ts ++ (t ∷ [])) v k b ≡ seek_if ts v k b
    go ih true = refl
    go ih false = ih

pub table_more : {ts : List Tree} {table : List ℕ} {v w : ℕ} → SlotTable ts table → (t : Tree) → t.start ≡ v → v < 1024 → seek ts v 0 ≡ None → w ≡ suc (length ts)
    → SlotTable (ts ++ (t ∷ [])) (set table v w)
table_more {ts} {table} {v} {w} h t s b e q = record {
  len = length-set table v w ∙ h.len;
  slot = λ x c. elim (ℕ_discrete x v) [
    | yes z ↦ rw z (get_or-set_same table v w 0 (omega (arith, h.len)) ∙ q ∙ sym (ap slot_word (seek-new ts t v 0 s e) ∙ ap suc first))
    | no z ↦ get_or-set_other table v x w 0 z ∙ h.slot x c ∙ ap slot_word (sym (seek-other ts t x 0 (λ y. z (sym y ∙ s))))
  ];
}
  where
    first : 0 + length ts ≡ length ts
    first = omega arith

-- ---- the trees one after the other

pub table_none : {table : List ℕ} → table ≡ replicate 1024 0 → SlotTable [] table
unfolding seek
table_none e = record { len = ap length e ∙ length-replicate {A = ℕ} 1024 0; slot = λ v b. ap (λ (l : List ℕ). get_or l v 0) e ∙ get_or-replicate 1024 v 0 0 b }

module _ {ws : List ℕ} {i : ℕ} (ok : SoundWords ws) (b : i < trees_in ws) where
  abbrev ts : List Tree
  ts = (read_cache ws).trees

  abbrev v : ℕ
  v = (tree ts i).start

  sound : SoundTrees (read_cache ws).domain ts
  sound = (sound-cache ws ok).trees

  -- no tree before it starts there
  first : seek (take i ts) v 0 ≡ None
  first = go (seek (take i ts) v 0) refl
    where
      go : (o : Option ℕ) → seek (take i ts) v 0 ≡ o → o ≡ None
      go None e = refl
      go (Some j) e =
          let r = seek-at (take i ts) v j e in
          let n = trees-length ws in
          let k : j < i = omega (arith, r.0, length-take i ts) in
          let same : (tree ts j).start ≡ (tree ts i).start = ap (λ (t : Tree). t.start) (sym (get_or-take i ts j no_tree k)) ∙ r.1 in
          absurd (omega (arith, sound.differ j i (omega arith) (omega arith) same))

  -- t: the words of slot i
  module _ {t : List ℕ} (et : t ≡ slot_words (vertices_in ws) (edges_in ws) i ws) where
    pub start-read : {s : ℕ} → s ≡ start_in t → s ≡ (tree (read_cache ws).trees i).start
    unfolding tree_in
    start-read e = e ∙ ap start_in et ∙ sym (ap (λ (t : Tree). t.start) (tree-read ws b))

  pub start_small : (tree (read_cache ws).trees i).start < 1024
  start_small = omega (arith, (sound.each i (omega (arith, trees-length ws))).inside, (sound-accepted ws ok).vertices)

  pub table-next : {table : List ℕ} {s w : ℕ} → SlotTable (take i (read_cache ws).trees) table → s ≡ (tree (read_cache ws).trees i).start → w ≡ i + 1
      → SlotTable (take (i + 1) (read_cache ws).trees) (set table s w)
  table-next {table} {s} {w} h e q =
      rw (e, take_next no_tree ts i (omega (arith, trees-length ws))) (table_more h (tree ts i) refl start_small first (omega (arith, length-take-le i ts (omega (arith, trees-length ws)))))

pub table-all : (ws : List ℕ) (i : ℕ) {table : List ℕ} → SlotTable (take i (read_cache ws).trees) table → trees_in ws ≤ i → SlotTable (read_cache ws).trees table
table-all ws i h b = rw (take_all i (read_cache ws).trees (omega (arith, trees-length ws))) at h
