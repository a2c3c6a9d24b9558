-- What two steps from the same words and record leave is the same, but for the arrangement of the queue words of the entries' trees.
-- Assumes nothing.
use mathlib.Core.Path.{◌≡◌, refl, sym, ap, ◌∙◌, subst}
use Rattle.std.specs.Prelude.{None}
use mathlib.Core.Logic.{◌⊎◌, inl, inr}
use mathlib.Core.Bool.{Bool, true, false, not}
use mathlib.Core.List.{List}
use Prim.Native.Nat.{ℕ, ◌+◌, ◌-◌, ◌<◌, ◌≤◌}
use native.Mathlib.Decide.{ℕ_discrete, dec_lt}
use native.Mathlib.Omega.{arith}
use lib.ListN.{length, get_or}
use Rattle.model.specs.declared.Search.{Search}
use Rattle.model.specs.declared.Stepped.{Stepped}
use Rattle.model.specs.Answers.{Reply, answered, refused, Status, waiting, solved, no_path}
use Rattle.model.specs.Sound.{tree}
use Rattle.model.specs.Search.{entry}
use Rattle.model.specs.Valid.{valid}
use Rattle.model.specs.Calls.{Cache, AfterStep, or_else, step_by, step}
use Rattle.model.proofs.Replies.{step-told, answered-refused}
use Rattle.model.proofs.Valid.{valid-at}
use Rattle.layout.specs.Layout.{slots_at, queued_at, queue_at, slot_at, tree_words, edges_in, queued_in, slots_in, trees_in, vertices_in}
use Rattle.layout.specs.Read.{tree_in, read_cache}
use Rattle.layout.specs.Sound.{sound_wordsb}
use Rattle.layout.proofs.Places.{part_at}
use Rattle.layout.proofs.Trees.{GraphStays, tree-graph}
use Rattle.layout.specs.Slots.{slot_words}
use Rattle.tree.specs.Tree.{Formed}
use Rattle.tree.proofs.Same.{tree-of}
use Rattle.tree.proofs.Determined.{words-determined}
use Rattle.sound.specs.Facts.{SoundIn}
use Rattle.sound.proofs.Slots.{slot-length}
use Rattle.sound.proofs.Facts.{sound-words-at, trees-length, tree-read}
use Rattle.layout.specs.Leaves.{InSlot, Apart, Leaves}
use Rattle.dijkstra.specs.Calls.{step_sound_if, step_words}
use Rattle.dijkstra.specs.Demands.{QueueWord, Determined}
use Rattle.dijkstra.proofs.Histories.{step_is}

-- ---- two slots that hold one tree

module _ (m l k : ℕ) (a b : List ℕ) (f : Formed l (slot_words m l k a)) (g : Formed l (slot_words m l k b)) (graph : GraphStays m l a b) where
  slot-determined : length (slot_words m l k a) ≡ tree_words m l → length (slot_words m l k b) ≡ tree_words m l
      → tree_in a m l (slot_words m l k a) ≡ tree_in b m l (slot_words m l k b)
      → (i : ℕ) → i < tree_words m l → (i < queue_at l) ⊎ (queue_at l + get_or a (slot_at m l k + queued_at) 0 ≤ i)
      → get_or a (slot_at m l k + i) 0 ≡ get_or b (slot_at m l k + i) 0
  slot-determined na nb same i h free =
      let s : List ℕ = slot_words m l k a in
      let t : List ℕ = slot_words m l k b in
      let queued : queued_in s ≡ get_or a (slot_at m l k + queued_at) 0 = part_at (slot_at m l k) (tree_words m l) a queued_at (omega arith) in
      sym (part_at (slot_at m l k) (tree_words m l) a i h)
      ∙ words-determined a l s t f g (na ∙ sym nb) (tree-of a m l s na ∙ same ∙ tree-graph m l a b t graph ∙ sym (tree-of a m l t nb)) i (subst (λ (q : ℕ). (i < queue_at l) ⊎ (queue_at l + q ≤ i)) (sym queued) free)
      ∙ part_at (slot_at m l k) (tree_words m l) b i h

-- ---- a step that is not refused

-- the words were sound, and the record valid
sound-if : (b : Bool) (c : Cache) (s : Search) (a : Status) → (step_sound_if b c s).reply ≡ answered a → b ≡ true
sound-if true c s a e = refl
sound-if false c s a e = absurd (answered-refused a 7 0 (sym e))

valid-if : (c : Cache) (s : Search) (a : Status) → (step c s).reply ≡ answered a → valid c.domain c.trees s ≡ true
unfolding step
valid-if c s a = go (valid c.domain c.trees s)
  where
    go : (v : Bool) → (step_by (or_else (not v) 8 None) c s).reply ≡ answered a → v ≡ true
    go true e = refl
    go false e = absurd (answered-refused a 8 0 (sym e))

-- ---- the words that a step leaves

module _ (ws : List ℕ) (s : Search) where
  abbrev m : ℕ
  m = vertices_in ws

  abbrev l : ℕ
  l = edges_in ws

  abbrev u : ℕ
  u = trees_in ws

  -- the words before the slots are in none
  before : (left : List ℕ) → Apart ws s left → (j : ℕ) → j < slots_at m l → get_or left j 0 ≡ get_or ws j 0
  before left a j h = a.word j (λ x. omega (arith, x.from))

  left-sound : (left : List ℕ) → Apart ws s left → sound_wordsb left ≡ true → SoundIn m l (slots_in left) u left
  left-sound left a z =
      let h = sound-words-at left z in
      rw (before left a 1 (omega arith), before left a 2 (omega arith), before left a 4 (omega arith)) at h

  left-tree : (left : List ℕ) → Apart ws s left → (k : ℕ) → k < u → tree (read_cache left).trees k ≡ tree_in left m l (slot_words m l k left)
  left-tree left a k h =
      let e = tree-read left {i = k} (omega (arith, before left a 4 (omega arith))) in
      rw (before left a 1 (omega arith), before left a 2 (omega arith)) at e

  module _ (left left' : List ℕ) (a : Apart ws s left) (b : Apart ws s left') (cache : read_cache left ≡ read_cache left') where
    in-slot : sound_wordsb left ≡ true → sound_wordsb left' ≡ true → (k : ℕ) → k < u → (i : ℕ) → i < tree_words m l
        → (i < queue_at l) ⊎ (queue_at l + get_or left (slot_at m l k + queued_at) 0 ≤ i) → get_or left (slot_at m l k + i) 0 ≡ get_or left' (slot_at m l k + i) 0
    in-slot y z k h i =
        let p = left-sound left a y in
        let q = left-sound left' b z in
        slot-determined m l k left left' (p.formed k h) (q.formed k h) (λ j ne c. before left' b j c ∙ sym (before left a j c))
        (slot-length m l left {i = k} {n = slots_in left} (omega (arith, p.used)) p.fits)
        (slot-length m l left' {i = k} {n = slots_in left'} (omega (arith, q.used)) q.fits)
        (sym (left-tree left a k h) ∙ ap (λ (c : Cache). tree c.trees k) cache ∙ left-tree left' b k h)
        i

    module _ (y : sound_wordsb left ≡ true) (z : sound_wordsb left' ≡ true) (slots : (i : ℕ) → i < s.tree_count → (entry s i).tree < u) where
      inside : (j : ℕ) → (QueueWord ws s left j → ⊥) → InSlot ws s j → get_or left j 0 ≡ get_or left' j 0
      inside j other x =
          let at : slot_at m l k + i ≡ j = omega (arith, x.from) in
          let h = in-slot y z k (slots x.which x.is_entry) i (omega (arith, x.from, x.below)) free in
          rw at at h
        where
          k : ℕ
          k = (entry s x.which).tree

          i : ℕ
          i = j - slot_at m l k

          free : (i < queue_at l) ⊎ (queue_at l + get_or left (slot_at m l k + queued_at) 0 ≤ i)
          free = elim (dec_lt i (queue_at l)) [
            | yes f ↦ inl f
            | no n ↦ elim (dec_lt i (queue_at l + get_or left (slot_at m l k + queued_at) 0)) [
              | yes q ↦ absurd (other (record { which = x.which; is_entry = x.is_entry; from = omega arith; below = omega arith }))
              | no q ↦ inr (omega arith)
            ]
          ]

      -- words that differ would stand in no slot of an entry, and there both are as they were
      pub apart-word : (j : ℕ) → (QueueWord ws s left j → ⊥) → get_or left j 0 ≡ get_or left' j 0
      apart-word j other = elim (ℕ_discrete (get_or left j 0) (get_or left' j 0)) [
        | yes e ↦ e
        | no n ↦ let out : InSlot ws s j → ⊥ = λ x. n (inside j other x) in a.word j out ∙ sym (b.word j out)
      ]

  -- the trees of the entries of a valid record are in use
  pub entries-in-use : (step_words ws s).reply ≡ answered waiting → (i : ℕ) → i < s.tree_count → (entry s i).tree < u
  entries-in-use e i h =
      let ok = sound-if (sound_wordsb ws) (read_cache ws) s waiting e in
      let v = valid-at _ _ s (valid-if (read_cache ws) s waiting (sym (ap (λ (x : AfterStep). x.reply) (step_is ws ok s)) ∙ e)) in
      omega (arith, v.slots i h, trees-length ws)

  leaves-length : (x : Reply Status) (left : List ℕ) → Leaves x ws s left → length left ≡ length ws
  leaves-length (answered waiting) left h = h.len
  leaves-length (answered (solved k n)) left h = ap length h
  leaves-length (answered no_path) left h = ap length h
  leaves-length (refused n line) left h = ap length h

  module _ (left left' : List ℕ) (cache : read_cache left ≡ read_cache left') where
    pub same_word : left ≡ ws → left' ≡ ws → (j : ℕ) → (QueueWord ws s left j → ⊥) → get_or left j 0 ≡ get_or left' j 0
    same_word p q j other = ap (λ (x : List ℕ). get_or x j 0) (p ∙ sym q)

    leaves_word : sound_wordsb left ≡ sound_wordsb ws → sound_wordsb left' ≡ sound_wordsb ws → (x : Reply Status) → (step_words ws s).reply ≡ x
        → Leaves x ws s left → Leaves x ws s left' → (j : ℕ) → (QueueWord ws s left j → ⊥) → get_or left j 0 ≡ get_or left' j 0
    leaves_word y z (answered waiting) e a b =
        let ok = sound-if (sound_wordsb ws) (read_cache ws) s waiting e in
        apart-word left left' a b cache (y ∙ ok) (z ∙ ok) (entries-in-use e)
    leaves_word y z (answered (solved k n)) e a b = same_word a b
    leaves_word y z (answered no_path) e a b = same_word a b
    leaves_word y z (refused n line) e a b = same_word a b

-- ---- the whole

stepped-is : (r r' : Stepped) → r.answer ≡ r'.answer → r.tickets ≡ r'.tickets → r.search ≡ r'.search → r ≡ r'
stepped-is r r' a t s i = record { answer = a i; tickets = t i; search = s i }

pub determined : Determined
determined ws s r r' left left' p q =
    let reply : Reply Status = (step_words ws s).reply in
    let cache : read_cache left ≡ read_cache left' = p.cache ∙ sym q.cache in (
      stepped-is r r' (step-told _ _ (p.answer ∙ sym q.answer)) (p.tickets ∙ sym q.tickets) (p.search ∙ sym q.search),
      record {
        len = leaves-length ws s reply left p.words ∙ sym (leaves-length ws s reply left' q.words);
        word = leaves_word ws s left left' cache p.sound q.sound reply refl p.words q.words;
        cache = cache;
      },
    )
