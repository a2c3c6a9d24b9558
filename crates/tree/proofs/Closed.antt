-- The closed words of a tree: what a word says, the node that closed a vertex, and closing one.
-- Assumes nothing.
use mathlib.Core.Path.{◌≡◌, refl, sym, ap, ◌∙◌}
use Rattle.std.specs.Prelude.{None, Some}
use mathlib.Core.Logic.{◌≢◌}
use mathlib.Core.List.{List}
use Prim.Native.Nat.{ℕ, zero, suc, ◌+◌, ◌-◌, ◌/◌, ◌<◌, ◌≤◌}
use native.Mathlib.Omega.{arith}
use native.Mathlib.Decide.{ℕ_discrete}
use native.Mathlib.Numerals.{add-one}
use lib.ListN.{length, get_or, set, take, drop, length-set}
use lib.Seq.{get_or-set_same, get_or-set_other, take-set-lt, take-set-le, drop-set-add}
use Rattle.model.specs.Lists.{numbers, those, mem}
use Rattle.model.specs.Tree.{evaluation_of, evaluation, close, closed_at}
use Rattle.layout.specs.Layout.{queue_at, closed_words_at, part, queued_in, used_in, start_at, used_at, queued_at, queue_word_in, closed_word_in, NodeFits}
use Rattle.layout.specs.Read.{nodes_in, tree_in}
use Rattle.layout.proofs.Trees.{nodes-same, tree-node, tree-closed}
use Rattle.queue.specs.Queue.{evaluation_in, rank}
use Rattle.queue.proofs.Times.{times-ext}
use Rattle.queue.proofs.Keys.{rank-ext, node-evaluation}
use Rattle.tree.specs.Tree.{tree_of, Formed, HasVertex, status_of, CanClose, Closes}

-- ---- a closed word; the words start at place a

module _ (l : ℕ) (t : List ℕ) (v a : ℕ) (h : HasVertex l t v) (e : a ≡ closed_words_at l) where
  pub closed-word : (ws : List ℕ) → closed_at (tree_of ws l t).closed v ≡ get_or t (a + v) 0
  closed-word ws = tree-closed ws (length t - closed_words_at l) l t v (omega arith) ∙ ap (λ (x : ℕ). get_or t (x + v) 0) (sym e)

-- the word that a tree has for a vertex
pub tree-word : (ws : List ℕ) (l : ℕ) (t : List ℕ) (v : ℕ) → HasVertex l t v → closed_at (tree_of ws l t).closed v ≡ closed_word_in l t v
tree-word ws l t v h = closed-word l t v (closed_words_at l) h refl ws

-- the word by the status

pub open-word : (n : ℕ) → None ≡ status_of n → n ≡ 0
open-word zero e = refl
open-word (suc n) e = cc

pub closer-word : (n k : ℕ) → Some k ≡ status_of n → n ≡ suc k
closer-word zero k e = cc
closer-word (suc n) k e = ap suc cc

-- ---- the node that closed a vertex; nodes and queue words are within the words

pub closer-used : {l k : ℕ} {t : List ℕ} (v : ℕ) → Formed l t → HasVertex l t v → closed_word_in l t v ≡ suc k → k < used_in t
closer-used v f h e = omega (arith, e, f.closers v h)

pub node-fits : {l k : ℕ} {t : List ℕ} → Formed l t → k < used_in t → NodeFits (length t) k
node-fits f h = omega (arith, f.used, f.fits)

pub queue-fits : {l : ℕ} {t : List ℕ} → Formed l t → queue_at l + queued_in t ≤ length t
queue-fits f = omega (arith, f.queued, f.used, f.fits)

pub node-cost : (ws : List ℕ) (m l : ℕ) (t : List ℕ) (k : ℕ) → k < used_in t → evaluation (tree_in ws m l t).nodes k ≡ evaluation_in t k
node-cost ws m l t k h = ap evaluation_of (tree-node ws m l t k h) ∙ node-evaluation ws t k

-- ---- closing a vertex

module _ {l : ℕ} {s : List ℕ} {v n : ℕ} (c : CanClose l s v n) where
  abbrev closing : List ℕ
  closing = set s (closed_words_at l + v) (n + 1)

  same : (i : ℕ) → i < closed_words_at l → get_or closing i 0 ≡ get_or s i 0
  same i h = get_or-set_other s (closed_words_at l + v) i (n + 1) 0 (omega arith)

  used : used_in closing ≡ used_in s
  used = same used_at (omega arith)

  queued : queued_in closing ≡ queued_in s
  queued = same queued_at (omega arith)

  within : queue_at l + queued_in s ≤ closed_words_at l
  within = omega (arith, c.formed.used, c.formed.queued)

  queue-word : (i : ℕ) → i < queued_in s → queue_word_in l closing i ≡ queue_word_in l s i
  queue-word i h = same (queue_at l + i) (omega (arith, within))

  same_rank : (i : ℕ) → i < queued_in s → rank closing (queue_at l) i ≡ rank s (queue_at l) i
  same_rank i h =
      rank-ext s closing (queue_at l) i i (omega (arith, c.formed.used, c.formed.nodes i h)) (λ p b _. same p (omega arith)) (queue-word i h)

  closers : (u : ℕ) → closed_words_at l + u < length closing → closed_word_in l closing u ≤ used_in closing
  closers u h = elim (ℕ_discrete u v) [
    | yes e ↦ rw e (omega (arith, used, c.node, get_or-set_same s (closed_words_at l + v) (n + 1) 0 c.vertex))
    | no ne ↦ omega (
      arith,
      used,
      length-set s (closed_words_at l + v) (n + 1),
      c.formed.closers u (omega (arith, length-set s (closed_words_at l + v) (n + 1))),
      get_or-set_other s (closed_words_at l + v) (closed_words_at l + u) (n + 1) 0 (omega arith),
    )
  ]

  close-formed : Formed l closing
  close-formed = let f = c.formed in record {
    edges = f.edges;
    fits = simp length-set f.fits;
    vertices = simp length-set f.vertices;
    used = omega (arith, used, f.used);
    queued = omega (arith, used, queued, f.queued);
    nodes = λ i h. let b : i < queued_in s = omega (arith, queued) in omega (arith, used, queue-word i b, f.nodes i b);
    once = λ x. rw (queued, times-ext s closing (queue_at l) (queued_in s) x queue-word) (f.once x);
    heap = λ i i0 h.
        let b : i < queued_in s = omega (arith, queued) in
        omega (arith, f.heap i i0 b, same_rank i b, same_rank ((i - 1) / 2) (omega arith));
    closers = closers;
    spare_nodes = λ i low high. same i (omega arith) ∙ f.spare_nodes i (omega (arith, used)) high;
    spare_queue = λ i low high. same i high ∙ f.spare_queue i (omega (arith, queued)) high;
  }

  close-tree : (ws : List ℕ) → tree_of ws l closing ≡ close (tree_of ws l s) v n
  unfolding tree_in close
  close-tree ws = λ i. record {
    start = same start_at (omega arith) i;
    nodes = nodes i;
    waiting = those (λ k. mem k (queue i)) (numbers (used i));
    closed = closed i;
  }
    where
      nodes : nodes_in ws (used_in closing) closing ≡ nodes_in ws (used_in s) s
      nodes =
          ap (λ (k : ℕ). nodes_in ws k closing) used
          ∙ nodes-same ws (used_in s) s closing (λ p _ h. same p (omega (arith, c.formed.used)))

      queue : part (queue_at l) (queued_in closing) closing ≡ part (queue_at l) (queued_in s) s
      queue =
          let at : closed_words_at l + v ≡ queue_at l + (1 + l + v) = omega arith in
          ap (λ (k : ℕ). part (queue_at l) k closing) queued
          ∙ ap (λ (k : ℕ). part (queue_at l) (queued_in s) (set s k (n + 1))) at
          ∙ ap (take (queued_in s)) (drop-set-add (queue_at l) s (1 + l + v) (n + 1))
          ∙ take-set-le (queued_in s) (drop (queue_at l) s) (1 + l + v) (n + 1) (omega (arith, within))

      closed : part (closed_words_at l) (length closing - closed_words_at l) closing ≡ set (part (closed_words_at l) (length s - closed_words_at l) s) v (suc n)
      closed =
          ap (λ (k : ℕ). part (closed_words_at l) (k - closed_words_at l) closing) (length-set s (closed_words_at l + v) (n + 1))
          ∙ ap (take (length s - closed_words_at l)) (drop-set-add (closed_words_at l) s v (n + 1))
          ∙ take-set-lt (length s - closed_words_at l) (drop (closed_words_at l) s) v (n + 1) (omega (arith, c.vertex))
          ∙ ap (set (part (closed_words_at l) (length s - closed_words_at l) s) v) (add-one n)

module _ {l : ℕ} {s : List ℕ} {v n a : ℕ} (c : CanClose l s v n) (e : a ≡ closed_words_at l) where
  pub close-new : get_or s (a + v) 0 ≡ 0 → Closes l s (set s (a + v) (n + 1)) v n
  close-new z = record {
    before = ap (λ (x : ℕ). get_or s (x + v) 0) (sym e) ∙ z;
    tree = rw e (close-tree c);
    formed = rw e (close-formed c);
  }

  pub close-old : get_or s (a + v) 0 ≢ 0 → 0 < closed_word_in l s v
  close-old ne = omega (arith, ap (λ (x : ℕ). get_or s (x + v) 0) e)
