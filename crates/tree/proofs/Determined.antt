-- What the tree that the words hold leaves open: the arrangement of the queue.
-- Assumes nothing.
use mathlib.Core.Path.{◌≡◌, sym, ap, ◌∙◌, subst}
use mathlib.Core.Logic.{◌⊎◌, inl, inr, ◌≢◌}
use mathlib.Core.List.{List, [], Memᴰ}
use Prim.Native.Nat.{ℕ, ◌+◌, ◌-◌, ◌<◌, ◌≤◌}
use native.Mathlib.Omega.{arith}
use native.Mathlib.Decide.{dec_lt}
use lib.ListN.{length, get_or, get_or-eq_default}
use Rattle.model.specs.Tree.{Node, Tree, node, closed_at, popped}
use Rattle.layout.specs.Layout.{queued_at, queued_in, start_in, used_in, nodes_at, node_at, queue_at, closed_words_at, closed_word_in}
use Rattle.layout.specs.Read.{node_in, tree_in}
use Rattle.layout.proofs.Trees.{node_of, node-words, header-words, tree-nodes, tree-node, tree-closed}
use Rattle.tree.specs.Tree.{tree_of, Formed, Pops}
use Rattle.tree.proofs.Form.{waiting-length}
use Rattle.tree.proofs.Waiting.{waits, waiting-mem, waiting-has, waits-node}
use Rattle.tree.proofs.Closed.{queue-fits}

module _ (ws : List ℕ) (l : ℕ) (s t : List ℕ) (f : Formed l s) (g : Formed l t) (len : length s ≡ length t) where
  at : (i j : ℕ) → i ≡ j → get_or s j 0 ≡ get_or t j 0 → get_or s i 0 ≡ get_or t i 0
  at i j e h = rw e h

  start-kept : (tree_of ws l s).start ≡ (tree_of ws l t).start → start_in s ≡ start_in t
  unfolding tree_in
  start-kept e = e

  -- ---- the nodes give nodes used and the words of all nodes, used or not

  module _ (same : (tree_of ws l s).nodes ≡ (tree_of ws l t).nodes) where
    used-kept : used_in s ≡ used_in t
    used-kept = sym (tree-nodes ws _ l s) ∙ ap (λ (x : List Node). length x) same ∙ tree-nodes ws _ l t

    nodes : (k : ℕ) → k < used_in s → node_in ws s k ≡ node_in ws t k
    nodes k h = sym (tree-node ws _ l s k h) ∙ ap (λ (x : List Node). node x k) same ∙ tree-node ws _ l t k (omega (arith, used-kept))

    nodes-kept : (i : ℕ) → nodes_at ≤ i → i < queue_at l → get_or s i 0 ≡ get_or t i 0
    nodes-kept i low h = elim (dec_lt i (node_at (used_in s))) [
      | yes y ↦ let o = node_of i low in node-words ws s t o.0 i o.1.0 o.1.1 (nodes o.0 (omega (arith, o.1.0)))
      | no n ↦ f.spare_nodes i (omega arith) h ∙ sym (g.spare_nodes i (omega (arith, used-kept)) h)
    ]

  -- ---- the closed words are the tree's

  closed-kept : (tree_of ws l s).closed ≡ (tree_of ws l t).closed → (i : ℕ) → closed_words_at l ≤ i → get_or s i 0 ≡ get_or t i 0
  closed-kept same i low = elim (dec_lt i (length s)) [
    | yes y ↦ at i (closed_words_at l + (i - closed_words_at l)) (omega arith) (word (i - closed_words_at l) (omega arith))
    | no m ↦ get_or-eq_default s 0 (omega arith) ∙ sym (get_or-eq_default t 0 (omega (arith, len)))
  ]
    where
      word : (v : ℕ) → closed_words_at l + v < length s → closed_word_in l s v ≡ closed_word_in l t v
      word v h =
          sym (tree-closed ws (length s - closed_words_at l) l s v (omega arith))
          ∙ ap (λ (x : List ℕ). closed_at x v) same
          ∙ tree-closed ws (length t - closed_words_at l) l t v (omega (arith, len))

  -- ---- the waiting nodes give the queue's length and, of each node, whether it stands in the queue

  module _ (same : (tree_of ws l s).waiting ≡ (tree_of ws l t).waiting) where
    waiting : (u : List ℕ) → Formed l u → length (tree_of ws l u).waiting ≡ queued_in u
    waiting u h = waiting-length ws l u (queue-fits h) h.nodes h.once

    queued-kept : queued_in s ≡ queued_in t
    queued-kept = sym (waiting s f) ∙ ap (λ (x : List ℕ). length x) same ∙ waiting t g

    -- so only the arrangement of the queue words is open
    pub queue-determined : (x : ℕ) → waits l s x ≡ waits l t x
    queue-determined x = elim (dec_lt 0 (waits l s x)) [
      | yes h ↦ omega (arith, f.once x, g.once x, moved s t f g same h)
      | no n ↦ elim (dec_lt 0 (waits l t x)) [ yes h ↦ absurd (n (moved t s g f (sym same) h)) | no k ↦ omega arith ]
    ]
      where
        moved : (u v : List ℕ) → Formed l u → Formed l v → (tree_of ws l u).waiting ≡ (tree_of ws l v).waiting → 0 < waits l u x → 0 < waits l v x
        moved u v a b e h =
            waiting-mem ws l v (queue-fits b) x (subst (λ (q : List ℕ). Memᴰ x q) e (waiting-has ws l u (queue-fits a) x (waits-node a x h) h))

  -- ---- all of it

  module _ (same : tree_of ws l s ≡ tree_of ws l t) where
    of-nodes : (tree_of ws l s).nodes ≡ (tree_of ws l t).nodes
    of-nodes = ap (λ (x : Tree). x.nodes) same

    queued : queued_in s ≡ queued_in t
    queued = queued-kept (ap (λ (x : Tree). x.waiting) same)

    pub words-determined : (i : ℕ) → (i < queue_at l) ⊎ (queue_at l + queued_in s ≤ i) → get_or s i 0 ≡ get_or t i 0
    words-determined i (inl h) = elim (dec_lt i nodes_at) [
      | no n ↦ nodes-kept of-nodes i (omega arith) h
      | yes z ↦ header-words s t (start-kept (ap (λ (x : Tree). x.start) same)) (used-kept of-nodes) i z (λ e. queued)
    ]
    words-determined i (inr h) = elim (dec_lt i (closed_words_at l)) [
      | yes y ↦ f.spare_queue i h y ∙ sym (g.spare_queue i (omega (arith, queued)) y)
      | no n ↦ closed-kept (ap (λ (x : Tree). x.closed) same) i (omega arith)
    ]

-- a ticket taken: every word but the queue's length and the queue words is as it was
pub popped-words : (l : ℕ) (s t : List ℕ) (k m : ℕ) → Formed l s → Pops l s t k m → length s ≡ length t
    → (i : ℕ) → i ≢ queued_at → (i < queue_at l) ⊎ (closed_words_at l ≤ i) → get_or s i 0 ≡ get_or t i 0
unfolding popped
popped-words l s t k m f p len i ne (inl h) =
    let nodes = sym (ap (λ (x : Tree). x.nodes) (p.tree [])) in
    elim (dec_lt i nodes_at) [
      | no n ↦ nodes-kept [] l s t f p.formed len nodes i (omega arith) h
      | yes z ↦
          header-words s t (start-kept [] l s t f p.formed len (sym (ap (λ (x : Tree). x.start) (p.tree [])))) (used-kept [] l s t f p.formed len nodes) i z
          (λ e. absurd (ne e))
    ]
popped-words l s t k m f p len i ne (inr h) = closed-kept [] l s t f p.formed len (sym (ap (λ (x : Tree). x.closed) (p.tree []))) i h
