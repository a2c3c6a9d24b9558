-- A node more: its words are written, it is counted, and its ticket is queued.
-- Assumes nothing.
use mathlib.Core.Path.{◌≡◌, refl, sym, ap, ap₂, ◌∙◌}
use Rattle.std.specs.declared.option.Option.{Option}
use Rattle.std.specs.Prelude.{None, Some}
use mathlib.Core.Logic.{◌≢◌}
use mathlib.Core.Bool.{Bool, false}
use mathlib.Core.List.{List, [], ◌∷◌, ◌++◌}
use Prim.Native.Nat.{ℕ, zero, suc, ◌+◌, ◌-◌, ◌/◌, ◌<◌, ◌≤◌}
use native.Mathlib.Omega.{arith}
use native.Mathlib.Decide.{ℕ_discrete, dec_lt}
use lib.Dec.{leb}
use lib.ListN.{length, get_or, set, length-set, length-append, get_or-append}
use lib.Seq.{sets, length-sets, get_or-set_same, get_or-set_other, get_or_at, ext_get_or}
use borrow.Author.Tests.{le-leb, lt-leb}
use Rattle.model.specs.Tree.{Node, no_node, evaluation_of, closed_within, appended, push_if, push_node}
use Rattle.model.proofs.Worth.{evaluation-same}
use Rattle.layout.specs.Layout.{start_at, used_at, queued_at, queued_in, used_in, node_size, node_at, NodeFits, queue_at, queue_word_in, closed_words_at, closed_word_in}
use Rattle.layout.specs.Words.{node_words}
use Rattle.layout.specs.Read.{node_in, nodes_in, tree_in}
use Rattle.layout.proofs.Trees.{nodes-in-length, node_at_lem, words-node, nodes-same}
use Rattle.queue.specs.Queue.{figures, evaluation_in, one, times, key, rank, CanPush, Pushed}
use Rattle.queue.proofs.Keys.{key-words}
use Rattle.queue.proofs.Times.{one_same, one-other, times-ext, place-times}
use Rattle.tree.specs.declared.Node.{Node as NodeWords}
use Rattle.tree.specs.Tree.{tree_of, node_of, Formed, status_of, CanAdd, CanPushNode, Adds, PushesNode}
use Rattle.tree.proofs.Same.{closed_same}
use Rattle.tree.proofs.Waiting.{waits, waiting-pushed, waits-node}
use Rattle.tree.proofs.Closed.{tree-word, open-word, closer-word, closer-used, node-fits, node-cost}

-- ---- words stored in a row

pub sets-four : (l : List ℕ) (i a b c d : ℕ) → set (set (set (set l (i + 0) a) (i + 1) b) (i + 2) c) (i + 3) d ≡ sets l i (a ∷ b ∷ c ∷ d ∷ [])
sets-four l i a b c d =
    let none : i + 0 ≡ i = omega arith in
    let one : i + 1 ≡ suc i = omega arith in
    let two : i + 2 ≡ suc (suc i) = omega arith in
    let three : i + 3 ≡ suc (suc (suc i)) = omega arith in
    rw (none, one, two, three)

pub get_or-sets-other : (vs l : List ℕ) (i j : ℕ) → ((k : ℕ) → k < length vs → j ≢ i + k) → get_or (sets l i vs) j 0 ≡ get_or l j 0
get_or-sets-other [] l i j h = refl
get_or-sets-other (a ∷ vs) l i j h =
    get_or-sets-other vs (set l i a) (suc i) j (λ k kv e. h (suc k) (omega arith) (omega arith))
    ∙ get_or-set_other l i j a 0 (λ e. h 0 (omega arith) (omega arith))

pub get_or-sets-at : (vs l : List ℕ) (i k j : ℕ) → j ≡ i + k → k < length vs → j < length l → get_or (sets l i vs) j 0 ≡ get_or vs k 0
get_or-sets-at [] l i k j e h f = absurd (omega arith)
get_or-sets-at (a ∷ vs) l i zero j e h f =
    let at : j ≡ i = omega arith in
    rw at (get_or-sets-other vs (set l i a) (suc i) i (λ k kv e. omega arith) ∙ get_or-set_same l i a 0 (omega arith))
get_or-sets-at (a ∷ vs) l i (suc k) j e h f = get_or-sets-at vs (set l i a) (suc i) k j (omega arith) (omega arith) (omega (arith, length-set l i a))

-- ---- the nodes, read

nodes-next : (ws : List ℕ) (n : ℕ) (t : List ℕ) → nodes_in ws (n + 1) t ≡ nodes_in ws n t ++ (node_in ws t n ∷ [])
nodes-next ws n t =
    let old = nodes_in ws n t in
    let new = node_in ws t n in
    let few = nodes-in-length ws n t in
    let all = nodes-in-length ws (n + 1) t in
    ext_get_or no_node (nodes_in ws (n + 1) t) (old ++ (new ∷ [])) (omega (arith, all, few, length-append old (new ∷ []))) (λ k b. elim (ℕ_discrete k n) [
      | yes e ↦ rw e (node_at_lem ws (n + 1) t n (omega arith) ∙ sym (get_or_at old new [] no_node n few))
      | no ne ↦
          let less : k < n = omega (arith, all) in
          node_at_lem ws (n + 1) t k (omega arith) ∙ sym (node_at_lem ws n t k less) ∙ sym (get_or-append old (new ∷ []) no_node k (omega (arith, few)))
    ])

-- ---- the node's words and the count

abbrev words_of : NodeWords → List ℕ
words_of x = node_words (node_of x)

-- s with the node's words, and counted
unfoldable with_node : List ℕ → NodeWords → List ℕ
with_node s x = set (sets s (node_at (used_in s)) (words_of x)) used_at (used_in s + 1)

module _ {l : ℕ} {s : List ℕ} (h : CanAdd l s) (x : NodeWords) where
  abbrev at : ℕ
  at = node_at (used_in s)

  with-length : length (with_node s x) ≡ length s
  unfolding with_node
  with-length = length-set (sets s at (words_of x)) used_at (used_in s + 1) ∙ length-sets s at (words_of x)

  with-count : used_in (with_node s x) ≡ used_in s + 1
  unfolding with_node
  with-count = get_or-set_same (sets s at (words_of x)) used_at (used_in s + 1) 0 (omega (arith, length-sets s at (words_of x)))

  with-other : (j : ℕ) → j ≢ used_at → ((k : ℕ) → k < node_size → j ≢ at + k) → get_or (with_node s x) j 0 ≡ get_or s j 0
  unfolding with_node
  with-other j j1 ne = get_or-set_other (sets s at (words_of x)) used_at j (used_in s + 1) 0 j1 ∙ get_or-sets-other (words_of x) s at j ne

  with-word : (j k : ℕ) → j ≡ at + k → k < node_size → get_or (with_node s x) j 0 ≡ get_or (words_of x) k 0
  unfolding with_node
  with-word j k e k4 =
      get_or-set_other (sets s at (words_of x)) used_at j (used_in s + 1) 0 (omega arith)
      ∙ get_or-sets-at (words_of x) s at k j e k4 (omega arith)

  with-queue : (j : ℕ) → queue_at l ≤ j → get_or (with_node s x) j 0 ≡ get_or s j 0
  with-queue j q = with-other j (omega arith) (λ k k4 e. omega arith)

  with-queued : queued_in (with_node s x) ≡ queued_in s
  with-queued = with-other queued_at (omega arith) (λ k k4 e. omega arith)

  with-rank : (i : ℕ) → i < queued_in s → rank (with_node s x) (queue_at l) i ≡ rank s (queue_at l) i
  unfolding rank
  with-rank i n =
      ap (key (with_node s x)) (with-queue (queue_at l + i) (omega arith))
      ∙ key-words s (with_node s x) (queue_word_in l s i) (λ j low high. with-other j (omega arith) (λ k k4 e. omega (arith, h.formed.nodes i n)))

  with-pushes : CanPush (with_node s x) (queue_at l) (used_in s)
  with-pushes = record {
    queue = record {
      room = record {
        fits = omega (arith, with-length, with-queued);
        nodes = λ i n. omega (arith, with-queue (queue_at l + i) (omega arith), h.formed.nodes i (omega (arith, with-queued)));
      };
      heap = λ i i0 n.
          let m : i < queued_in s = omega (arith, with-queued) in
          omega (arith, with-rank i m, with-rank ((i - 1) / 2) (omega arith), h.formed.heap i i0 m);
    };
    node = omega arith;
    space = omega (arith, with-length, with-queued);
    small = omega (arith, with-queued);
  }

  -- ---- the ticket

  module _ {t : List ℕ} (p : Pushed (with_node s x) t (queue_at l) (used_in s)) where
    len : length t ≡ length s
    len = p.len ∙ with-length

    used : used_in t ≡ used_in s + 1
    used = p.below used_at (omega arith) (omega arith) ∙ with-count

    queued : queued_in t ≡ queued_in s + 1
    queued = p.count ∙ ap (λ (n : ℕ). n + 1) with-queued

    -- neither a count, a word of the node, nor a queue word
    kept : (j : ℕ) → j ≢ used_at → j ≢ queued_at → ((k : ℕ) → k < node_size → j ≢ at + k) → j < queue_at l → get_or t j 0 ≡ get_or s j 0
    kept j j1 j2 ne q = p.below j q j2 ∙ with-other j j1 ne

    behind : (j : ℕ) → queue_at l + queued_in t ≤ j → get_or t j 0 ≡ get_or s j 0
    behind j b = p.above j (omega (arith, p.count)) ∙ with-queue j (omega arith)

    counts : (y : ℕ) → waits l t y ≡ waits l s y + one (used_in s) y
    counts y =
        p.waiting y
        ∙ ap (λ (n : ℕ). times (with_node s x) (queue_at l) n y + one (used_in s) y) with-queued
        ∙ ap
        (λ (n : ℕ). n + one (used_in s) y)
        (times-ext s (with_node s x) (queue_at l) (queued_in s) y (λ i n. with-queue (queue_at l + i) (omega arith)))

    nodes-below : (i : ℕ) → i < queued_in t → queue_word_in l t i < used_in t
    nodes-below i n =
        let y = queue_word_in l t i in
        elim (ℕ_discrete (used_in s) y) [
          | yes e ↦ omega (arith, used)
          | no ne ↦
              let w : 0 < waits l s y = omega (arith, place-times t (queue_at l) (queued_in t) i n, counts y, one-other (used_in s) y ne) in
              omega (arith, used, waits-node h.formed y w)
        ]

    once : (y : ℕ) → waits l t y ≤ 1
    once y = elim (ℕ_discrete (used_in s) y) [
      | yes e ↦ elim (dec_lt 0 (waits l s y)) [
        | yes w ↦ absurd (omega (arith, waits-node h.formed y w))
        | no ne ↦ omega (arith, counts y, one_same (used_in s) y e)
      ]
      | no ne ↦ omega (arith, counts y, one-other (used_in s) y ne, h.formed.once y)
    ]

    formed : Formed l t
    formed = record {
      edges = h.formed.edges;
      fits = omega (arith, len);
      vertices = omega (arith, len);
      used = omega (arith, used);
      queued = omega (arith, used, queued);
      nodes = nodes-below;
      once = once;
      heap = p.queue.heap;
      closers = λ v b. omega (arith, used, behind (closed_words_at l + v) (omega (arith, queued)), h.formed.closers v (omega (arith, len)));
      spare_nodes = λ i a b. kept i (omega arith) (omega arith) (λ k k4 e. omega (arith, used)) b ∙ h.formed.spare_nodes i (omega (arith, used)) b;
      spare_queue = λ i a b. behind i a ∙ h.formed.spare_queue i (omega (arith, queued)) b;
    }

    -- ---- the tree

    new-node : (ws : List ℕ) → node_in ws t (used_in s) ≡ node_of x
    new-node ws = words-node ws t (used_in s) (node_of x) (λ k k4. p.below (at + k) (omega arith) (omega arith) ∙ with-word (at + k) k refl k4)

    tree : (ws : List ℕ) → tree_of ws l t ≡ appended (tree_of ws l s) (node_of x)
    unfolding tree_in
    tree ws = λ i. record { start = start i; nodes = nodes i; waiting = waiting i; closed = closed_same ws l s t len (λ j b. behind j (omega (arith, queued))) i }
      where
        start : (tree_of ws l t).start ≡ (tree_of ws l s).start
        start = kept start_at (omega arith) (omega arith) (λ k k4 e. omega arith) (omega arith)

        nodes : (tree_of ws l t).nodes ≡ (tree_of ws l s).nodes ++ (node_of x ∷ [])
        nodes =
            ap (λ (n : ℕ). nodes_in ws n t) used
            ∙ nodes-next ws (used_in s) t
            ∙ ap₂
            (λ (ns : List Node) (y : Node). ns ++ (y ∷ []))
            (nodes-same ws (used_in s) s t (λ j a b. kept j (omega arith) (omega arith) (λ k k4 e. omega arith) (omega arith)))
            (new-node ws)

        waiting : (tree_of ws l t).waiting ≡ (tree_of ws l s).waiting ++ (length (tree_of ws l s).nodes ∷ [])
        waiting =
            waiting-pushed ws l s t (omega arith) p.queue.room.fits used counts
            ∙ ap (λ (n : ℕ). (tree_of ws l s).waiting ++ (n ∷ [])) (sym (nodes-in-length ws (used_in s) s))

-- ---- the calls

-- w: s with the words of node n; q: where the queue starts
module _ {l : ℕ} {s : List ℕ} (h : CanAdd l s) (x : NodeWords) {n q : ℕ} {w : List ℕ} (a : n ≡ used_in s) (b : q ≡ queue_at l) (e : w ≡ sets s (node_at n) (words_of x)) where
  same : set w used_at (used_in s + 1) ≡ with_node s x
  unfolding with_node
  same = rw (e, a)

  pub can-queue : CanPush (set w used_at (used_in s + 1)) q (used_in s)
  can-queue = rw (same, b) (with-pushes h x)

  pub node-added : {t : List ℕ} → Pushed (set w used_at (used_in s + 1)) t q (used_in s) → Adds l s t (node_of x)
  node-added {t} p =
      let pushed : Pushed (with_node s x) t (queue_at l) (used_in s) = rw (same, b) at p in
      record { tree = tree h x pushed; formed = formed h x pushed }

-- ---- unless the vertex is closed at no greater cost

-- r: the status of the node's vertex v
module _ {l : ℕ} {s : List ℕ} {x : NodeWords} (c : CanPushNode l s x) {v : ℕ} (e : v ≡ x.vertex) {r : Option ℕ} (is : r ≡ status_of (closed_word_in l s v)) where
  abbrev word : ℕ
  word = closed_word_in l s x.vertex

  abbrev new : ℕ
  new = evaluation_of (node_of x)

  status-is : r ≡ status_of word
  status-is = is ∙ ap (λ (n : ℕ). status_of (closed_word_in l s n)) e

  push-is : (ws : List ℕ) {b : Bool} → closed_within (tree_of ws l s).nodes new word ≡ b → push_if b (tree_of ws l s) (node_of x) ≡ push_node (tree_of ws l s) (node_of x)
  unfolding push_node
  push-is ws q = ap (λ (b : Bool). push_if b (tree_of ws l s) (node_of x)) (sym (ap (closed_within (tree_of ws l s).nodes new) (tree-word ws l s x.vertex c.vertex) ∙ q))

  added : {t : List ℕ} → ((ws : List ℕ) → closed_within (tree_of ws l s).nodes new word ≡ false) → Adds l s t (node_of x) → PushesNode l s t (node_of x)
  added q held = record { tree = λ ws. held.tree ws ∙ push-is ws (q ws); formed = held.formed }

  pub push-open : r ≡ None → {t : List ℕ} → Adds l s t (node_of x) → PushesNode l s t (node_of x)
  push-open o {t} held = added (λ ws. ap (closed_within (tree_of ws l s).nodes new) (open-word word (sym o ∙ status-is))) held

  -- closed by node n
  module _ {n : ℕ} (o : r ≡ Some n) where
    closer : word ≡ suc n
    closer = closer-word word n (sym o ∙ status-is)

    used-node : n < used_in s
    used-node = closer-used x.vertex c.add.formed c.vertex closer

    pub closer-within : NodeFits (length s) n
    closer-within = node-fits c.add.formed used-node

    -- of evaluation k, where the new node's is j
    module _ {k j : ℕ} (q : k ≡ evaluation_in s n) (p : j ≡ evaluation_of (figures x.cost)) where
      test : (ws : List ℕ) → closed_within (tree_of ws l s).nodes new word ≡ leb k j
      test ws =
          ap (closed_within (tree_of ws l s).nodes new) closer
          ∙ ap₂ leb (node-cost ws _ l s n used-node ∙ sym q) (evaluation-same (node_of x) (figures x.cost) refl ∙ sym p)

      pub push-within : k ≤ j → PushesNode l s s (node_of x)
      push-within h = record { tree = λ ws. push-is ws (test ws ∙ le-leb k j h); formed = c.add.formed }

      pub push-above : j < k → {t : List ℕ} → Adds l s t (node_of x) → PushesNode l s t (node_of x)
      push-above h {t} held = added (λ ws. test ws ∙ lt-leb k j h) held
