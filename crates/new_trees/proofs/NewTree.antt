-- Words that begin as a root's and are 0 behind are those of a new tree.
-- Assumes nothing.
use mathlib.Core.Path.{◌≡◌, sym, ap, ap₂, ◌∙◌}
use mathlib.Core.List.{List, [], ◌∷◌}
use Prim.Native.Nat.{ℕ, ◌+◌, ◌<◌, ◌≤◌}
use native.Mathlib.Decide.{ℕ_discrete}
use native.Mathlib.Omega.{arith}
use lib.ListN.{length, get_or, replicate, length-replicate, get_or-replicate, get_or-eq_default}
use lib.Seq.{ext_get_or, get_or-append-add}
use Rattle.model.specs.Lists.{numbers, those, mem}
use Rattle.model.specs.Graph.{Domain, absent, vertex_count, initial_cost}
use Rattle.model.specs.Tree.{Node, root_node, new_tree}
use Rattle.layout.specs.Layout.{Sized, start_at, used_at, queued_at, queued_in, used_in, node_at, queue_at, queue_word_in, closed_words_at, tree_words, part}
use Rattle.layout.specs.Words.{tree_header, node_words}
use Rattle.layout.specs.Read.{nodes_in, tree_in}
use Rattle.layout.proofs.Places.{part_at, part_length}
use Rattle.layout.proofs.Trees.{words-node}
use Rattle.queue.specs.Queue.{one, times}
use Rattle.queue.proofs.Times.{one_same, one-other}
use Rattle.tree.specs.Tree.{Formed}
use Rattle.layout.specs.Planted.{root_words}

one-most : (x k : ℕ) → one x k ≤ 1
one-most x k = elim (ℕ_discrete x k) [ yes e ↦ omega (arith, one_same x k e) | no ne ↦ omega (arith, one-other x k ne) ]

module _ (m l : ℕ) (t : List ℕ) (v k : ℕ) (len : length t ≡ tree_words m l) (word : (i : ℕ) → i < tree_words m l → get_or t i 0 ≡ get_or (root_words v k) i 0) where
  behind : (i : ℕ) → node_at 1 ≤ i → i < tree_words m l → get_or t i 0 ≡ 0
  behind i h b = word i b ∙ get_or-eq_default (root_words v k) 0 h

  nodes : used_in t ≡ 1
  nodes = word used_at (omega arith)

  queued : queued_in t ≡ 1
  queued = word queued_at (omega arith)

  pub new-formed : Sized m l → Formed l t
  unfolding times
  new-formed sized =
      record {
        edges = sized.edges;
        fits = omega (arith, len);
        vertices = omega (arith, len, sized.vertices);
        used = omega (arith, nodes);
        queued = omega (arith, nodes, queued);
        nodes = λ i h. omega (arith, nodes, behind (queue_at l + i) (omega arith) (omega (arith, queued)));
        once = λ x. rw queued (omega (arith, one-most (queue_word_in l t 0) x));
        heap = λ i pos h. absurd (omega (arith, queued));
        closers = λ i h. omega (arith, nodes, behind (closed_words_at l + i) (omega arith) (omega (arith, len)));
        spare_nodes = λ i a b. behind i (omega (arith, nodes)) (omega arith);
        spare_queue = λ i a b. behind i (omega arith) (omega arith);
      }

  module _ (d : Domain) (size : vertex_count d.graph ≡ m) (cost : k ≡ initial_cost d v) where
    root : (ws : List ℕ) → nodes_in ws (used_in t) t ≡ root_node d v ∷ []
    root ws =
        let x : Node = record { vertex = v; cost = k; parent = absent; edge = absent } in
        ap (λ (n : ℕ). nodes_in ws n t) nodes
        ∙ ap (λ (y : Node). y ∷ [])
        (words-node ws t 0 x (λ i b. word (node_at 0 + i) (omega arith) ∙ get_or-append-add (tree_header v 1 1) (node_words x) i 0)
        ∙ (λ i. record { vertex = v; cost = cost i; parent = absent; edge = absent }))

    queue : part (queue_at l) (queued_in t) t ≡ 0 ∷ []
    queue =
        let n = part_length (queue_at l) 1 t (omega (arith, len)) in
        ap (λ (j : ℕ). part (queue_at l) j t) queued
        ∙ ext_get_or 0 (part (queue_at l) 1 t) (0 ∷ []) n (λ i h.
        let z : i ≡ 0 = omega (arith, n) in
        rw z (part_at (queue_at l) 1 t 0 (omega arith) ∙ behind (queue_at l + 0) (omega arith) (omega arith)))

    waits : those (λ n. mem n (part (queue_at l) (queued_in t) t)) (numbers (used_in t)) ≡ 0 ∷ []
    unfolding those mem
    waits = ap₂ (λ (q : List ℕ) (n : ℕ). those (λ n. mem n q) (numbers n)) queue nodes

    closed : part (closed_words_at l) m t ≡ replicate (vertex_count d.graph) 0
    closed =
        let n = part_length (closed_words_at l) m t (omega (arith, len)) in
        let zeros = length-replicate {A = ℕ} (vertex_count d.graph) 0 in
        ext_get_or 0 (part (closed_words_at l) m t) (replicate (vertex_count d.graph) 0) (omega (arith, n, zeros, size)) (λ i h.
        let b : i < m = omega (arith, n) in
        part_at (closed_words_at l) m t i b ∙ behind (closed_words_at l + i) (omega arith) (omega arith) ∙ sym (get_or-replicate (vertex_count d.graph) i 0 0 (omega (arith, size))))

    pub new-tree : (ws : List ℕ) → tree_in ws m l t ≡ new_tree d v
    unfolding tree_in new_tree
    new-tree ws = λ i. record { start = word start_at (omega arith) i; nodes = root ws i; waiting = waits i; closed = closed i }
