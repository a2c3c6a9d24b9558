-- What the words say of a closed word and of the root: the cases in which the check answers.
-- Assumes nothing.
use mathlib.Core.Path.{◌≡◌, refl, sym, ap, ◌∙◌}
use mathlib.Core.Bool.{Bool, true, not, ◌&&◌, ◌||◌, and_assoc}
use mathlib.Core.List.{List}
use Prim.Native.Nat.{ℕ, suc, ◌+◌, ◌-◌, ◌<◌, ◌≤◌}
use native.Mathlib.Nat.{add-zero}
use native.Mathlib.Decide.{ℕ_discrete, dec_lt}
use native.Mathlib.Omega.{arith}
use lib.Dec.{eqb, leb, ltb}
use lib.ListN.{length, get_or}
use borrow.Author.Tests.{le-ltb, eq-eqb, ne_eqb}
use Rattle.model.specs.Lists.{mem, all_in, all_below}
use Rattle.model.proofs.Bools.{true-or-left}
use Rattle.model.specs.Tree.{Node, node, closed_at, evaluation}
use Rattle.model.specs.Sound.{closerb, begunb}
use Rattle.layout.specs.Layout.{node_end, queue_at, closed_words_at, queued_in, start_in, used_in, vertex_in}
use Rattle.layout.specs.Read.{tree_in}
use Rattle.layout.specs.Sound.{queue_in}
use Rattle.layout.proofs.Trees.{tree-nodes, tree-node}
use Rattle.queue.specs.Queue.{evaluation_in}
use Rattle.tree.specs.Tree.{tree_of, HasVertex}
use Rattle.tree.proofs.Closed.{closed-word, node-cost}
use Rattle.sound_tree.specs.Check.{Waits}
use Rattle.sound_tree.proofs.Waiting.{mem-waiting, queued-node, none-waits, waiting-first}

-- ---- the closed word of vertex v

module _ (ws : List ℕ) (l : ℕ) (t : List ℕ) (v : ℕ) (w : Waits l ws t) (h : HasVertex l t v) where
  abbrev word : ℕ
  word = get_or t (closed_words_at l + v) 0

  -- the number named
  abbrev i : ℕ
  i = word - 1

  abbrev ns : List Node
  ns = (tree_of ws l t).nodes

  abbrev m : ℕ
  m = length t - closed_words_at l

  read : closed_at (tree_of ws l t).closed v ≡ word
  read = closed-word l t v (closed_words_at l) h refl ws

  -- a node of v that costs no more than the first that waits, if one does
  abbrev closes : Bool
  closes = ltb i (used_in t) && (eqb (vertex_in ws t i) v && (eqb (queued_in t) 0 || leb (evaluation_in t i) (evaluation_in t (get_or t (queue_at l) 0))))

  module _ (some : word ≡ 0 → ⊥) where
    names : closerb (tree_of ws l t) v ≡ ((ltb i (length ns) && eqb (node ns i).vertex v) && all_in (λ j. leb (evaluation ns i) (evaluation ns j)) (tree_of ws l t).waiting)
    names =
        let e : closed_at (tree_of ws l t).closed v ≡ suc i = read ∙ omega arith in
        rw e

    past : used_in t ≤ i → closerb (tree_of ws l t) v ≡ closes
    past g = rw (names, tree-nodes ws m l t, le-ltb i (used_in t) g)

    module _ (n : i < used_in t) where
      waits : all_in (λ j. leb (evaluation ns i) (evaluation ns j)) (tree_of ws l t).waiting ≡ (eqb (queued_in t) 0 || leb (evaluation_in t i) (evaluation_in t (get_or t (queue_at l) 0)))
      waits = elim (ℕ_discrete (queued_in t) 0) [
        | yes z ↦ none-waits ws m l t w (λ j. leb (evaluation ns i) (evaluation ns j)) z ∙ sym (true-or-left _ _ (eq-eqb (queued_in t) 0 z))
        | no q ↦
            waiting-first ws m l t w (evaluation ns i) (omega arith)
            ∙ ap (λ (c : ℕ). leb c (evaluation_in t (get_or t (queue_at l) 0))) (node-cost ws m l t i n)
            ∙ sym (ap (λ (b : Bool). b || leb (evaluation_in t i) (evaluation_in t (get_or t (queue_at l) 0))) (ne_eqb (queued_in t) 0 q))
      ]

      inside : closerb (tree_of ws l t) v ≡ closes
      inside =
          names
          ∙ (λ k. (ltb i (tree-nodes ws m l t k) && eqb (tree-node ws m l t i n k).vertex v) && waits k)
          ∙ and_assoc (ltb i (used_in t)) (eqb (vertex_in ws t i) v) _

pub closer_reads : (ws : List ℕ) (l : ℕ) (t : List ℕ) (v : ℕ) → Waits l ws t → HasVertex l t v
    → closerb (tree_of ws l t) v
    ≡ (eqb (get_or t (closed_words_at l + v) 0) 0
    || (ltb (get_or t (closed_words_at l + v) 0 - 1) (used_in t)
    && (eqb (vertex_in ws t (get_or t (closed_words_at l + v) 0 - 1)) v
    && (eqb (queued_in t) 0 || leb (evaluation_in t (get_or t (closed_words_at l + v) 0 - 1)) (evaluation_in t (get_or t (queue_at l) 0))))))
closer_reads ws l t v w h = elim (ℕ_discrete (get_or t (closed_words_at l + v) 0) 0) [
  | yes z ↦ rw (read ws l t v w h, z)
  | no n ↦
      elim (dec_lt (get_or t (closed_words_at l + v) 0 - 1) (used_in t)) [ yes k ↦ inside ws l t v w h n k | no k ↦ past ws l t v w h n (omega arith) ]
      ∙ sym (ap (λ (b : Bool). b || closes ws l t v w h) (ne_eqb (get_or t (closed_words_at l + v) 0) 0 n))
]

-- the first queue word, at place q, is a node
pub first_fits : (ws : List ℕ) (l : ℕ) (t : List ℕ) (q : ℕ) → Waits l ws t → (queued_in t ≡ 0 → ⊥) → q ≡ queue_at l → node_end (get_or t q 0) ≤ length t
first_fits ws l t q w more eq =
    let node : get_or t q 0 < used_in t = rw (eq, ← add-zero (queue_at l)) (queued-node ws l t w 0 (omega arith)) in
    omega (arith, w.areas.used, w.areas.fits)

-- ---- the root

pub begun_reads : (l : ℕ) (ws t : List ℕ) → HasVertex l t (start_in t) → all_below (used_in t) (queue_in l t) ≡ true
    → begunb (tree_of ws l t) ≡ (not (eqb (get_or t (closed_words_at l + start_in t) 0) 0) || mem 0 (queue_in l t))
unfolding tree_in
begun_reads l ws t h below = λ i. not (eqb (closed-word l t (start_in t) (closed_words_at l) h refl ws i) 0) || mem-waiting ws (length t - closed_words_at l) l t below 0 i
