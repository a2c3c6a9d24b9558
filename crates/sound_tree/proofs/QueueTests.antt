-- The tests and tables of a tree's queue words, word by word.
-- Assumes nothing.
use mathlib.Core.Path.{◌≡◌, refl, sym, ap, ap₂, ◌∙◌}
use mathlib.Core.Logic.{◌≢◌}
use mathlib.Core.Bool.{Bool, true, false, not, ◌&&◌, ◌||◌, true≢false, and-true, and_comm, and_assoc}
use mathlib.Core.List.{List, [], ◌∷◌, ◌++◌}
use Prim.Native.Nat.{ℕ, zero, suc, ◌+◌, ◌-◌, ◌/◌, ◌<◌, ◌≤◌, min}
use native.Mathlib.Omega.{arith}
use native.Mathlib.Decide.{ℕ_discrete}
use native.Mathlib.Numerals.{add-one}
use lib.Dec.{eqb, ltb}
use lib.ListN.{length, get_or, set, drop, replicate, length-set, length-drop, length-replicate, get_or-replicate}
use lib.Seq.{take-suc, get_or-drop, get_or-set_same, get_or-set_other}
use borrow.Author.Tests.{not-true, lt-ltb, le-ltb, eq-eqb, ne_eqb}
use Rattle.model.specs.Lists.{mem, allb, all_below, upto}
use Rattle.model.specs.Tree.{precedes}
use Rattle.model.specs.Sound.{distinctb}
use Rattle.model.proofs.Bools.{true-or-left, all_true, true-given, upto-same}
use Rattle.layout.specs.Layout.{node_at, queue_at, part, queued_in, used_in, vertex_in}
use Rattle.layout.specs.Read.{nodes_in}
use Rattle.layout.specs.Sound.{heapb, queue_tests}
use Rattle.layout.proofs.Places.{part_at, part_length}
use Rattle.queue.specs.Queue.{evaluation_in, key}
use Rattle.tree.proofs.Parts.{below_at}
use Rattle.tree.proofs.Form.{precedes-key}
use Rattle.sound_tree.specs.Check.{no_cost, QueueWords, lesser_if, least_cost, LeastCosts, QueueTurn, QueueIs}
use Rattle.model.proofs.InTurn.{all-fails}
use Rattle.sound_tree.proofs.Marks.{distinct_snoc, marked-none, marked_more}

-- ---- one word more

part-more : (q i : ℕ) (t : List ℕ) → q + i < length t → part q (i + 1) t ≡ part q i t ++ (get_or t (q + i) 0 ∷ [])
part-more q i t h =
    rw add-one (take-suc (drop q t) i 0 (omega (arith, length-drop q t)) ∙ ap (λ (x : ℕ). part q i t ++ (x ∷ [])) (get_or-drop q t i 0))

below-snoc : (u x : ℕ) (xs : List ℕ) → all_below u (xs ++ (x ∷ [])) ≡ (all_below u xs && ltb x u)
below-snoc u x [] = and-true (ltb x u)
below-snoc u x (y ∷ ys) = ap (λ (b : Bool). ltb y u && b) (below-snoc u x ys) ∙ sym (and_assoc (ltb y u) (all_below u ys) (ltb x u))

-- heap order of n words, and word by word
abbrev heap_to : List ℕ → ℕ → List ℕ → ℕ → Bool
heap_to ws l t n = heapb (nodes_in ws (used_in t) t) (part (queue_at l) n t)

abbrev pub orderb : List ℕ → ℕ → List ℕ → ℕ → Bool
orderb ws l t i = eqb i 0 || not (precedes (nodes_in ws (used_in t) t) (get_or t (queue_at l + i) 0) (get_or t (queue_at l + (i - 1) / 2) 0))

heap-words : (ws : List ℕ) (l : ℕ) (t : List ℕ) (n : ℕ) → queue_at l + n ≤ length t → heap_to ws l t n ≡ upto (orderb ws l t) n
heap-words ws l t n fits =
    rw (part_length (queue_at l) n t fits) (upto-same _ (orderb ws l t) n (λ i h.
    ap₂ (λ (a b : ℕ). eqb i 0 || not (precedes (nodes_in ws (used_in t) t) a b)) (part_at (queue_at l) n t i h) (part_at (queue_at l) n t ((i - 1) / 2) (omega arith))))

heap-more : (ws : List ℕ) (l : ℕ) (t : List ℕ) (i : ℕ) → queue_at l + i < length t → heap_to ws l t (i + 1) ≡ (heap_to ws l t i && orderb ws l t i)
unfolding upto
heap-more ws l t i h =
    heap-words ws l t (i + 1) (omega arith)
    ∙ ap (upto (orderb ws l t)) (add-one i)
    ∙ and_comm (orderb ws l t i) (upto (orderb ws l t) i)
    ∙ ap (λ (b : Bool). b && orderb ws l t i) (sym (heap-words ws l t i (omega arith)))

-- ---- the least cost of a vertex

lesser-swap : (a b : Bool) (x y z : ℕ) → lesser_if a x (lesser_if b y z) ≡ lesser_if b y (lesser_if a x z)
lesser-swap true true x y z = omega arith
lesser-swap true false x y z = refl
lesser-swap false true x y z = refl
lesser-swap false false x y z = refl

least-snoc : (ws t : List ℕ) (k v : ℕ) (xs : List ℕ)
    → least_cost ws t (xs ++ (k ∷ [])) v ≡ lesser_if (eqb (vertex_in ws t k) v) (evaluation_in t k) (least_cost ws t xs v)
unfolding least_cost
least-snoc ws t k v [] = refl
least-snoc ws t k v (x ∷ xs) =
    ap (lesser_if (eqb (vertex_in ws t x) v) (evaluation_in t x)) (least-snoc ws t k v xs)
    ∙ lesser-swap (eqb (vertex_in ws t x) v) (eqb (vertex_in ws t k) v) (evaluation_in t x) (evaluation_in t k) (least_cost ws t xs v)

least-none : (ws t : List ℕ) → LeastCosts (replicate 1024 no_cost) ws t []
unfolding least_cost
least-none ws t = record { len = length-replicate {A = ℕ} 1024 no_cost; least = λ v h. get_or-replicate {A = ℕ} 1024 v no_cost 0 h }

-- the table with node k of vertex v and cost c
module _ {costs ws t xs : List ℕ} (s : LeastCosts costs ws t xs) (k : ℕ) {v c : ℕ} (vertex : v ≡ vertex_in ws t k) (cost : c ≡ evaluation_in t k) (h : v < 1024) where
  same : least_cost ws t (xs ++ (k ∷ [])) v ≡ min c (get_or costs v 0)
  same =
      least-snoc ws t k v xs ∙ ap (λ (b : Bool). lesser_if b (evaluation_in t k) (least_cost ws t xs v)) (eq-eqb _ v (sym vertex))
      ∙ ap₂ min (sym cost) (sym (s.least v h))

  other : (w : ℕ) → w < 1024 → w ≢ v → get_or costs w 0 ≡ least_cost ws t (xs ++ (k ∷ [])) w
  other w g ne =
      s.least w g
      ∙ sym (least-snoc ws t k w xs ∙ ap (λ (b : Bool). lesser_if b (evaluation_in t k) (least_cost ws t xs w)) (ne_eqb _ w (omega (arith, vertex))))

  least-more : (d : ℕ) → d ≡ min (get_or costs v 0) c → LeastCosts (set costs v d) ws t (xs ++ (k ∷ []))
  least-more d lesser = record {
    len = length-set costs v d ∙ s.len;
    least = λ w g. elim (ℕ_discrete w v) [
      | yes e ↦ rw e (omega (arith, same, get_or-set_same costs v d 0 (omega (arith, s.len))))
      | no ne ↦ get_or-set_other costs v w d 0 ne ∙ other w g ne
    ];
  }

-- ---- the tests of word i, and of those before it

abbrev word_tests : List ℕ → ℕ → List ℕ → ℕ → List Bool
word_tests ws l t i =
    ltb (get_or t (queue_at l + i) 0) (used_in t)
    ∷ not (mem (get_or t (queue_at l + i) 0) (part (queue_at l) i t))
    ∷ orderb ws l t i
    ∷ []

-- three tests of the words before and three of the word, in pairs or one after the other
both : (a b c x y z : Bool) → allb ((a && x) ∷ (b && y) ∷ (c && z) ∷ []) ≡ (allb (a ∷ b ∷ c ∷ []) && allb (x ∷ y ∷ z ∷ []))
both true true true x y z = refl
both true true false true true z = refl
both true true false true false z = refl
both true true false false y z = refl
both true false c true y z = refl
both true false c false y z = refl
both false b c x y z = refl

tests-more : (ws : List ℕ) (l i : ℕ) (t : List ℕ) → queue_at l + i < length t → allb (queue_tests ws l t (i + 1)) ≡ (allb (queue_tests ws l t i) && allb (word_tests ws l t i))
tests-more ws l i t h =
    let x : ℕ = get_or t (queue_at l + i) 0 in
    let xs : List ℕ = part (queue_at l) i t in
    let more : part (queue_at l) (i + 1) t ≡ xs ++ (x ∷ []) = part-more (queue_at l) i t h in
    let below : all_below (used_in t) (part (queue_at l) (i + 1) t) ≡ (all_below (used_in t) xs && ltb x (used_in t)) = ap (all_below (used_in t)) more ∙ below-snoc (used_in t) x xs in
    let new : distinctb (part (queue_at l) (i + 1) t) ≡ (distinctb xs && not (mem x xs)) = ap distinctb more ∙ distinct_snoc x xs in
    rw (below, new, heap-more ws l t i h) (both (all_below (used_in t) xs) (distinctb xs) (heap_to ws l t i) (ltb x (used_in t)) (not (mem x xs)) (orderb ws l t i))

-- where the tests of m words fail, those of more words do
fail-on : (ws : List ℕ) (l m : ℕ) (t : List ℕ) (n : ℕ) → m ≤ n → queue_at l + n ≤ length t → allb (queue_tests ws l t m) ≡ false → allb (queue_tests ws l t n) ≡ false
fail-on ws l m t zero h f e = let z : m ≡ 0 = omega arith in rw z at e
fail-on ws l m t (suc n) h f e = elim (ℕ_discrete m (suc n)) [
  | yes z ↦ rw z at e
  | no ne ↦ rw add-one at (tests-more ws l n t (omega arith) ∙ ap (λ (b : Bool). b && allb (word_tests ws l t n)) (fail-on ws l m t n (omega arith) (omega arith) e))
]

-- the words before place i passed; the queue stands from q on, and its word there is n
module _ {l i q n : ℕ} {ws t : List ℕ} {marks : List Bool} {costs : List ℕ} (turn : QueueTurn l ws t i marks costs) (queue : q ≡ queue_at l) (word : n ≡ get_or t (q + i) 0) where
  fits : queue_at l + i < length t
  fits = omega (arith, turn.words.areas.fits, turn.words.areas.queued, turn.place)

  word-is : get_or t (queue_at l + i) 0 ≡ n
  word-is = sym (word ∙ ap (λ (a : ℕ). get_or t (a + i) 0) queue)

  tests : allb (queue_tests ws l t (i + 1)) ≡ allb (word_tests ws l t i)
  tests = tests-more ws l i t fits ∙ ap (λ (b : Bool). b && allb (word_tests ws l t i)) turn.passed

  fails : (k : ℕ) {ms : List Bool} {cs : List ℕ} → get_or (word_tests ws l t i) k true ≡ false → QueueIs l ws t (i + 1) false ms cs
  fails k e = record { answer = sym (tests ∙ all-fails (word_tests ws l t i) k e); tables = λ z. absurd (true≢false (sym z)) }

  -- u nodes are used, and n is one of them or is not
  module _ {u : ℕ} (used : u ≡ used_in t) where
    pub no_node : {ms : List Bool} {cs : List ℕ} → u ≤ n → QueueIs l ws t (i + 1) false ms cs
    no_node h = fails 0 (le-ltb (get_or t (queue_at l + i) 0) (used_in t) (omega (arith, word-is, used)))

    module _ (h : n < u) where
      marked : mem (get_or t (queue_at l + i) 0) (part (queue_at l) i t) ≡ get_or marks n false
      marked =
          sym (turn.tables.marked.mark n (omega (arith, turn.words.areas.used, turn.words.areas.edges)) ∙ ap (λ (x : ℕ). mem x (part (queue_at l) i t)) (sym word-is))

      pub twice : {ms : List Bool} {cs : List ℕ} → get_or marks n false ≡ true → QueueIs l ws t (i + 1) false ms cs
      twice e = fails 1 (ap not (marked ∙ e))

      -- the parent's word
      module _ (pos : 0 < i) where
        parent : get_or t (q + (i - 1) / 2) 0 < used_in t
        parent =
            let r = all_true (queue_tests ws l t i) turn.passed in
            rw queue (below_at t (queue_at l) i (used_in t) (omega (arith, fits)) r.0 ((i - 1) / 2) (omega arith))

        pub parent-node : node_at (get_or t (q + (i - 1) / 2) 0) + 4 ≤ length t
        parent-node = omega (arith, parent, turn.words.areas.used, turn.words.areas.fits)

        order : {r : Bool} → r ≡ ltb (key t (get_or t (q + i) 0)) (key t (get_or t (q + (i - 1) / 2) 0)) → orderb ws l t i ≡ not r
        order e =
            rw (ne_eqb i 0 (omega arith))
            (ap not (precedes-key ws t (get_or t (queue_at l + i) 0) (get_or t (queue_at l + (i - 1) / 2) 0) (omega (arith, turn.words.areas.used, turn.words.areas.edges)) (omega (arith, word-is, used)) (rw queue at parent)
            ∙ sym (rw queue at e)))

        pub before_parent : {r : Bool} {ms : List Bool} {cs : List ℕ} → r ≡ ltb (key t (get_or t (q + i) 0)) (key t (get_or t (q + (i - 1) / 2) 0)) → r ≡ true
            → QueueIs l ws t (i + 1) false ms cs
        before_parent e z = fails 2 (order e ∙ ap not z)

        pub after-parent : {r : Bool} → r ≡ ltb (key t (get_or t (q + i) 0)) (key t (get_or t (q + (i - 1) / 2) 0)) → r ≡ false → orderb ws l t i ≡ true
        after-parent e z = order e ∙ ap not z

      -- vertex and cost of the node
      module _ {v : ℕ} (vertex : v ≡ vertex_in ws t n) where
        small : v < 1024
        small = omega (arith, turn.words.vertex n (omega arith))

        pub marked-next : {c d : ℕ} → c ≡ evaluation_in t (get_or t (q + i) 0) → get_or marks n false ≡ false → orderb ws l t i ≡ true → d ≡ min (get_or costs v 0) c
            → QueueIs l ws t (i + 1) true (set marks n true) (set costs v d)
        marked-next {d = d} cost new ordered lesser =
            let more : part (queue_at l) (i + 1) t ≡ part (queue_at l) i t ++ (n ∷ []) =
            part-more (queue_at l) i t fits ∙ ap (λ (x : ℕ). part (queue_at l) i t ++ (x ∷ [])) word-is in
            record {
              answer = sym (tests
                  ∙ true-given (word_tests ws l t i) (lt-ltb (get_or t (queue_at l + i) 0) (used_in t) (omega (arith, word-is, used))) (ap not (marked ∙ new)) ordered);
              tables = λ z. record {
                marked = rw more (marked_more turn.tables.marked (omega (arith, turn.words.areas.used, turn.words.areas.edges)));
                least = rw more (least-more turn.tables.least n vertex (cost ∙ ap (evaluation_in t) (sym word)) small d lesser);
              };
            }

-- the first word has no parent
pub first_word : (ws : List ℕ) (l i : ℕ) (t : List ℕ) → i ≤ 0 → orderb ws l t i ≡ true
first_word ws l i t h = true-or-left (eqb i 0) _ (eq-eqb i 0 (omega arith))

-- ---- all words in turn: i of them passed

pub queue-none : (l : ℕ) (ws t : List ℕ) {marks : List Bool} {costs : List ℕ} → marks ≡ replicate 2049 false → costs ≡ replicate 1024 no_cost → QueueIs l ws t 0 true marks costs
unfolding upto distinctb
queue-none l ws t m c = rw (m, c) (record { answer = refl; tables = λ z. record { marked = marked-none 2049; least = least-none ws t } })

pub queue-fails : {l i n : ℕ} {ws t : List ℕ} {r : Bool} {ms ks : List Bool} {cs ds : List ℕ} → QueueWords l ws t → n ≡ queued_in t → i < n
    → QueueIs l ws t (i + 1) r ms cs → not r ≡ true → QueueIs l ws t (queued_in t) false ks ds
queue-fails {l} {i} {ws = ws} {t} {r} words queued h q e = record {
  answer = sym (fail-on ws l (i + 1) t (queued_in t) (omega arith) (omega (arith, words.areas.queued, words.areas.fits)) (sym q.answer ∙ not-true r e));
  tables = λ z. absurd (true≢false (sym z));
}
