-- Taking the first ticket: it is the least of the waiting nodes, and the tree is as it was but for it.
-- Assumes nothing.
use mathlib.Core.Path.{◌≡◌, refl, sym, ap, ◌∙◌}
use Rattle.std.specs.declared.option.Option.{Option}
use Rattle.std.specs.Prelude.{None, Some}
use mathlib.Core.Logic.{inl, inr}
use mathlib.Core.List.{List, [], ◌∷◌, Memᴰ}
use Prim.Native.Nat.{ℕ, ◌+◌, ◌<◌, ◌≤◌}
use native.Mathlib.Omega.{arith}
use native.Mathlib.Decide.{ℕ_discrete, dec_lt}
use lib.ListN.{get_or}
use Rattle.model.specs.Tree.{Node, evaluation, least, least_of, popped}
use Rattle.model.proofs.Lists.{Before, before-one, Least, least-is}
use Rattle.layout.specs.Layout.{queue_at, closed_words_at, queued_in, used_in, start_at, used_at, queue_word_in}
use Rattle.layout.proofs.Trees.{nodes-same}
use Rattle.layout.specs.Read.{nodes_in, tree_in}
use Rattle.queue.specs.Queue.{evaluation_in, key, rank, one, times, CanPop, Taken, Takes, PoppedIs}
use Rattle.queue.proofs.Times.{one_same, times-place, place-times}
use Rattle.tree.specs.Tree.{tree_of, Formed, Pops, PopIs}
use Rattle.tree.proofs.Same.{closed_same}
use Rattle.tree.proofs.Waiting.{waits, waiting-mem, waiting-has, waiting-popped, waits-node}
use Rattle.tree.proofs.Closed.{node-cost, queue-fits}

-- what the queue asks for
formed-queue : {l : ℕ} {t : List ℕ} → Formed l t → CanPop t (queue_at l)
formed-queue f = record {
  queue = record {
    room = record { fits = queue-fits f; nodes = λ i h. omega (arith, f.nodes i h) };
    heap = f.heap;
  };
  behind = omega arith;
}

-- ---- the least ticket

least-one : (ns : List Node) (q : List ℕ) (x : ℕ) → Memᴰ x q → ((j : ℕ) → Memᴰ j q → Before ns x j) → least ns q ≡ Some x
unfolding least
least-one ns [] x m f = absurd (mathlib.Core.List.Memᴰ.not-nil m)
least-one ns (y ∷ ys) x m f =
    let n : ℕ = least_of ns y ys in
    let r : Least ns y ys n = least-is ns y ys in
    let there : Memᴰ n (y ∷ ys) = elim r.among [ inl z ↦ mathlib.Core.List.Memᴰ.head z | inr z ↦ mathlib.Core.List.Memᴰ.tail z ] in
    let nx : Before ns n x = elim (mathlib.Core.List.Memᴰ.cases_cons m) [ inl z ↦ rw z r.first | inr z ↦ r.firsts x z ] in
    ap Some (before-one ns n x nx (f n there))

-- the order of keys is the order of tickets
key-before : (ws : List ℕ) (l : ℕ) (t : List ℕ) (a b : ℕ) → Formed l t → a < used_in t → b < used_in t → key t a ≤ key t b → Before (tree_of ws l t).nodes a b
unfolding key
key-before ws l t a b f ha hb h = elim (dec_lt (evaluation_in t a) (evaluation_in t b)) [
  | yes less ↦ inl (omega (arith, cost a ha, cost b hb))
  | no more ↦ inr (omega (arith, cost a ha, cost b hb))
]
  where
    cost : (k : ℕ) → k < used_in t → evaluation (tree_of ws l t).nodes k ≡ evaluation_in t k
    cost = node-cost ws _ l t

-- a waiting node with no lesser key than its own among those that wait is the least
pub least-key : (ws : List ℕ) {l : ℕ} {t : List ℕ} → Formed l t → (k : ℕ) → 0 < waits l t k → ((x : ℕ) → 0 < waits l t x → key t k ≤ key t x)
    → least (tree_of ws l t).nodes (tree_of ws l t).waiting ≡ Some k
least-key ws {l} {t} f k w h =
    least-one (tree_of ws l t).nodes (tree_of ws l t).waiting k (waiting-has ws l t (queue-fits f) k (waits-node f k w) w)
    (λ j m. let v = waiting-mem ws l t (queue-fits f) j m in key-before ws l t k j f (waits-node f k w) (waits-node f j v) (h j v))

-- with no queue word there is none
pub least-none : (ws : List ℕ) (l : ℕ) (s : List ℕ) → Formed l s → queued_in s ≡ 0 → least (tree_of ws l s).nodes (tree_of ws l s).waiting ≡ None
unfolding least
least-none ws l s f e = go (tree_of ws l s).waiting (waiting-mem ws l s (queue-fits f))
  where
    go : (q : List ℕ) → ((x : ℕ) → Memᴰ x q → 0 < waits l s x) → least (tree_of ws l s).nodes q ≡ None
    go [] h = refl
    go (x ∷ xs) h = absurd (omega (arith, (times-place s (queue_at l) (queued_in s) x (h x (mathlib.Core.List.Memᴰ.head refl))).1))

-- ---- node k is taken, and m words are left in the queue

module _ {l k m : ℕ} {s t : List ℕ} (f : Formed l s) (p : Taken s t (queue_at l) k m) where
  used : used_in t ≡ used_in s
  used = p.below used_at (omega arith) (omega arith)

  counts : (x : ℕ) → waits l t x + one k x ≡ waits l s x
  counts x = ap (λ (n : ℕ). times t (queue_at l) n x + one k x) p.count ∙ p.waiting x ∙ sym (ap (λ (n : ℕ). times s (queue_at l) n x) p.some)

  waits-first : 0 < waits l s k
  waits-first = omega (arith, counts k, one_same k k refl)

  first-least : (x : ℕ) → 0 < waits l s x → key s k ≤ key s x
  unfolding rank
  first-least x h = let i = times-place s (queue_at l) (queued_in s) x h in rw i.2 at (p.least i.0 (omega (arith, i.1)))

  taken-first : (ws : List ℕ) → least (tree_of ws l s).nodes (tree_of ws l s).waiting ≡ Some k
  taken-first ws = least-key ws f k waits-first first-least

  taken-formed : Formed l t
  taken-formed = record {
    edges = f.edges;
    fits = omega arith;
    vertices = omega arith;
    used = omega (arith, used);
    queued = omega (arith, used);
    nodes = λ i h. omega (arith, used, waits-node f (queue_word_in l t i) (omega (arith, counts (queue_word_in l t i), place-times t (queue_at l) (queued_in t) i h)));
    once = λ x. omega (arith, counts x, f.once x);
    heap = p.queue.heap;
    closers = λ v h. omega (arith, used, p.above (closed_words_at l + v) (omega arith), f.closers v (omega arith));
    spare_nodes = λ i h b. p.below i b (omega arith) ∙ f.spare_nodes i (omega (arith, used)) b;
    spare_queue = λ i h b. elim (ℕ_discrete i (queue_at l + m)) [
      | yes e ↦ ap (λ (j : ℕ). get_or t j 0) e ∙ p.cleared
      | no ne ↦ p.above i (omega arith) ∙ f.spare_queue i (omega arith) b
    ];
  }

  taken-tree : (ws : List ℕ) → tree_of ws l t ≡ popped (tree_of ws l s) k
  unfolding tree_in popped
  taken-tree ws = λ i. record {
    start = p.below start_at (omega arith) (omega arith) i;
    nodes = same_nodes i;
    waiting = waiting-popped ws l s t (queue-fits f) p.queue.room.fits k used counts (f.once k) i;
    closed = closed_same ws l s t p.len (λ j h. p.above j (omega arith)) i;
  }
    where
      same_nodes : (tree_of ws l t).nodes ≡ (tree_of ws l s).nodes
      same_nodes = ap (λ (n : ℕ). nodes_in ws n t) used ∙ nodes-same ws (used_in s) s t (λ j a b. p.below j (omega arith) (omega arith))

  taken-pops : Pops l s t k m
  taken-pops = record { first = taken-first; tree = taken-tree; formed = taken-formed; node = omega (arith, used, waits-node f k waits-first); left = p.count }

-- ---- the call

pub can-pop : {l q : ℕ} {t : List ℕ} → Formed l t → q ≡ queue_at l → CanPop t q
can-pop f e = rw e (formed-queue f)

pub pop-is : (l q : ℕ) (s t : List ℕ) (r : Option (ℕ × ℕ)) → Formed l s → q ≡ queue_at l → PoppedIs s t q r → PopIs l s t r
pop-is l q s t (Some (k, m)) f e p = let x : Takes s t (queue_at l) k m = rw e at p in (x.unstored, taken-pops f x.taken)
pop-is l q s t None f e p = (λ ws. least-none ws l s f p.0, p.1)
