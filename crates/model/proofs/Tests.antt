-- The test of a sound tree passes exactly if the tree is sound, and the test of a cache's trees exactly if they are.
-- Assumes nothing.
use mathlib.Core.Path.{◌≡◌, refl, sym, ap, ◌∙◌, subst}
use mathlib.Core.Logic.{◌⊎◌, inl, inr, ◌≢◌}
use mathlib.Core.Bool.{Bool, true, false, not, ◌&&◌, ◌||◌, true≢false}
use mathlib.Core.List.{List, [], ◌∷◌, Memᴰ}
use Prim.Native.Nat.{ℕ, zero, suc, ◌+◌, ◌<◌, ◌≤◌}
use native.Mathlib.Nat.{le_of_suc-le-suc, lt_of_not-le}
use native.Mathlib.Decide.{dec_le, ℕ_discrete}
use native.Mathlib.Omega.{arith}
use borrow.Author.Tests.{ltb-true, leb-true, eqb-true, eqb-false, not-true, lt-ltb, le-leb, eq-eqb, ne_eqb}
use lib.Dec.{eqb, leb, ltb}
use lib.ListN.{length, get_or, length-map, get_or-map, get_or-eq_default}
use Rattle.model.specs.Lists.{mem, upto}
use Rattle.model.specs.Graph.{Domain, Usable, from, to, absent, edges_in_use, initial_cost}
use Rattle.model.specs.Tree.{Tree, Node, node, closed_at, closed_within, evaluation, weight}
use Rattle.model.specs.Sound.{no_tree, tree, Hangs, Reached, shut, waits, Sound, SoundTrees, closedb, reachedb, hang_tests, hangsb, root_tests, waiting_tests, closerb, begunb, onwardb, onward_allb, sound_tests, soundb, starts, distinctb, sound_treesb}
use Rattle.model.proofs.Lists.{mem-listed, listed-mem}
use Rattle.model.proofs.Choices.{in-use-mem, in-use-has}
use Rattle.model.proofs.Bools.{and-true, true-and, or_cases, true-or-left, true-or-right, all_true, true-given, upto-at, at-upto, all-in-at, at-all-in, any-in-at, at-any-in, ascends-at, at-ascends}

-- a test that two numbers differ
differs_at : (a b : ℕ) → not (eqb a b) ≡ true → a ≢ b
differs_at a b e = eqb-false a b (not-true (eqb a b) e)

at-differs : (a b : ℕ) → a ≢ b → not (eqb a b) ≡ true
at-differs a b h = rw (ne_eqb a b h)

-- a test of a closed word
closed_at_lem : (p : ℕ → Bool) {x i : ℕ} → x ≡ suc i → closedb p x ≡ true → p i ≡ true
closed_at_lem p z e = subst (λ (x : ℕ). closedb p x ≡ true) z e

word_at : (p : ℕ → Bool) (x : ℕ) → ((i : ℕ) → x ≡ suc i → p i ≡ true) → closedb p x ≡ true
word_at p zero f = refl
word_at p (suc i) f = f i refl

-- ---- reached

reached-at : (ns : List Node) (q cl : List ℕ) (v k : ℕ) → reachedb ns q cl v k ≡ true → Reached ns q cl v k
unfolding reachedb
reached-at ns q cl v k e = elim (or_cases (closed_within ns k (closed_at cl v)) _ e) [
  | inl z ↦ go (closed_at cl v) refl z
  | inr z ↦
      let r = any-in-at _ q z in
      let p = and-true (eqb (node ns r.0).vertex v) (leb (evaluation ns r.0) k) r.2 in
      waits r.0 r.1 (eqb-true _ _ p.0) (leb-true _ _ p.1)
]
  where
    go : (x : ℕ) → closed_at cl v ≡ x → closed_within ns k x ≡ true → Reached ns q cl v k
    go zero y z = absurd (true≢false (sym z))
    go (suc i) y z = shut i y (leb-true _ _ z)

at-reached : (ns : List Node) (q cl : List ℕ) (v k : ℕ) → Reached ns q cl v k → reachedb ns q cl v k ≡ true
unfolding reachedb
at-reached ns q cl v k (shut i e h) = true-or-left (closed_within ns k (closed_at cl v)) _ (subst (λ (x : ℕ). closed_within ns k x ≡ true) (sym e) (le-leb _ _ h))
at-reached ns q cl v k (waits i w e h) = true-or-right (closed_within ns k (closed_at cl v)) _
    (at-any-in (λ i. eqb (node ns i).vertex v && leb (evaluation ns i) k) q i w (true-and _ _ (eq-eqb _ _ e) (le-leb _ _ h)))

-- ---- hangs

hangs-at : (d : Domain) (ns : List Node) (cl : List ℕ) (i : ℕ) → hangsb d ns cl i ≡ true → Hangs d ns cl i
unfolding hangsb
hangs-at d ns cl i e =
    let r = all_true (hang_tests d ns cl i) e in
    record {
      lower = ltb-true _ _ r.0;
      real = ltb-true _ _ r.1.0;
      leaves = eqb-true _ _ r.1.1.0;
      enters = eqb-true _ _ r.1.1.1.0;
      costs = eqb-true _ _ r.1.1.1.1.0;
      closer = eqb-true _ _ r.1.1.1.1.1.0;
    }

-- every node but the root
pub all-hang : (d : Domain) (ns : List Node) (cl : List ℕ) (n : ℕ) → upto (λ i. eqb i 0 || hangsb d ns cl i) n ≡ true
    → (i : ℕ) → i ≢ 0 → i < n → Hangs d ns cl i
all-hang d ns cl n e i z h = elim (or_cases (eqb i 0) (hangsb d ns cl i) (upto-at _ n e i h)) [
  | inl y ↦ absurd (z (eqb-true i 0 y))
  | inr y ↦ hangs-at d ns cl i y
]

at-hangs : (d : Domain) (ns : List Node) (cl : List ℕ) (i : ℕ) → Hangs d ns cl i → hangsb d ns cl i ≡ true
unfolding hangsb
at-hangs d ns cl i h =
    true-given (hang_tests d ns cl i) (lt-ltb _ _ h.lower) (lt-ltb _ _ h.real) (eq-eqb _ _ h.leaves) (eq-eqb _ _ h.enters) (eq-eqb _ _ h.costs) (eq-eqb _ _ h.closer)

-- ---- a tree

module _ (d : Domain) (t : Tree) where
  abbrev ns : List Node
  ns = t.nodes

  abbrev q : List ℕ
  q = t.waiting

  abbrev cl : List ℕ
  cl = t.closed

  closer-at : upto (closerb t) (length cl) ≡ true → (v i : ℕ) → closed_at cl v ≡ suc i
      → (i < length ns) × ((node ns i).vertex ≡ v) × ((j : ℕ) → Memᴰ j q → evaluation ns i ≤ evaluation ns j)
  closer-at e v i z = elim (dec_le (suc v) (length cl)) [
    | yes h ↦
        let b = and-true _ _ (upto-at (closerb t) (length cl) e v h) in
        let p = and-true (ltb i (length ns)) (eqb (node ns i).vertex v) (closed_at_lem _ z b.0) in
        (ltb-true _ _ p.0, eqb-true _ _ p.1, λ j w. leb-true _ _ (all-in-at _ q (closed_at_lem _ z b.1) j w))
    | no h ↦ absurd (omega (arith, z, get_or-eq_default cl 0 (le_of_suc-le-suc (lt_of_not-le h))))
  ]

  begun-at : begunb t ≡ true → (closed_at cl t.start ≢ 0) ⊎ Memᴰ 0 q
  begun-at e = elim (or_cases (not (eqb (closed_at cl t.start) 0)) (mem 0 q) e) [ inl z ↦ inl (differs_at _ 0 z) | inr z ↦ inr (mem-listed 0 q z) ]

  at-begun : (closed_at cl t.start ≢ 0) ⊎ Memᴰ 0 q → begunb t ≡ true
  at-begun (inl z) = true-or-left _ (mem 0 q) (at-differs (closed_at cl t.start) 0 z)
  at-begun (inr z) = true-or-right (not (eqb (closed_at cl t.start) 0)) (mem 0 q) (listed-mem 0 q z)

  onward-at : onward_allb d t ≡ true → (v i l : ℕ) → closed_at cl v ≡ suc i → Usable d.graph l → from d.graph l ≡ v
      → Reached ns q cl (to d.graph l) (evaluation ns i + weight d l)
  onward-at a v i l z h e = reached-at ns q cl (to d.graph l) _
      (closed_at_lem _ (ap (closed_at cl) e ∙ z) (all-in-at (onwardb d t) (edges_in_use d.graph) a l (in-use-has d.graph l h)))

  pub sound-at : soundb d t ≡ true → Sound d t
  unfolding soundb
  sound-at e =
      let s = all_true (sound_tests d t) e in
      let root = all_true (root_tests d t) s.1.0 in
      let waiting = all_true (waiting_tests t) s.1.1.1.0 in
      let closed = s.1.1.1.1 in
      record {
        some_node = ltb-true _ _ s.0;
        inside = ltb-true _ _ root.0;
        allowed = differs_at (initial_cost d t.start) absent root.1.0;
        root_vertex = eqb-true _ _ root.1.1.0;
        root-cost = eqb-true _ _ root.1.1.1.0;
        root_parent = eqb-true _ _ root.1.1.1.1.0;
        root_edge = eqb-true _ _ root.1.1.1.1.1.0;
        hangs = all-hang d ns cl (length ns) s.1.1.0;
        queue = λ i m. ltb-true _ _ (all-in-at _ q waiting.0 i m);
        ascends = ascends-at 0 q waiting.1.0;
        sized = eqb-true _ _ closed.0;
        closer = λ v i z. let c = closer-at closed.1.0 v i z in (c.0, c.1);
        cheapest = λ v i j z w. (closer-at closed.1.0 v i z).2 j w;
        few = leb-true _ _ closed.1.1.0;
        begun = begun-at closed.1.1.1.0;
        onward = onward-at closed.1.1.1.1.0;
      }

  pub at-sound : Sound d t → soundb d t ≡ true
  unfolding soundb
  at-sound ok =
      true-given (sound_tests d t)
      (lt-ltb _ _ ok.some_node)
      (true-given (root_tests d t)
      (lt-ltb _ _ ok.inside)
      (at-differs (initial_cost d t.start) absent ok.allowed)
      (eq-eqb _ _ ok.root_vertex)
      (eq-eqb _ _ ok.root-cost)
      (eq-eqb _ _ ok.root_parent)
      (eq-eqb _ _ ok.root_edge))
      (at-upto _ (length ns) (λ i h. elim (ℕ_discrete i 0) [ yes z ↦ true-or-left _ _ (eq-eqb i 0 z) | no z ↦ true-or-right (eqb i 0) _ (at-hangs d ns cl i (ok.hangs i z h)) ]))
      (true-given (waiting_tests t)
      (at-all-in _ q (λ i m. lt-ltb _ _ (ok.queue i m)))
      (at-ascends 0 q ok.ascends))
      (eq-eqb _ _ ok.sized)
      (at-upto (closerb t) (length cl) (λ v h. true-and _ _
      (word_at _ (closed_at cl v) (λ i z. true-and _ _ (lt-ltb _ _ (ok.closer v i z).0) (eq-eqb _ _ (ok.closer v i z).1)))
      (word_at _ (closed_at cl v) (λ i z. at-all-in _ q (λ j w. le-leb _ _ (ok.cheapest v i j z w))))))
      (le-leb _ _ ok.few)
      (at-begun ok.begun)
      (at-all-in _ (edges_in_use d.graph) (λ l m. word_at _ (closed_at cl (from d.graph l)) (λ i z. at-reached ns q cl (to d.graph l) _ (ok.onward (from d.graph l) i l z (in-use-mem d.graph l m) refl))))

-- ---- no number stands twice

place-mem : (xs : List ℕ) (i : ℕ) → i < length xs → mem (get_or xs i 0) xs ≡ true
unfolding mem
place-mem [] i h = absurd (omega arith)
place-mem (x ∷ xs) zero h = true-or-left (eqb x x) (mem x xs) (eq-eqb x x refl)
place-mem (x ∷ xs) (suc i) h = true-or-right (eqb (get_or xs i 0) x) (mem (get_or xs i 0) xs) (place-mem xs i (omega arith))

mem-place : (x : ℕ) (xs : List ℕ) → mem x xs ≡ true → (i : ℕ) × (i < length xs) × (get_or xs i 0 ≡ x)
unfolding mem
mem-place x [] e = absurd (true≢false (sym e))
mem-place x (y ∷ ys) e = go (mem-place x ys) (or_cases (eqb x y) (mem x ys) e)
  where
    go : (mem x ys ≡ true → (i : ℕ) × (i < length ys) × (get_or ys i 0 ≡ x)) → (eqb x y ≡ true) ⊎ (mem x ys ≡ true) → (i : ℕ) × (i < suc (length ys)) × (get_or (y ∷ ys) i 0 ≡ x)
    go ih (inl z) = (0, omega arith, sym (eqb-true x y z))
    go ih (inr z) = let r = ih z in (suc r.0, omega (arith, r.1), r.2)

pub distinct-at : (xs : List ℕ) → distinctb xs ≡ true → (i j : ℕ) → i < length xs → j < length xs → get_or xs i 0 ≡ get_or xs j 0 → i ≡ j
unfolding distinctb
distinct-at [] e i j h g s = absurd (omega arith)
distinct-at (x ∷ xs) e i j h g s = go (distinct-at xs) (and-true (not (mem x xs)) (distinctb xs) e) i j h g s
  where
    never : not (mem x xs) ≡ true → (k : ℕ) → k < length xs → x ≢ get_or xs k 0
    never n k h s = true≢false (sym (subst (λ (y : ℕ). mem y xs ≡ true) (sym s) (place-mem xs k h)) ∙ not-true (mem x xs) n)

    go : (distinctb xs ≡ true → (i j : ℕ) → i < length xs → j < length xs → get_or xs i 0 ≡ get_or xs j 0 → i ≡ j) → (not (mem x xs) ≡ true) × (distinctb xs ≡ true)
        → (i j : ℕ) → i < suc (length xs) → j < suc (length xs) → get_or (x ∷ xs) i 0 ≡ get_or (x ∷ xs) j 0 → i ≡ j
    go ih p zero zero h g s = refl
    go ih p zero (suc j) h g s = absurd (never p.0 j (omega arith) s)
    go ih p (suc i) zero h g s = absurd (never p.0 i (omega arith) (sym s))
    go ih p (suc i) (suc j) h g s = ap suc (ih p.1 i j (omega arith) (omega arith) s)

pub at-distinct : (xs : List ℕ) → ((i j : ℕ) → i < length xs → j < length xs → get_or xs i 0 ≡ get_or xs j 0 → i ≡ j) → distinctb xs ≡ true
unfolding distinctb
at-distinct [] f = refl
at-distinct (x ∷ xs) f = true-and (not (mem x xs)) (distinctb xs) (new (mem x xs) refl)
    (at-distinct xs (λ i j h g s. let z : suc i ≡ suc j = f (suc i) (suc j) (omega arith) (omega arith) s in omega arith))
  where
    new : (b : Bool) → mem x xs ≡ b → not b ≡ true
    new true e =
        let r = mem-place x xs e in
        let z : 0 ≡ suc r.0 = f 0 (suc r.0) (omega arith) (omega (arith, r.1)) (sym r.2) in
        absurd (omega arith)
    new false e = refl

-- ---- the trees of a cache

start_of : (ts : List Tree) (i : ℕ) → get_or (starts ts) i 0 ≡ (tree ts i).start
start_of ts i = get_or-map (λ (t : Tree). t.start) ts i no_tree

starts-length : (ts : List Tree) → length (starts ts) ≡ length ts
starts-length ts = length-map ts (λ (t : Tree). t.start)

pub trees-at : (d : Domain) (ts : List Tree) → sound_treesb d ts ≡ true → SoundTrees d ts
unfolding sound_treesb
trees-at d ts e =
    let r = and-true (distinctb (starts ts)) (upto (λ i. soundb d (tree ts i)) (length ts)) e in
    let n : length (starts ts) ≡ length ts = starts-length ts in
    record {
      differ = λ i j h g s. distinct-at (starts ts) r.0 i j (omega arith) (omega arith) (start_of ts i ∙ s ∙ sym (start_of ts j));
      each = λ i h. sound-at d (tree ts i) (upto-at (λ i. soundb d (tree ts i)) (length ts) r.1 i h);
    }

pub at-trees : (d : Domain) (ts : List Tree) → SoundTrees d ts → sound_treesb d ts ≡ true
unfolding sound_treesb
at-trees d ts ok =
    let n : length (starts ts) ≡ length ts = starts-length ts in
    true-and (distinctb (starts ts)) (upto (λ i. soundb d (tree ts i)) (length ts))
    (at-distinct (starts ts) (λ i j h g s. ok.differ i j (omega arith) (omega arith) (sym (start_of ts i) ∙ s ∙ start_of ts j)))
    (at-upto (λ i. soundb d (tree ts i)) (length ts) (λ i h. at-sound d (tree ts i) (ok.each i h)))
