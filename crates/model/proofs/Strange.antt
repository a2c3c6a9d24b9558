-- The tests of refusal 8 pass exactly if what 01 says of a record that is not strange holds.
-- Assumes nothing.
use mathlib.Core.Path.{◌≡◌, refl, sym, ap, ◌∙◌, subst}
use Rattle.std.specs.declared.option.Option.{Option}
use Rattle.std.specs.Prelude.{None, Some}
use mathlib.Core.Logic.{◌⊎◌, inl, inr}
use mathlib.Core.Bool.{Bool, true, false, not, ◌||◌, true≢false}
use mathlib.Core.List.{List, [], ◌∷◌, Memᴰ}
use Prim.Native.Nat.{ℕ, zero, suc, ◌<◌, ◌≤◌}
use native.Mathlib.Omega.{arith}
use borrow.Author.Tests.{leb-true, leb-false, lt-ltb, le-leb, eq-eqb, eqb-true}
use lib.Dec.{leb, ltb}
use lib.ListN.{length, get_or}
use Rattle.model.specs.declared.BestSolution.{BestSolution}
use Rattle.model.specs.declared.TreeMemory.{TreeMemory}
use Rattle.model.specs.declared.Search.{Search}
use Rattle.model.specs.Lists.{allb, all_below}
use Rattle.model.specs.Graph.{Domain, vertex_count}
use Rattle.model.specs.Tree.{Tree}
use Rattle.model.specs.Search.{blank, entry, entries, goals, solution_cost, bound_of, bound, as_best}
use Rattle.model.specs.Valid.{list_tests, known_within, solution_closes, entry_tests, best_tests, best_closes, held_cost, pick_cost, lesser, least_held, same_cost, best_held, valid_tests, valid}
use Rattle.model.specs.Strange.{ClosesGoal, tree_of, run_cost, HoldsRun, LeastHeld, NotStrange, StrangeExactly}
use Rattle.model.proofs.Lists.{mem-listed, listed-mem}
use Rattle.model.proofs.Bools.{true-and, all_true, true-given, all-below}
use Rattle.model.proofs.Turns.{Holds}
use Rattle.model.proofs.Valid.{at_every, entries-length, entries_at, every-entry, at-entries, at-holds, valid-at, Low, held_by, least-some, least-none}

-- ---- the parts of a record

pub closes-goal : (gs : List ℕ) (t : Tree) (n : ℕ) → Holds gs t n → ClosesGoal gs t n
closes-goal gs t n h = record { wanted = mem-listed _ gs h.sought; closes = h.closes }

pub goal-closes : (gs : List ℕ) (t : Tree) (n : ℕ) → ClosesGoal gs t n → Holds gs t n
goal-closes gs t n h = record { sought = listed-mem _ gs h.wanted; closes = h.closes }

at-below : (n : ℕ) (xs : List ℕ) → ((v : ℕ) → Memᴰ v xs → v < n) → all_below n xs ≡ true
at-below n [] f = refl
at-below n (x ∷ xs) f = true-and (ltb x n) (all_below n xs) (lt-ltb x n (f x (Memᴰ.head refl))) (at-below n xs (λ v m. f v (Memᴰ.tail m)))

known_at : (d : Domain) (x : Option ℕ) → known_within d x ≡ true → (n : ℕ) → x ≡ Some n → n ≤ vertex_count d.graph
known_at d x e n z = leb-true _ _ (subst (λ (y : Option ℕ). known_within d y ≡ true) z e)

at-known : (d : Domain) (x : Option ℕ) → ((n : ℕ) → x ≡ Some n → n ≤ vertex_count d.graph) → known_within d x ≡ true
at-known d None f = refl
at-known d (Some n) f = le-leb _ _ (f n refl)

at-solution : (gs : List ℕ) (t : Tree) (o : Option ℕ) → ((n : ℕ) → o ≡ Some n → ClosesGoal gs t n) → solution_closes gs t o ≡ true
at-solution gs t None f = refl
at-solution gs t (Some n) f = at-holds gs t n (goal-closes gs t n (f n refl))

at-best : (ts : List Tree) (s : Search) (x : Option BestSolution) → ((i n : ℕ) → x ≡ as_best i n → (i < s.tree_count) × ClosesGoal (goals s) (tree_of ts s i) n)
    → best_closes ts s x ≡ true
at-best ts s None f = refl
at-best ts s (Some b) f =
    let r = f b.entry b.node refl in
    true-given (best_tests ts s b.entry b.node) (lt-ltb _ _ r.0) (at-holds (goals s) (tree_of ts s b.entry) b.node (goal-closes _ _ b.node r.1))

at_held : (s : Search) (x : Option BestSolution) → ((i n : ℕ) → x ≡ as_best i n → (h : ℕ) × HoldsRun s i h) → best_held s x ≡ true
at_held s None f = refl
at_held s (Some b) f = rw (f b.entry b.node refl).1.held

at-finished : (x b : Bool) → (x ≡ true → b ≡ true) → (not x || b) ≡ true
at-finished true b f = f refl
at-finished false b f = refl

-- ---- the least of the runs held

same_at : (a b : Option ℕ) → same_cost a b ≡ true → b ≡ a
same_at None None e = refl
same_at None (Some b) e = absurd (true≢false (sym e))
same_at (Some a) None e = absurd (true≢false (sym e))
same_at (Some a) (Some b) e = ap Some (sym (eqb-true a b e))

lesser-both : (k : ℕ) (a b : Option ℕ) → Low k (lesser a b) → Low k a × Low k b
lesser-both k None b q = (tt, q)
lesser-both k (Some x) None q = (q, tt)
lesser-both k (Some x) (Some y) q = go (leb x y) refl q
  where
    go : (t : Bool) → leb x y ≡ t → Low k (pick_cost t x y) → (k ≤ x) × (k ≤ y)
    go true e q = omega (arith, leb-true x y e)
    go false e q = omega (arith, leb-false x y e)

lesser-one : (k : ℕ) (a b : Option ℕ) → lesser a b ≡ Some k → (a ≡ Some k) ⊎ (b ≡ Some k)
lesser-one k None b e = inr e
lesser-one k (Some x) None e = inl e
lesser-one k (Some x) (Some y) e = go (leb x y) e
  where
    go : (t : Bool) → pick_cost t x y ≡ Some k → (Some x ≡ Some k) ⊎ (Some y ≡ Some k)
    go true e = inl e
    go false e = inr e

module _ (d : Domain) (ts : List Tree) where
  all-low : (k : ℕ) (es : List TreeMemory) → Low k (least_held d ts es) → (i : ℕ) → i < length es → Low k (held_by d ts (get_or es i blank))
  unfolding least_held
  all-low k [] q i h = absurd (omega arith)
  all-low k (e ∷ es) q zero h = (lesser-both k (held_by d ts e) (least_held d ts es) q).0
  all-low k (e ∷ es) q (suc i) h = all-low k es (lesser-both k (held_by d ts e) (least_held d ts es) q).1 i (omega arith)

  some-least : (k : ℕ) (es : List TreeMemory) → least_held d ts es ≡ Some k → (j : ℕ) × (j < length es) × (held_by d ts (get_or es j blank) ≡ Some k)
  unfolding least_held
  some-least k [] e = absurd (true≢false cc)
  some-least k (x ∷ es) e = go (some-least k es) (lesser-one k (held_by d ts x) (least_held d ts es) e)
    where
      go : (least_held d ts es ≡ Some k → (j : ℕ) × (j < length es) × (held_by d ts (get_or es j blank) ≡ Some k)) → (held_by d ts x ≡ Some k) ⊎ (least_held d ts es ≡ Some k)
          → (j : ℕ) × (j < suc (length es)) × (held_by d ts (get_or (x ∷ es) j blank) ≡ Some k)
      go ih (inl z) = (0, omega arith, z)
      go ih (inr z) = let r = ih z in (suc r.0, omega (arith, r.1), r.2)

  -- what an entry holds, if that costs k
  held-node : (t : Tree) (o : Option ℕ) (k : ℕ) → held_cost d t o ≡ Some k → (n : ℕ) × (o ≡ Some n) × (solution_cost d t.nodes n ≡ k)
  held-node t None k e = absurd (true≢false cc)
  held-node t (Some n) k e = (n, refl, cc)

  -- and what it costs, if it holds something
  low_held : (k : ℕ) (t : Tree) (o : Option ℕ) → ((n : ℕ) → o ≡ Some n → k ≤ solution_cost d t.nodes n) → Low k (held_cost d t o)
  low_held k t None f = tt
  low_held k t (Some n) f = f n refl

  unsolved : (t : Tree) (o : Option ℕ) → ((n : ℕ) → ¬ (o ≡ Some n)) → held_cost d t o ≡ None
  unsolved t None f = refl
  unsolved t (Some n) f = absurd (f n refl)

  module _ (s : Search) (fits : s.tree_count ≤ length s.trees) where
    low_run : (k : ℕ) → Low k (least_held d ts (entries s)) → (i n : ℕ) → HoldsRun s i n → k ≤ run_cost d ts s i n
    low_run k q i n h =
        subst (λ (o : Option ℕ). Low k (held_cost d (tree_of ts s i) o)) h.held
        (subst (λ (e : TreeMemory). Low k (held_by d ts e)) (entries_at s fits i h.counted) (all-low k (entries s) q i (omega (arith, entries-length s fits, h.counted))))

    least-held : (k : ℕ) → least_held d ts (entries s) ≡ Some k → LeastHeld d ts s k
    least-held k e =
        let r = some-least k (entries s) e in
        let j : r.0 < s.tree_count = omega (arith, entries-length s fits, r.1) in
        let n = held-node (tree_of ts s r.0) (entry s r.0).solution k (sym (ap (held_by d ts) (entries_at s fits r.0 j)) ∙ r.2) in
        record {
          holder = r.0;
          run = n.0;
          holds = record { counted = j; held = n.1 };
          costs = n.2;
          least = low_run k (subst (Low k) (sym e) (omega arith));
        }

    nothing-held : least_held d ts (entries s) ≡ None → (i n : ℕ) → ¬ HoldsRun s i n
    nothing-held e i n h = absurd (omega (arith, low_run (suc (run_cost d ts s i n)) (subst (Low (suc (run_cost d ts s i n))) (sym e) tt) i n h))

    at_least : (k : ℕ) → LeastHeld d ts s k → least_held d ts (entries s) ≡ Some k
    at_least k h =
        least-some d ts k (entries s)
        (at-entries s fits (λ e. Low k (held_by d ts e)) (λ i c. low_held k (tree_of ts s i) (entry s i).solution (λ n z. h.least i n (record { counted = c; held = z }))))
        h.holder (omega (arith, entries-length s fits, h.holds.counted))
        (ap (held_by d ts) (entries_at s fits h.holder h.holds.counted) ∙ ap (held_cost d (tree_of ts s h.holder)) h.holds.held ∙ ap Some h.costs)

    at-nothing : ((i n : ℕ) → ¬ HoldsRun s i n) → least_held d ts (entries s) ≡ None
    at-nothing f =
        least-none d ts (entries s)
        (at-entries s fits (λ e. held_by d ts e ≡ None) (λ i c. unsolved (tree_of ts s i) (entry s i).solution (λ n z. f i n (record { counted = c; held = z }))))

    at_same : (x : Option BestSolution) → ((i n : ℕ) → x ≡ as_best i n → LeastHeld d ts s (run_cost d ts s i n)) → (x ≡ None → (i n : ℕ) → ¬ HoldsRun s i n)
        → same_cost (bound_of d ts s x) (least_held d ts (entries s)) ≡ true
    at_same None f g = rw (at-nothing (g refl))
    at_same (Some b) f g = rw (at_least _ (f b.entry b.node refl)) (eq-eqb (run_cost d ts s b.entry b.node) _ refl)

-- ---- both ways

module _ (d : Domain) (ts : List Tree) (s : Search) where
  not-strange : valid d ts s ≡ true → NotStrange d ts s
  unfolding valid
  not-strange e =
      let v = valid-at d ts s e in
      let r = all_true (valid_tests d ts s) e in
      let l = all_true (list_tests s) r.0 in
      let fits : s.tree_count ≤ length s.trees = omega (arith, v.arrays, v.counts) in
      let same = same_at (bound d ts s) (least_held d ts (entries s)) r.1.1.1.1.0 in
      record {
        in_use = v.slots;
        remembers = λ i n h. known_at d _ (all_true (entry_tests d ts (goals s) (entry s i)) (every-entry s fits (λ e. allb (entry_tests d ts (goals s) e)) r.1.1.0 i h)).1.0 n;
        entry_list = v.counts;
        goal_list = leb-true _ _ l.1.1.1.0;
        entry_array = v.arrays;
        goal_array = eqb-true _ _ l.1.1.0;
        wanted = λ x m. all-below _ (goals s) r.1.0 x (listed-mem x (goals s) m);
        runs = λ i n h. closes-goal (goals s) (tree_of ts s i) n (v.closes i h.counted n h.held);
        best-entry = λ i n z. (v.best i n z).0;
        best = λ i n z. closes-goal (goals s) (tree_of ts s i) n (v.best i n z).1;
        least = λ i n z. least-held d ts s fits _ (same ∙ ap (bound_of d ts s) z);
        none_held = λ z. nothing-held d ts s fits (same ∙ ap (bound_of d ts s) z);
        finished = λ x i n z. let h = v.held x i n z in (h.0, record { counted = (v.best i n z).0; held = h.1 });
      }

  passes : NotStrange d ts s → valid d ts s ≡ true
  unfolding valid
  passes k =
      let fits : s.tree_count ≤ length s.trees = omega (arith, k.entry_array, k.entry_list) in
      true-given (valid_tests d ts s)
      (true-given (list_tests s) (eq-eqb _ _ k.entry_array) (le-leb _ _ k.entry_list) (eq-eqb _ _ k.goal_array) (le-leb _ _ k.goal_list))
      (at-below _ (goals s) k.wanted)
      (at_every (λ e. allb (entry_tests d ts (goals s) e)) (entries s) (at-entries s fits (λ e. allb (entry_tests d ts (goals s) e) ≡ true) entry-passes))
      (at-best ts s s.best_solution (λ i n z. (k.best-entry i n z, k.best i n z)))
      (at_same d ts s fits s.best_solution k.least k.none_held)
      (at-finished s.exhausted _ (λ x. at_held s s.best_solution (k.finished x)))
    where
      entry-passes : (i : ℕ) → i < s.tree_count → allb (entry_tests d ts (goals s) (entry s i)) ≡ true
      entry-passes i h =
          true-given (entry_tests d ts (goals s) (entry s i))
          (lt-ltb _ _ (k.in_use i h))
          (at-known d (entry s i).last_known_closed_len (λ n z. k.remembers i n h z))
          (at-solution (goals s) (tree_of ts s i) (entry s i).solution (λ n z. k.runs i n (record { counted = h; held = z })))

pub strange-exactly : StrangeExactly
strange-exactly d ts s = (not-strange d ts s, passes d ts s)
