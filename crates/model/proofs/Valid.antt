-- What refusal 8 leaves: the facts of a record that is not refused; and a search's own record is never refused.
-- Assumes nothing.
use mathlib.Core.Path.{◌≡◌, refl, sym, ap, ◌∙◌, subst}
use Rattle.std.specs.declared.option.Option.{Option}
use Rattle.std.specs.Prelude.{None, Some}
use mathlib.Core.Bool.{Bool, true, false, not, ◌||◌, true≢false}
use mathlib.Core.List.{List, [], ◌∷◌}
use Prim.Native.Nat.{ℕ, zero, suc, ◌<◌, ◌≤◌}
use native.Mathlib.Omega.{arith}
use borrow.Author.Tests.{leb-true, leb-false, lt-ltb, ltb-true, le-leb, eq-eqb, eqb-true}
use lib.Dec.{eqb, leb}
use lib.ListN.{length, get_or}
use lib.Seq.{length-take-le, get_or-take}
use Rattle.model.specs.declared.BestSolution.{BestSolution}
use Rattle.model.specs.declared.TreeMemory.{TreeMemory}
use Rattle.model.specs.declared.Search.{Search}
use Rattle.model.specs.Lists.{allb}
use Rattle.model.specs.Graph.{Domain, vertex_count}
use Rattle.model.specs.Tree.{Tree}
use Rattle.model.specs.Sound.{tree, SoundTrees}
use Rattle.model.specs.Search.{blank, entry, entries, goals, closed_count, count_if, bound_of, bound, as_best}
use Rattle.model.specs.Valid.{list_tests, known_within, closes_goal, solution_closes, entry_tests, everyb, best_tests, best_closes, held_cost, pick_cost, lesser, least_held, same_cost, is_held, best_held, valid_tests, valid}
use Rattle.model.proofs.Bools.{and-true, true-and, true-or-right, all_true, true-given}
use Rattle.model.proofs.Turns.{Holds}
use Rattle.model.proofs.Rounds.{EntryOk, BestsOk, Ready}

-- ---- tests of all entries

pub every-at : (p : TreeMemory → Bool) (es : List TreeMemory) → everyb p es ≡ true → (i : ℕ) → i < length es → p (get_or es i blank) ≡ true
unfolding everyb
every-at p [] e i h = absurd (omega arith)
every-at p (x ∷ xs) e zero h = (and-true (p x) (everyb p xs) e).0
every-at p (x ∷ xs) e (suc i) h = every-at p xs (and-true (p x) (everyb p xs) e).1 i (omega arith)

pub at_every : (p : TreeMemory → Bool) (es : List TreeMemory) → ((i : ℕ) → i < length es → p (get_or es i blank) ≡ true) → everyb p es ≡ true
unfolding everyb
at_every p [] f = refl
at_every p (x ∷ xs) f = true-and (p x) (everyb p xs) (f 0 (omega arith)) (at_every p xs (λ i h. f (suc i) (omega arith)))

module _ (s : Search) (fits : s.tree_count ≤ length s.trees) where
  pub entries-length : length (entries s) ≡ s.tree_count
  entries-length = length-take-le s.tree_count s.trees fits

  pub entries_at : (i : ℕ) → i < s.tree_count → get_or (entries s) i blank ≡ entry s i
  entries_at i h = get_or-take s.tree_count s.trees i blank h

  -- what passes at all entries, at each; and what holds of each, of all
  pub every-entry : (p : TreeMemory → Bool) → everyb p (entries s) ≡ true → (i : ℕ) → i < s.tree_count → p (entry s i) ≡ true
  every-entry p e i h = subst (λ (x : TreeMemory). p x ≡ true) (entries_at i h) (every-at p (entries s) e i (omega (arith, entries-length)))

  pub at-entries : (P : TreeMemory → Type 0) → ((i : ℕ) → i < s.tree_count → P (entry s i)) → (i : ℕ) → i < length (entries s) → P (get_or (entries s) i blank)
  at-entries P f i h =
      let j : i < s.tree_count = omega (arith, entries-length) in
      subst P (sym (entries_at i j)) (f i j)

-- ---- what is not refused

holds_at : (gs : List ℕ) (t : Tree) (n : ℕ) → closes_goal gs t n ≡ true → Holds gs t n
unfolding closes_goal
holds_at gs t n e = let r = and-true _ _ e in record { sought = r.0; closes = eqb-true _ _ r.1 }

pub at-holds : (gs : List ℕ) (t : Tree) (n : ℕ) → Holds gs t n → closes_goal gs t n ≡ true
unfolding closes_goal
at-holds gs t n h = true-and _ _ h.sought (eq-eqb _ _ h.closes)

solution-at : (gs : List ℕ) (t : Tree) (o : Option ℕ) → solution_closes gs t o ≡ true → (n : ℕ) → o ≡ Some n → Holds gs t n
solution-at gs t o e n z = holds_at gs t n (subst (λ (x : Option ℕ). solution_closes gs t x ≡ true) z e)

pub record Valid (d : Domain) (ts : List Tree) (s : Search) : Type 0 where
  pub arrays : length s.trees ≡ 64
  pub counts : s.tree_count ≤ 64
  pub slots : (i : ℕ) → i < s.tree_count → (entry s i).tree < length ts
  pub closes : (i : ℕ) → i < s.tree_count → (n : ℕ) → (entry s i).solution ≡ Some n → Holds (goals s) (tree ts (entry s i).tree) n
  pub best : (i n : ℕ) → s.best_solution ≡ as_best i n → (i < s.tree_count) × Holds (goals s) (tree ts (entry s i).tree) n
  pub held : s.exhausted ≡ true → (i n : ℕ) → s.best_solution ≡ as_best i n → (h : ℕ) × ((entry s i).solution ≡ Some h)

pub valid-at : (d : Domain) (ts : List Tree) (s : Search) → valid d ts s ≡ true → Valid d ts s
unfolding valid
valid-at d ts s e =
    let r = all_true (valid_tests d ts s) e in
    let l = all_true (list_tests s) r.0 in
    let arrays : length s.trees ≡ 64 = eqb-true _ _ l.0 in
    let counts : s.tree_count ≤ 64 = leb-true _ _ l.1.0 in
    let fits : s.tree_count ≤ length s.trees = omega arith in
    let test = every-entry s fits (λ e. allb (entry_tests d ts (goals s) e)) r.1.1.0 in
    record {
      arrays = arrays;
      counts = counts;
      slots = λ i h. ltb-true _ _ (all_true (entry_tests d ts (goals s) (entry s i)) (test i h)).0;
      closes = λ i h. solution-at (goals s) (tree ts (entry s i).tree) (entry s i).solution (all_true (entry_tests d ts (goals s) (entry s i)) (test i h)).1.1.0;
      best = λ i n z.
          let q = all_true (best_tests ts s i n) (subst (λ (x : Option BestSolution). best_closes ts s x ≡ true) z r.1.1.1.0) in
          (ltb-true _ _ q.0, holds_at (goals s) (tree ts (entry s i).tree) n q.1.0);
      held = λ x i n z. shows i (subst (λ (y : Option BestSolution). best_held s y ≡ true) z (finished s.exhausted x r.1.1.1.1.1.0));
    }
  where
    finished : (x : Bool) → x ≡ true → (not x || best_held s s.best_solution) ≡ true → best_held s s.best_solution ≡ true
    finished true z q = q
    finished false z q = absurd (true≢false (sym z))

    is-held : (o : Option ℕ) → is_held o ≡ true → (h : ℕ) × (o ≡ Some h)
    is-held None q = absurd (true≢false (sym q))
    is-held (Some h) q = (h, refl)

    shows : (i : ℕ) → is_held (entry s i).solution ≡ true → (h : ℕ) × ((entry s i).solution ≡ Some h)
    shows i q = is-held (entry s i).solution q

-- ---- the least of the solutions held

-- k or more, or nothing
abbrev pub Low : ℕ → Option ℕ → Type 0
Low k None = Unit {0}
Low k (Some a) = k ≤ a

lesser-low : (k : ℕ) (a b : Option ℕ) → Low k a → Low k b → Low k (lesser a b)
lesser-low k None b p q = q
lesser-low k (Some x) None p q = p
lesser-low k (Some x) (Some y) p q = go (leb x y)
  where
    go : (t : Bool) → Low k (pick_cost t x y)
    go true = p
    go false = q

lesser-left : (k : ℕ) (b : Option ℕ) → Low k b → lesser (Some k) b ≡ Some k
lesser-left k None q = refl
lesser-left k (Some y) q = go (leb k y) refl
  where
    go : (t : Bool) → leb k y ≡ t → pick_cost t k y ≡ Some k
    go true e = refl
    go false e = absurd (omega (arith, leb-false k y e))

lesser-right : (k : ℕ) (a : Option ℕ) → Low k a → lesser a (Some k) ≡ Some k
lesser-right k None p = refl
lesser-right k (Some x) p = go (leb x k) refl
  where
    go : (t : Bool) → leb x k ≡ t → pick_cost t x k ≡ Some k
    go true e = ap Some (let z : x ≤ k = leb-true x k e in omega arith)
    go false e = refl

module _ (d : Domain) (ts : List Tree) where
  abbrev pub held_by : TreeMemory → Option ℕ
  held_by e = held_cost d (tree ts e.tree) e.solution

  low-all : (k : ℕ) (es : List TreeMemory) → ((i : ℕ) → i < length es → Low k (held_by (get_or es i blank))) → Low k (least_held d ts es)
  unfolding least_held
  low-all k [] f = tt
  low-all k (e ∷ es) f = lesser-low k (held_by e) (least_held d ts es) (f 0 (omega arith)) (low-all k es (λ i h. f (suc i) (omega arith)))

  pub least-some : (k : ℕ) (es : List TreeMemory) → ((i : ℕ) → i < length es → Low k (held_by (get_or es i blank))) → (j : ℕ) → j < length es → held_by (get_or es j blank) ≡ Some k
      → least_held d ts es ≡ Some k
  unfolding least_held
  least-some k [] f j h z = absurd (omega arith)
  least-some k (e ∷ es) f zero h z = rw z (lesser-left k (least_held d ts es) (low-all k es (λ i h. f (suc i) (omega arith))))
  least-some k (e ∷ es) f (suc j) h z = rw (least-some k es (λ i h. f (suc i) (omega arith)) j (omega arith) z) (lesser-right k (held_by e) (f 0 (omega arith)))

  pub least-none : (es : List TreeMemory) → ((i : ℕ) → i < length es → held_by (get_or es i blank) ≡ None) → least_held d ts es ≡ None
  unfolding least_held
  least-none [] f = refl
  least-none (e ∷ es) f = rw (f 0 (omega arith)) (least-none es (λ i h. f (suc i) (omega arith)))

-- ---- a search's own record

pub count-le : (cl : List ℕ) → closed_count cl ≤ length cl
unfolding closed_count
count-le [] = omega arith
count-le (x ∷ xs) = go (count-le xs) (eqb x 0)
  where
    go : closed_count xs ≤ length xs → (b : Bool) → count_if b (closed_count xs) ≤ suc (length xs)
    go ih true = omega arith
    go ih false = omega arith

module _ (O : ℕ → Type 0) (d : Domain) (ts : List Tree) (ok : SoundTrees d ts) (s : Search) (r : Ready O d ts s) where
  fits : s.tree_count ≤ length s.trees
  fits = omega (arith, r.arrays, r.counts)

  known-test : (e : TreeMemory) → EntryOk O d (goals s) ts (bound d ts s) e → known_within d e.last_known_closed_len ≡ true
  known-test e k = go e.last_known_closed_len refl
    where
      go : (x : Option ℕ) → e.last_known_closed_len ≡ x → known_within d x ≡ true
      go None z = refl
      go (Some n) z = le-leb n (vertex_count d.graph) (omega (arith, k.known.past n z, count-le (tree ts e.tree).closed, (ok.each e.tree k.inside).sized))

  solution-test : (e : TreeMemory) → EntryOk O d (goals s) ts (bound d ts s) e → solution_closes (goals s) (tree ts e.tree) e.solution ≡ true
  solution-test e k = go e.solution refl
    where
      go : (x : Option ℕ) → e.solution ≡ x → solution_closes (goals s) (tree ts e.tree) x ≡ true
      go None z = refl
      go (Some n) z = at-holds (goals s) (tree ts e.tree) n (k.known.holds n z)

  entry-test : (e : TreeMemory) → EntryOk O d (goals s) ts (bound d ts s) e → allb (entry_tests d ts (goals s) e) ≡ true
  entry-test e k = true-given (entry_tests d ts (goals s) e) (lt-ltb _ _ k.inside) (known-test e k) (solution-test e k)

  ok_at : (i : ℕ) → i < length (entries s) → EntryOk O d (goals s) ts (bound d ts s) (get_or (entries s) i blank)
  ok_at = at-entries s fits (EntryOk O d (goals s) ts (bound d ts s)) r.entries

  best-test : (x : Option BestSolution) → BestsOk d (goals s) ts s x → best_closes ts s x ≡ true
  best-test None k = refl
  best-test (Some b) k = true-given (best_tests ts s b.entry b.node) (lt-ltb _ _ k.counted) (at-holds (goals s) (tree ts (entry s b.entry).tree) b.node k.holds)

  held_test : (x : Option BestSolution) → BestsOk d (goals s) ts s x → best_held s x ≡ true
  held_test None k = refl
  held_test (Some b) k = rw k.held

  low_held : (k : ℕ) (e : TreeMemory) → EntryOk O d (goals s) ts (Some k) e → Low k (held_by d ts e)
  low_held k e x = go e.solution refl
    where
      go : (o : Option ℕ) → e.solution ≡ o → Low k (held_cost d (tree ts e.tree) o)
      go None z = tt
      go (Some n) z = x.low n z

  none_held : (e : TreeMemory) → EntryOk O d (goals s) ts None e → held_by d ts e ≡ None
  none_held e x = go e.solution refl
    where
      go : (o : Option ℕ) → e.solution ≡ o → held_cost d (tree ts e.tree) o ≡ None
      go None z = refl
      go (Some n) z = absurd (x.low n z)

  least-is : (x : Option BestSolution) → bound d ts s ≡ bound_of d ts s x → BestsOk d (goals s) ts s x → least_held d ts (entries s) ≡ bound_of d ts s x
  least-is None z k = least-none d ts (entries s) (λ i h. none_held _ (subst (λ (b : Option ℕ). EntryOk O d (goals s) ts b (get_or (entries s) i blank)) z (ok_at i h)))
  least-is (Some b') z k =
      least-some d ts _ (entries s) (λ j h. low_held _ _ (subst (λ (b : Option ℕ). EntryOk O d (goals s) ts b (get_or (entries s) j blank)) z (ok_at j h)))
      b'.entry (omega (arith, entries-length s fits, k.counted))
      (ap (held_by d ts) (entries_at s fits b'.entry k.counted) ∙ ap (held_cost d (tree ts (entry s b'.entry).tree)) k.held ∙ ap Some k.level)

  same_refl : (b : Option ℕ) → same_cost b b ≡ true
  same_refl None = refl
  same_refl (Some k) = eq-eqb k k refl

  pub own-valid : valid d ts s ≡ true
  unfolding valid
  own-valid =
      true-given (valid_tests d ts s)
      (true-given (list_tests s) (eq-eqb _ _ r.arrays) (le-leb _ _ r.counts) (eq-eqb _ _ r.keys) (le-leb _ _ r.key_counts))
      r.below
      (at_every (λ e. allb (entry_tests d ts (goals s) e)) (entries s) (λ i h. entry-test _ (ok_at i h)))
      (best-test s.best_solution r.best)
      (rw (least-is s.best_solution refl r.best) (same_refl (bound d ts s)))
      (true-or-right (not s.exhausted) _ (held_test s.best_solution r.best))
