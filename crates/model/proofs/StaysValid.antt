-- What a step leaves of a valid record: it is valid but for the finished mark. The one test that it may fail is the last of refusal 8, "a search
-- finished as solved holds no run".
-- Assumes nothing.
use mathlib.Core.Path.{◌≡◌, refl, sym, ap, ◌∙◌, subst}
use Rattle.std.specs.declared.option.Option.{Option}
use Rattle.std.specs.Prelude.{None, Some}
use mathlib.Core.Logic.{inl, inr}
use mathlib.Core.Bool.{Bool, true, false, not, ◌&&◌, ◌||◌, true≢false}
use mathlib.Core.List.{List, [], ◌∷◌}
use Prim.Native.Nat.{ℕ, zero, suc, ◌+◌, ◌<◌, ◌≤◌}
use native.Mathlib.Omega.{arith}
use native.Mathlib.Decide.{ℕ_discrete}
use lib.ListN.{length}
use Rattle.model.specs.declared.BestSolution.{BestSolution}
use Rattle.model.specs.declared.TreeMemory.{TreeMemory}
use Rattle.model.specs.declared.Search.{Search}
use Rattle.model.specs.Lists.{allb, all_below}
use Rattle.model.specs.Graph.{Domain, Accepted, vertex_count}
use Rattle.model.specs.Tree.{Tree}
use Rattle.model.specs.Sound.{SoundTrees}
use Rattle.model.specs.Search.{entry, entries, goals, with_exhausted, bound_of, bound, Turn, Walk, round, rounds, walk}
use Rattle.model.specs.Valid.{list_tests, entry_tests, everyb, best_closes, least_held, same_cost, best_held, almost_tests, almost, valid}
use Rattle.model.specs.Strange.{tree_of, run_cost, HoldsRun, LeastHeld, NotStrange}
use Rattle.model.proofs.Bools.{and-true, all-last}
use Rattle.model.proofs.Turns.{Under, turn-counts}
use Rattle.model.proofs.Recorded.{known_after, turn_in, round_after, round-after, round-count}
use Rattle.model.proofs.Keeps.{turn-keeps, round_keeps}
use Rattle.model.proofs.Holding.{HeldAt, Holding}
use Rattle.model.proofs.Holding as holding
use Rattle.model.proofs.Valid.{count-le}
use Rattle.model.proofs.Strange.{closes-goal, goal-closes, strange-exactly}

-- ---- the last test

module _ (d : Domain) (ts : List Tree) (s : Search) where
  valid-is : valid d ts s ≡ (almost d ts s && (not s.exhausted || best_held s s.best_solution))
  unfolding valid almost
  valid-is = all-last (almost_tests d ts s) _

  pub valid-almost : valid d ts s ≡ true → almost d ts s ≡ true
  valid-almost e = (and-true _ _ (sym valid-is ∙ e)).0

  pub almost-valid : almost d ts s ≡ true → valid d ts s ≡ (not s.exhausted || best_held s s.best_solution)
  almost-valid e = valid-is ∙ ap (λ (b : Bool). b && (not s.exhausted || best_held s s.best_solution)) e

  -- the other tests do not ask for the mark
  almost-marked : (m : Bool) → almost d ts (with_exhausted s m) ≡ almost d ts s
  unfolding almost
  almost-marked m = go s.best_solution
    where
      tests : Search → Option BestSolution → List Bool
      tests x o =
          allb (list_tests s)
          ∷ all_below (vertex_count d.graph) (goals s)
          ∷ everyb (λ e. allb (entry_tests d ts (goals s) e)) (entries s)
          ∷ best_closes ts x o
          ∷ same_cost (bound_of d ts x o) (least_held d ts (entries s))
          ∷ []

      go : (o : Option BestSolution) → allb (tests (with_exhausted s m) o) ≡ allb (tests s o)
      go None = refl
      go (Some b) = refl

-- what holds of a record that passes the others: it is not strange with the mark taken off
abbrev Fine : Domain → List Tree → Search → Type 0
Fine d ts s = NotStrange d ts (with_exhausted s false)

fine-at : (d : Domain) (ts : List Tree) (s : Search) → almost d ts s ≡ true → Fine d ts s
fine-at d ts s e = (strange-exactly d ts (with_exhausted s false)).0 (almost-valid d ts (with_exhausted s false) (almost-marked d ts s false ∙ e))

at-fine : (d : Domain) (ts : List Tree) (s : Search) → Fine d ts s → almost d ts s ≡ true
at-fine d ts s k = sym (almost-marked d ts s false) ∙ valid-almost d ts (with_exhausted s false) ((strange-exactly d ts (with_exhausted s false)).1 k)

-- ---- what is held

module _ (d : Domain) (ts : List Tree) (s : Search) (k : Fine d ts s) where
  low : (x : Option BestSolution) → s.best_solution ≡ x → (j n : ℕ) → HoldsRun (with_exhausted s false) j n → Under (bound_of d ts s x) (run_cost d ts s j n)
  low None z j n h = k.none_held z j n h
  low (Some b) z j n h = (k.least b.entry b.node z).least j n h

  holds : Holding d ts s
  holds =
      record {
        arrays = k.entry_array;
        counts = k.entry_list;
        entries = λ j h. record {
          inside = k.in_use j h;
          holds = λ n z. goal-closes (goals s) (tree_of ts s j) n (k.runs j n (record { counted = h; held = z }));
          low = λ n z. low s.best_solution refl j n (record { counted = h; held = z });
        };
        best = λ j n z. (k.best-entry j n z, goal-closes (goals s) (tree_of ts s j) n (k.best j n z));
      }

  level : (x : Option BestSolution) → s.best_solution ≡ x → (c : ℕ) → bound_of d ts s x ≡ Some c → (j : ℕ) × (j < s.tree_count) × HeldAt d ts s j c
  level None z c e = absurd (true≢false cc)
  level (Some b) z c e =
      let l = k.least b.entry b.node z in
      let q : run_cost d ts s b.entry b.node ≡ c = cc in
      (l.holder, l.holds.counted, record { h = l.run; held = l.holds.held; level = l.costs ∙ q })

-- ---- one round

known-after : (a b : Option ℕ) (m : ℕ) → ((n : ℕ) → a ≡ Some n → n ≤ m) → ((n : ℕ) → b ≡ Some n → n ≤ m) → (n : ℕ) → known_after a b ≡ Some n → n ≤ m
known-after a None m f g = f
known-after a (Some k) m f g = g

module _ (d : Domain) (acc : Accepted d.graph) (i : ℕ) (w : Walk) (ok : SoundTrees d w.trees) (k : Fine d w.trees w.search) (hi : i < w.search.tree_count) where
  abbrev s : Search
  s = w.search

  abbrev e : TreeMemory
  e = entry w.search i

  abbrev u : Turn
  u = turn_in d i w

  abbrev ts₁ : List Tree
  ts₁ = (round_after d i w).trees

  abbrev s₁ : Search
  s₁ = (round_after d i w).search

  before : Holding d w.trees s
  before = holds d w.trees s k

  now : Holding d ts₁ s₁
  now = holding.after-round d acc w.trees s ok before i hi

  level-now : (c : ℕ) → bound d ts₁ s₁ ≡ Some c → (j : ℕ) × (j < s.tree_count) × HeldAt d ts₁ s₁ j c
  level-now c z = elim (holding.best-cases d acc w.trees s ok before i hi) [
    | inl x ↦
        let y = sym x.bounds ∙ z in
        let o = level d w.trees s k s.best_solution refl c y in
        (o.0, o.1, holding.level-kept d acc w.trees s ok before i hi o.0 c o.1 y x.bounds o.2)
    | inr x ↦ (i, hi, subst (HeldAt d ts₁ s₁ i) (same (sym (ap (bound_of d ts₁ s₁) x.best) ∙ z)) (holding.level-new d acc w.trees s ok before i hi x))
  ]
    where
      same : {a : ℕ} → Some a ≡ Some c → a ≡ c
      same y = cc

  least-now : (c : ℕ) → bound d ts₁ s₁ ≡ Some c → LeastHeld d ts₁ (with_exhausted s₁ false) c
  least-now c z =
      let l = level-now c z in
      record {
        holder = l.0;
        run = l.2.h;
        holds = record { counted = l.1; held = l.2.held };
        costs = l.2.level;
        least = λ j n h. subst (λ (b : Option ℕ). Under b (run_cost d ts₁ s₁ j n)) z ((now.entries j h.counted).low n h.held);
      }

  known-now : (j n : ℕ) → j < s.tree_count → (entry s₁ j).last_known_closed_len ≡ Some n → n ≤ vertex_count d.graph
  known-now j n h z = elim (ℕ_discrete j i) [
    | yes y ↦ known-after e.last_known_closed_len u.known (vertex_count d.graph) (λ m q. k.remembers i m hi q)
        (λ m q. omega (arith, turn-counts d _ _ _ _ m q, count-le u.tree.closed, sized)) n
        (sym (ap (λ (x : TreeMemory). x.last_known_closed_len) (ap (entry s₁) y ∙ holding.entry-i d acc w.trees s ok before i hi)) ∙ z)
    | no y ↦ k.remembers j n h (sym (ap (λ (x : TreeMemory). x.last_known_closed_len) (holding.entry-j d acc w.trees s ok before i hi j y)) ∙ z)
  ]
    where
      sized : length u.tree.closed ≡ vertex_count d.graph
      sized = (turn-keeps d acc _ _ _ _ (ok.each e.tree (k.in_use i hi))).0.sized

  fine-after : Fine d ts₁ s₁
  fine-after =
      record {
        in_use = λ j h. (now.entries j h).inside;
        remembers = known-now;
        entry_list = k.entry_list;
        goal_list = k.goal_list;
        entry_array = now.arrays;
        goal_array = k.goal_array;
        wanted = k.wanted;
        runs = λ j n h. closes-goal (goals s) (tree_of ts₁ s₁ j) n ((now.entries j h.counted).holds n h.held);
        best-entry = λ j n z. (now.best j n z).0;
        best = λ j n z. closes-goal (goals s) (tree_of ts₁ s₁ j) n (now.best j n z).1;
        least = λ j n z. least-now (run_cost d ts₁ s₁ j n) (ap (bound_of d ts₁ s₁) z);
        none_held = λ z j n h. subst (λ (b : Option ℕ). Under b (run_cost d ts₁ s₁ j n)) (ap (bound_of d ts₁ s₁) z) ((now.entries j h.counted).low n h.held);
        finished = λ x. absurd (true≢false (sym x));
      }

  fine-round : Fine d (round d i w).trees (round d i w).search
  fine-round = subst (λ (x : Walk). Fine d x.trees x.search) (sym (round-after d i w)) fine-after

-- ---- the entries in order

fine-rounds : (d : Domain) → Accepted d.graph → (n i : ℕ) (w : Walk) → SoundTrees d w.trees → n + i ≡ w.search.tree_count → Fine d w.trees w.search
    → Fine d (rounds d n i w).trees (rounds d n i w).search
unfolding rounds
fine-rounds d acc zero i w ok z k = k
fine-rounds d acc (suc n) i w ok z k =
    fine-rounds d acc n (suc i) (round d i w) (round_keeps d acc i w ok).0 (omega (arith, z, round-count d i w)) (fine-round d acc i w ok k (omega (arith, z)))

pub walk-almost : (d : Domain) → Accepted d.graph → (ts : List Tree) → SoundTrees d ts → (s : Search) → almost d ts s ≡ true → almost d (walk d ts s).trees (walk d ts s).search ≡ true
unfolding walk
walk-almost d acc ts ok s e =
    at-fine d (walk d ts s).trees (walk d ts s).search
    (fine-rounds d acc s.tree_count 0 (record { trees = ts; search = with_exhausted s true; tickets = 0 }) ok (omega arith) (fine-at d ts s e))
