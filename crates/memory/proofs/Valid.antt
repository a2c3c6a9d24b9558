-- A record tested as a whole: what each test leaves to the next, and that all of them are the definition's.
-- Assumes nothing.
use mathlib.Core.Path.{◌≡◌, sym, ap, ap₂, ◌∙◌}
use Rattle.model.specs.declared.Refusal.TheVariants.{InvalidSearch}
use Rattle.std.specs.declared.option.Option.{Option}
use Rattle.std.specs.Prelude.{None, Err, Some}
use mathlib.Core.Bool.{Bool, true, false, not, ◌&&◌, ◌||◌, and-false, and-true, or-true, and_assoc}
use mathlib.Core.List.{List, [], ◌∷◌}
use Prim.Native.Nat.{ℕ, zero, suc, ◌-◌, ◌<◌, ◌≤◌}
use native.Mathlib.Omega.{arith}
use borrow.Author.Tests.{lt-ltb, le-ltb, le-leb, lt-leb, eq-eqb, not-true, not-false}
use lib.ListN.{length, get_or, take, drop, drop_of_length-le}
use lib.Seq.{drop-cons}
use Rattle.model.specs.declared.BestSolution.{BestSolution}
use Rattle.model.specs.declared.TreeMemory.{TreeMemory}
use Rattle.model.specs.declared.Search.{Search}
use Rattle.model.specs.Lists.{allb, all_below}
use Rattle.model.specs.Graph.{vertex_count}
use Rattle.model.specs.Sound.{tree}
use Rattle.model.specs.Search.{blank, entry, entries, goals, bound_of}
use Rattle.model.specs.Valid.{list_tests, entry_tests, everyb, best_tests, best_closes, held_cost, lesser, same_cost, best_held, valid_tests, valid}
use Rattle.model.proofs.Bools.{true-and, true-given}
use Rattle.model.proofs.Valid.{entries-length, entries_at}
use Rattle.layout.specs.Read.{read_cache}
use Rattle.sound.specs.Facts.{SoundWords, InUse}
use Rattle.sound.proofs.Facts.{vertices-read}
use Rattle.model.proofs.InTurn.{all-fails}
use Rattle.memory.specs.Memory.{Listed, CanJudge, best_node_tests}
use Rattle.memory.specs.Standing.{Stands}
use Rattle.memory.proofs.Fits.{in_use, listed-fits, holds_at, held_at}
use Rattle.memory.proofs.Judged.{refuses}
use Rattle.memory.proofs.Costs.{Least, least-none, least_more, least-all}
use Rattle.layout.specs.Layout.{vertices_in}

-- the goals as they are lent
abbrev goals_lent : Search → List ℕ
goals_lent s = take (s.goal_count - 0) s.goal_keys

goals-lent : (s : Search) → goals_lent s ≡ goals s
goals-lent s = let whole : s.goal_count - 0 ≡ s.goal_count = omega arith in ap (λ (n : ℕ). take n s.goal_keys) whole

abbrev passes : List ℕ → Search → TreeMemory → Bool
passes ws s e = allb (entry_tests (read_cache ws).domain (read_cache ws).trees (goals s) e)

-- what is known with i entries left: those gone through pass, and least is what the cheapest of the solutions that they hold costs
pub record Passed (ws : List ℕ) (s : Search) (least : Option ℕ) (i : ℕ) : Type 0 where
  pub sound : SoundWords ws
  pub costs : Least (read_cache ws).domain (read_cache ws).trees s least i
  pub goals : all_below (vertex_count (read_cache ws).domain.graph) (goals s) ≡ true
  pub each : everyb (passes ws s) (drop i (entries s)) ≡ true

module _ (ws : List ℕ) (s : Search) where
  abbrev tests : List Bool
  tests = valid_tests (read_cache ws).domain (read_cache ws).trees s

  abbrev refused : Type 0
  refused = Stands ws s (Err InvalidSearch)

  -- ---- the counts, the best's entry, and the goals

  pub many-trees : 64 < s.tree_count → refused
  unfolding valid
  many-trees h = refuses ws s (sym (all-fails tests 0 (all-fails (list_tests s) 1 (lt-leb s.tree_count 64 h))))

  pub many_goals : 64 < s.goal_count → refused
  unfolding valid
  many_goals h = refuses ws s (sym (all-fails tests 0 (all-fails (list_tests s) 3 (lt-leb s.goal_count 64 h))))

  pub best-beyond : {b : BestSolution} → s.best_solution ≡ Some b → s.tree_count ≤ b.entry → refused
  unfolding valid
  best-beyond {b} e h =
      let two : List Bool = best_tests (read_cache ws).trees s b.entry b.node in
      refuses ws s (sym (all-fails tests 3 (ap (best_closes (read_cache ws).trees s) e ∙ all-fails two 0 (le-ltb b.entry s.tree_count h))))

  -- r: whether the goals are vertices
  module _ (ok : SoundWords ws) {n : ℕ} {r : Bool} (z : n ≡ vertices_in ws) (below : r ≡ all_below n (goals_lent s)) where
    read : r ≡ all_below (vertex_count (read_cache ws).domain.graph) (goals s)
    read = below ∙ ap₂ all_below (z ∙ sym (vertices-read ok)) (goals-lent s)

    pub goals-refuse : not r ≡ true → refused
    unfolding valid
    goals-refuse f = refuses ws s (sym (all-fails tests 1 (sym read ∙ not-true r f)))

    pub none_passed : not r ≡ false → Listed s → Passed ws s None s.tree_count
    unfolding everyb
    none_passed f l = record {
      sound = ok;
      costs = least-none _ _ l;
      goals = sym read ∙ not-false r f;
      each = ap (everyb (passes ws s)) (drop_of_length-le (entries s) {i = s.tree_count} (omega (arith, entries-length s (listed-fits l))));
    }

-- one entry that fails
every-fails : (p : TreeMemory → Bool) (es : List TreeMemory) (i : ℕ) → i < length es → p (get_or es i blank) ≡ false → false ≡ everyb p es
unfolding everyb
every-fails p [] i h f = absurd (omega arith)
every-fails p (e ∷ es) zero h f = sym (ap (λ (b : Bool). b && everyb p es) f)
every-fails p (e ∷ es) (suc i) h f = sym (ap (λ (b : Bool). p e && b) (sym (every-fails p es i (omega arith) f)) ∙ and-false (p e))

-- ---- the entry before i; r: whether it passes

module _ {ws : List ℕ} {s : Search} {least : Option ℕ} {i : ℕ} (p : Passed ws s least i) where
  listed : Listed s
  listed = p.costs.listed

  fits : s.tree_count ≤ length s.trees
  fits = listed-fits listed

  module _ (h : 0 < i) {r : Bool} (e : r ≡ allb (entry_tests (read_cache ws).domain (read_cache ws).trees (goals_lent s) (entry s (i - 1)))) where
    within : i - 1 < length (entries s)
    within = omega (arith, p.costs.left, entries-length s fits)

    passed : r ≡ passes ws s (get_or (entries s) (i - 1) blank)
    passed =
        e
        ∙ ap (λ (gs : List ℕ). allb (entry_tests (read_cache ws).domain (read_cache ws).trees gs (entry s (i - 1)))) (goals-lent s)
        ∙ sym (ap (passes ws s) (entries_at s fits (i - 1) (omega (arith, p.costs.left))))

    pub entry-refuses : not r ≡ true → Stands ws s (Err InvalidSearch)
    unfolding valid everyb
    entry-refuses f =
        let fails = every-fails (passes ws s) (entries s) (i - 1) within (sym passed ∙ not-true r f) in
        refuses ws s (sym (all-fails (valid_tests (read_cache ws).domain (read_cache ws).trees s) 2 (sym fails)))

    module _ (f : not r ≡ false) where
      pub can-judge : CanJudge ws (entry s (i - 1))
      can-judge = (p.sound, holds_at p.sound (goals_lent s) (entry s (i - 1)) (sym e ∙ not-false r f))

      pub one-passed : {held next : Option ℕ}
          → held ≡ held_cost (read_cache ws).domain (tree (read_cache ws).trees (entry s (i - 1)).tree) (entry s (i - 1)).solution
          → next ≡ lesser held least → Passed ws s next (i - 1)
      unfolding everyb
      one-passed a b = record {
        sound = p.sound;
        costs = least_more p.costs h a b;
        goals = p.goals;
        each =
            let back : suc (i - 1) ≡ i = omega arith in
            ap (everyb (passes ws s)) (drop-cons (entries s) (i - 1) blank within)
            ∙ true-and _ _ (sym passed ∙ not-false r f) (ap (λ (k : ℕ). everyb (passes ws s) (drop k (entries s))) back ∙ p.each);
      }

-- ---- the best, where all entries passed

first_three : (a b c d : Bool) → a ≡ true → b ≡ true → c ≡ true → (a && (b && (c && d))) ≡ d
first_three a b c d p q r = rw (p, q, r)

module _ {ws : List ℕ} {s : Search} {least : Option ℕ} {i : ℕ} (p : Passed ws s least i) (end : i ≤ 0) where
  all-each : everyb (passes ws s) (entries s) ≡ true
  all-each = let z : 0 ≡ i = omega arith in ap (λ (k : ℕ). everyb (passes ws s) (drop k (entries s))) z ∙ p.each

  -- the tests of the best
  abbrev best_passes : Option ℕ → Option BestSolution → Bool
  best_passes k o =
      best_closes (read_cache ws).trees s o
      && (same_cost (bound_of (read_cache ws).domain (read_cache ws).trees s o) k && ((not s.exhausted || best_held s o) && true))

  best-decides : {o : Option BestSolution} → s.best_solution ≡ o → best_passes least o ≡ valid (read_cache ws).domain (read_cache ws).trees s
  unfolding valid
  best-decides {o} e =
      let l = listed p in
      ap₂ best_passes (least-all p.costs end) (sym e)
      ∙ sym (first_three _ _ _ _
      (true-given (list_tests s) (eq-eqb _ _ l.trees) (le-leb _ _ l.entries) (eq-eqb _ _ l.keys) (le-leb _ _ l.goals))
      p.goals
      all-each)

  pub no-best : s.best_solution ≡ None → {r : Bool} → r ≡ same_cost None least → r ≡ valid (read_cache ws).domain (read_cache ws).trees s
  no-best e h =
      h
      ∙ sym (ap (λ (b : Bool). same_cost None least && (b && true)) (or-true (not s.exhausted)) ∙ and-true (same_cost None least))
      ∙ best-decides e

  module _ {o : BestSolution} (e : s.best_solution ≡ Some o) (h : o.entry < s.tree_count) where
    pub best-can : CanJudge ws (entry s o.entry)
    best-can = (p.sound, held_at ws s p.sound (listed p) all-each o.entry h)

    pub best-in-use : InUse ws (entry s o.entry).tree
    best-in-use = in_use p.sound best-can.1.slot

    pub best-is : {r : Bool} → r ≡ allb (best_node_tests (read_cache ws).domain (tree (read_cache ws).trees (entry s o.entry).tree) (goals_lent s) (entry s o.entry).solution o.node least s.exhausted)
        → r ≡ valid (read_cache ws).domain (read_cache ws).trees s
    best-is c =
        let three : List Bool = best_node_tests (read_cache ws).domain (tree (read_cache ws).trees (entry s o.entry).tree) (goals s) (entry s o.entry).solution o.node least s.exhausted in
        let closes : Bool = get_or three 0 true in
        c
        ∙ ap (λ (gs : List ℕ). allb (best_node_tests (read_cache ws).domain (tree (read_cache ws).trees (entry s o.entry).tree) gs (entry s o.entry).solution o.node least s.exhausted)) (goals-lent s)
        ∙ sym (ap (λ (b : Bool). (b && (closes && true)) && allb (drop 1 three)) (lt-ltb o.entry s.tree_count h) ∙ and_assoc closes true (allb (drop 1 three)))
        ∙ best-decides e
