-- Demand 1 on abstract values: a refused call leaves cache, record and slice as they were. And a path shown leaves the words past it.
-- Assumes nothing.
use mathlib.Core.Path.{◌≡◌, refl, sym, ap, ◌∙◌, subst}
use Rattle.model.specs.Search.{as_best}
use Rattle.std.specs.declared.option.Option.{Option}
use Rattle.std.specs.Prelude.{None, Some}
use mathlib.Core.Bool.{Bool, true, false, true≢false}
use mathlib.Core.List.{List}
use Prim.Native.Nat.{ℕ, ◌+◌, ◌-◌, ◌*◌, ◌≤◌}
use native.Mathlib.Nat.{add-sub_of_le}
use native.Mathlib.Omega.{arith}
use borrow.Author.Tests.{ltb-false, not-false}
use lib.ListN.{length, get_or, drop, length-append, length-drop}
use lib.Seq.{get_or-append-add, get_or-drop}
use Rattle.model.specs.declared.BestSolution.{BestSolution}
use Rattle.model.specs.declared.Search.{Search}
use Rattle.model.specs.Answers.{Reply, answered, refused}
use Rattle.model.specs.Tree.{Tree}
use Rattle.model.specs.Path.{moves_of, words}
use Rattle.model.specs.Calls.{Cache, first_fault, initialize_faults, initialize_by, initialize, step_faults, step_if, step_by, step, is_best, shown_by, shown, shown_tree, moves_at, words_at, written, retrace_faults, retrace_by, retrace}
use Rattle.model.specs.Demands.{RefusedInitialize, RefusedStep, RefusedRetrace, Demand1, Filled}
use Rattle.model.proofs.Replies.{answered-refused}
use Rattle.model.proofs.Bools.{and-true}
use Rattle.model.proofs.Faults.{or-none}
use Rattle.model.proofs.Valid.{valid-at}
use Rattle.model.proofs.Words.{words_count}

-- an answer is no refusal
-- the line that a refusal of these calls bears
line-is : {A : Type 0} (n m line : ℕ) → ◌≡◌ {A = Reply A} (refused n 0) (refused m line) → line ≡ 0
line-is n m line e = cc

initialize-refused : (c : Cache) (ss gs : List ℕ) (n line : ℕ) → (initialize c ss gs).reply ≡ refused n line → RefusedInitialize c line (initialize c ss gs)
unfolding initialize
initialize-refused c ss gs n line = go (first_fault (initialize_faults c ss gs))
  where
    go : (o : Option ℕ) → (initialize_by o c ss gs).reply ≡ refused n line → RefusedInitialize c line (initialize_by o c ss gs)
    go None e = absurd (answered-refused tt n line e)
    go (Some m) e = record { cache = refl; search = refl; lines = line-is m n line e }

step-refused : (c : Cache) (s : Search) (n line : ℕ) → (step c s).reply ≡ refused n line → RefusedStep c s line (step c s)
unfolding step
step-refused c s n line = go (first_fault (step_faults c s))
  where
    by-mark : (x : Bool) → (step_if x c s).reply ≡ refused n line → RefusedStep c s line (step_if x c s)
    by-mark true e = absurd (answered-refused _ n line e)
    by-mark false e = absurd (answered-refused _ n line e)

    go : (o : Option ℕ) → (step_by o c s).reply ≡ refused n line → RefusedStep c s line (step_by o c s)
    go None e = by-mark s.exhausted e
    go (Some m) e = record { cache = refl; search = refl; tickets = refl; lines = line-is m n line e }

retrace-refused : (c : Cache) (s : Search) (p : List ℕ) (n line : ℕ) → (retrace c s p).reply ≡ refused n line → RefusedRetrace p line (retrace c s p)
unfolding retrace
retrace-refused c s p n line = go (first_fault (retrace_faults c s p))
  where
    go : (o : Option ℕ) → (retrace_by o c s p).reply ≡ refused n line → RefusedRetrace p line (retrace_by o c s p)
    go None e = absurd (answered-refused _ n line e)
    go (Some m) e = record { path = refl; lines = line-is m n line e }

pub demand-1 : Demand1
demand-1 = (initialize-refused, step-refused, retrace-refused)

-- ---- the words past those written

pub written-length : (ws p : List ℕ) → length ws ≤ length p → length (written ws p) ≡ length p
written-length ws p h = omega (arith, length-append ws (drop (length ws) p), length-drop (length ws) p)

pub written-past : (ws p : List ℕ) (i : ℕ) → length ws ≤ i → get_or (written ws p) i 0 ≡ get_or p i 0
written-past ws p i le =
    ap (λ (j : ℕ). get_or (written ws p) j 0) (sym (add-sub_of_le le))
    ∙ get_or-append-add ws (drop (length ws) p) (i - length ws) 0
    ∙ get_or-drop (length ws) p (i - length ws) 0
    ∙ ap (λ (j : ℕ). get_or p j 0) (add-sub_of_le le)

filled : (ws p : List ℕ) (m : ℕ) → length ws ≡ 1 + 2 * m → 1 + 2 * m ≤ length p → Filled p (written ws p) m
filled ws p m e h = record {
  fits = h;
  same_length = written-length ws p (omega arith);
  past = λ i k. written-past ws p i (omega arith);
}

-- any record, on any cache: where a path is answered, its words are 1 + 2 × moves, and the slice holds what it held past them
pub retrace-fills : (c : Cache) (s : Search) (p : List ℕ) (m : ℕ) → (retrace c s p).reply ≡ answered m → Filled p (retrace c s p).path m
unfolding retrace
retrace-fills c s p m = go (first_fault (retrace_faults c s p)) refl
  where
    is-best : (x : Option BestSolution) → is_best x ≡ true → (i n : ℕ) × (x ≡ as_best i n)
    is-best None e = absurd (true≢false (sym e))
    is-best (Some b) e = (b.entry, b.node, refl)

    at-node : (t : Tree) (h : ℕ) → 1 + 2 * moves_of t.nodes h ≤ length p → moves_at t (Some h) ≡ m → Filled p (written (words_at c.domain.direction t (Some h)) p) m
    at-node t h k e = subst (Filled p (written (words c.domain.direction t.nodes h) p)) e (filled (words c.domain.direction t.nodes h) p (moves_of t.nodes h) (words_count c.domain.direction t.nodes h) k)

    by-solution : (t : Tree) (h : ℕ) (o : Option ℕ) → o ≡ Some h → 1 + 2 * moves_at t o ≤ length p → moves_at t o ≡ m → Filled p (written (words_at c.domain.direction t o) p) m
    by-solution t h o z k e =
        subst (λ (x : Option ℕ). 1 + 2 * moves_at t x ≤ length p → moves_at t x ≡ m → Filled p (written (words_at c.domain.direction t x) p) m) (sym z) (at-node t h) k e

    go : (o : Option ℕ) → first_fault (retrace_faults c s p) ≡ o → (retrace_by o c s p).reply ≡ answered m → Filled p (retrace_by o c s p).path m
    go (Some n) f e = absurd (answered-refused m n 0 (sym e))
    go None f e =
        let a = or-none _ _ _ f in
        let b = or-none _ _ _ a.1 in
        let d = or-none _ _ _ b.1 in
        let done = and-true s.exhausted (is_best s.best_solution) (not-false _ b.0) in
        let x = is-best s.best_solution done.1 in
        let v = valid-at c.domain c.trees s (not-false _ a.0) in
        let h = v.held done.0 x.0 x.1 x.2 in
        by-solution (shown_tree c.trees s) h.0 (shown s) (ap (shown_by s) x.2 ∙ h.1) (ltb-false _ _ d.0) (let q : moves_at (shown_tree c.trees s) (shown s) ≡ m = cc in q)
