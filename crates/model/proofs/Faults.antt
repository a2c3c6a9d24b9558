-- The calls by their tests: what is known of a call that is not refused, and how a step and a retrace go on.
-- Assumes nothing.
use mathlib.Core.Path.{◌≡◌, refl, sym, ap, ap₂, ◌∙◌}
use Rattle.std.proofs.lemmas.Option.{none-some}
use Rattle.std.specs.declared.option.Option.{Option}
use Rattle.std.specs.Prelude.{None, Some}
use mathlib.Core.Bool.{Bool, true, false, not}
use mathlib.Core.List.{List}
use Prim.Native.Nat.{ℕ, ◌+◌, ◌-◌, ◌*◌, ◌<◌, ◌≤◌}
use borrow.Author.Tests.{ltb-false, leb-true, not-false}
use lib.Dec.{leb, ltb}
use lib.ListN.{length}
use Rattle.model.specs.declared.Search.{Search}
use Rattle.model.specs.Lists.{mem, all_below}
use Rattle.model.specs.Answers.{answered, refused}
use Rattle.model.specs.Graph.{Direction, forward, backward, vertex_count}
use Rattle.model.specs.Tree.{Tree}
use Rattle.model.specs.Path.{moves_of, words}
use Rattle.model.specs.Search.{roots_of}
use Rattle.model.specs.Valid.{valid}
use Rattle.model.specs.Calls.{Cache, or_else, first_fault, planted_for, initialize_faults, initialize_by, initialize, shown, shown_tree, step_if, step_by, step, AfterRetrace, solved_already, moves_at, words_at, written, retrace_faults, retrace_by, retrace}
use Rattle.model.proofs.Bools.{and-true, all-below}
use Rattle.model.proofs.Replies.{answered-refused}

-- ---- opening a search

-- no fault: none of them is given
pub or-none : (b : Bool) (n : ℕ) (o : Option ℕ) → or_else b n o ≡ None → (b ≡ false) × (o ≡ None)
or-none true n o e = absurd (none-some n (sym e))
or-none false n o e = (refl, e)

pub record MayInitialize (c : Cache) (ss gs : List ℕ) : Type 0 where
  pub few_starts : length ss ≤ 64
  pub few_goals : length gs ≤ 64
  pub starts_below : all_below (vertex_count c.domain.graph) ss ≡ true
  pub goals_below : all_below (vertex_count c.domain.graph) gs ≡ true
  pub room : length (planted_for c ss gs).trees - length c.trees ≤ c.slots - length c.trees

pub may-initialize : (c : Cache) (ss gs : List ℕ) → first_fault (initialize_faults c ss gs) ≡ None → MayInitialize c ss gs
may-initialize c ss gs e =
    let r = or-none _ _ _ e in
    let q = or-none _ _ _ r.1 in
    let p = or-none _ _ _ q.1 in
    let lists = and-true (leb (length ss) 64) (leb (length gs) 64) (not-false _ r.0) in
    let below = and-true (all_below (vertex_count c.domain.graph) ss) (all_below (vertex_count c.domain.graph) gs) (not-false _ q.0) in
    record { few_starts = leb-true _ _ lists.0; few_goals = leb-true _ _ lists.1; starts_below = below.0; goals_below = below.1; room = ltb-false _ _ p.0 }

pub roots-below : (dir : Direction) (c : Cache) (ss gs : List ℕ) → MayInitialize c ss gs → (v : ℕ) → mem v (roots_of dir ss gs) ≡ true → v < vertex_count c.domain.graph
roots-below forward c ss gs m v e = all-below _ ss m.starts_below v e
roots-below backward c ss gs m v e = all-below _ gs m.goals_below v e

-- an accepted opening has no fault
pub no-fault : (c : Cache) (ss gs : List ℕ) → (initialize c ss gs).reply ≡ answered tt → first_fault (initialize_faults c ss gs) ≡ None
unfolding initialize
no-fault c ss gs e = go (first_fault (initialize_faults c ss gs)) refl e
  where
    go : (o : Option ℕ) → first_fault (initialize_faults c ss gs) ≡ o → (initialize_by o c ss gs).reply ≡ answered tt → first_fault (initialize_faults c ss gs) ≡ None
    go None p q = p
    go (Some n) p q = absurd (answered-refused tt n 0 (sym q))

-- ---- a step

-- a record that is not refused
pub step-if : (c : Cache) (s : Search) → valid c.domain c.trees s ≡ true → step c s ≡ step_if s.exhausted c s
unfolding step
step-if c s fine = ap (λ (v : Bool). step_by (or_else (not v) 8 None) c s) fine

-- ---- a retrace

-- by its tests, and by the tree and the solution shown
abbrev pub shown_as : Option ℕ → Direction → Tree → Option ℕ → List ℕ → AfterRetrace
shown_as (Some n) dir t o p = record { reply = refused n 0; path = p }
shown_as None dir t o p = record { reply = answered (moves_at t o); path = written (words_at dir t o) p }

abbrev pub retrace_as : Bool → Bool → Direction → Tree → Option ℕ → List ℕ → AfterRetrace
retrace_as v x dir t o p = shown_as (or_else (not v) 8 (or_else (not x) 9 (or_else (ltb (length p) (1 + 2 * moves_at t o)) 10 None))) dir t o p

pub retrace-as : (c : Cache) (s : Search) (p : List ℕ)
    → retrace c s p ≡ retrace_as (valid c.domain c.trees s) (solved_already s) c.domain.direction (shown_tree c.trees s) (shown s) p
unfolding retrace
retrace-as c s p = go (first_fault (retrace_faults c s p))
  where
    go : (o : Option ℕ) → retrace_by o c s p ≡ shown_as o c.domain.direction (shown_tree c.trees s) (shown s) p
    go None = refl
    go (Some n) = refl

-- by the moves and the words shown
abbrev pub shown_with : Bool → ℕ → List ℕ → List ℕ → AfterRetrace
shown_with true m ws p = record { reply = refused 10 0; path = p }
shown_with false m ws p = record { reply = answered m; path = written ws p }

pub retrace-shown : (dir : Direction) (t : Tree) (n : ℕ) (p : List ℕ) (m : ℕ) (ws : List ℕ) → m ≡ moves_of t.nodes n → ws ≡ words dir t.nodes n
    → shown_with (ltb (length p) (1 + 2 * m)) m ws p ≡ retrace_as true true dir t (Some n) p
retrace-shown dir t n p m ws e f = ap₂ (λ (k : ℕ) (l : List ℕ). shown_with (ltb (length p) (1 + 2 * k)) k l p) e f ∙ go (ltb (length p) (1 + 2 * moves_of t.nodes n))
  where
    go : (q : Bool) → shown_with q (moves_of t.nodes n) (words dir t.nodes n) p ≡ shown_as (or_else q 10 None) dir t (Some n) p
    go true = refl
    go false = refl
