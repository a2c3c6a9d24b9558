-- The reference's step, path and calls are the definitions', on sound trees: the same trees, the same memory, the same answers.
-- Assumes nothing.
use mathlib.Core.Path.{◌≡◌, refl, sym, ap, ap₂, ◌∙◌, subst}
use Rattle.std.specs.declared.option.Option.{Option}
use Rattle.std.specs.Prelude.{None, Some}
use mathlib.Core.Bool.{Bool, true, false, not, ◌&&◌}
use mathlib.Core.List.{List}
use Prim.Native.Nat.{ℕ, ◌+◌, ◌*◌, ◌<◌}
use native.Mathlib.Omega.{arith}
use lib.Dec.{ltb}
use lib.ListN.{length}
use Rattle.model.specs.declared.BestSolution.{BestSolution}
use Rattle.model.specs.declared.TreeMemory.{TreeMemory}
use Rattle.model.specs.declared.Search.{Search}
use Rattle.model.specs.Answers.{answered, refused, solved}
use Rattle.model.specs.Graph.{Domain, Direction, Accepted}
use Rattle.model.specs.Tree.{Tree}
use Rattle.model.specs.Path.{moves_of, words}
use Rattle.model.specs.Sound.{tree, Sound, SoundTrees}
use Rattle.model.specs.Search.{entry, goals, with_exhausted, Walk, rounds, walk, as_best}
use Rattle.model.specs.Valid.{valid}
use Rattle.model.specs.Calls.{Cache, with_trees, or_else, first_fault, initialize_faults, initialize_by, shown_by, shown, shown_tree_by, shown_tree, status_at, final_status, step_if, step_by, step, AfterStep, is_best, solved_already, retrace}
use Rattle.model.specs.Demands.{initializing, stepping, after}
use Rattle.model.specs.Reference.{Path, BestCost, Memory, TreeEntry, retrace_node, turns_of, Stepping, Answered, SearchStatus, Incomplete, Solved, Impossible, in_chart, solved_by, finished, step_when, read_entry, read_solution, read_best, read_memory, trees_when, reply_of, path_words, shown_if, shown_of, path_status}
use Rattle.model.specs.Reference as reference
use Rattle.model.proofs.Faults.{step-if, shown_with, retrace_as, retrace-as, retrace-shown}
use Rattle.model.proofs.Valid.{valid-at}
use Rattle.model.proofs.Retraced.{retrace-words, retrace-moves, retrace-total}
use Rattle.model.proofs.Refines.{initialize-is}
use Rattle.model.proofs.RefinesRead.{Readable, valid-readable, read_count, read-place}
use Rattle.model.proofs.RefinesRound.{read_stepping, rounds-is}

-- ---- a step of a search that is not finished

step-when : (d : Domain) (ts : List Tree) (m : Memory) → reference.step d ts m ≡ step_when m.exhausted d ts m
unfolding reference.step
step-when d ts m = refl

pub read-flag : (d : Domain) (ts : List Tree) (s : Search) → (read_memory d ts s).exhausted ≡ s.exhausted
unfolding read_memory
read-flag d ts s = refl

read-best : (d : Domain) (ts : List Tree) (s : Search) → (read_memory d ts s).best_solution ≡ read_best d ts s s.best_solution
unfolding read_memory
read-best d ts s = refl

read_held : (ts : List Tree) (e : TreeMemory) → (read_entry ts e).solution ≡ read_solution (tree ts e.tree).nodes e.solution
unfolding read_entry
read_held ts e = refl

-- the memory when the turns begin
read-exhausted : (d : Domain) (ts : List Tree) (s : Search)
    → record { trees = (read_memory d ts s).trees; goal_keys = (read_memory d ts s).goal_keys; best_solution = (read_memory d ts s).best_solution; exhausted = true }
    ≡ read_memory d ts (with_exhausted s true)
unfolding read_memory
read-exhausted d ts s =
    ap (λ (o : Option BestCost). record { trees = (read_memory d ts s).trees; goal_keys = goals s; best_solution = o; exhausted = true }) (go s.best_solution)
  where
    go : (o : Option BestSolution) → read_best d ts s o ≡ read_best d ts (with_exhausted s true) o
    go None = refl
    go (Some b) = refl

abbrev unfinished : Stepping → Answered
unfinished r = record { trees = r.trees; memory = r.memory; status = Incomplete }

walk-rounds : (d : Domain) (ts : List Tree) (s : Search)
    → (let w = rounds d s.tree_count 0 (record { trees = ts; search = with_exhausted s true; tickets = 0 }) in unfinished (read_stepping d w.trees w.search))
    ≡ unfinished (read_stepping d (walk d ts s).trees (walk d ts s).search)
unfolding walk
walk-rounds d ts s = refl

module _ (d : Domain) (acc : Accepted d.graph) (ts : List Tree) (s : Search) (ok : SoundTrees d ts) (fine : valid d ts s ≡ true) where
  reads : Readable d ts s
  reads = valid-readable d ts s ok fine

  reads-exhausted : Readable d ts (with_exhausted s true)
  reads-exhausted = record { sized = reads.sized; slots = reads.slots; held = reads.held; best = reads.best }

  pub walk_is : s.exhausted ≡ false
      → reference.step d ts (read_memory d ts s)
      ≡ record { trees = (walk d ts s).trees; memory = read_memory d (walk d ts s).trees (walk d ts s).search; status = Incomplete }
  walk_is e =
      let w : Walk = record { trees = ts; search = with_exhausted s true; tickets = 0 } in
      step-when d ts (read_memory d ts s)
      ∙ ap (λ (x : Bool). step_when x d ts (read_memory d ts s)) (read-flag d ts s ∙ e)
      ∙ ap₂ (λ (k : ℕ) (m : Memory). unfinished (turns_of d k 0 (record { trees = ts; memory = m }))) (read_count d ts s reads) (read-exhausted d ts s)
      ∙ ap unfinished (rounds-is d acc s.tree_count 0 w ok reads-exhausted (omega arith))
      ∙ walk-rounds d ts s

-- ---- a finished search

module _ (d : Domain) (acc : Accepted d.graph) (ts : List Tree) (s : Search) (ok : SoundTrees d ts) (fine : valid d ts s ≡ true) (over : s.exhausted ≡ true) where
  abbrev ending : SearchStatus
  ending = finished d.direction (read_memory d ts s) (read_memory d ts s).best_solution

  -- no best, or the path of the node that the best's entry holds
  data Ending : Type 0 where
    unsolved : s.best_solution ≡ None → ending ≡ Impossible → Ending
    holding : (i n h : ℕ) → s.best_solution ≡ as_best i n → (entry s i).solution ≡ Some h → Sound d (tree ts (entry s i).tree)
        → h < length (tree ts (entry s i).tree).nodes
        → ending ≡ Solved (in_chart d.direction (retrace_node (tree ts (entry s i).tree).nodes h)) → Ending

  end-at : (o : Option BestSolution) → s.best_solution ≡ o → ending ≡ finished d.direction (read_memory d ts s) (read_best d ts s o)
  end-at o e = ap (finished d.direction (read_memory d ts s)) (read-best d ts s ∙ ap (read_best d ts s) e)

  end-held : (i n : ℕ) → s.best_solution ≡ as_best i n → (h : ℕ) → (entry s i).solution ≡ Some h → Ending
  end-held i n e h z =
      let r : Readable d ts s = valid-readable d ts s ok fine in
      let k : i < s.tree_count = (r.best i n e).0 in
      holding i n h e z (ok.each (entry s i).tree (r.slots i k)) (r.held i h k z) (
      end-at (as_best i n) e
      ∙ ap (λ (x : TreeEntry). solved_by d.direction x.solution) (read-place d ts s r i k)
      ∙ ap (solved_by d.direction) (read_held ts (entry s i) ∙ ap (read_solution (tree ts (entry s i).tree).nodes) z)
      )

  end_of : Ending
  end_of = go s.best_solution refl
    where
      go : (o : Option BestSolution) → s.best_solution ≡ o → Ending
      go None e = unsolved e (end-at None e)
      go (Some b) e = let q = (valid-at d ts s fine).held over b.entry b.node e in end-held b.entry b.node e q.0 q.1

  ends-well : Ending → reply_of ending ≡ answered (final_status ts s)
  unfolding final_status
  ends-well (unsolved e z) = ap reply_of z ∙ sym (ap (λ (o : Option BestSolution). answered (status_at (shown_tree_by ts s o) (shown_by s o))) e)
  ends-well (holding i n h e q k l z) =
      let t : Tree = tree ts (entry s i).tree in
      ap reply_of z
      ∙ ap₂ (λ (a b : ℕ). answered (solved a b)) (retrace-total d acc t k h l d.direction) (retrace-moves d acc t k h l d.direction)
      ∙ sym (ap (λ (o : Option BestSolution). answered (status_at (shown_tree_by ts s o) (shown_by s o))) e ∙ ap (λ (o : Option ℕ). answered (status_at t o)) q)

  step-ends : reference.step d ts (read_memory d ts s) ≡ record { trees = ts; memory = read_memory d ts s; status = ending }
  step-ends = step-when d ts (read_memory d ts s) ∙ ap (λ (x : Bool). step_when x d ts (read_memory d ts s)) (read-flag d ts s ∙ over)

  pub finished-is : ((reference.step d ts (read_memory d ts s)).trees ≡ ts)
      × ((reference.step d ts (read_memory d ts s)).memory ≡ read_memory d ts s)
      × (reply_of (reference.step d ts (read_memory d ts s)).status ≡ answered (final_status ts s))
  finished-is = (
    ap (λ (r : Answered). r.trees) step-ends,
    ap (λ (r : Answered). r.memory) step-ends,
    ap (λ (r : Answered). reply_of r.status) step-ends ∙ ends-well end_of,
  )

-- ---- the calls on a cache

-- what the reference answers, r, is what a step of the definitions left, z
pub record StepIs (d : Domain) (r : Answered) (z : AfterStep) : Type 0 where
  pub trees : r.trees ≡ z.cache.trees
  pub memory : r.memory ≡ read_memory d z.cache.trees z.search
  pub reply : reply_of r.status ≡ z.reply

path-shown : (dir : Direction) (t : Tree) (h : ℕ) (x : Path) (p : List ℕ) → length x.sequence ≡ moves_of t.nodes h → path_words x ≡ words dir t.nodes h
    → shown_of (Solved x) p ≡ retrace_as true true dir t (Some h) p
path-shown dir t h x p e f = go (ltb (length p) (1 + 2 * length x.sequence)) ∙ retrace-shown dir t h p (length x.sequence) (path_words x) e f
  where
    go : (q : Bool) → shown_if q x p ≡ shown_with q (length x.sequence) (path_words x) p
    go true = refl
    go false = refl

module _ (c : Cache) (acc : Accepted c.domain.graph) (ok : SoundTrees c.domain c.trees) where
  module _ (s : Search) (fine : valid c.domain c.trees s ≡ true) where
    pub if-is : (x : Bool) → s.exhausted ≡ x → StepIs c.domain (reference.step c.domain c.trees (read_memory c.domain c.trees s)) (step_if x c s)
    if-is true e =
        let r = finished-is c.domain acc c.trees s ok fine e in
        record { trees = r.0; memory = r.1; reply = r.2 }
    if-is false e =
        let r = walk_is c.domain acc c.trees s ok fine e in
        record { trees = ap (λ (r : Answered). r.trees) r; memory = ap (λ (r : Answered). r.memory) r; reply = ap (λ (r : Answered). reply_of r.status) r }

    pub step_is : StepIs c.domain (reference.step c.domain c.trees (read_memory c.domain c.trees s)) (step c s)
    step_is = subst (StepIs c.domain (reference.step c.domain c.trees (read_memory c.domain c.trees s))) (sym (step-if c s fine)) (if-is s.exhausted refl)

    -- ---- a path

    abbrev Shown : SearchStatus → List ℕ → Type 0
    Shown x p = shown_of x p ≡ retrace_as true (solved_already s) c.domain.direction (shown_tree c.trees s) (shown s) p

    unsolved-is : (p : List ℕ) → solved_already s ≡ false → record { reply = refused 9 0; path = p } ≡ retrace_as true (solved_already s) c.domain.direction (shown_tree c.trees s) (shown s) p
    unsolved-is p e = sym (ap (λ (x : Bool). retrace_as true x c.domain.direction (shown_tree c.trees s) (shown s) p) e)

    ending-is : (over : s.exhausted ≡ true) (p : List ℕ) → Ending c.domain acc c.trees s ok fine over → Shown (ending c.domain acc c.trees s ok fine over) p
    ending-is over p (unsolved e z) = ap (λ (x : SearchStatus). shown_of x p) z ∙ unsolved-is p (ap₂ (λ (x : Bool) (o : Option BestSolution). x && is_best o) over e)
    ending-is over p (holding i n h e q k l z) =
        let dir : Direction = c.domain.direction in
        let t : Tree = tree c.trees (entry s i).tree in
        ap (λ (x : SearchStatus). shown_of x p) z
        ∙ path-shown dir t h (in_chart dir (retrace_node t.nodes h)) p (retrace-moves c.domain acc t k h l dir) (retrace-words c.domain acc t k h l dir)
        ∙ sym (
        ap₂ (λ (x : Bool) (o : Option BestSolution). retrace_as true (x && is_best o) dir (shown_tree_by c.trees s o) (shown_by s o) p) over e
        ∙ ap (λ (o : Option ℕ). retrace_as true true dir t o p) q
        )

    pub retrace-is : (p : List ℕ) → shown_of (path_status s.exhausted c.domain.direction (read_memory c.domain c.trees s)) p ≡ retrace c s p
    retrace-is p =
        go s.exhausted refl
        ∙ ap (λ (v : Bool). retrace_as v (solved_already s) c.domain.direction (shown_tree c.trees s) (shown s) p) (sym fine)
        ∙ sym (retrace-as c s p)
      where
        go : (x : Bool) → s.exhausted ≡ x → Shown (path_status x c.domain.direction (read_memory c.domain c.trees s)) p
        go true e = ending-is e p (end_of c.domain acc c.trees s ok fine e)
        go false e = unsolved-is p (ap (λ (x : Bool). x && is_best s.best_solution) e)

  -- ---- the trees that an opening and a step leave

  pub initialize-leaves : (ss gs : List ℕ) → reference.after c (initializing ss gs) ≡ after c (initializing ss gs)
  unfolding reference.after after
  initialize-leaves ss gs = go (first_fault (initialize_faults c ss gs))
    where
      go : (o : Option ℕ) → with_trees c (trees_when o (reference.initialize c.domain c.trees ss gs).trees c.trees) ≡ (initialize_by o c ss gs).cache
      go (Some n) = refl
      go None = ap (λ (r : reference.Opened). with_trees c r.trees) (initialize-is c.domain c.trees ok ss gs)

  pub step-leaves : (s : Search) → reference.after c (stepping s) ≡ after c (stepping s)
  unfolding reference.after after
  step-leaves s = go (valid c.domain c.trees s) refl
    where
      left : List Tree
      left = (reference.step c.domain c.trees (read_memory c.domain c.trees s)).trees

      same : (x : Bool) → with_trees c (step_if x c s).cache.trees ≡ (step_if x c s).cache
      same true = refl
      same false = refl

      go : (v : Bool) → valid c.domain c.trees s ≡ v → with_trees c (trees_when (or_else (not v) 8 None) left c.trees) ≡ (step_by (or_else (not v) 8 None) c s).cache
      go false e = refl
      go true e = ap (with_trees c) (if-is s e s.exhausted refl).trees ∙ same s.exhausted
