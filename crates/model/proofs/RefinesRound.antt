-- The reference's turns over the entries of a search are the definitions' rounds.
-- Assumes nothing.
use mathlib.Core.Path.{◌≡◌, refl, sym, ap, ap₂, ◌∙◌, subst}
use Rattle.std.specs.declared.option.Option.{Option}
use Rattle.std.specs.Prelude.{None, Some}
use mathlib.Core.Logic.{inl, inr, ◌≢◌}
use mathlib.Core.Bool.{Bool, true, false}
use mathlib.Core.List.{List, map}
use Prim.Native.Nat.{ℕ, zero, suc, ◌+◌, ◌<◌, ◌≤◌}
use native.Mathlib.Decide.{ℕ_discrete}
use native.Mathlib.Omega.{arith}
use lib.Dec.{ltb}
use lib.ListN.{length, get_or, set, length-set}
use lib.Seq.{get_or-set_same, get_or-set_other, take-set-lt}
use Rattle.model.specs.declared.BestSolution.{BestSolution}
use Rattle.model.specs.declared.TreeMemory.{TreeMemory}
use Rattle.model.specs.declared.Search.{Search}
use Rattle.model.specs.Graph.{Domain, Accepted}
use Rattle.model.specs.Tree.{Tree, Node, node}
use Rattle.model.specs.Sound.{no_tree, tree, Sound, SoundTrees}
use Rattle.model.specs.Search.{blank, entry, entries, goals, closed_count, dearer, cheaper, best_if, bound_of, bound, solution_cost, Turn, turn, Walk, round, rounds, as_best}
use Rattle.model.specs.Reference.{Path, TreeEntry, no_entry, Memory, get, put, or_no_tree, retrace_node, cost_bound, TurnEnd, turn_end, same_len, look_unless, exhausted_unless, prior_cheaper, best_when, best_after, best_unless, best_turn, solution_unless, solution_turn, Stepping, turn_of, turns_of, read_solution, read_entry, read_best, read_memory}
use Rattle.model.proofs.Worth.{solution-costs}
use Rattle.model.proofs.Later.{Later}
use Rattle.model.proofs.Turns.{hold-from}
use Rattle.model.proofs.Recorded as recorded
use Rattle.model.proofs.Recorded.{entry_of_best, node_of_best, known_after, hold_if, hold, best_by, entry_after, after, slot_kept, round-after, round-count}
use Rattle.model.proofs.Keeps.{AllLater, turn-keeps, turn-set, round_keeps}
use Rattle.model.proofs.Retraced.{retrace-cost}
use Rattle.model.proofs.Refines.{map-set, get-is, put_is}
use Rattle.model.proofs.RefinesGrow.{read_turn, turn_is}
use Rattle.model.proofs.RefinesRead.{Readable, find-in, solution-later, entries-later, best-later, read-place}

-- ---- what is held after a find

module _ (d : Domain) (ns : List Node) where
  -- a path costs what its node is worth
  retraced : (n : ℕ) → (retrace_node ns n).total_cost ≡ solution_cost d ns n
  retraced n = retrace-cost ns n ∙ sym (solution-costs d (node ns n))

  dearer-is : (n : ℕ) (h : Option ℕ) → prior_cheaper (read_solution ns h) (retrace_node ns n) ≡ dearer d ns n h
  dearer-is n None = refl
  dearer-is n (Some m) = ap₂ ltb (retraced m) (retraced n)

  hold-is : (h f : Option ℕ) → solution_turn (read_solution ns h) (read_solution ns f) ≡ read_solution ns (hold d ns h f)
  hold-is h None = refl
  hold-is h (Some n) = ap (λ (q : Bool). solution_unless q (read_solution ns h) (retrace_node ns n)) (dearer-is n h) ∙ go (dearer d ns n h)
    where
      go : (q : Bool) → solution_unless q (read_solution ns h) (retrace_node ns n) ≡ read_solution ns (hold_if q h n)
      go true = refl
      go false = refl

-- ---- a turn of the reference, where its entry and its tree are known

abbrev turn_ends : Domain → Memory → TreeEntry → Tree → TurnEnd
turn_ends d m x t =
    turn_end d m.goal_keys (cost_bound m.best_solution) t x.last_known_closed_len m.exhausted (look_unless (same_len x.last_known_closed_len (closed_count t.closed)) t m.goal_keys)

abbrev turn_leaves : ℕ → List Tree → Memory → TreeEntry → TurnEnd → Stepping
turn_leaves i ts m x y =
    record {
      trees = put ts x.key y.tree;
      memory = record {
        trees = set m.trees i (record { key = x.key; last_known_closed_len = y.known; solution = solution_turn x.solution y.solution });
        goal_keys = m.goal_keys;
        best_solution = best_turn x.solution y.solution m.best_solution i;
        exhausted = y.exhausted;
      };
    }

turn-of : (d : Domain) (i : ℕ) (ts : List Tree) (m : Memory) (x : TreeEntry) (t : Tree) → get_or m.trees i no_entry ≡ x → get ts x.key ≡ Some t
    → turn_of d i (record { trees = ts; memory = m }) ≡ turn_leaves i ts m x (turn_ends d m x t)
unfolding turn_of
turn-of d i ts m x t p q =
    ap (λ (y : TreeEntry). turn_leaves i ts m y (turn_ends d m y (or_no_tree (get ts y.key)))) p
    ∙ ap (λ (o : Option Tree). turn_leaves i ts m x (turn_ends d m x (or_no_tree o))) q

bound-is : (d : Domain) (ts : List Tree) (s : Search) (o : Option BestSolution) → cost_bound (read_best d ts s o) ≡ (bound_of d ts s o)
bound-is d ts s None = refl
bound-is d ts s (Some b) = refl

-- a search and its trees, read as what the reference's turns hand on
abbrev pub read_stepping : Domain → List Tree → Search → Stepping
read_stepping d ts s = record { trees = ts; memory = read_memory d ts s }

-- ---- a round

module _ (d : Domain) (acc : Accepted d.graph) (ts : List Tree) (s : Search) (i : ℕ) (ok : SoundTrees d ts) (r : Readable d ts s) (h : i < s.tree_count) where
  abbrev e : TreeMemory
  e = entry s i

  abbrev t : Tree
  t = tree ts e.tree

  abbrev b : Option ℕ
  b = bound d ts s

  abbrev u : Turn
  u = turn d (goals s) b t e.last_known_closed_len

  abbrev ns' : List Node
  ns' = u.tree.nodes

  abbrev ts' : List Tree
  ts' = set ts e.tree u.tree

  abbrev known' : Option ℕ
  known' = known_after e.last_known_closed_len u.known

  abbrev s' : Search
  s' = after d b s i u

  in-slot : e.tree < length ts
  in-slot = r.slots i h

  sound-t : Sound d t
  sound-t = ok.each e.tree in-slot

  later-u : Later t u.tree
  later-u = (turn-keeps d acc (goals s) b t e.last_known_closed_len sound-t).1

  all-later : AllLater ts ts'
  all-later = (turn-set d acc ts e.tree (goals s) b e.last_known_closed_len ok).1

  now : tree ts' e.tree ≡ u.tree
  now = get_or-set_same ts e.tree u.tree no_tree in-slot

  entry-now : entry s' i ≡ entry_after d e u
  entry-now = get_or-set_same s.trees i (entry_after d e u) blank (omega (arith, r.sized))

  entry_other : (j : ℕ) → j ≢ i → entry s' j ≡ entry s j
  entry_other j z = get_or-set_other s.trees i j (entry_after d e u) blank z

  slot-now : (j : ℕ) → (entry s' j).tree ≡ (entry s j).tree
  slot-now j = slot_kept d (bound d ts s) s i u j

  -- ---- it can be read

  held_in : (n : ℕ) → e.solution ≡ Some n → n < length ns'
  held_in n z = omega (arith, r.held i n h z, later-u.longer)

  hold-in : (n : ℕ) → hold d ns' e.solution u.find ≡ Some n → n < length ns'
  hold-in n z = elim (hold-from d ns' e.solution u.find n z) [
    | inl y ↦ held_in n y
    | inr y ↦ find-in d acc (goals s) b t e.last_known_closed_len sound-t n y
  ]

  -- a node of entry j's tree after the round
  abbrev In : ℕ → ℕ → Type 0
  In j n = n < length (tree ts' (entry s' j).tree).nodes

  in-old : (j n : ℕ) → j < s.tree_count → n < length (tree ts (entry s j).tree).nodes → In j n
  in-old j n k z = rw (slot-now j) (omega (arith, z, (all-later.each (entry s j).tree (r.slots j k)).longer))

  in-new : (n : ℕ) → n < length ns' → In i n
  in-new n z = rw (slot-now i, now) z

  best-in : (o : Option BestSolution) → s.best_solution ≡ o → (f : Option ℕ) → u.find ≡ f
      → (j n : ℕ) → recorded.best_after d ns' b e.solution o i f ≡ as_best j n → (j < s.tree_count) × In j n
  best-in o p None q j n z = let k = r.best j n (p ∙ z) in (k.0, in-old j n k.0 k.1)
  best-in o p (Some m) q j n z = go (dearer d ns' m e.solution) (cheaper (solution_cost d ns' m) b) z
    where
      go : (x y : Bool) → best_by x y o i m ≡ as_best j n → (j < s.tree_count) × In j n
      go true y z = let k = r.best j n (p ∙ z) in (k.0, in-old j n k.0 k.1)
      go false true z =
          let zi : i ≡ j = ap entry_of_best z in
          let zm : m ≡ n = ap node_of_best z in
          subst (λ (x : ℕ). (x < s.tree_count) × In x n) zi (h, subst (λ (x : ℕ). In i x) zm (in-new m (find-in d acc (goals s) b t e.last_known_closed_len sound-t m q)))
      go false false z = let k = r.best j n (p ∙ z) in (k.0, in-old j n k.0 k.1)

  round-readable : Readable d ts' s'
  round-readable =
      record {
        sized = omega (arith, r.sized, length-set s.trees i (entry_after d e u));
        slots = λ j k. rw (slot-now j) (omega (arith, r.slots j k, all-later.longer));
        held = λ j n k z. elim (ℕ_discrete j i) [
          | yes y ↦ subst (λ (x : ℕ). In x n) (sym y) (in-new n (hold-in n (sym (ap (λ (x : TreeMemory). x.solution) entry-now) ∙ subst (λ (x : ℕ). (entry s' x).solution ≡ Some n) y z)))
          | no y ↦ in-old j n k (r.held j n k (sym (ap (λ (x : TreeMemory). x.solution) (entry_other j y)) ∙ z))
        ];
        best = λ j n z. best-in s.best_solution refl u.find refl j n z;
      }

  -- ---- and is read as the reference's memory

  prior-is : read_solution t.nodes e.solution ≡ read_solution ns' e.solution
  prior-is = sym (solution-later d t u.tree sound-t later-u e.solution (λ n z. r.held i n h z))

  entry-is : read_entry ts' (entry_after d e u)
      ≡ record {
        key = t.start;
        last_known_closed_len = known';
        solution = solution_turn (read_solution t.nodes e.solution) (read_solution ns' u.find);
      }
  unfolding read_entry
  entry-is =
      ap (λ (x : Tree). record { key = x.start; last_known_closed_len = known'; solution = read_solution x.nodes (hold d ns' e.solution u.find) }) now
      ∙ ap₂ (λ (v : ℕ) (p : Option Path). record { key = v; last_known_closed_len = known'; solution = p }) later-u.start
      (sym (hold-is d ns' e.solution u.find) ∙ ap (λ (p : Option Path). solution_turn p (read_solution ns' u.find)) (sym prior-is))

  entries-is : map (read_entry ts') (entries s')
      ≡ set (map (read_entry ts) (entries s)) i
      (record { key = t.start; last_known_closed_len = known'; solution = solution_turn (read_solution t.nodes e.solution) (read_solution ns' u.find) })
  entries-is =
      ap (map (read_entry ts')) (take-set-lt s.tree_count s.trees i (entry_after d e u) h)
      ∙ map-set (read_entry ts') (entries s) i (entry_after d e u)
      ∙ ap₂ (λ (es : List TreeEntry) (x : TreeEntry). set es i x) (entries-later d ts ts' ok all-later s r) entry-is

  best-kept : read_best d ts' s' s.best_solution ≡ read_best d ts s s.best_solution
  best-kept = go s.best_solution ∙ best-later d ts ts' ok all-later s r
    where
      go : (o : Option BestSolution) → read_best d ts' s' o ≡ read_best d ts' s o
      go None = refl
      go (Some b) = ap (λ (x : ℕ). Some (record { entry = b.entry; cost = solution_cost d (tree ts' x).nodes b.node })) (slot-now b.entry)

  best-new : (n : ℕ) → read_best d ts' s' (as_best i n) ≡ Some (record { entry = i; cost = solution_cost d ns' n })
  best-new n =
      ap (λ (x : ℕ). Some (record { entry = i; cost = solution_cost d (tree ts' x).nodes n })) (slot-now i)
      ∙ ap (λ (x : Tree). Some (record { entry = i; cost = solution_cost d x.nodes n })) now

  best-is : best_turn (read_solution t.nodes e.solution) (read_solution ns' u.find) (read_best d ts s s.best_solution) i ≡ read_best d ts' s' s'.best_solution
  best-is =
      ap (λ (p : Option Path). best_turn p (read_solution ns' u.find) (read_best d ts s s.best_solution) i) prior-is ∙ go s.best_solution refl u.find
    where
      at : (o : Option BestSolution) → s.best_solution ≡ o → (n : ℕ)
          → best_after (read_best d ts s o) i (solution_cost d ns' n) ≡ read_best d ts' s' (best_if (cheaper (solution_cost d ns' n) (bound_of d ts s o)) o i n)
      at None z n = sym (best-new n)
      at (Some b) z n = pick (ltb (solution_cost d ns' n) (solution_cost d (tree ts (entry s b.entry).tree).nodes b.node))
        where
          pick : (q : Bool) → best_when q i (solution_cost d ns' n) (record { entry = b.entry; cost = solution_cost d (tree ts (entry s b.entry).tree).nodes b.node }) ≡ read_best d ts' s' (best_if q (as_best b.entry b.node) i n)
          pick true = sym (best-new n)
          pick false = sym (subst (λ (o : Option BestSolution). read_best d ts' s' o ≡ read_best d ts s o) z best-kept)

      go : (o : Option BestSolution) → s.best_solution ≡ o → (f : Option ℕ)
          → best_turn (read_solution ns' e.solution) (read_solution ns' f) (read_best d ts s o) i ≡ read_best d ts' s' (recorded.best_after d ns' (bound_of d ts s o) e.solution o i f)
      go o z None = sym (subst (λ (o : Option BestSolution). read_best d ts' s' o ≡ read_best d ts s o) z best-kept)
      go o z (Some n) = ap (λ (q : Bool). best_unless q (read_best d ts s o) i (retrace_node ns' n)) (dearer-is d ns' n e.solution) ∙ unless (dearer d ns' n e.solution)
        where
          unless : (q : Bool) → best_unless q (read_best d ts s o) i (retrace_node ns' n) ≡ read_best d ts' s' (best_by q (cheaper (solution_cost d ns' n) (bound_of d ts s o)) o i n)
          unless true = sym (subst (λ (o : Option BestSolution). read_best d ts' s' o ≡ read_best d ts s o) z best-kept)
          unless false = ap (best_after (read_best d ts s o) i) (retraced d ns' n) ∙ at o z n

  ends_is : turn_ends d (read_memory d ts s) (read_entry ts e) t ≡ read_turn e.last_known_closed_len u s.exhausted
  unfolding read_memory read_entry
  ends_is =
      ap (λ (o : Option ℕ). turn_end d (goals s) o t e.last_known_closed_len s.exhausted
      (look_unless (same_len e.last_known_closed_len (closed_count t.closed)) t (goals s)))
      (bound-is d ts s s.best_solution)
      ∙ turn_is d (goals s) b acc t e.last_known_closed_len s.exhausted sound-t

  leaves-is : turn_leaves i ts (read_memory d ts s) (read_entry ts e) (read_turn e.last_known_closed_len u s.exhausted) ≡ read_stepping d ts' s'
  unfolding read_memory read_entry
  leaves-is = λ k. record {
    trees = put_is d ts ok e.tree in-slot u.tree k;
    memory = record { trees = sym entries-is k; goal_keys = goals s; best_solution = best-is k; exhausted = exhausted_unless u.more s.exhausted };
  }

  turned-is : turn_of d i (read_stepping d ts s) ≡ read_stepping d ts' s'
  turned-is =
      turn-of d i ts (read_memory d ts s) (read_entry ts e) t (read-place d ts s r i h) (unfold read_entry in (get-is d ts ok e.tree in-slot))
      ∙ ap (turn_leaves i ts (read_memory d ts s) (read_entry ts e)) ends_is
      ∙ leaves-is

-- ---- rounds

module _ (d : Domain) (acc : Accepted d.graph) where
  pub round_is : (i : ℕ) (w : Walk) → SoundTrees d w.trees → Readable d w.trees w.search → i < w.search.tree_count
      → turn_of d i (read_stepping d w.trees w.search) ≡ read_stepping d (round d i w).trees (round d i w).search
  round_is i w ok r h =
      turned-is d acc w.trees w.search i ok r h ∙ ap (λ (x : Walk). read_stepping d x.trees x.search) (sym (round-after d i w))

  pub round-reads : (i : ℕ) (w : Walk) → SoundTrees d w.trees → Readable d w.trees w.search → i < w.search.tree_count
      → Readable d (round d i w).trees (round d i w).search
  round-reads i w ok r h =
      subst (λ (x : Walk). Readable d x.trees x.search) (sym (round-after d i w)) (round-readable d acc w.trees w.search i ok r h)

  pub rounds-is : (k i : ℕ) (w : Walk) → SoundTrees d w.trees → Readable d w.trees w.search → i + k ≤ w.search.tree_count
      → turns_of d k i (read_stepping d w.trees w.search) ≡ read_stepping d (rounds d k i w).trees (rounds d k i w).search
  unfolding turns_of rounds
  rounds-is zero i w ok r h = refl
  rounds-is (suc k) i w ok r h =
      let g : i < w.search.tree_count = omega arith in
      ap (turns_of d k (suc i)) (round_is i w ok r g) ∙ rounds-is k (suc i) (round d i w) (round_keeps d acc i w ok).0 (round-reads i w ok r g) (omega (arith, round-count d i w))
