-- A search whose slots are trees and whose solutions are nodes of them is read as the reference's memory, and is read the same in later trees.
-- Assumes nothing.
use mathlib.Core.Path.{◌≡◌, refl, ap, ap₂, ◌∙◌}
use Rattle.std.specs.declared.option.Option.{Option}
use Rattle.std.specs.Prelude.{None, Some}
use mathlib.Core.Logic.{inl, inr}
use mathlib.Core.Bool.{Bool, true, false}
use mathlib.Core.List.{List, map}
use Prim.Native.Nat.{ℕ, ◌<◌, ◌≤◌}
use native.Mathlib.Omega.{arith}
use lib.ListN.{length, get_or, length-map}
use Rattle.model.specs.declared.BestSolution.{BestSolution}
use Rattle.model.specs.declared.Search.{Search}
use Rattle.model.specs.Graph.{Domain, Accepted}
use Rattle.model.specs.Worth.{solution_cost_of}
use Rattle.model.specs.Tree.{Tree, Node, Going, on, found, over, Growth, grow}
use Rattle.model.specs.Sound.{tree, Sound, SoundTrees}
use Rattle.model.specs.Search.{blank, entry, entries, goals, closed_count, lookup, lookup_if, remembers, find_of, turn_by, turn, as_best}
use Rattle.model.specs.Valid.{valid}
use Rattle.model.specs.Reference.{Path, TreeEntry, no_entry, BestCost, read_solution, read_entry, read_best, read_memory}
use Rattle.model.proofs.Later.{Later}
use Rattle.model.proofs.Later as growing
use Rattle.model.proofs.Turns.{unsolved-at, cheapest-is, Holds}
use Rattle.model.proofs.Valid.{entries-length, entries_at, Valid, valid-at}
use Rattle.model.proofs.Keeps.{AllLater}
use Rattle.model.proofs.Retraced.{retrace-later}
use Rattle.model.proofs.Refines.{map-ext, map_at}

-- ---- a search that can be read: its slots are trees, and what it holds are nodes of them

pub record Readable (d : Domain) (ts : List Tree) (s : Search) : Type 0 where
  pub sized : s.tree_count ≤ length s.trees
  pub slots : (i : ℕ) → i < s.tree_count → (entry s i).tree < length ts
  pub held : (i n : ℕ) → i < s.tree_count → (entry s i).solution ≡ Some n → n < length (tree ts (entry s i).tree).nodes
  pub best : (i n : ℕ) → s.best_solution ≡ as_best i n → (i < s.tree_count) × (n < length (tree ts (entry s i).tree).nodes)

pub valid-readable : (d : Domain) (ts : List Tree) (s : Search) → SoundTrees d ts → valid d ts s ≡ true → Readable d ts s
valid-readable d ts s ok fine =
    let v : Valid d ts s = valid-at d ts s fine in
    let inside : (i n : ℕ) → i < s.tree_count → Holds (goals s) (tree ts (entry s i).tree) n → n < length (tree ts (entry s i).tree).nodes =
    λ i n h k. ((ok.each (entry s i).tree (v.slots i h)).closer _ n k.closes).0 in
    record {
      sized = omega (arith, v.arrays, v.counts);
      slots = v.slots;
      held = λ i n h e. inside i n h (v.closes i h n e);
      best = λ i n e. let q = v.best i n e in (q.0, inside i n q.0 q.1);
    }

-- ---- a find is a node of the tree that the turn leaves

module _ (d : Domain) (acc : Accepted d.graph) (gs : List ℕ) (b : Option ℕ) (t : Tree) (known : Option ℕ) (ok : Sound d t) where
  lookup-in : (n : ℕ) → lookup d t gs known ≡ Some n → n < length t.nodes
  unfolding lookup
  lookup-in n e = go (remembers known (closed_count t.closed)) e
    where
      go : (q : Bool) → lookup_if q d t.nodes t.closed gs ≡ Some n → n < length t.nodes
      go true z = absurd (unsolved-at n z)
      go false z = elim ((cheapest-is d t.nodes t.closed gs None).from n z) [ inl y ↦ absurd (unsolved-at n y) | inr y ↦ (ok.closer y.0 n y.2).0 ]

  abbrev growth : Growth
  growth = grow d gs b 10 (record { tree = t; tickets = 0; going = on })

  found_in_lem : (n : ℕ) (g : Going) → growing.Gone gs growth.tree.nodes t.closed growth.tree.closed g → find_of g ≡ Some n → n < length growth.tree.nodes
  found_in_lem n on f e = absurd (unsolved-at n e)
  found_in_lem n (found m) f e = let z : m ≡ n = cc in rw z at ((growing.grown d acc gs b t ok 10).sound.closer _ m f.closes).0
  found_in_lem n over f e = absurd (unsolved-at n e)

  pub find-in : (n : ℕ) → (turn d gs b t known).find ≡ Some n → n < length (turn d gs b t known).tree.nodes
  unfolding turn
  find-in n e = go (lookup d t gs known) refl e
    where
      go : (o : Option ℕ) → lookup d t gs known ≡ o → (turn_by d gs b t o).find ≡ Some n → n < length (turn_by d gs b t o).tree.nodes
      go (Some m) z e = lookup-in n (z ∙ e)
      go None z e = found_in_lem n growth.going (growing.grown d acc gs b t ok 10).gone e

-- ---- in later trees a search is read as before

pub read_count : (d : Domain) (ts : List Tree) (s : Search) → Readable d ts s → length (read_memory d ts s).trees ≡ s.tree_count
unfolding read_memory
read_count d ts s r = length-map (entries s) (read_entry ts) ∙ entries-length s r.sized

pub read-place : (d : Domain) (ts : List Tree) (s : Search) → Readable d ts s → (i : ℕ) → i < s.tree_count → get_or (read_memory d ts s).trees i no_entry ≡ read_entry ts (entry s i)
unfolding read_memory
read-place d ts s r i h =
    map_at (read_entry ts) (entries s) i blank no_entry (omega (arith, entries-length s r.sized))
    ∙ ap (read_entry ts) (entries_at s r.sized i h)

module _ (d : Domain) (t t' : Tree) (ok : Sound d t) (l : Later t t') where
  pub solution-later : (o : Option ℕ) → ((n : ℕ) → o ≡ Some n → n < length t.nodes) → read_solution t'.nodes o ≡ read_solution t.nodes o
  solution-later None f = refl
  solution-later (Some n) f = ap Some (retrace-later d t t' ok l n (f n refl))

module _ (d : Domain) (ts ts' : List Tree) (ok : SoundTrees d ts) (l : AllLater ts ts') (s : Search) (r : Readable d ts s) where
  entry-later : (i : ℕ) → i < s.tree_count → read_entry ts' (entry s i) ≡ read_entry ts (entry s i)
  unfolding read_entry
  entry-later i h =
      let k : (entry s i).tree < length ts = r.slots i h in
      let z = l.each (entry s i).tree k in
      ap₂ (λ (v : ℕ) (p : Option Path). record { key = v; last_known_closed_len = (entry s i).last_known_closed_len; solution = p }) z.start
      (solution-later d (tree ts (entry s i).tree) (tree ts' (entry s i).tree) (ok.each (entry s i).tree k) z (entry s i).solution (λ n e. r.held i n h e))

  pub entries-later : map (read_entry ts') (entries s) ≡ map (read_entry ts) (entries s)
  entries-later = map-ext (read_entry ts') (read_entry ts) (entries s) blank (λ i h.
      let k : i < s.tree_count = omega (arith, entries-length s r.sized) in
      rw (entries_at s r.sized i k) (entry-later i k))

  pub best-later : read_best d ts' s s.best_solution ≡ read_best d ts s s.best_solution
  best-later = go s.best_solution refl
    where
      go : (o : Option BestSolution) → s.best_solution ≡ o → read_best d ts' s o ≡ read_best d ts s o
      go None e = refl
      go (Some b) e =
          let k = r.best b.entry b.node e in
          ap (λ (x : Node). Some (record { entry = b.entry; cost = solution_cost_of d x })) ((l.each (entry s b.entry).tree (r.slots b.entry k.0)).keeps b.node k.1)

  pub read-later : read_memory d ts' s ≡ read_memory d ts s
  unfolding read_memory
  read-later = ap₂ (λ (es : List TreeEntry) (o : Option BestCost). record { trees = es; goal_keys = goals s; best_solution = o; exhausted = s.exhausted }) entries-later best-later
