-- What is recorded of a turn, part by part: what the entry knows and holds after it, the best, and the mark.
-- Assumes nothing.
use mathlib.Core.Path.{◌≡◌, refl, sym, ap, ◌∙◌}
use Rattle.std.specs.declared.option.Option.{Option}
use Rattle.std.specs.Prelude.{None, Some}
use mathlib.Core.Bool.{Bool, true, false}
use mathlib.Core.List.{List}
use Prim.Native.Nat.{ℕ, suc, ◌+◌}
use native.Mathlib.Omega.{arith}
use native.Mathlib.Nat.{lt_of_not-le}
use native.Mathlib.Decide.{dec_le, ℕ_discrete}
use lib.ListN.{length, get_or, set}
use lib.Seq.{get_or-set_same, get_or-set_other, set_out, set-get_or, set-set}
use Rattle.model.specs.declared.BestSolution.{BestSolution}
use Rattle.model.specs.declared.TreeMemory.{TreeMemory}
use Rattle.model.specs.declared.Search.{Search}
use Rattle.model.specs.Graph.{Domain}
use Rattle.model.specs.Tree.{Node}
use Rattle.model.specs.Sound.{tree}
use Rattle.model.specs.Search.{blank, entry, goals, bound, solution_cost, dearer, cheaper, best_if, remembered, unfinished_if, replaced_unless, replaced, recorded, Turn, turn, Walk, round}
use Rattle.model.specs.Reference.{exhausted_unless}

-- the count that is remembered, where it was known before
abbrev pub known_after : Option ℕ → Option ℕ → Option ℕ
known_after known None = known
known_after known (Some n) = Some n

abbrev pub hold_if : Bool → Option ℕ → ℕ → Option ℕ
hold_if true h n = h
hold_if false h n = Some n

-- the solution held after a find, where h was held
abbrev pub hold : Domain → List Node → Option ℕ → Option ℕ → Option ℕ
hold d ns h None = h
hold d ns h (Some n) = hold_if (dearer d ns n h) h n

-- what a best solution says, where there is one
abbrev pub entry_of_best : Option BestSolution → ℕ
entry_of_best None = 0
entry_of_best (Some b) = b.entry

abbrev pub node_of_best : Option BestSolution → ℕ
node_of_best None = 0
node_of_best (Some b) = b.node

abbrev pub best_by : Bool → Bool → Option BestSolution → ℕ → ℕ → Option BestSolution
best_by true c old i n = old
best_by false c old i n = best_if c old i n

-- the best after a find of entry i, where h was held and b is the bound
abbrev pub best_after : Domain → List Node → Option ℕ → Option ℕ → Option BestSolution → ℕ → Option ℕ → Option BestSolution
best_after d ns b h old i None = old
best_after d ns b h old i (Some n) = best_by (dearer d ns n h) (cheaper (solution_cost d ns n) b) old i n

-- the entry after the turn u
abbrev pub entry_after : Domain → TreeMemory → Turn → TreeMemory
entry_after d e u =
    record { tree = e.tree; last_known_closed_len = known_after e.last_known_closed_len u.known; solution = hold d u.tree.nodes e.solution u.find }

-- the record after the turn u of entry i
abbrev pub after : Domain → Option ℕ → Search → ℕ → Turn → Search
after d b s i u =
    record {
      trees = set s.trees i (entry_after d (entry s i) u);
      tree_count = s.tree_count;
      goal_keys = s.goal_keys;
      goal_count = s.goal_count;
      best_solution = best_after d u.tree.nodes b (entry s i).solution s.best_solution i u.find;
      exhausted = exhausted_unless u.more s.exhausted;
    }

-- entry i as it is read back, past the last entry too
put-twice : (f : TreeMemory → TreeMemory) (l : List TreeMemory) (i : ℕ) (e : TreeMemory) → set (set l i e) i (f (get_or (set l i e) i blank)) ≡ set l i (f e)
put-twice f l i e = elim (dec_le (suc i) (length l)) [
  | yes h ↦ ap (λ (x : TreeMemory). set (set l i e) i (f x)) (get_or-set_same l i e blank h) ∙ set-set l i e (f e)
  | no h ↦ set-set l i e _ ∙ set_out l i _ (omega (arith, lt_of_not-le h)) ∙ sym (set_out l i (f e) (omega (arith, lt_of_not-le h)))
]

-- what is read of entry i stays, where the entry that is put has it
read-put : {A : Type 0} (f : TreeMemory → A) (l : List TreeMemory) (i : ℕ) (e : TreeMemory) → f e ≡ f (get_or l i blank) → f (get_or (set l i e) i blank) ≡ f (get_or l i blank)
read-put f l i e z = elim (dec_le (suc i) (length l)) [
  | yes h ↦ ap f (get_or-set_same l i e blank h) ∙ z
  | no h ↦ ap (λ (x : List TreeMemory). f (get_or x i blank)) (set_out l i e (omega (arith, lt_of_not-le h)))
]

module _ (s : Search) (i : ℕ) where
  abbrev e : TreeMemory
  e = entry s i

  -- the entry that holds h, with the count k; and the record with it, the best and the mark
  abbrev holding : Option ℕ → Option ℕ → TreeMemory
  holding k h = record { tree = e.tree; last_known_closed_len = known_after e.last_known_closed_len k; solution = h }

  abbrev with : List TreeMemory → Option BestSolution → Bool → Search
  with l best x =
      record { trees = l; tree_count = s.tree_count; goal_keys = s.goal_keys; goal_count = s.goal_count; best_solution = best; exhausted = x }

  -- after 3.
  abbrev counted : Option ℕ → Bool → Search
  counted k x = with (set s.trees i (holding k e.solution)) s.best_solution x

  remembered-is : (k : Option ℕ) → remembered s i k ≡ counted k s.exhausted
  remembered-is None = ap (λ (l : List TreeMemory). with l s.best_solution s.exhausted) (sym (set-get_or s.trees i blank))
  remembered-is (Some n) = refl

  unfinished-is : (m : Bool) (k : Option ℕ) → unfinished_if m (counted k s.exhausted) ≡ counted k (exhausted_unless m s.exhausted)
  unfinished-is true k = refl
  unfinished-is false k = refl

  counted_is : (m : Bool) (k : Option ℕ) → unfinished_if m (remembered s i k) ≡ counted k (exhausted_unless m s.exhausted)
  counted_is m k = ap (unfinished_if m) (remembered-is k) ∙ unfinished-is m k

  held_stays : (k : Option ℕ) (x : Bool) → (entry (counted k x) i).solution ≡ e.solution
  held_stays k x = read-put (λ y. y.solution) s.trees i (holding k e.solution) refl

  pub held_kept : (m : Bool) (k : Option ℕ) → (entry (unfinished_if m (remembered s i k)) i).solution ≡ e.solution
  held_kept m k = ap (λ (y : Search). (entry y i).solution) (counted_is m k) ∙ held_stays k (exhausted_unless m s.exhausted)

  -- after 4.
  module _ (d : Domain) (b : Option ℕ) (ns : List Node) (k : Option ℕ) (x : Bool) where
    replaced-is : (f : Option ℕ) → replaced d ns b (counted k x) i f ≡ with (set s.trees i (holding k (hold d ns e.solution f))) (best_after d ns b e.solution s.best_solution i f) x
    replaced-is None = refl
    replaced-is (Some n) = ap (λ (h : Option ℕ). replaced_unless (dearer d ns n h) (counted k x) i n less) (held_stays k x) ∙ go (dearer d ns n e.solution)
      where
        less : Bool
        less = cheaper (solution_cost d ns n) b

        at : TreeMemory → TreeMemory
        at y = record { tree = y.tree; last_known_closed_len = y.last_known_closed_len; solution = Some n }

        go : (dear : Bool) → replaced_unless dear (counted k x) i n less ≡ with (set s.trees i (holding k (hold_if dear e.solution n))) (best_by dear less s.best_solution i n) x
        go true = refl
        go false = ap (λ (l : List TreeMemory). with l (best_if less s.best_solution i n) x) (put-twice at s.trees i (holding k e.solution))

pub recorded-is : (d : Domain) (b : Option ℕ) (s : Search) (i : ℕ) (u : Turn) → recorded d b s i u ≡ after d b s i u
unfolding recorded
recorded-is d b s i u =
    ap (λ (y : Search). replaced d u.tree.nodes b y i u.find) (counted_is s i u.more u.known)
    ∙ replaced-is s i d b u.tree.nodes u.known (exhausted_unless u.more s.exhausted) u.find

-- what is recorded leaves each entry its slot
pub slot_kept : (d : Domain) (b : Option ℕ) (s : Search) (i : ℕ) (u : Turn) (j : ℕ) → (entry (after d b s i u) j).tree ≡ (entry s j).tree
slot_kept d b s i u j = elim (ℕ_discrete j i) [
  | yes z ↦ rw z (read-put (λ y. y.tree) s.trees i (entry_after d (entry s i) u) refl)
  | no z ↦ ap (λ (x : TreeMemory). x.tree) (get_or-set_other s.trees i j (entry_after d (entry s i) u) blank z)
]

-- ---- a round

module _ (d : Domain) (i : ℕ) (w : Walk) where
  abbrev pub turn_in : Turn
  turn_in =
      let s = w.search in
      let e = entry s i in
      turn d (goals s) (bound d w.trees s) (tree w.trees e.tree) e.last_known_closed_len

  abbrev pub round_after : Walk
  round_after =
      let s = w.search in
      record {
        trees = set w.trees (entry s i).tree turn_in.tree;
        search = after d (bound d w.trees s) s i turn_in;
        tickets = w.tickets + turn_in.tickets;
      }

  pub round-after : round d i w ≡ round_after
  unfolding round
  round-after =
      let s = w.search in
      ap (λ (y : Search). record { trees = set w.trees (entry s i).tree turn_in.tree; search = y; tickets = w.tickets + turn_in.tickets }) (recorded-is d (bound d w.trees s) s i turn_in)

  -- counts and goals are as before, and each entry's slot
  pub round-count : (round d i w).search.tree_count ≡ w.search.tree_count
  round-count = ap (λ (x : Walk). x.search.tree_count) round-after

  pub round-goals : goals (round d i w).search ≡ goals w.search
  round-goals = ap (λ (x : Walk). goals x.search) round-after

  pub round-slots : (j : ℕ) → (entry (round d i w).search j).tree ≡ (entry w.search j).tree
  round-slots j = ap (λ (x : Walk). (entry x.search j).tree) round-after ∙ slot_kept d (bound d w.trees w.search) w.search i turn_in j
