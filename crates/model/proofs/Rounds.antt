-- A step of a search on its own record: what the search knows stays true, and what a finished step means.
-- Assumes nothing.
use mathlib.Core.Path.{◌≡◌, refl, sym, ap, ◌∙◌, subst}
use Rattle.std.specs.declared.option.Option.{Option}
use Rattle.std.specs.Prelude.{None, Some}
use mathlib.Core.Logic.{◌⊎◌, inl, inr}
use mathlib.Core.Bool.{Bool, true, false, true≢false}
use mathlib.Core.List.{List}
use Prim.Native.Nat.{ℕ, zero, suc, ◌+◌, ◌<◌, ◌≤◌}
use native.Mathlib.Omega.{arith}
use native.Mathlib.Decide.{ℕ_discrete}
use lib.ListN.{length, set, length-set}
use Rattle.model.specs.declared.BestSolution.{BestSolution}
use Rattle.model.specs.declared.TreeMemory.{TreeMemory}
use Rattle.model.specs.declared.Search.{Search}
use Rattle.model.specs.Lists.{mem, all_below}
use Rattle.model.specs.Graph.{Domain, Accepted, Leads, vertex_count}
use Rattle.model.specs.Worth.{Node, solution_cost_of, solution_cost}
use Rattle.model.specs.Tree.{Tree}
use Rattle.model.specs.Sound.{tree, SoundTrees}
use Rattle.model.specs.Search.{entry, goals, with_exhausted, bound_of, bound, Turn, turn, Walk, round, rounds, walk}
use Rattle.model.proofs.Worth.{path_worth}
use Rattle.model.proofs.Turns.{Upto, Holds, holds_later, Known, known-later, Under, under-le, Turned, turned}
use Rattle.model.specs.Reference.{exhausted_unless}
use Rattle.model.proofs.Recorded.{hold, entry_after, after, slot_kept, turn_in, round_after, round-after}
use Rattle.model.proofs.Keeps.{AllLater, all-refl, all-trans, Keeps}
use Rattle.model.proofs.Holding.{Holding, same-node}
use Rattle.model.proofs.Holding as holding

-- ---- what a search's own record keeps

-- e is good for the trees ts, the goals gs and the bound b; O holds of the slots of the search's own trees
pub record EntryOk (O : ℕ → Type 0) (d : Domain) (gs : List ℕ) (ts : List Tree) (b : Option ℕ) (e : TreeMemory) : Type 0 where
  pub own : O e.tree
  pub inside : e.tree < length ts
  pub known : Known d gs (tree ts e.tree) e.last_known_closed_len e.solution
  pub low : (n : ℕ) → e.solution ≡ Some n → Under b (solution_cost d (tree ts e.tree).nodes n)

-- the best, at node n of entry i: the entry holds a solution of that cost
pub record BestOk (d : Domain) (gs : List ℕ) (ts : List Tree) (s : Search) (i n : ℕ) : Type 0 where
  pub counted : i < s.tree_count
  pub holds : Holds gs (tree ts (entry s i).tree) n
  pub h : ℕ
  pub held : (entry s i).solution ≡ Some h
  pub level : solution_cost d (tree ts (entry s i).tree).nodes h ≡ solution_cost d (tree ts (entry s i).tree).nodes n

abbrev pub BestsOk : Domain → List ℕ → List Tree → Search → Option BestSolution → Type 0
BestsOk d gs ts s None = Unit {0}
BestsOk d gs ts s (Some b) = BestOk d gs ts s b.entry b.node

pub record Ready (O : ℕ → Type 0) (d : Domain) (ts : List Tree) (s : Search) : Type 0 where
  pub arrays : length s.trees ≡ 64
  pub counts : s.tree_count ≤ 64
  pub keys : length s.goal_keys ≡ 64
  pub key_counts : s.goal_count ≤ 64
  pub below : all_below (vertex_count d.graph) (goals s) ≡ true
  pub entries : (j : ℕ) → j < s.tree_count → EntryOk O d (goals s) ts (bound d ts s) (entry s j)
  pub best : BestsOk d (goals s) ts s s.best_solution

-- ---- in later trees

module _ (O : ℕ → Type 0) (d : Domain) (gs : List ℕ) (ts ts' : List Tree) (ok : SoundTrees d ts) (l : AllLater ts ts') where
  pub entry-later : (b b' : Option ℕ) → ((k : ℕ) → Under b k → Under b' k) → (e : TreeMemory) → EntryOk O d gs ts b e → EntryOk O d gs ts' b' e
  entry-later b b' f e k =
      record {
        own = k.own;
        inside = omega (arith, l.longer, k.inside);
        known = known-later gs (tree ts e.tree) (tree ts' e.tree) e.last_known_closed_len e.solution (ok.each e.tree k.inside) (l.each e.tree k.inside) k.known;
        low = λ n z. rw (same-node d gs ts ts' ok l e.tree n k.inside (k.known.holds n z)) (f _ (k.low n z));
      }

  pub best-later : (s : Search) → ((j : ℕ) → j < s.tree_count → (entry s j).tree < length ts) → (i n : ℕ) → BestOk d gs ts s i n → ((m : ℕ) → (entry s i).solution ≡ Some m → Holds gs (tree ts (entry s i).tree) m) → BestOk d gs ts' s i n
  best-later s inside i n k f =
      let h = inside i k.counted in
      record {
        counted = k.counted;
        holds = holds_later gs (tree ts (entry s i).tree) (tree ts' (entry s i).tree) n (ok.each _ h) (l.each _ h) k.holds;
        h = k.h;
        held = k.held;
        level = rw (same-node d gs ts ts' ok l _ n h k.holds, same-node d gs ts ts' ok l _ k.h h (f k.h k.held)) k.level;
      }

module _ (O : ℕ → Type 0) (d : Domain) (ts ts' : List Tree) (ok : SoundTrees d ts) (l : AllLater ts ts') (s : Search) (r : Ready O d ts s) where
  pub bound-later : bound d ts' s ≡ bound d ts s
  bound-later = go s.best_solution r.best
    where
      go : (x : Option BestSolution) → BestsOk d (goals s) ts s x → bound_of d ts' s x ≡ bound_of d ts s x
      go None k = refl
      go (Some b) k = ap (λ (x : Node). Some (solution_cost_of d x)) (same-node d (goals s) ts ts' ok l _ b.node (r.entries b.entry k.counted).inside k.holds)

  pub ready-later : Ready O d ts' s
  ready-later =
      record {
        arrays = r.arrays;
        counts = r.counts;
        keys = r.keys;
        key_counts = r.key_counts;
        below = r.below;
        entries = λ j h. entry-later O d (goals s) ts ts' ok l (bound d ts s) (bound d ts' s) (λ k u. rw bound-later u) (entry s j) (r.entries j h);
        best = go s.best_solution r.best;
      }
    where
      go : (x : Option BestSolution) → BestsOk d (goals s) ts s x → BestsOk d (goals s) ts' s x
      go None k = tt
      go (Some b) k = best-later O d (goals s) ts ts' ok l s (λ j h. (r.entries j h).inside) b.entry b.node k (r.entries b.entry k.counted).known.holds

-- ---- one round

-- every path from the start of the tree in the slot i to a goal is worth at least b
abbrev pub Covered : Domain → List ℕ → List Tree → Option ℕ → ℕ → Type 0
Covered d gs ts b i =
    (v : ℕ) (ls : List ℕ) → mem v gs ≡ true → Leads d.graph (tree ts i).start ls v → Under b (path_worth d (tree ts i).start ls v)

-- tree i gave tickets
pub record Gave (ts ts' : List Tree) (i : ℕ) : Type 0 where
  pub inside : i < length ts
  pub gave : length (tree ts i).nodes + length (tree ts' i).waiting < length (tree ts' i).nodes + length (tree ts i).waiting

module _ (O : ℕ → Type 0) (d : Domain) (acc : Accepted d.graph) (ts : List Tree) (s : Search) (ok : SoundTrees d ts) (r : Ready O d ts s) (i : ℕ) (hi : i < s.tree_count) where
  abbrev gs : List ℕ
  gs = goals s

  abbrev e : TreeMemory
  e = entry s i

  abbrev b : Option ℕ
  b = bound d ts s

  abbrev u : Turn
  u = turn d (goals s) (bound d ts s) (tree ts (entry s i).tree) (entry s i).last_known_closed_len

  abbrev ns : List Node
  ns = u.tree.nodes

  abbrev ts₁ : List Tree
  ts₁ = set ts (entry s i).tree u.tree

  abbrev s₁ : Search
  s₁ = after d (bound d ts s) s i u

  abbrev b₁ : Option ℕ
  b₁ = bound d ts₁ s₁

  ke : EntryOk O d gs ts b e
  ke = r.entries i hi

  T : Turned d gs b (tree ts e.tree) e.last_known_closed_len e.solution u
  T = turned d acc gs b (tree ts e.tree) (ok.each e.tree ke.inside) e.last_known_closed_len e.solution ke.known

  -- what the entries hold, before and after
  holds-before : Holding d ts s
  holds-before =
      record {
        arrays = r.arrays;
        counts = r.counts;
        entries = λ j h. let k = r.entries j h in record { inside = k.inside; holds = k.known.holds; low = k.low };
        best = λ j n z. let k : BestOk d gs ts s j n = subst (BestsOk d gs ts s) z r.best in (k.counted, k.holds);
      }

  holds_after : Holding d ts₁ s₁
  holds_after = holding.after-round d acc ts s ok holds-before i hi

  pub round-kept : Keeps d ts ts₁
  round-kept = holding.kept d acc ts s ok holds-before i hi

  at : tree ts₁ e.tree ≡ u.tree
  at = holding.at d acc ts s ok holds-before i hi

  pub round-slot : (j : ℕ) → (entry s₁ j).tree ≡ (entry s j).tree
  round-slot j = slot_kept d (bound d ts s) s i u j

  pub round-lower : (k : ℕ) → Under b k → Under b₁ k
  round-lower = holding.lower d acc ts s ok holds-before i hi

  known-now : (j : ℕ) → j < s.tree_count → Known d gs (tree ts₁ (entry s₁ j).tree) (entry s₁ j).last_known_closed_len (entry s₁ j).solution
  known-now j h = elim (ℕ_discrete j i) [
    | yes z ↦ rw (z, holding.entry-i d acc ts s ok holds-before i hi)
        (subst (λ (t : Tree). Known d gs t (entry_after d e u).last_known_closed_len (hold d ns e.solution u.find)) (sym at) T.known)
    | no z ↦
        let k = r.entries j h in
        rw (holding.entry-j d acc ts s ok holds-before i hi j z) (known-later gs _ _ _ _ (ok.each _ k.inside) (round-kept.1.each _ k.inside) k.known)
  ]

  entries-ok : (j : ℕ) → j < s.tree_count → EntryOk O d gs ts₁ b₁ (entry s₁ j)
  entries-ok j h =
      let k = holds_after.entries j h in
      record { own = rw (round-slot j) (r.entries j h).own; inside = k.inside; known = known-now j h; low = k.low }

  best-ok : BestsOk d gs ts₁ s₁ s₁.best_solution
  best-ok = elim (holding.best-cases d acc ts s ok holds-before i hi) [
    | inl x ↦ subst (BestsOk d gs ts₁ s₁) (sym x.best) (old x s.best_solution refl r.best)
    | inr x ↦ subst (BestsOk d gs ts₁ s₁) (sym x.best) (new x)
  ]
    where
      -- the entry of the best as it was still holds a solution of its cost
      old : holding.Stays d acc ts s ok holds-before i hi → (x : Option BestSolution) → s.best_solution ≡ x → BestsOk d gs ts s x → BestsOk d gs ts₁ s₁ x
      old y None z k = tt
      old y (Some b) z k =
          let p = holds_after.best b.entry b.node (y.best ∙ z) in
          let l = holding.level-kept d acc ts s ok holds-before i hi b.entry _ k.counted (ap (bound_of d ts s) z) y.bounds (record { h = k.h; held = k.held; level = k.level }) in
          record { counted = p.0; holds = p.1; h = l.h; held = l.held; level = l.level ∙ sym (holding.cost-stays d acc ts s ok holds-before i hi b.entry b.node k.counted k.holds) }

      new : (x : holding.Improves d acc ts s ok holds-before i hi) → BestOk d gs ts₁ s₁ i x.n
      new x =
          let p = holds_after.best i x.n x.best in
          let l = holding.level-new d acc ts s ok holds-before i hi x in
          record { counted = p.0; holds = p.1; h = l.h; held = l.held; level = l.level }

  pub round-ready : Ready O d ts₁ s₁
  round-ready =
      record {
        arrays = length-set s.trees i (entry_after d e u) ∙ r.arrays;
        counts = r.counts;
        keys = r.keys;
        key_counts = r.key_counts;
        below = r.below;
        entries = entries-ok;
        best = best-ok;
      }

  upto-low : (o : Option ℕ) (k : ℕ) → ((n : ℕ) → o ≡ Some n → Under b₁ (solution_cost d ns n)) → Upto d ns o k → Under b₁ k
  upto-low None k f a = absurd a
  upto-low (Some n) k f a = under-le b₁ _ k a (f n refl)

  pub round-covers : u.more ≡ false → Covered d gs ts b₁ e.tree
  round-covers z v ls p l = elim (T.done z v ls p l) [ inl a ↦ upto-low _ _ (holding.low-now d acc ts s ok holds-before i hi) a | inr a ↦ round-lower _ a ]

  pub round-gave : u.more ≡ true → Gave ts ts₁ e.tree
  round-gave z = record { inside = ke.inside; gave = rw at (omega (arith, T.tickets, T.moves z)) }

  pub round-own : O e.tree
  round-own = ke.own

-- ---- the entries in order

pub record Walked (O : ℕ → Type 0) (d : Domain) (ts : List Tree) (s : Search) (i : ℕ) (w : Walk) : Type 0 where
  pub sound : SoundTrees d w.trees
  pub later : AllLater ts w.trees
  pub ready : Ready O d w.trees w.search
  pub count : w.search.tree_count ≡ s.tree_count
  pub same : goals w.search ≡ goals s
  pub slots : (j : ℕ) → (entry w.search j).tree ≡ (entry s j).tree
  pub covers : w.search.exhausted ≡ true → (j : ℕ) → j < i → Covered d (goals s) ts (bound d w.trees w.search) (entry s j).tree
  pub moves : w.search.exhausted ≡ false → (j : ℕ) × O j × Gave ts w.trees j

unless-true : (m x : Bool) → exhausted_unless m x ≡ true → (m ≡ false) × (x ≡ true)
unless-true true x e = absurd (true≢false (sym e))
unless-true false x e = (refl, e)

unless-false : (m x : Bool) → exhausted_unless m x ≡ false → (m ≡ true) ⊎ (x ≡ false)
unless-false true x e = inl refl
unless-false false x e = inr e

module _ (O : ℕ → Type 0) (d : Domain) (acc : Accepted d.graph) (ts : List Tree) (s : Search) (ok : SoundTrees d ts) (r : Ready O d ts s) where
  module _ (i : ℕ) (w : Walk) (hi : i < s.tree_count) (k : Walked O d ts s i w) where
    abbrev now : Search
    now = w.search

    here : i < now.tree_count
    here = omega (arith, k.count)

    abbrev turn-i : Turn
    turn-i = turn_in d i w

    abbrev next : Walk
    next = round_after d i w

    kept-now : Keeps d w.trees next.trees
    kept-now = round-kept O d acc w.trees now k.sound k.ready i here

    in-slot : (j : ℕ) → j < s.tree_count → (entry s j).tree < length ts
    in-slot j h = (r.entries j h).inside

    start_is : (j : ℕ) → j < s.tree_count → (tree w.trees (entry s j).tree).start ≡ (tree ts (entry s j).tree).start
    start_is j h = (k.later.each _ (in-slot j h)).start

    -- what covers in the trees so far covers in the first trees
    cover-first : (j : ℕ) (b : Option ℕ) → j < s.tree_count → Covered d (goals now) w.trees b (entry now j).tree → Covered d (goals s) ts b (entry s j).tree
    cover-first j b h f v ls p l =
        let f' : Covered d (goals s) w.trees b (entry s j).tree = subst (λ (x : ℕ). Covered d (goals s) w.trees b x) (k.slots j) (subst (λ (x : List ℕ). Covered d x w.trees b (entry now j).tree) k.same f) in
        subst (λ (x : ℕ). Under b (path_worth d x ls v)) (start_is j h) (f' v ls p (subst (λ (x : ℕ). Leads d.graph x ls v) (sym (start_is j h)) l))

    cover-old : (j : ℕ) → w.search.exhausted ≡ true → j < i → Covered d (goals s) ts (bound d next.trees next.search) (entry s j).tree
    cover-old j x h v ls p l = round-lower O d acc w.trees now k.sound k.ready i here _ (k.covers x j h v ls p l)

    gave-old : (j : ℕ) → Gave ts w.trees j → Gave ts next.trees j
    gave-old j g = record { inside = g.inside; gave = omega (arith, g.gave, (kept-now.1.each j (omega (arith, g.inside, k.later.longer))).taken) }

    gave-new : Gave w.trees next.trees (entry now i).tree → Gave ts next.trees (entry now i).tree
    gave-new g =
        let h : (entry now i).tree < length ts = rw (k.slots i) (in-slot i hi) in
        record { inside = h; gave = omega (arith, g.gave, (k.later.each _ h).taken) }

    walked-after : Walked O d ts s (suc i) next
    walked-after =
        record {
          sound = kept-now.0;
          later = all-trans ts w.trees next.trees k.later kept-now.1;
          ready = round-ready O d acc w.trees now k.sound k.ready i here;
          count = k.count;
          same = k.same;
          slots = λ j. round-slot O d acc w.trees now k.sound k.ready i here j ∙ k.slots j;
          covers = λ x j h.
              let p = unless-true turn-i.more now.exhausted x in
              elim (ℕ_discrete j i) [
                | yes z ↦ cover-first j (bound d next.trees next.search) (omega arith) (subst (λ (y : ℕ). Covered d (goals now) w.trees (bound d next.trees next.search) (entry now y).tree) (sym z) (round-covers O d acc w.trees now k.sound k.ready i here p.0))
                | no z ↦ cover-old j p.1 (omega arith)
              ];
          moves = λ x. elim (unless-false turn-i.more now.exhausted x) [
            | inl y ↦ ((entry now i).tree, round-own O d acc w.trees now k.sound k.ready i here, gave-new (round-gave O d acc w.trees now k.sound k.ready i here y))
            | inr y ↦ let g = k.moves y in (g.0, g.1, gave-old g.0 g.2)
          ];
        }

    walked_next : Walked O d ts s (suc i) (round d i w)
    walked_next = subst (Walked O d ts s (suc i)) (sym (round-after d i w)) walked-after

  rounds-walked : (n i : ℕ) (w : Walk) → n + i ≡ s.tree_count → Walked O d ts s i w → Walked O d ts s s.tree_count (rounds d n i w)
  unfolding rounds
  rounds-walked zero i w z k = subst (λ (x : ℕ). Walked O d ts s x w) (omega (arith, z)) k
  rounds-walked (suc n) i w z k = rounds-walked n (suc i) (round d i w) (omega (arith, z)) (walked_next i w (omega (arith, z)) k)

  pub walked : Walked O d ts s s.tree_count (walk d ts s)
  unfolding walk
  walked =
      rounds-walked s.tree_count 0 (record { trees = ts; search = with_exhausted s true; tickets = 0 }) (omega arith)
      (record {
        sound = ok;
        later = all-refl ts;
        ready = record { arrays = r.arrays; counts = r.counts; keys = r.keys; key_counts = r.key_counts; below = r.below; entries = λ j h. subst (λ (b : Option ℕ). EntryOk O d (goals s) ts b (entry s j)) (sym (mark s.best_solution)) (r.entries j h); best = first s.best_solution r.best };
        count = refl;
        same = refl;
        slots = λ j. refl;
        covers = λ x j h. absurd (omega arith);
        moves = λ x. absurd (true≢false x);
      })
    where
      mark : (x : Option BestSolution) → bound_of d ts (with_exhausted s true) x ≡ bound_of d ts s x
      mark None = refl
      mark (Some b) = refl

      first : (x : Option BestSolution) → BestsOk d (goals s) ts s x → BestsOk d (goals s) ts (with_exhausted s true) x
      first None k = tt
      first (Some b) k = record { counted = k.counted; holds = k.holds; h = k.h; held = k.held; level = k.level }
