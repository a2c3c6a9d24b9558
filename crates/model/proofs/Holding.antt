-- What the entries of a record hold, through one round and whatever counts are remembered: each is a node that closed a goal, and none costs less than the best.
-- Assumes nothing.
use mathlib.Core.Path.{◌≡◌, refl, sym, ap, ◌∙◌, subst}
use Rattle.std.specs.declared.option.Option.{Option}
use Rattle.std.specs.Prelude.{None, Some}
use mathlib.Core.Logic.{◌⊎◌, inl, inr, ◌≢◌}
use mathlib.Core.Bool.{Bool, true, false, true≢false}
use mathlib.Core.List.{List}
use Prim.Native.Nat.{ℕ, ◌<◌, ◌≤◌}
use native.Mathlib.Nat.{le_of_lt, lt_of_lt_of_le}
use native.Mathlib.Omega.{arith}
use native.Mathlib.Decide.{ℕ_discrete}
use borrow.Author.Tests.{ltb-true, ltb-false}
use lib.ListN.{length, set, length-set}
use lib.Seq.{get_or-set_same, get_or-set_other}
use Rattle.model.specs.declared.BestSolution.{BestSolution}
use Rattle.model.specs.declared.TreeMemory.{TreeMemory}
use Rattle.model.specs.declared.Search.{Search}
use Rattle.model.specs.Graph.{Domain, Accepted}
use Rattle.model.specs.Worth.{Node, node, solution_cost_of, solution_cost}
use Rattle.model.specs.Tree.{Tree}
use Rattle.model.specs.Sound.{tree, no_tree, Sound, SoundTrees}
use Rattle.model.specs.Search.{blank, entry, goals, dearer, cheaper, best_if, bound_of, bound, Turn, turn, as_best}
use Rattle.model.proofs.Turns.{Upto, unsolved-at, hold-held, hold-from, Holds, holds_later, Under, under-le, turn-finds}
use Rattle.model.proofs.Recorded.{entry_of_best, node_of_best, best_by, best_after, hold, hold_if, entry_after, after, slot_kept}
use Rattle.model.proofs.Later.{Later}
use Rattle.model.proofs.Keeps.{AllLater, Keeps, turn-keeps, set_keeps}

-- what the entry e holds closed a goal, and is not under the bound b
pub record HeldOk (d : Domain) (gs : List ℕ) (ts : List Tree) (b : Option ℕ) (e : TreeMemory) : Type 0 where
  pub inside : e.tree < length ts
  pub holds : (n : ℕ) → e.solution ≡ Some n → Holds gs (tree ts e.tree) n
  pub low : (n : ℕ) → e.solution ≡ Some n → Under b (solution_cost d (tree ts e.tree).nodes n)

pub record Holding (d : Domain) (ts : List Tree) (s : Search) : Type 0 where
  pub arrays : length s.trees ≡ 64
  pub counts : s.tree_count ≤ 64
  pub entries : (j : ℕ) → j < s.tree_count → HeldOk d (goals s) ts (bound d ts s) (entry s j)
  pub best : (j n : ℕ) → s.best_solution ≡ as_best j n → (j < s.tree_count) × Holds (goals s) (tree ts (entry s j).tree) n

-- entry j holds a solution of cost k
pub record HeldAt (d : Domain) (ts : List Tree) (s : Search) (j k : ℕ) : Type 0 where
  pub h : ℕ
  pub held : (entry s j).solution ≡ Some h
  pub level : solution_cost d (tree ts (entry s j).tree).nodes h ≡ k

-- the node that closed a goal stays as it was
pub same-node : (d : Domain) (gs : List ℕ) (ts ts' : List Tree) → SoundTrees d ts → AllLater ts ts' → (i n : ℕ) → i < length ts → Holds gs (tree ts i) n
    → node (tree ts' i).nodes n ≡ node (tree ts i).nodes n
same-node d gs ts ts' ok l i n h k = (l.each i h).keeps n ((ok.each i h).closer _ n k.closes).0

-- ---- costs and the bound

not-cheaper : (k : ℕ) (b : Option ℕ) → cheaper k b ≡ false → Under b k
not-cheaper k None e = absurd (true≢false e)
not-cheaper k (Some b) e = ltb-false _ _ e

is-cheaper : (k : ℕ) (b : Option ℕ) → cheaper k b ≡ true → (j : ℕ) → Under b j → k ≤ j
is-cheaper k None e j u = absurd u
is-cheaper k (Some b) e j u = le_of_lt (lt_of_lt_of_le (ltb-true k b e) u)

-- a dearer find is dearer than what is held
dearer-held : (d : Domain) (ns : List Node) (n : ℕ) (h : Option ℕ) → dearer d ns n h ≡ true → (m : ℕ) × (h ≡ Some m) × (solution_cost d ns m ≤ solution_cost d ns n)
dearer-held d ns n None e = absurd (true≢false (sym e))
dearer-held d ns n (Some m) e = (m, refl, le_of_lt (ltb-true _ _ e))

-- o is a node of cost k, if it names one of at most k and none under k
held-level : (d : Domain) (ns : List Node) (o : Option ℕ) (k : ℕ) → Upto d ns o k → ((n : ℕ) → o ≡ Some n → k ≤ solution_cost d ns n) → (n : ℕ) × (o ≡ Some n) × (solution_cost d ns n ≡ k)
held-level d ns None k u f = absurd u
held-level d ns (Some n) k u f = (n, refl, omega (arith, f n refl))

-- ---- one round

module _ (d : Domain) (acc : Accepted d.graph) (ts : List Tree) (s : Search) (ok : SoundTrees d ts) (r : Holding d ts s) (i : ℕ) (hi : i < s.tree_count) where
  abbrev gs : List ℕ
  gs = goals s

  abbrev e : TreeMemory
  e = entry s i

  abbrev b : Option ℕ
  b = bound d ts s

  abbrev u : Turn
  u = turn d (goals s) (bound d ts s) (tree ts (entry s i).tree) (entry s i).last_known_closed_len

  abbrev ns : List Node
  ns = u.tree.nodes

  abbrev ts₁ : List Tree
  ts₁ = set ts (entry s i).tree u.tree

  abbrev s₁ : Search
  s₁ = after d (bound d ts s) s i u

  abbrev b₁ : Option ℕ
  b₁ = bound d ts₁ s₁

  ke : HeldOk d gs ts b e
  ke = r.entries i hi

  first : Sound d (tree ts e.tree)
  first = ok.each e.tree ke.inside

  grows : Sound d u.tree × Later (tree ts e.tree) u.tree
  grows = turn-keeps d acc gs b (tree ts e.tree) e.last_known_closed_len first

  finds : (n : ℕ) → u.find ≡ Some n → Holds gs u.tree n
  finds = turn-finds d acc gs b (tree ts e.tree) e.last_known_closed_len first

  pub kept : Keeps d ts ts₁
  kept = set_keeps d ts ok e.tree u.tree ke.inside grows.0 grows.1

  pub at : tree ts₁ e.tree ≡ u.tree
  at = get_or-set_same ts e.tree u.tree no_tree ke.inside

  -- the entries
  pub entry-i : entry s₁ i ≡ entry_after d e u
  entry-i = get_or-set_same s.trees i (entry_after d e u) blank (omega (arith, r.arrays, r.counts))

  pub entry-j : (j : ℕ) → j ≢ i → entry s₁ j ≡ entry s j
  entry-j j n = get_or-set_other s.trees i j (entry_after d e u) blank n

  slot : (j : ℕ) → (entry s₁ j).tree ≡ (entry s j).tree
  slot j = slot_kept d (bound d ts s) s i u j

  -- a node of an entry that closed a goal, in the trees after the turn
  holds-now : (j n : ℕ) → j < s.tree_count → Holds gs (tree ts (entry s j).tree) n → Holds gs (tree ts₁ (entry s₁ j).tree) n
  holds-now j n h k =
      let inside = (r.entries j h).inside in
      rw (slot j) (holds_later gs (tree ts (entry s j).tree) (tree ts₁ (entry s j).tree) n (ok.each _ inside) (kept.1.each _ inside) k)

  pub cost-stays : (j n : ℕ) → j < s.tree_count → Holds gs (tree ts (entry s j).tree) n
      → solution_cost d (tree ts₁ (entry s₁ j).tree).nodes n ≡ solution_cost d (tree ts (entry s j).tree).nodes n
  cost-stays j n h k =
      ap (λ (y : ℕ). solution_cost d (tree ts₁ y).nodes n) (slot j)
      ∙ ap (λ (x : Node). solution_cost_of d x) (same-node d gs ts ts₁ ok kept.1 _ n (r.entries j h).inside k)

  -- a solution held, in the tree after the turn
  held-cost : (n : ℕ) → e.solution ≡ Some n → solution_cost d ns n ≡ solution_cost d (tree ts e.tree).nodes n
  held-cost n z = ap (λ (x : Node). solution_cost_of d x) (grows.1.keeps n (first.closer _ n (ke.holds n z).closes).0)

  -- the bound of the best as it was, in the trees as they are
  old-bound : (x : Option BestSolution) → s.best_solution ≡ x → bound_of d ts₁ s₁ x ≡ bound_of d ts s x
  old-bound None z = refl
  old-bound (Some b) z = let k = r.best b.entry b.node z in ap Some (cost-stays b.entry b.node k.0 k.1)

  -- the best is the old one, and no find is cheaper; or it is the find of this turn
  pub record Stays : Type 0 where
    pub best : s₁.best_solution ≡ s.best_solution
    pub bounds : b₁ ≡ b
    pub finds : (n : ℕ) → u.find ≡ Some n → Under b (solution_cost d ns n)

  pub record Improves : Type 0 where
    pub n : ℕ
    pub find : u.find ≡ Some n
    pub best : s₁.best_solution ≡ as_best i n
    pub holds : hold d ns e.solution u.find ≡ Some n
    pub under : (k : ℕ) → Under b k → solution_cost d ns n ≤ k

  stays : s₁.best_solution ≡ s.best_solution → ((n : ℕ) → u.find ≡ Some n → Under b (solution_cost d ns n)) → Stays
  stays z f = record { best = z; bounds = ap (bound_of d ts₁ s₁) z ∙ old-bound s.best_solution refl; finds = f }

  pub best-cases : Stays ⊎ Improves
  best-cases = go u.find refl
    where
      one : (n k : ℕ) → u.find ≡ Some n → u.find ≡ Some k → n ≡ k
      one n k y z = cc

      at-find : (f : Option ℕ) → u.find ≡ f → s₁.best_solution ≡ best_after d ns b e.solution s.best_solution i f
      at-find f z = ap (best_after d ns b e.solution s.best_solution i) z

      hold-find : (f : Option ℕ) → u.find ≡ f → hold d ns e.solution u.find ≡ hold d ns e.solution f
      hold-find f z = ap (hold d ns e.solution) z

      tests : (n : ℕ) → u.find ≡ Some n → (p : Bool) → dearer d ns n e.solution ≡ p → (q : Bool) → cheaper (solution_cost d ns n) b ≡ q → Stays ⊎ Improves
      tests n z true p q y =
          let m = dearer-held d ns n e.solution p in
          inl (stays (at-find (Some n) z ∙ ap (λ (t : Bool). best_by t (cheaper (solution_cost d ns n) b) s.best_solution i n) p)
          (λ k w. subst (λ (x : ℕ). Under b (solution_cost d ns x)) (one n k z w) (under-le b _ _ m.2 (rw (held-cost m.0 m.1) (ke.low m.0 m.1)))))
      tests n z false p false y =
          inl (stays (at-find (Some n) z ∙ ap (λ (t : Bool). best_by t (cheaper (solution_cost d ns n) b) s.best_solution i n) p ∙ ap (λ (t : Bool). best_if t s.best_solution i n) y)
          (λ k w. subst (λ (x : ℕ). Under b (solution_cost d ns x)) (one n k z w) (not-cheaper _ b y)))
      tests n z false p true y =
          inr (record {
            n = n;
            find = z;
            best = at-find (Some n) z ∙ ap (λ (t : Bool). best_by t (cheaper (solution_cost d ns n) b) s.best_solution i n) p ∙ ap (λ (t : Bool). best_if t s.best_solution i n) y;
            holds = hold-find (Some n) z ∙ ap (λ (t : Bool). hold_if t e.solution n) p;
            under = is-cheaper _ b y;
          })

      go : (f : Option ℕ) → u.find ≡ f → Stays ⊎ Improves
      go None z = inl (stays (at-find None z) (λ n y. absurd (unsolved-at n (sym z ∙ y))))
      go (Some n) z = tests n z (dearer d ns n e.solution) refl (cheaper (solution_cost d ns n) b) refl

  improved-bound : (x : Improves) → b₁ ≡ Some (solution_cost d ns x.n)
  improved-bound x =
      ap (bound_of d ts₁ s₁) x.best ∙ ap (λ (y : ℕ). Some (solution_cost d (tree ts₁ y).nodes x.n)) (slot i) ∙ ap (λ (t : Tree). Some (solution_cost d t.nodes x.n)) at

  pub lower : (k : ℕ) → Under b k → Under b₁ k
  lower k a = elim best-cases [ inl x ↦ rw x.bounds a | inr x ↦ subst (λ (y : Option ℕ). Under y k) (sym (improved-bound x)) (x.under k a) ]

  find-low : (n : ℕ) → u.find ≡ Some n → Under b₁ (solution_cost d ns n)
  find-low n z = elim best-cases [
    | inl x ↦ rw x.bounds (x.finds n z)
    | inr x ↦ subst (λ (y : Option ℕ). Under y (solution_cost d ns n)) (sym (improved-bound x)) (let q : x.n ≡ n = one x.find z in rw q (omega arith))
  ]
    where
      one : {a c : ℕ} → u.find ≡ Some a → u.find ≡ Some c → a ≡ c
      one y w = cc

  pub low-now : (n : ℕ) → hold d ns e.solution u.find ≡ Some n → Under b₁ (solution_cost d ns n)
  low-now n z = elim (hold-from d ns e.solution u.find n z) [ inl y ↦ lower _ (rw (held-cost n y) (ke.low n y)) | inr y ↦ find-low n y ]

  -- ---- what the entries hold now

  held-now : HeldOk d gs ts₁ b₁ (entry_after d e u)
  held-now =
      record {
        inside = omega (arith, ke.inside, length-set ts e.tree u.tree);
        holds = λ n z. subst (λ (t : Tree). Holds gs t n) (sym at)
            (elim (hold-from d ns e.solution u.find n z) [ inl y ↦ holds_later gs (tree ts e.tree) u.tree n first grows.1 (ke.holds n y) | inr y ↦ finds n y ]);
        low = λ n z. subst (λ (t : Tree). Under b₁ (solution_cost d t.nodes n)) (sym at) (low-now n z);
      }

  other-now : (j : ℕ) → j < s.tree_count → j ≢ i → HeldOk d gs ts₁ b₁ (entry s₁ j)
  other-now j h z =
      let k = r.entries j h in
      let same : (entry s₁ j).solution ≡ (entry s j).solution = ap (λ (x : TreeMemory). x.solution) (entry-j j z) in
      record {
        inside = rw (slot j) (omega (arith, k.inside, length-set ts e.tree u.tree));
        holds = λ n y. holds-now j n h (k.holds n (sym same ∙ y));
        low = λ n y. let a = sym same ∙ y in lower _ (rw (cost-stays j n h (k.holds n a)) (k.low n a));
      }

  best-now : Stays ⊎ Improves → (j n : ℕ) → s₁.best_solution ≡ as_best j n → (j < s.tree_count) × Holds gs (tree ts₁ (entry s₁ j).tree) n
  best-now (inl x) j n z = let k = r.best j n (sym x.best ∙ z) in (k.0, holds-now j n k.0 k.1)
  best-now (inr x) j n z = go (sym x.best ∙ z)
    where
      go : as_best i x.n ≡ as_best j n → (j < s.tree_count) × Holds gs (tree ts₁ (entry s₁ j).tree) n
      go y =
          let p : i ≡ j = ap entry_of_best y in
          let q : x.n ≡ n = ap node_of_best y in (
            rw p at hi,
            subst (λ (k : ℕ). Holds gs (tree ts₁ (entry s₁ k).tree) n) p
                (subst (λ (t : Tree). Holds gs t n) (sym at ∙ ap (tree ts₁) (sym (slot i))) (finds n (x.find ∙ ap Some q))),
          )

  pub after-round : Holding d ts₁ s₁
  after-round =
      record {
        arrays = length-set s.trees i (entry_after d e u) ∙ r.arrays;
        counts = r.counts;
        entries = λ j h. elim (ℕ_discrete j i) [ yes z ↦ rw (z, entry-i) held-now | no z ↦ other-now j h z ];
        best = best-now best-cases;
      }

  -- the find that is the best now is held
  pub level-new : (x : Improves) → HeldAt d ts₁ s₁ i (solution_cost d (tree ts₁ (entry s₁ i).tree).nodes x.n)
  level-new x = record { h = x.n; held = ap (λ (y : TreeMemory). y.solution) entry-i ∙ x.holds; level = refl }

  -- where the bound stays, an entry that holds a solution of that cost still does
  pub level-kept : (j k : ℕ) → j < s.tree_count → b ≡ Some k → b₁ ≡ b → HeldAt d ts s j k → HeldAt d ts₁ s₁ j k
  level-kept j k h is same l = elim (ℕ_discrete j i) [ yes z ↦ rw z (here (rw z at l)) | no z ↦ there z ]
    where
      there : j ≢ i → HeldAt d ts₁ s₁ j k
      there z = record {
        h = l.h;
        held = ap (λ (x : TreeMemory). x.solution) (entry-j j z) ∙ l.held;
        level = cost-stays j l.h h ((r.entries j h).holds l.h l.held) ∙ l.level;
      }

      here : HeldAt d ts s i k → HeldAt d ts₁ s₁ i k
      here x =
          let cost : solution_cost d ns x.h ≡ k = held-cost x.h x.held ∙ x.level in
          let up : Upto d ns e.solution k = subst (λ (o : Option ℕ). Upto d ns o k) (sym x.held) (omega (arith, cost)) in
          let m = held-level d ns (hold d ns e.solution u.find) k (hold-held d ns e.solution u.find k up)
          (λ n w. subst (λ (y : Option ℕ). Under y (solution_cost d ns n)) (same ∙ is) (low-now n w)) in
          record {
            h = m.0;
            held = ap (λ (y : TreeMemory). y.solution) entry-i ∙ m.1;
            level = subst (λ (t : Tree). solution_cost d t.nodes m.0 ≡ k) (sym at ∙ ap (tree ts₁) (sym (slot i))) m.2;
          }
