-- An entry's turn: what it finds, what it remembers, and what is known once it asks for no more.
-- Assumes nothing.
use mathlib.Core.Path.{◌≡◌, refl, sym, ap, ◌∙◌, subst}
use Rattle.std.specs.declared.option.Option.{Option}
use Rattle.std.specs.Prelude.{None, Some}
use mathlib.Core.Logic.{◌⊎◌, inl, inr}
use mathlib.Core.Bool.{Bool, true, false, true≢false}
use mathlib.Core.List.Memᴰ
use mathlib.Core.List.{List, [], ◌∷◌, Memᴰ}
use Prim.Native.Nat.{ℕ, zero, suc, ◌+◌, ◌<◌, ◌≤◌}
use native.Mathlib.Nat.{le_trans, le_of_lt}
use native.Mathlib.Omega.{arith}
use borrow.Author.Tests.{eqb-true, ltb-true, ltb-false}
use lib.Dec.{ltb}
use lib.ListN.{length}
use Rattle.model.specs.Lists.{mem}
use Rattle.model.specs.Graph.{Domain, Accepted, Leads}
use Rattle.model.specs.Tree.{Tree, Node, node, closed_at, evaluation, Going, on, found, over, Growth, least, least_of}
use Rattle.model.specs.Sound.{Sound}
use Rattle.model.specs.Search.{solution_cost, closed_count, remembers, chosen, consider, cheapest, lookup, lookup_if, Turn, find_of, under, grown, turn_by, turn, dearer}
use Rattle.model.proofs.Recorded.{known_after, hold_if, hold}
use Rattle.model.proofs.Lists.{Least, least-is, before-cost, mem-nil, mem-head, mem-tail, mem-cases}
use Rattle.model.proofs.Worth.{path_weight, path_worth, weight-worth, solution-worth, solution-is}
use Rattle.model.proofs.Least.{Front, done, later, front-start}
use Rattle.model.proofs.Later.{Later, later_refl, Gone, Grew, Moved}
use Rattle.model.proofs.Later as growing

-- o names a solution that is worth k or less
abbrev pub Upto : Domain → List Node → Option ℕ → ℕ → Type 0
Upto d ns None k = ⊥
Upto d ns (Some n) k = solution_cost d ns n ≤ k

pub upto_le : (d : Domain) (ns : List Node) (o : Option ℕ) (k j : ℕ) → k ≤ j → Upto d ns o k → Upto d ns o j
upto_le d ns None k j h u = u
upto_le d ns (Some n) k j h u = omega arith

-- an unsolved entry holds no node
pub unsolved-at : (n : ℕ) → None ≡ Some n → ⊥
unsolved-at n e = let z : ◌≡◌ {A = ℕ} 0 1 = cc in omega arith

-- ---- the cheapest closed goal

pub record Cheapest (d : Domain) (ns : List Node) (cl gs : List ℕ) (o r : Option ℕ) : Type 0 where
  pub from : (n : ℕ) → r ≡ Some n → (o ≡ Some n) ⊎ ((v : ℕ) × (mem v gs ≡ true) × (closed_at cl v ≡ suc n))
  pub start : (j : ℕ) → o ≡ Some j → Upto d ns r (solution_cost d ns j)
  pub each : (x i : ℕ) → mem x gs ≡ true → closed_at cl x ≡ suc i → Upto d ns r (solution_cost d ns i)

-- one more is considered
record Considered (d : Domain) (ns : List Node) (o : Option ℕ) (k : ℕ) (r : Option ℕ) : Type 0 where
  from : (n : ℕ) → r ≡ Some n → (o ≡ Some n) ⊎ (k ≡ suc n)
  kept : (j : ℕ) → o ≡ Some j → Upto d ns r (solution_cost d ns j)
  heard : (i : ℕ) → k ≡ suc i → Upto d ns r (solution_cost d ns i)

level : (d : Domain) (ns : List Node) (i j : ℕ) → i ≡ j → solution_cost d ns i ≤ solution_cost d ns j
level d ns i j e = rw e (omega arith)

considered : (d : Domain) (ns : List Node) (o : Option ℕ) (k : ℕ) → Considered d ns o k (consider d ns o k)
considered d ns None zero = record { from = λ n e. inl e; kept = λ j e. absurd (unsolved-at j e); heard = λ i e. absurd (omega arith) }
considered d ns (Some j) zero = record { from = λ n e. inl e; kept = λ i e. level d ns j i (cc); heard = λ i e. absurd (omega arith) }
considered d ns None (suc i) = record { from = λ n e. inr (let q : i ≡ n = cc in ap suc q); kept = λ j e. absurd (unsolved-at j e); heard = λ n e. level d ns i n (omega arith) }
considered d ns (Some j) (suc i) = go (ltb (solution_cost d ns i) (solution_cost d ns j)) refl
  where
    go : (b : Bool) → ltb (solution_cost d ns i) (solution_cost d ns j) ≡ b → Considered d ns (Some j) (suc i) (chosen b i j)
    go true e =
        let less : solution_cost d ns i < solution_cost d ns j = ltb-true _ _ e in
        record { from = λ n z. inr (let q : i ≡ n = cc in ap suc q); kept = λ n z. le_trans (le_of_lt less) (level d ns j n (cc)); heard = λ n z. level d ns i n (omega arith) }
    go false e =
        let more : solution_cost d ns j ≤ solution_cost d ns i = ltb-false _ _ e in
        record { from = λ n z. inl z; kept = λ n z. level d ns j n (cc); heard = λ n z. le_trans more (level d ns i n (omega arith)) }

never-mem : (x : ℕ) → mem x [] ≡ true → ⊥
never-mem x e = true≢false (sym e ∙ mem-nil x)

pub cheapest-is : (d : Domain) (ns : List Node) (cl gs : List ℕ) (o : Option ℕ) → Cheapest d ns cl gs o (cheapest d ns cl gs o)
unfolding cheapest
cheapest-is d ns cl [] None = record { from = λ n e. inl e; start = λ j e. absurd (unsolved-at j e); each = λ x i e. absurd (never-mem x e) }
cheapest-is d ns cl [] (Some k) = record { from = λ n e. inl e; start = λ j e. level d ns k j (cc); each = λ x i e. absurd (never-mem x e) }
cheapest-is d ns cl (v ∷ vs) o = go (consider d ns o (closed_at cl v)) (considered d ns o (closed_at cl v)) (cheapest-is d ns cl vs (consider d ns o (closed_at cl v)))
  where
    go : (p : Option ℕ) → Considered d ns o (closed_at cl v) p → Cheapest d ns cl vs p (cheapest d ns cl vs p) → Cheapest d ns cl (v ∷ vs) o (cheapest d ns cl vs p)
    go p h r =
        record {
          from = λ n e. elim (r.from n e) [
            | inl q ↦ elim (h.from n q) [ inl z ↦ inl z | inr z ↦ inr (v, mem-head v v vs refl, z) ]
            | inr z ↦ inr (z.0, mem-tail z.0 v vs z.1, z.2)
          ];
          start = λ j e. through p _ (h.kept j e) (λ k z. r.start k z);
          each = λ x i e z. elim (mem-cases x v vs e) [
            | inl q ↦ through p _ (h.heard i (ap (closed_at cl) (sym q) ∙ z)) (λ k y. r.start k y)
            | inr q ↦ r.each x i q z
          ];
        }
      where
        through : (p : Option ℕ) (k : ℕ) → Upto d ns p k → ((j : ℕ) → p ≡ Some j → Upto d ns (cheapest d ns cl vs p) (solution_cost d ns j)) → Upto d ns (cheapest d ns cl vs p) k
        through None k u f = absurd u
        through (Some j) k u f = upto_le d ns (cheapest d ns cl vs (Some j)) _ k u (f j refl)

-- ---- the solution held: "A find replaces the entry's run unless dearer"

pub hold-find : (d : Domain) (ns : List Node) (h : Option ℕ) (n : ℕ) → Upto d ns (hold d ns h (Some n)) (solution_cost d ns n)
hold-find d ns None n = omega arith
hold-find d ns (Some h) n = go (ltb (solution_cost d ns h) (solution_cost d ns n)) refl
  where
    go : (b : Bool) → ltb (solution_cost d ns h) (solution_cost d ns n) ≡ b → Upto d ns (hold_if b (Some h) n) (solution_cost d ns n)
    go true e = le_of_lt (ltb-true _ _ e)
    go false e = omega arith

pub hold-held : (d : Domain) (ns : List Node) (h f : Option ℕ) (k : ℕ) → Upto d ns h k → Upto d ns (hold d ns h f) k
hold-held d ns h None k u = u
hold-held d ns None (Some n) k u = absurd u
hold-held d ns (Some h) (Some n) k u = go (ltb (solution_cost d ns h) (solution_cost d ns n)) refl
  where
    go : (b : Bool) → ltb (solution_cost d ns h) (solution_cost d ns n) ≡ b → Upto d ns (hold_if b (Some h) n) k
    go true e = u
    go false e = le_trans (ltb-false _ _ e) u

pub hold-from : (d : Domain) (ns : List Node) (h f : Option ℕ) (k : ℕ) → hold d ns h f ≡ Some k → (h ≡ Some k) ⊎ (f ≡ Some k)
hold-from d ns h None k e = inl e
hold-from d ns h (Some n) k e = go (dearer d ns n h) e
  where
    go : (b : Bool) → hold_if b h n ≡ Some k → (h ≡ Some k) ⊎ (Some n ≡ Some k)
    go true z = inl z
    go false z = inr z

-- ---- what an entry knows of its tree

-- node n closed a goal
pub record Holds (gs : List ℕ) (t : Tree) (n : ℕ) : Type 0 where
  pub sought : mem (node t.nodes n).vertex gs ≡ true
  pub closes : closed_at t.closed (node t.nodes n).vertex ≡ suc n

pub holds_later : {d : Domain} (gs : List ℕ) (t t' : Tree) (n : ℕ) → Sound d t → Later t t' → Holds gs t n → Holds gs t' n
holds_later gs t t' n ok l h =
    let same : node t'.nodes n ≡ node t.nodes n = l.keeps n (ok.closer _ n h.closes).0 in
    record { sought = rw same h.sought; closes = rw same (l.shut _ n h.closes) }

pub record Known (d : Domain) (gs : List ℕ) (t : Tree) (known : Option ℕ) (held : Option ℕ) : Type 0 where
  pub past : (n : ℕ) → known ≡ Some n → n ≤ closed_count t.closed
  pub holds : (n : ℕ) → held ≡ Some n → Holds gs t n
  pub knows : known ≡ Some (closed_count t.closed) → (x i : ℕ) → mem x gs ≡ true → closed_at t.closed x ≡ suc i → Upto d t.nodes held (solution_cost d t.nodes i)

-- a solution in a later tree
upto-later : {d : Domain} (gs : List ℕ) (t t' : Tree) (o : Option ℕ) (k : ℕ) → Sound d t → Later t t' → ((n : ℕ) → o ≡ Some n → Holds gs t n) → Upto d t.nodes o k → Upto d t'.nodes o k
upto-later gs t t' None k ok l h u = u
upto-later gs t t' (Some n) k ok l h u = rw (l.keeps n (ok.closer _ n (h n refl).closes).0) u

pub known-later : {d : Domain} (gs : List ℕ) (t t' : Tree) (known : Option ℕ) (held : Option ℕ) → Sound d t → Later t t' → Known d gs t known held → Known d gs t' known held
known-later gs t t' known held ok l k =
    record {
      past = λ n e. omega (arith, k.past n e, l.more);
      holds = λ n e. holds_later gs t t' n ok l (k.holds n e);
      knows = λ e x i m z.
          let same : closed_count t'.closed ≡ closed_count t.closed = omega (arith, k.past _ e, l.more) in
          let z' : closed_at t.closed x ≡ suc i = ap (λ (y : List ℕ). closed_at y x) (sym (l.same same)) ∙ z in
          rw (l.keeps i (ok.closer x i z').0) (upto-later gs t t' held _ ok l k.holds (k.knows (e ∙ ap Some same) x i m z'));
    }

never-len : (n : ℕ) → None ≡ Some n → ⊥
never-len n e = let z : ◌≡◌ {A = ℕ} 0 1 = cc in omega arith

-- what a new entry knows
pub first-known : (d : Domain) (gs : List ℕ) (t : Tree) → Known d gs t None None
first-known d gs t = record { past = λ n e. absurd (never-len n e); holds = λ n e. absurd (unsolved-at n e); knows = λ e. absurd (never-len _ e) }

-- ---- the lookup

abbrev NoGoal : List ℕ → Tree → Type 0
NoGoal gs t = (x i : ℕ) → mem x gs ≡ true → closed_at t.closed x ≡ suc i → ⊥

remembers-true : (known : Option ℕ) (n : ℕ) → remembers known n ≡ true → known ≡ Some n
remembers-true None n e = absurd (true≢false (sym e))
remembers-true (Some k) n e = ap Some (sym (eqb-true n k e))

lookup-none : (d : Domain) (t : Tree) (gs : List ℕ) (known : Option ℕ) → lookup d t gs known ≡ None → (known ≡ Some (closed_count t.closed)) ⊎ NoGoal gs t
unfolding lookup
lookup-none d t gs known e = go (remembers known (closed_count t.closed)) refl e
  where
    go : (b : Bool) → remembers known (closed_count t.closed) ≡ b → lookup_if b d t.nodes t.closed gs ≡ None → (known ≡ Some (closed_count t.closed)) ⊎ NoGoal gs t
    go true p q = inl (remembers-true known _ p)
    go false p q = inr (λ x i m z. subst (λ (o : Option ℕ). Upto d t.nodes o (solution_cost d t.nodes i)) q ((cheapest-is d t.nodes t.closed gs None).each x i m z))

record Looked (d : Domain) (t : Tree) (gs : List ℕ) (n : ℕ) : Type 0 where
  v : ℕ
  sought : mem v gs ≡ true
  closes : closed_at t.closed v ≡ suc n
  least : (x i : ℕ) → mem x gs ≡ true → closed_at t.closed x ≡ suc i → solution_cost d t.nodes n ≤ solution_cost d t.nodes i

lookup-some : (d : Domain) (t : Tree) (gs : List ℕ) (known : Option ℕ) (n : ℕ) → lookup d t gs known ≡ Some n → Looked d t gs n
unfolding lookup
lookup-some d t gs known n e = go (remembers known (closed_count t.closed)) e
  where
    go : (b : Bool) → lookup_if b d t.nodes t.closed gs ≡ Some n → Looked d t gs n
    go true q = absurd (unsolved-at n q)
    go false q =
        let r = cheapest-is d t.nodes t.closed gs None in
        elim (r.from n q) [
          | inl z ↦ absurd (unsolved-at n z)
          | inr z ↦ record { v = z.0; sought = z.1; closes = z.2; least = λ x i p y. subst (λ (o : Option ℕ). Upto d t.nodes o (solution_cost d t.nodes i)) q (r.each x i p y) }
        ]

-- ---- a find is a node that closed a goal, whatever count is remembered

looked-holds : (d : Domain) (gs : List ℕ) (t : Tree) → Sound d t → (n : ℕ) → Looked d t gs n → Holds gs t n
looked-holds d gs t ok n l =
    let e : (node t.nodes n).vertex ≡ l.v = (ok.closer l.v n l.closes).1 in
    record { sought = rw e l.sought; closes = rw e l.closes }

grown-finds : (d : Domain) (gs : List ℕ) (t : Tree) (g : Growth) → Grew d gs t g → (n : ℕ) → find_of g.going ≡ Some n → Holds gs g.tree n
grown-finds d gs t g r n = go g.going r.gone
  where
    go : (x : Going) → Gone gs g.tree.nodes t.closed g.tree.closed x → find_of x ≡ Some n → Holds gs g.tree n
    go on f z = absurd (unsolved-at n z)
    go (found k) f z = let q : k ≡ n = cc in subst (Holds gs g.tree) q (record { sought = f.goal; closes = f.closes })
    go over f z = absurd (unsolved-at n z)

pub turn-finds : (d : Domain) → Accepted d.graph → (gs : List ℕ) (b : Option ℕ) (t : Tree) (known : Option ℕ) → Sound d t → (n : ℕ) → (turn d gs b t known).find ≡ Some n
    → Holds gs (turn d gs b t known).tree n
unfolding turn
turn-finds d acc gs b t known ok n = go (lookup d t gs known) refl
  where
    go : (o : Option ℕ) → lookup d t gs known ≡ o → (turn_by d gs b t o).find ≡ Some n → Holds gs (turn_by d gs b t o).tree n
    go None e z = grown-finds d gs t _ (growing.grown d acc gs b t ok 10) n z
    go (Some k) e z = let q : k ≡ n = cc in subst (Holds gs t) q (looked-holds d gs t ok k (lookup-some d t gs known k e))

-- and the count to remember is that of the tree left
pub turn-counts : (d : Domain) (gs : List ℕ) (b : Option ℕ) (t : Tree) (known : Option ℕ) (n : ℕ) → (turn d gs b t known).known ≡ Some n
    → n ≡ closed_count (turn d gs b t known).tree.closed
unfolding turn
turn-counts d gs b t known n = go (lookup d t gs known)
  where
    go : (o : Option ℕ) → (turn_by d gs b t o).known ≡ Some n → n ≡ closed_count (turn_by d gs b t o).tree.closed
    go None e = cc
    go (Some k) e = absurd (never-len n e)

-- ---- the turn

-- there is a bound, and it is k or less
abbrev pub Under : Option ℕ → ℕ → Type 0
Under None k = ⊥
Under (Some b) k = b ≤ k

pub under-le : (b : Option ℕ) (k j : ℕ) → k ≤ j → Under b k → Under b j
under-le None k j h u = u
under-le (Some b) k j h u = omega arith

-- of an entry that remembered prior and held held
pub record Turned (d : Domain) (gs : List ℕ) (b : Option ℕ) (t : Tree) (prior : Option ℕ) (held : Option ℕ) (u : Turn) : Type 0 where
  pub sound : Sound d u.tree
  pub later : Later t u.tree
  pub known : Known d gs u.tree (known_after prior u.known) (hold d u.tree.nodes held u.find)
  pub done : u.more ≡ false → (v : ℕ) (ls : List ℕ) → mem v gs ≡ true → Leads d.graph t.start ls v
      → Upto d u.tree.nodes (hold d u.tree.nodes held u.find) (path_worth d t.start ls v) ⊎ Under b (path_worth d t.start ls v)
  pub tickets : length u.tree.nodes + length t.waiting ≡ u.tickets + (length t.nodes + length u.tree.waiting)
  pub moves : u.more ≡ true → 1 ≤ u.tickets

-- a closed vertex is worth no more than a path to it whose weight is at least its node's evaluation
closed-worth : (d : Domain) (t : Tree) → Sound d t → (a v i : ℕ) (ls : List ℕ) → closed_at t.closed v ≡ suc i → evaluation t.nodes i ≤ path_weight d a ls
    → solution_cost d t.nodes i ≤ path_worth d a ls v
closed-worth d t ok a v i ls z h = rw (ok.closer v i z).1 at (solution-worth d a ls (node t.nodes i) h)

-- nothing that waits is under the bound
queue-under : (ns : List Node) (b : Option ℕ) (k : ℕ) (q : List ℕ) → under ns (least ns q) b ≡ false → (j : ℕ) → Memᴰ j q → evaluation ns j ≤ k → Under b k
unfolding least
queue-under ns b k [] u j m h = absurd (Memᴰ.not-nil m)
queue-under ns None k (x ∷ xs) u j m h = absurd (true≢false u)
queue-under ns (Some v) k (x ∷ xs) u j m h =
    let n : ℕ = least_of ns x xs in
    let r : Least ns x xs n = least-is ns x xs in
    let le : evaluation ns n ≤ evaluation ns j =
    elim (Memᴰ.cases_cons m) [ inl z ↦ rw z (before-cost ns n x r.first) | inr z ↦ before-cost ns n j (r.firsts j z) ] in
    le_trans (ltb-false _ _ u) (le_trans le h)

module _ (d : Domain) (acc : Accepted d.graph) (gs : List ℕ) (b : Option ℕ) (t : Tree) (ok : Sound d t) (known : Option ℕ) (held : Option ℕ) (kn : Known d gs t known held) where
  -- what waits is worth no less than what is closed
  looked-done : (n : ℕ) → Looked d t gs n → (v : ℕ) (ls : List ℕ) → mem v gs ≡ true → Front t v (path_weight d t.start ls) → solution_cost d t.nodes n ≤ path_worth d t.start ls v
  looked-done n l v ls e (done i z h) = le_trans (l.least v i e z) (closed-worth d t ok t.start v i ls z h)
  looked-done n l v ls e (later j q h) =
      omega (arith, solution-is d (node t.nodes n), ok.cheapest l.v n j l.closes q, h, weight-worth d t.start ls v)

  found_turn : (n : ℕ) → Looked d t gs n → Turned d gs b t known held (record { tree = t; known = None; find = Some n; more = false; tickets = 0 })
  found_turn n l =
      record {
        sound = ok;
        later = later_refl t;
        known = record {
          past = kn.past;
          holds = λ k e. elim (hold-from d t.nodes held (Some n) k e) [ inl z ↦ kn.holds k z | inr z ↦ let q : n ≡ k = cc in subst (Holds gs t) q (looked-holds d gs t ok n l) ];
          knows = λ e x i m z. hold-held d t.nodes held (Some n) _ (kn.knows e x i m z);
        };
        done = λ e v ls p r. inl (upto_le d t.nodes (hold d t.nodes held (Some n)) _ _ (looked-done n l v ls p (front-start d t ok v ls r)) (hold-find d t.nodes held n));
        tickets = omega arith;
        moves = λ e. absurd (true≢false (sym e));
      }

  -- the goals that were closed before
  known-old : lookup d t gs known ≡ None → (x i : ℕ) → mem x gs ≡ true → closed_at t.closed x ≡ suc i → Upto d t.nodes held (solution_cost d t.nodes i)
  known-old e x i m z = elim (lookup-none d t gs known e) [ inl h ↦ kn.knows h x i m z | inr h ↦ absurd (h x i m z) ]

  module _ (e : lookup d t gs known ≡ None) (g : Growth) (r : Grew d gs t g) (mv : Moved g) where
    old-knows : (x i : ℕ) → mem x gs ≡ true → closed_at t.closed x ≡ suc i → Upto d g.tree.nodes held (solution_cost d g.tree.nodes i)
    old-knows x i m z = rw (r.later.keeps i (ok.closer x i z).0) (upto-later gs t g.tree held _ ok r.later kn.holds (known-old e x i m z))

    grown-knows : (x i : ℕ) → mem x gs ≡ true → closed_at g.tree.closed x ≡ suc i
        → Upto d g.tree.nodes (hold d g.tree.nodes held (find_of g.going)) (solution_cost d g.tree.nodes i)
    grown-knows x i m z = go g.going r.gone
      where
        go : (y : Going) → Gone gs g.tree.nodes t.closed g.tree.closed y → Upto d g.tree.nodes (hold d g.tree.nodes held (find_of y)) (solution_cost d g.tree.nodes i)
        go on f = old-knows x i m (f x i m z)
        go (found k) f = elim (f.only x i m z) [ inl h ↦ hold-held d g.tree.nodes held (Some k) _ (old-knows x i m h) | inr h ↦ rw h (hold-find d g.tree.nodes held k) ]
        go over f = old-knows x i m (f x i m z)

    grown-done : under g.tree.nodes (least g.tree.nodes g.tree.waiting) b ≡ false → (v : ℕ) (ls : List ℕ) → mem v gs ≡ true → Front g.tree v (path_weight d t.start ls)
        → Upto d g.tree.nodes (hold d g.tree.nodes held (find_of g.going)) (path_worth d t.start ls v) ⊎ Under b (path_worth d t.start ls v)
    grown-done u v ls p (done i z h) =
        inl (upto_le d g.tree.nodes (hold d g.tree.nodes held (find_of g.going)) _ _ (closed-worth d g.tree r.sound t.start v i ls z h) (grown-knows v i p z))
    grown-done u v ls p (later j q h) = inr (under-le b _ _ (weight-worth d t.start ls v) (queue-under g.tree.nodes b _ g.tree.waiting u j q h))

    grown-moves : under g.tree.nodes (least g.tree.nodes g.tree.waiting) b ≡ true → 1 ≤ g.tickets
    unfolding least
    grown-moves u = elim mv [ inl h ↦ h | inr h ↦ absurd (true≢false (sym u ∙ ap (λ (q : List ℕ). under g.tree.nodes (least g.tree.nodes q) b) h)) ]

    grown-front : (v : ℕ) (ls : List ℕ) → Leads d.graph t.start ls v → Front g.tree v (path_weight d t.start ls)
    grown-front v ls l =
        subst (λ (x : ℕ). Front g.tree v (path_weight d x ls)) r.later.start
        (front-start d g.tree r.sound v ls (subst (λ (x : ℕ). Leads d.graph x ls v) (sym r.later.start) l))

    grown-turn : Turned d gs b t known held (grown g b)
    unfolding grown
    grown-turn =
        record {
          sound = r.sound;
          later = r.later;
          known = record {
            past = λ n z. (let q : closed_count g.tree.closed ≡ n = cc in omega arith);
            holds = λ k z. elim (hold-from d g.tree.nodes held (find_of g.going) k z) [ inl y ↦ holds_later gs t g.tree k ok r.later (kn.holds k y) | inr y ↦ grown-finds d gs t g r k y ];
            knows = λ _. grown-knows;
          };
          done = λ u v ls p l. grown-done u v ls p (grown-front v ls l);
          tickets = r.tickets;
          moves = grown-moves;
        }

  pub turned : Turned d gs b t known held (turn d gs b t known)
  unfolding turn
  turned = go (lookup d t gs known) refl
    where
      go : (o : Option ℕ) → lookup d t gs known ≡ o → Turned d gs b t known held (turn_by d gs b t o)
      go None e = grown-turn e _ (growing.grown d acc gs b t ok 10) (growing.moved d acc gs b t ok 9)
      go (Some n) e = found_turn n (lookup-some d t gs known n e)
