-- A ticket keeps a sound tree sound, whether it is skipped or closes its vertex, and what closing does to the tree.
-- Assumes nothing.
use mathlib.Core.Path.{◌≡◌, refl, sym, ap, ◌∙◌, subst}
use mathlib.Core.Logic.{◌⊎◌, inl, inr, ◌≢◌}
use mathlib.Core.Bool.{Bool, true, false}
use mathlib.Core.List.Memᴰ
use mathlib.Core.List.{List, [], ◌∷◌, ◌++◌, append-nil, Memᴰ}
use Prim.Native.Nat.{ℕ, zero, suc, ◌+◌, ◌-◌, ◌<◌, ◌≤◌}
use native.Mathlib.Nat.{le_trans, lt_of_not-le, add-sub_of_le}
use native.Mathlib.Decide.{dec_le, ℕ_discrete}
use native.Mathlib.Omega.{arith}
use borrow.Author.Tests.{eqb-false, le-leb}
use lib.Dec.{eqb, eqb-suc-zero}
use lib.ListN.{length, set, length-append, length-set, get_or-append}
use lib.Seq.{append_snoc, get_or-append-add, get_or-set_same, get_or-set_other}
use Rattle.model.specs.Lists.{up_from}
use Rattle.model.specs.Graph.{Domain, Accepted, Usable, from, to, cost, choices}
use Rattle.model.specs.Tree.{Tree, Node, node, no_node, closed_at, evaluation_of, evaluation, weight, without, popped, close, closed_within, appended, push_if, push_node, child, push_all, expanded}
use Rattle.model.specs.Sound.{Sound, Hangs, Reached, shut, waits, closed_edges}
use Rattle.model.proofs.Lists.{without-mem, without-keeps, without-ascends, without-length, up_mem, up-has, up-ascends, up-length, append-ascends}
use Rattle.model.proofs.Choices.{choices-mem, choices-has, choices-few, closed-more}
use Rattle.model.proofs.Worth.{child-evaluation}
use Rattle.model.proofs.Least.{node-inside}

-- one number is below another or not
cut {ℓ} : {X : Type ℓ} (a b : ℕ) → (a < b → X) → (b ≤ a → X) → X
cut a b f g = elim (dec_le b a) [ yes h ↦ g h | no h ↦ f (lt_of_not-le h) ]

same {ℓ} : {X : Type ℓ} (a b : ℕ) → (a ≡ b → X) → (a ≢ b → X) → X
same a b f g = elim (ℕ_discrete a b) [ yes h ↦ f h | no h ↦ g h ]

-- ---- the nodes that edges give

abbrev keep_node : Bool → Node → List Node → List Node
keep_node true x l = x ∷ l
keep_node false x l = l

-- what the edges ls give, hung on node n, which is p, except to vertices that the words cl say are closed
unfoldable pub offspring : Domain → List ℕ → ℕ → Node → List ℕ → List Node
offspring d cl n p [] = []
offspring d cl n p (l ∷ ls) = keep_node (eqb (closed_at cl (to d.graph l)) 0) (child d n p l) (offspring d cl n p ls)

offspring-at : (d : Domain) (cl : List ℕ) (n : ℕ) (p : Node) (ls : List ℕ) (j : ℕ) → j < length (offspring d cl n p ls)
    → (l : ℕ) × Memᴰ l ls × (node (offspring d cl n p ls) j ≡ child d n p l)
unfolding offspring
offspring-at d cl n p [] j h = absurd (omega arith)
offspring-at d cl n p (x ∷ xs) j h = go (λ i. offspring-at d cl n p xs i) (eqb (closed_at cl (to d.graph x)) 0) j h
  where
    rest : List Node
    rest = offspring d cl n p xs

    go : ((i : ℕ) → i < length rest → (l : ℕ) × Memᴰ l xs × (node rest i ≡ child d n p l))
        → (b : Bool) (j : ℕ) → j < length (keep_node b (child d n p x) rest)
        → (l : ℕ) × Memᴰ l (x ∷ xs) × (node (keep_node b (child d n p x) rest) j ≡ child d n p l)
    go ih true zero h = (x, Memᴰ.head refl, refl)
    go ih true (suc i) h = let r = ih i (omega arith) in (r.0, Memᴰ.tail r.1, r.2)
    go ih false i h = let r = ih i h in (r.0, Memᴰ.tail r.1, r.2)

offspring-has : (d : Domain) (cl : List ℕ) (n : ℕ) (p : Node) (ls : List ℕ) (l : ℕ) → Memᴰ l ls → closed_at cl (to d.graph l) ≡ 0
    → (j : ℕ) × (j < length (offspring d cl n p ls)) × (node (offspring d cl n p ls) j ≡ child d n p l)
unfolding offspring
offspring-has d cl n p [] l m e = absurd (Memᴰ.not-nil m)
offspring-has d cl n p (x ∷ xs) l m e = go (λ r. offspring-has d cl n p xs l r e) (eqb (closed_at cl (to d.graph x)) 0) refl (Memᴰ.cases_cons m)
  where
    rest : List Node
    rest = offspring d cl n p xs

    go : (Memᴰ l xs → (j : ℕ) × (j < length rest) × (node rest j ≡ child d n p l))
        → (b : Bool) → eqb (closed_at cl (to d.graph x)) 0 ≡ b → (l ≡ x) ⊎ Memᴰ l xs
        → (j : ℕ) × (j < length (keep_node b (child d n p x) rest)) × (node (keep_node b (child d n p x) rest) j ≡ child d n p l)
    go ih true q (inl h) = (zero, omega arith, ap (child d n p) (sym h))
    go ih true q (inr r) = let q = ih r in (suc q.0, omega (arith, q.1), q.2)
    go ih false q (inl h) = absurd (eqb-false (closed_at cl (to d.graph x)) 0 q (ap (λ (y : ℕ). closed_at cl (to d.graph y)) (sym h) ∙ e))
    go ih false q (inr r) = ih r

offspring-length : (d : Domain) (cl : List ℕ) (n : ℕ) (p : Node) (ls : List ℕ) → length (offspring d cl n p ls) ≤ length ls
unfolding offspring
offspring-length d cl n p [] = omega arith
offspring-length d cl n p (x ∷ xs) = go (offspring-length d cl n p xs) (eqb (closed_at cl (to d.graph x)) 0)
  where
    go : length (offspring d cl n p xs) ≤ length xs → (b : Bool) → length (keep_node b (child d n p x) (offspring d cl n p xs)) ≤ suc (length xs)
    go ih true = omega arith
    go ih false = omega arith

-- ---- pushing one after the other is pushing all at once

-- the nodes xs with the next numbers, and their tickets
abbrev pub extended : Tree → List Node → Tree
extended t xs =
    record { start = t.start; nodes = t.nodes ++ xs; waiting = t.waiting ++ up_from (length xs) (length t.nodes); closed = t.closed }

extended_none : (t : Tree) → t ≡ extended t []
extended_none t =
    let pn : t.nodes ≡ t.nodes ++ [] = sym (append-nil t.nodes) in
    let pq : t.waiting ≡ t.waiting ++ [] = sym (append-nil t.waiting) in
    λ i. record { start = t.start; nodes = pn i; waiting = pq i; closed = t.closed }

extended-cons : (t : Tree) (x : Node) (xs : List Node) → extended (appended t x) xs ≡ extended t (x ∷ xs)
extended-cons t x xs =
    let pn : (t.nodes ++ (x ∷ [])) ++ xs ≡ t.nodes ++ (x ∷ xs) = append_snoc t.nodes x xs in
    let pl : length (t.nodes ++ (x ∷ [])) ≡ suc (length t.nodes) = omega (arith, length-append t.nodes (x ∷ [])) in
    let pq : (t.waiting ++ (length t.nodes ∷ [])) ++ up_from (length xs) (length (t.nodes ++ (x ∷ []))) ≡ t.waiting ++ up_from (length (x ∷ xs)) (length t.nodes)
    = rw pl (append_snoc t.waiting (length t.nodes) (up_from (length xs) (suc (length t.nodes)))) in
    λ i. record { start = t.start; nodes = pn i; waiting = pq i; closed = t.closed }

-- every closed word names a node, of evaluation k or less
abbrev pub ClosedWithin : List Node → List ℕ → ℕ → Type 0
ClosedWithin ns cl k = (v i : ℕ) → closed_at cl v ≡ suc i → (i < length ns) × (evaluation ns i ≤ k)

pub push-all : (d : Domain) (n : ℕ) (p : Node) (t : Tree) (ls : List ℕ) → ClosedWithin t.nodes t.closed (evaluation_of p)
    → push_all d n p t ls ≡ extended t (offspring d t.closed n p ls)
unfolding push_all push_node offspring
push-all d n p t [] f = extended_none t
push-all d n p t (l ∷ ls) f = go (λ u g. push-all d n p u ls g) (closed_at t.closed (to d.graph l)) refl
  where
    y : Node
    y = child d n p l

    go : ((u : Tree) → ClosedWithin u.nodes u.closed (evaluation_of p) → push_all d n p u ls ≡ extended u (offspring d u.closed n p ls))
        → (z : ℕ) → closed_at t.closed (to d.graph l) ≡ z
        → push_all d n p (push_if (closed_within t.nodes (evaluation_of y) z) t y) ls
        ≡ extended t (keep_node (eqb z 0) y (offspring d t.closed n p ls))
    go ih zero e =
        let g : ClosedWithin (t.nodes ++ (y ∷ [])) t.closed (evaluation_of p)
        = λ v i h. let r = f v i h in (omega (arith, r.0, length-append t.nodes (y ∷ [])), rw (get_or-append t.nodes (y ∷ []) no_node i r.0) r.1) in
        ih (appended t y) g ∙ extended-cons t y (offspring d t.closed n p ls)
    go ih (suc i) e =
        let r = f (to d.graph l) i e in
        rw (le-leb (evaluation t.nodes i) (evaluation_of y) (omega (arith, r.1, child-evaluation d n p l)), eqb-suc-zero i) (ih t f)

-- ---- a ticket for a closed vertex is skipped

module _ (d : Domain) (t : Tree) (ok : Sound d t) (n i : ℕ) (q : Memᴰ n t.waiting) (e : closed_at t.closed (node t.nodes n).vertex ≡ suc i) where
  popped-reached : (v k : ℕ) → Reached t.nodes t.waiting t.closed v k → Reached t.nodes (without n t.waiting) t.closed v k
  popped-reached v k (shut j f h) = shut j f h
  popped-reached v k (waits j w f h) = go (without-keeps n t.waiting j w)
    where
      go : (j ≡ n) ⊎ Memᴰ j (without n t.waiting) → Reached t.nodes (without n t.waiting) t.closed v k
      go (inl z) = shut i (rw (← f, z) e) (le_trans (ok.cheapest (node t.nodes n).vertex i j e w) h)
      go (inr r) = waits j r f h

  popped-begun : (closed_at t.closed t.start ≢ 0) ⊎ Memᴰ 0 t.waiting → (closed_at t.closed t.start ≢ 0) ⊎ Memᴰ 0 (without n t.waiting)
  popped-begun (inl h) = inl h
  popped-begun (inr m) = elim (without-keeps n t.waiting 0 m) [
    | inl z ↦
        let e' : closed_at t.closed t.start ≡ suc i = ap (closed_at t.closed) (sym ok.root_vertex ∙ ap (λ (y : ℕ). (node t.nodes y).vertex) z) ∙ e in
        inl (λ h. omega (arith, sym h ∙ e'))
    | inr r ↦ inr r
  ]

  pub popped-sound : Sound d (popped t n)
  unfolding popped
  popped-sound =
      record {
        some_node = ok.some_node;
        inside = ok.inside;
        allowed = ok.allowed;
        root_vertex = ok.root_vertex;
        root-cost = ok.root-cost;
        root_parent = ok.root_parent;
        root_edge = ok.root_edge;
        hangs = ok.hangs;
        queue = λ j w. ok.queue j (without-mem n t.waiting j w);
        ascends = without-ascends n 0 t.waiting ok.ascends;
        sized = ok.sized;
        closer = ok.closer;
        cheapest = λ v a j f w. ok.cheapest v a j f (without-mem n t.waiting j w);
        few = ok.few;
        begun = popped-begun ok.begun;
        onward = λ v a l f h g. popped-reached _ _ (ok.onward v a l f h g);
      }

-- ---- any other closes its vertex

module _ (d : Domain) (acc : Accepted d.graph) (t : Tree) (ok : Sound d t) (n : ℕ) (wn : Memᴰ n t.waiting)
    (free : closed_at t.closed (node t.nodes n).vertex ≡ 0)
    (first : (j : ℕ) → Memᴰ j t.waiting → evaluation t.nodes n ≤ evaluation t.nodes j) where
  abbrev pub ns : List Node
  ns = t.nodes

  abbrev pub v : ℕ
  v = (node t.nodes n).vertex

  abbrev pub top : Node
  top = node t.nodes n

  abbrev pub k : ℕ
  k = evaluation t.nodes n

  abbrev pub cl' : List ℕ
  cl' = set t.closed (node t.nodes n).vertex (suc n)

  abbrev pub out : List ℕ
  out = choices d (node t.nodes n).vertex

  abbrev pub new : List Node
  new = offspring d cl' n top out

  abbrev pub ns' : List Node
  ns' = ns ++ new

  abbrev pub q' : List ℕ
  q' = without n t.waiting ++ up_from (length new) (length ns)

  pub here : n < length ns
  here = ok.queue n wn

  pub in-closed : v < length t.closed
  in-closed = rw ok.sized (node-inside d acc t ok n here)

  -- what was there is there
  pub old : (i : ℕ) → i < length ns → node ns' i ≡ node ns i
  old i h = get_or-append ns new no_node i h

  pub now : closed_at cl' v ≡ suc n
  now = get_or-set_same t.closed v (suc n) 0 in-closed

  pub other : (x : ℕ) → x ≢ v → closed_at cl' x ≡ closed_at t.closed x
  other x h = get_or-set_other t.closed v x (suc n) 0 h

  pub closed-ne : (x i : ℕ) → closed_at t.closed x ≡ suc i → x ≢ v
  closed-ne x i e h = let z : suc i ≡ 0 = sym e ∙ ap (closed_at t.closed) h ∙ free in omega arith

  pub still : (x i : ℕ) → closed_at t.closed x ≡ suc i → closed_at cl' x ≡ suc i
  still x i e = other x (closed-ne x i e) ∙ e

  -- a closed word now is the new one, or was there
  pub closed-cases : (x i : ℕ) → closed_at cl' x ≡ suc i → ((x ≡ v) × (i ≡ n)) ⊎ (closed_at t.closed x ≡ suc i)
  closed-cases x i e = same x v (λ h. inl (h, go h)) (λ h. inr (sym (other x h) ∙ e))
    where
      go : x ≡ v → i ≡ n
      go h = let z : suc i ≡ suc n = sym e ∙ ap (closed_at cl') h ∙ now in omega arith

  -- a node that is new
  record New (i : ℕ) : Type 0 where
    l : ℕ
    real : Usable d.graph l
    leaves : from d.graph l ≡ v
    is : node ns' i ≡ child d n top l

  new-at : (j : ℕ) → j < length new → New (length ns + j)
  new-at j h =
      let r = offspring-at d cl' n top out j h in
      let p = choices-mem d v r.0 r.1 in
      record { l = r.0; real = p.0; leaves = p.1; is = get_or-append-add ns new j no_node ∙ r.2 }

  new_is : (i : ℕ) → length ns ≤ i → i < length ns' → New i
  new_is i h g = subst New (add-sub_of_le h) (new-at (i - length ns) (omega (arith, length-append ns new)))

  waits-cases : (j : ℕ) → Memᴰ j q' → Memᴰ j t.waiting ⊎ ((length ns ≤ j) × (j < length ns'))
  waits-cases j w = elim (Memᴰ.append_cases (without n t.waiting) w) [
    | inl a ↦ inl (without-mem n t.waiting j a)
    | inr b ↦ inr (omega (arith, up_mem (length new) (length ns) j b, length-append ns new))
  ]

  grown-reached : (x c : ℕ) → Reached ns t.waiting t.closed x c → Reached ns' q' cl' x c
  grown-reached x c (shut i e h) = shut i (still x i e) (rw (old i (ok.closer x i e).0) h)
  grown-reached x c (waits j w e h) = go (without-keeps n t.waiting j w)
    where
      go : (j ≡ n) ⊎ Memᴰ j (without n t.waiting) → Reached ns' q' cl' x c
      go (inl z) = shut n (ap (closed_at cl') (sym e ∙ ap (λ (y : ℕ). (node ns y).vertex) z) ∙ now) (rw (old n here, ← z) h)
      go (inr r) = waits j (Memᴰ.append_left _ r) (rw (old j (ok.queue j w)) e) (rw (old j (ok.queue j w)) h)

  pub closed-le : (x i : ℕ) → closed_at cl' x ≡ suc i → evaluation ns' i ≤ k
  closed-le x i e = go (closed-cases x i e)
    where
      go : ((x ≡ v) × (i ≡ n)) ⊎ (closed_at t.closed x ≡ suc i) → evaluation ns' i ≤ k
      go (inl h) = rw (h.1, old n here) (omega arith)
      go (inr h) = rw (old i (ok.closer x i h).0) (ok.cheapest x i n h wn)

  pub waits-ge : (j : ℕ) → Memᴰ j q' → k ≤ evaluation ns' j
  waits-ge j w = go (waits-cases j w)
    where
      go : Memᴰ j t.waiting ⊎ ((length ns ≤ j) × (j < length ns')) → k ≤ evaluation ns' j
      go (inl h) = rw (old j (ok.queue j h)) (first j h)
      go (inr h) = let r : New j = new_is j h.0 h.1 in rw r.is (omega (arith, child-evaluation d n top r.l))

  -- the edges of the vertex just closed
  new-onward : (l : ℕ) → Usable d.graph l → from d.graph l ≡ v → Reached ns' q' cl' (to d.graph l) (evaluation ns' n + weight d l)
  new-onward l h e = go (closed_at cl' (to d.graph l)) refl
    where
      go : (x : ℕ) → closed_at cl' (to d.graph l) ≡ x → Reached ns' q' cl' (to d.graph l) (evaluation ns' n + weight d l)
      go zero z =
          let r = offspring-has d cl' n top out l (choices-has d acc v l h e) z in
          let is : node ns' (length ns + r.0) ≡ child d n top l = get_or-append-add ns new r.0 no_node ∙ r.2 in
          waits (length ns + r.0) (Memᴰ.append_right (without n t.waiting) (up-has (length new) (length ns) r.0 r.1))
          (ap (λ (x : Node). x.vertex) is) (rw (is, old n here) (omega (arith, child-evaluation d n top l)))
      go (suc i) z = shut i z (rw (old n here) (omega (arith, closed-le (to d.graph l) i z)))

  new-hangs : (i : ℕ) → New i → length ns ≤ i → Hangs d ns' cl' i
  new-hangs i r h =
      let pl : (node ns' i).edge ≡ r.l = ap (λ (x : Node). x.edge) r.is in
      let pp : (node ns' i).parent ≡ n = ap (λ (x : Node). x.parent) r.is in
      let pv : (node ns' i).vertex ≡ to d.graph r.l = ap (λ (x : Node). x.vertex) r.is in
      let pc : (node ns' i).cost ≡ top.cost + cost d.graph r.l = ap (λ (x : Node). x.cost) r.is in
      record {
        lower = omega (arith, here);
        real = rw pl r.real;
        leaves = rw (pl, pp, old n here) r.leaves;
        enters = rw (pl, pv);
        costs = rw (pl, pp, pc, old n here);
        closer = rw (pp, old n here) now;
      }

  old-hangs : (i : ℕ) → i < length ns → Hangs d ns t.closed i → Hangs d ns' cl' i
  old-hangs i h g =
      let p : ℕ = (node ns i).parent in
      let pi : node ns' i ≡ node ns i = old i h in
      let pp : node ns' p ≡ node ns p = old p (omega (arith, g.lower)) in
      record {
        lower = rw pi g.lower;
        real = rw pi g.real;
        leaves = rw (pi, pp) g.leaves;
        enters = rw pi g.enters;
        costs = rw (pi, pp) g.costs;
        closer = rw (pi, pp) (still _ _ g.closer);
      }

  sound-hangs : (i : ℕ) → i ≢ 0 → i < length ns' → Hangs d ns' cl' i
  sound-hangs i z h = cut i (length ns) (λ g. old-hangs i g (ok.hangs i z g)) (λ g. new-hangs i (new_is i g h) g)

  sound-queue : (j : ℕ) → Memᴰ j q' → j < length ns'
  sound-queue j w = elim (waits-cases j w) [ inl h ↦ omega (arith, ok.queue j h, length-append ns new) | inr h ↦ h.1 ]

  sound-closer : (x i : ℕ) → closed_at cl' x ≡ suc i → (i < length ns') × ((node ns' i).vertex ≡ x)
  sound-closer x i e = go (closed-cases x i e)
    where
      go : ((x ≡ v) × (i ≡ n)) ⊎ (closed_at t.closed x ≡ suc i) → (i < length ns') × ((node ns' i).vertex ≡ x)
      go (inl h) = (omega (arith, here, length-append ns new), rw (h.1, old n here) (sym h.0))
      go (inr h) = let r = ok.closer x i h in (omega (arith, r.0, length-append ns new), rw (old i r.0) r.1)

  sound-few : length ns' ≤ suc (length (closed_edges d.graph cl'))
  sound-few = omega (arith, closed-more d.graph t.closed v n in-closed free, ok.few, length-append ns new, offspring-length d cl' n top out, choices-few d v)

  sound-begun : (closed_at t.closed t.start ≢ 0) ⊎ Memᴰ 0 t.waiting → (closed_at cl' t.start ≢ 0) ⊎ Memᴰ 0 q'
  sound-begun (inl h) = inl (go (closed_at t.closed t.start) refl)
    where
      go : (x : ℕ) → closed_at t.closed t.start ≡ x → closed_at cl' t.start ≢ 0
      go zero e = absurd (h e)
      go (suc i) e = λ z. omega (arith, sym z ∙ still t.start i e)
  sound-begun (inr m) = elim (without-keeps n t.waiting 0 m) [
    | inl z ↦
        let e : closed_at cl' t.start ≡ suc n = ap (closed_at cl') (sym ok.root_vertex ∙ ap (λ (y : ℕ). (node ns y).vertex) z) ∙ now in
        inl (λ h. omega (arith, sym h ∙ e))
    | inr r ↦ inr (Memᴰ.append_left _ r)
  ]

  sound-onward : (x i l : ℕ) → closed_at cl' x ≡ suc i → Usable d.graph l → from d.graph l ≡ x
      → Reached ns' q' cl' (to d.graph l) (evaluation ns' i + weight d l)
  sound-onward x i l e h g = go (closed-cases x i e)
    where
      go : ((x ≡ v) × (i ≡ n)) ⊎ (closed_at t.closed x ≡ suc i) → Reached ns' q' cl' (to d.graph l) (evaluation ns' i + weight d l)
      go (inl z) = rw z.1 (new-onward l h (g ∙ z.0))
      go (inr z) = rw (old i (ok.closer x i z).0) (grown-reached (to d.graph l) _ (ok.onward x i l z h g))

  -- the tree after closing, by its parts
  abbrev pub closing : Tree
  closing = record { start = t.start; nodes = ns'; waiting = q'; closed = cl' }

  within : ClosedWithin ns cl' k
  within x i e = go (closed-cases x i e)
    where
      go : ((x ≡ v) × (i ≡ n)) ⊎ (closed_at t.closed x ≡ suc i) → (i < length ns) × (evaluation ns i ≤ k)
      go (inl h) = (rw h.1 here, rw h.1 (omega arith))
      go (inr h) = ((ok.closer x i h).0, ok.cheapest x i n h wn)

  pub expanded-is : expanded d (popped t n) n ≡ closing
  unfolding expanded popped close
  expanded-is = push-all d n top (close (popped t n) v n) out within

  closing-sound : Sound d closing
  closing-sound =
      record {
        some_node = omega (arith, ok.some_node, length-append ns new);
        inside = ok.inside;
        allowed = ok.allowed;
        root_vertex = rw (old 0 ok.some_node) ok.root_vertex;
        root-cost = rw (old 0 ok.some_node) ok.root-cost;
        root_parent = rw (old 0 ok.some_node) ok.root_parent;
        root_edge = rw (old 0 ok.some_node) ok.root_edge;
        hangs = sound-hangs;
        queue = sound-queue;
        ascends = append-ascends 0 (length ns) (without n t.waiting) (up_from (length new) (length ns)) (omega arith)
            (without-ascends n 0 t.waiting ok.ascends) (λ i w. ok.queue i (without-mem n t.waiting i w)) (up-ascends (length new) (length ns));
        sized = length-set t.closed v (suc n) ∙ ok.sized;
        closer = sound-closer;
        cheapest = λ x i j e w. le_trans (closed-le x i e) (waits-ge j w);
        few = sound-few;
        begun = sound-begun ok.begun;
        onward = sound-onward;
      }

  pub expanded-sound : Sound d (expanded d (popped t n) n)
  expanded-sound = subst (Sound d) (sym expanded-is) closing-sound

  -- one ticket: nodes used less nodes waiting grows by one
  pub expanded-ticket : length ns' + length t.waiting ≡ suc (length ns + length q')
  expanded-ticket =
      omega (arith, length-append ns new, length-append (without n t.waiting) (up_from (length new) (length ns)), up-length (length new) (length ns), without-length n 0 t.waiting ok.ascends wn)
