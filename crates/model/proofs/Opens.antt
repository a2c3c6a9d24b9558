-- What opening a search gives: one entry for each root that may start, and the trees that are its own.
-- Assumes nothing.
use mathlib.Core.Path.{◌≡◌, refl, sym, ap, ◌∙◌, subst}
use Rattle.std.specs.declared.option.Option.{Option}
use Rattle.std.specs.Prelude.{None, Some}
use mathlib.Core.Logic.{◌⊎◌, inl, inr, ◌≢◌}
use mathlib.Core.Bool.{Bool, true, false, not, ◌||◌, true≢false}
use mathlib.Core.List.Memᴰ
use mathlib.Core.List.{List, [], ◌∷◌, ◌++◌, Memᴰ, map, append-nil, append_assoc}
use Prim.Native.Nat.{ℕ, zero, suc, ◌-◌, ◌<◌, ◌≤◌}
use native.Mathlib.Omega.{arith}
use borrow.Author.Tests.{eqb-true, eqb-false, not-true}
use lib.Dec.{eqb}
use lib.ListN.{length, get_or, replicate, length-append, length-replicate, length-map, get_or-append}
use lib.Seq.{take-append_seam}
use Rattle.model.specs.declared.TreeMemory.{TreeMemory}
use Rattle.model.specs.declared.Search.{Search}
use Rattle.model.specs.Lists.{keep, mem, all_below}
use Rattle.model.specs.Graph.{Domain, absent, vertex_count, initial_cost}
use Rattle.model.specs.Tree.{Tree, new_tree}
use Rattle.model.specs.Sound.{tree}
use Rattle.model.specs.Search.{blank, entry, goals, seek, Planted, entry_of, plant, plant_all, new_search}
use Rattle.model.specs.Demands.{distinct}
use Rattle.model.proofs.Lists.{mem-nil, mem-head, mem-tail, mem-cases}
use Rattle.model.proofs.Keeps.{seek-at, seek-more, seek-new}
use Rattle.model.proofs.Turns.{Known, first-known, unsolved-at}
use Rattle.model.proofs.Rounds.{EntryOk, Ready}

-- v may root a tree
abbrev pub Allowed : Domain → ℕ → Type 0
Allowed d v = initial_cost d v ≢ absent

abbrev pub allowedb : Domain → ℕ → Bool
allowedb d v = not (eqb (initial_cost d v) absent)

-- e is as opened, for a root of vs
pub record Rooted (d : Domain) (vs : List ℕ) (ts : List Tree) (e : TreeMemory) : Type 0 where
  pub v : ℕ
  pub root : mem v vs ≡ true
  pub allowed : Allowed d v
  pub at : seek ts v 0 ≡ Some e.tree
  pub is : e ≡ entry_of e.tree

-- an entry whose tree starts at v
pub record EntryFor (ts : List Tree) (es : List TreeMemory) (v : ℕ) : Type 0 where
  pub j : ℕ
  pub inside : j < length es
  pub at : seek ts v 0 ≡ Some (get_or es j blank).tree

pub record Opens (d : Domain) (ts : List Tree) (vs : List ℕ) (p : Planted) : Type 0 where
  pub more : (us : List Tree) × (p.trees ≡ ts ++ us)
  pub entries : (j : ℕ) → j < length p.entries → Rooted d vs p.trees (get_or p.entries j blank)
  pub found : (v : ℕ) → mem v vs ≡ true → Allowed d v → EntryFor p.trees p.entries v
  pub short : length p.entries ≤ length vs

-- one root: skipped, or with an entry
data One (d : Domain) (ts : List Tree) (v : ℕ) : List Tree → List TreeMemory → Type 0 where
  skips : initial_cost d v ≡ absent → One d ts v ts []
  enters : (us : List Tree) (i : ℕ) → Allowed d v → seek (ts ++ us) v 0 ≡ Some i → One d ts v (ts ++ us) (entry_of i ∷ [])

one : (d : Domain) (ts : List Tree) (v : ℕ) → let p = plant d ts v (eqb (initial_cost d v) absent) (seek ts v 0) in One d ts v p.trees p.entries
unfolding plant
one d ts v = go (eqb (initial_cost d v) absent) refl (seek ts v 0) refl
  where
    go : (b : Bool) → eqb (initial_cost d v) absent ≡ b → (o : Option ℕ) → seek ts v 0 ≡ o → One d ts v (plant d ts v b o).trees (plant d ts v b o).entries
    go true e o z = skips (eqb-true _ _ e)
    go false e (Some i) z = subst (λ (us : List Tree). One d ts v us (entry_of i ∷ [])) (append-nil ts) (enters [] i (eqb-false _ _ e) (rw (append-nil ts) z))
    go false e None z = enters (new_tree d v ∷ []) (length ts) (eqb-false _ _ e) (seek-new ts (new_tree d v) v 0 (unfold new_tree in refl) z ∙ ap Some (omega arith))

pub opens : (d : Domain) (vs : List ℕ) (ts : List Tree) → Opens d ts vs (plant_all d ts vs)
unfolding plant_all
opens d [] ts =
    record { more = ([], sym (append-nil ts)); entries = λ j h. absurd (omega arith); found = λ v e. absurd (true≢false (sym e ∙ mem-nil v)); short = omega arith }
opens d (v ∷ vs) ts =
    let p = plant d ts v (eqb (initial_cost d v) absent) (seek ts v 0) in
    cons p.trees p.entries (one d ts v) (plant_all d p.trees vs) (opens d vs p.trees)
  where
    cons : (ws : List Tree) (es : List TreeMemory) → One d ts v ws es → (r : Planted) → Opens d ws vs r
        → Opens d ts (v ∷ vs) (record { trees = r.trees; entries = es ++ r.entries })
    cons ws es (skips a) r R =
        record {
          more = R.more;
          entries = λ j h. wider (R.entries j h);
          found = λ x e k. elim (mem-cases x v vs e) [ inl q ↦ absurd (k (ap (initial_cost d) q ∙ a)) | inr q ↦ R.found x q k ];
          short = omega (arith, R.short);
        }
      where
        wider : {e : TreeMemory} → Rooted d vs r.trees e → Rooted d (v ∷ vs) r.trees e
        wider k = record { v = k.v; root = mem-tail k.v v vs k.root; allowed = k.allowed; at = k.at; is = k.is }
    cons ws es (enters us i a z) r R =
        record {
          more = (us ++ R.more.0, R.more.1 ∙ append_assoc ts us R.more.0);
          entries = all;
          found = λ x e k. elim (mem-cases x v vs e) [
            | inl q ↦ record { j = 0; inside = omega arith; at = rw q stays }
            | inr q ↦ let f = R.found x q k in record { j = suc f.j; inside = omega (arith, f.inside); at = f.at }
          ];
          short = omega (arith, R.short);
        }
      where
        stays : seek r.trees v 0 ≡ Some i
        stays = rw R.more.1 (seek-more (ts ++ us) R.more.0 v 0 i z)

        all : (j : ℕ) → j < suc (length r.entries) → Rooted d (v ∷ vs) r.trees (get_or (entry_of i ∷ r.entries) j blank)
        all zero h = record { v = v; root = mem-head v v vs refl; allowed = a; at = stays; is = refl }
        all (suc j) h = let k = R.entries j (omega arith) in record { v = k.v; root = mem-tail k.v v vs k.root; allowed = k.allowed; at = k.at; is = k.is }

-- ---- each once

pub distinct-has : (p : ℕ → Bool) (vs : List ℕ) (x : ℕ) → mem x vs ≡ true → p x ≡ true → Memᴰ x (distinct p vs)
unfolding distinct
distinct-has p [] x e h = absurd (true≢false (sym e ∙ mem-nil x))
distinct-has p (v ∷ vs) x e h = go (λ q. distinct-has p vs x q h) (mem v vs) refl (p v) refl (mem-cases x v vs e)
  where
    go : (mem x vs ≡ true → Memᴰ x (distinct p vs)) → (a : Bool) → mem v vs ≡ a → (b : Bool) → p v ≡ b
        → (x ≡ v) ⊎ (mem x vs ≡ true) → Memᴰ x (keep (not (a || not b)) v (distinct p vs))
    go ih true q b r (inl z) = ih (ap (λ (y : ℕ). mem y vs) z ∙ q)
    go ih true q b r (inr z) = ih z
    go ih false q false r (inl z) = absurd (true≢false (sym h ∙ ap p z ∙ r))
    go ih false q false r (inr z) = ih z
    go ih false q true r (inl z) = Memᴰ.head z
    go ih false q true r (inr z) = Memᴰ.tail (ih z)

pub distinct_from : (p : ℕ → Bool) (vs : List ℕ) (x : ℕ) → Memᴰ x (distinct p vs) → (mem x vs ≡ true) × (p x ≡ true)
unfolding distinct
distinct_from p [] x k = absurd (Memᴰ.not-nil k)
distinct_from p (v ∷ vs) x k = go (distinct_from p vs x) (mem v vs) (p v) refl k
  where
    next : (mem x vs ≡ true) × (p x ≡ true) → (mem x (v ∷ vs) ≡ true) × (p x ≡ true)
    next q = (mem-tail x v vs q.0, q.1)

    go : (Memᴰ x (distinct p vs) → (mem x vs ≡ true) × (p x ≡ true)) → (a b : Bool) → p v ≡ b
        → Memᴰ x (keep (not (a || not b)) v (distinct p vs)) → (mem x (v ∷ vs) ≡ true) × (p x ≡ true)
    go ih true b q k = next (ih k)
    go ih false false q k = next (ih k)
    go ih false true q k = elim (Memᴰ.cases_cons k) [ inl z ↦ (mem-head x v vs z, ap p z ∙ q) | inr z ↦ next (ih z) ]

pub allowed-true : (d : Domain) (v : ℕ) → Allowed d v → allowedb d v ≡ true
allowed-true d v a = go (eqb (initial_cost d v) absent) refl
  where
    go : (b : Bool) → eqb (initial_cost d v) absent ≡ b → not b ≡ true
    go true e = absurd (a (eqb-true _ _ e))
    go false e = refl

pub true-allowed : (d : Domain) (v : ℕ) → allowedb d v ≡ true → Allowed d v
true-allowed d v e = eqb-false _ _ (not-true _ e)

map-has : (f : ℕ → ℕ) (xs : List ℕ) (x : ℕ) → Memᴰ x xs → Memᴰ (f x) (map f xs)
map-has f [] x m = absurd (Memᴰ.not-nil m)
map-has f (y ∷ ys) x (Memᴰ.head e) = Memᴰ.head (ap f e)
map-has f (y ∷ ys) x (Memᴰ.tail m) = Memᴰ.tail (map-has f ys x m)

map-from : (f : ℕ → ℕ) (xs : List ℕ) (y : ℕ) → Memᴰ y (map f xs) → (x : ℕ) × Memᴰ x xs × (y ≡ f x)
map-from f [] y m = absurd (Memᴰ.not-nil m)
map-from f (x ∷ xs) y (Memᴰ.head e) = (x, Memᴰ.head refl, e)
map-from f (x ∷ xs) y (Memᴰ.tail m) = let r = map-from f xs y m in (r.0, Memᴰ.tail r.1, r.2)

-- ---- the search's own trees

or_zero : Option ℕ → ℕ
or_zero None = 0
or_zero (Some i) = i

index : List Tree → ℕ → ℕ
index ts v = or_zero (seek ts v 0)

index_is : (ts : List Tree) (v i : ℕ) → seek ts v 0 ≡ Some i → i ≡ index ts v
unfolding index or_zero
index_is ts v i e = rw e

-- the slots of the different roots that may start
pub slots_of : Domain → List Tree → List ℕ → List ℕ
slots_of d ts vs = map (index ts) (distinct (allowedb d) vs)

pub slots_length : (d : Domain) (ts : List Tree) (vs : List ℕ) → length (slots_of d ts vs) ≡ length (distinct (allowedb d) vs)
unfolding slots_of
slots_length d ts vs = length-map (distinct (allowedb d) vs) (index ts)

-- tree i is one of the search's own: it starts at a root that may start
pub record Own (d : Domain) (vs : List ℕ) (ts : List Tree) (i : ℕ) : Type 0 where
  pub inside : i < length ts
  pub root : mem (tree ts i).start vs ≡ true
  pub allowed : Allowed d (tree ts i).start

module _ (d : Domain) (vs gs : List ℕ) (ts : List Tree) (few : length vs ≤ 64) (few_goals : length gs ≤ 64) (below : all_below (vertex_count d.graph) gs ≡ true) where
  abbrev us : List Tree
  us = (plant_all d ts vs).trees

  abbrev es : List TreeMemory
  es = (plant_all d ts vs).entries

  R : Opens d ts vs (plant_all d ts vs)
  R = opens d vs ts

  pub opened-own : (i : ℕ) → Memᴰ i (slots_of d us vs) → Own d vs us i
  unfolding slots_of
  opened-own i k =
      let r = map-from (index us) (distinct (allowedb d) vs) i k in
      let p = distinct_from (allowedb d) vs r.0 r.1 in
      let f = R.found r.0 p.0 (true-allowed d r.0 p.1) in
      let z : i ≡ (get_or es f.j blank).tree = r.2 ∙ sym (index_is us r.0 _ f.at) in
      let a = seek-at us r.0 (get_or es f.j blank).tree f.at in
      record { inside = omega (arith, a.0); root = rw (z, a.1) p.0; allowed = rw (z, a.1) (true-allowed d r.0 p.1) }

  opened-entry : (e : TreeMemory) → Rooted d vs us e → EntryOk (λ i. Memᴰ i (slots_of d us vs)) d gs us None e
  unfolding slots_of
  opened-entry e k =
      record {
        own = rw (index_is us k.v e.tree k.at) (map-has (index us) (distinct (allowedb d) vs) k.v (distinct-has (allowedb d) vs k.v k.root (allowed-true d k.v k.allowed)));
        inside = (seek-at us k.v e.tree k.at).0;
        known = subst (λ (x : TreeMemory). Known d gs (tree us e.tree) x.last_known_closed_len x.solution) (sym k.is) (first-known d gs (tree us e.tree));
        low = λ n z. absurd (unsolved-at n (sym (ap (λ (x : TreeMemory). x.solution) k.is) ∙ z));
      }

  abbrev new : Search
  new = new_search es gs

  pub opened-goals : goals (new_search es gs) ≡ gs
  opened-goals = take-append_seam gs (replicate (64 - length gs) 0)

  entry-is : (j : ℕ) → j < length es → entry new j ≡ get_or es j blank
  entry-is j h = get_or-append es (replicate (64 - length es) blank) blank j h

  pub opened-ready : Ready (λ i. Memᴰ i (slots_of d us vs)) d us (new_search es gs)
  opened-ready =
      record {
        arrays = omega (arith, length-append es (replicate (64 - length es) blank), length-replicate (64 - length es) blank, R.short);
        counts = omega (arith, R.short);
        keys = omega (arith, length-append gs (replicate {A = ℕ} (64 - length gs) 0), length-replicate {A = ℕ} (64 - length gs) 0);
        key_counts = few_goals;
        below = rw opened-goals below;
        entries = λ j h.
            subst (λ (x : List ℕ). EntryOk (λ i. Memᴰ i (slots_of d us vs)) d x us None (entry new j)) (sym opened-goals)
            (subst (EntryOk (λ i. Memᴰ i (slots_of d us vs)) d gs us None) (sym (entry-is j h)) (opened-entry (get_or es j blank) (R.entries j h)));
        best = tt;
      }

  -- each root that may start has an entry
  pub opened-rooted : (v : ℕ) → mem v vs ≡ true → Allowed d v → (j : ℕ) × (j < length es) × ((tree us (entry (new_search es gs) j).tree).start ≡ v)
  opened-rooted v e a =
      let f = R.found v e a in
      (f.j, f.inside, ap (λ (x : TreeMemory). (tree us x.tree).start) (entry-is f.j f.inside) ∙ (seek-at us v (get_or es f.j blank).tree f.at).1)
