-- Any call, with any record, keeps the trees of a cache sound, and what was there stays.
-- Assumes nothing.
use mathlib.Core.Path.{◌≡◌, refl, sym, ap, ◌∙◌, subst}
use Rattle.std.proofs.lemmas.Option.{none-some}
use Rattle.std.specs.declared.option.Option.{Option}
use Rattle.std.specs.Prelude.{None, Some}
use mathlib.Core.Logic.{inl, inr, ◌≢◌}
use mathlib.Core.Bool.{Bool, true, false}
use mathlib.Core.List.Memᴰ
use mathlib.Core.List.{List, [], ◌∷◌, ◌++◌}
use Prim.Native.Nat.{ℕ, zero, suc, ◌+◌, ◌<◌, ◌≤◌}
use native.Mathlib.Nat.{lt_of_not-le}
use native.Mathlib.Decide.{dec_le, ℕ_discrete}
use native.Mathlib.Omega.{arith}
use borrow.Author.Tests.{eqb-true, eqb-false, leb-true, le-leb, eq-eqb}
use lib.Dec.{eqb}
use lib.ListN.{length, set, replicate, length-set, length-append, length-replicate, get_or-append}
use lib.Seq.{set_out, get_or-append_seam, get_or-set_same, get_or-set_other}
use Rattle.model.specs.declared.Search.{Search}
use Rattle.model.specs.Lists.{mem}
use Rattle.model.specs.Graph.{Domain, Accepted, absent, vertex_count, initial_cost}
use Rattle.model.specs.Tree.{Tree, closed_at, new_tree}
use Rattle.model.specs.Sound.{tree, no_tree, Sound, SoundTrees}
use Rattle.model.specs.Search.{entry, goals, bound, lookup, turn, turn_by, Walk, round, rounds, walk, with_exhausted, seek, plant, plant_all, roots_of}
use Rattle.model.specs.Calls.{Cache, SoundCache, sound_cacheb, first_fault, initialize_by, initialize_faults, initialize, step_if, step_by, step_faults, step}
use Rattle.model.specs.Demands.{Call, initializing, stepping, retracing, reading, both, after, after_all}
use Rattle.model.proofs.Bools.{and-true, true-and}
use Rattle.model.proofs.Faults.{may-initialize, roots-below}
use Rattle.model.proofs.Tests.{trees-at, at-trees}
use Rattle.model.proofs.Lists.{mem-head, mem-tail}
use Rattle.model.proofs.Later.{Later, later_refl, later_trans}
use Rattle.model.proofs.Later as growing

-- the test of a sound cache passes exactly if it is sound
pub cache-at : (c : Cache) → sound_cacheb c ≡ true → SoundCache c
unfolding sound_cacheb
cache-at c e = let r = and-true _ _ e in record { within = leb-true _ _ r.0; trees = trees-at c.domain c.trees r.1 }

pub at-cache : (c : Cache) → SoundCache c → sound_cacheb c ≡ true
unfolding sound_cacheb
at-cache c ok = true-and _ _ (le-leb _ _ ok.within) (at-trees c.domain c.trees ok.trees)

-- ---- later trees

pub record AllLater (ts ts' : List Tree) : Type 0 where
  pub longer : length ts ≤ length ts'
  pub each : (i : ℕ) → i < length ts → Later (tree ts i) (tree ts' i)

pub all-refl : (ts : List Tree) → AllLater ts ts
all-refl ts = record { longer = omega arith; each = λ i h. later_refl (tree ts i) }

pub all-trans : (a b c : List Tree) → AllLater a b → AllLater b c → AllLater a c
all-trans a b c p q =
    record { longer = omega arith; each = λ i h. later_trans (tree a i) (tree b i) (tree c i) (p.each i h) (q.each i (omega arith)) }

abbrev pub Keeps : Domain → List Tree → List Tree → Type 0
Keeps d ts ts' = SoundTrees d ts' × AllLater ts ts'

pub keeps-trans : (d : Domain) (a b c : List Tree) → Keeps d a b → Keeps d b c → Keeps d a c
keeps-trans d a b c p q = (q.0, all-trans a b c p.1 q.1)

-- one tree is replaced by a later one
module _ (d : Domain) (ts : List Tree) (ok : SoundTrees d ts) (i : ℕ) (u : Tree) (h : i < length ts) (k : Sound d u) (l : Later (tree ts i) u) where
  set_cases : (P : ℕ → Tree → Type 0) → P i u → ((j : ℕ) → j < length ts → P j (tree ts j)) → (j : ℕ) → j < length ts → P j (tree (set ts i u) j)
  set_cases P p q j g = elim (ℕ_discrete j i) [ yes e ↦ rw (e, get_or-set_same ts i u no_tree h) p | no n ↦ rw (get_or-set_other ts i j u no_tree n) (q j g) ]

  set-start : (j : ℕ) → j < length ts → (tree (set ts i u) j).start ≡ (tree ts j).start
  set-start = set_cases (λ j t. t.start ≡ (tree ts j).start) l.start (λ j g. refl)

  pub set_keeps : Keeps d ts (set ts i u)
  set_keeps = (
    record {
      differ = λ a b p q e.
          let p' : a < length ts = omega (arith, length-set ts i u) in
          let q' : b < length ts = omega (arith, length-set ts i u) in
          ok.differ a b p' q' (sym (set-start a p') ∙ e ∙ set-start b q');
      each = λ j g. set_cases (λ _ t. Sound d t) k ok.each j (omega (arith, length-set ts i u));
    },
    record { longer = omega (arith, length-set ts i u); each = set_cases (λ j t. Later (tree ts j) t) l (λ j g. later_refl (tree ts j)) },
  )

-- ---- steps, with any record

pub turn-keeps : (d : Domain) → Accepted d.graph → (gs : List ℕ) (b : Option ℕ) (t : Tree) (known : Option ℕ) → Sound d t
    → Sound d (turn d gs b t known).tree × Later t (turn d gs b t known).tree
unfolding turn
turn-keeps d acc gs b t known ok = go (lookup d t gs known)
  where
    go : (o : Option ℕ) → Sound d (turn_by d gs b t o).tree × Later t (turn_by d gs b t o).tree
    go None = let g = growing.grown d acc gs b t ok 10 in (g.sound, g.later)
    go (Some n) = (ok, later_refl t)

module _ (d : Domain) (acc : Accepted d.graph) where
  pub turn-set : (ts : List Tree) (i : ℕ) (gs : List ℕ) (b : Option ℕ) (known : Option ℕ) → SoundTrees d ts → Keeps d ts (set ts i (turn d gs b (tree ts i) known).tree)
  turn-set ts i gs b known ok = elim (dec_le (suc i) (length ts)) [
    | yes h ↦ let k = turn-keeps d acc gs b (tree ts i) known (ok.each i h) in set_keeps d ts ok i _ h k.0 k.1
    | no h ↦ subst (Keeps d ts) (sym (set_out ts i _ (omega (arith, lt_of_not-le h)))) (ok, all-refl ts)
  ]

  pub round_keeps : (i : ℕ) (w : Walk) → SoundTrees d w.trees → Keeps d w.trees (round d i w).trees
  unfolding round
  round_keeps i w ok = turn-set w.trees (entry w.search i).tree (goals w.search) (bound d w.trees w.search) (entry w.search i).last_known_closed_len ok

  pub rounds-keeps : (k i : ℕ) (w : Walk) → SoundTrees d w.trees → Keeps d w.trees (rounds d k i w).trees
  unfolding rounds
  rounds-keeps zero i w ok = (ok, all-refl w.trees)
  rounds-keeps (suc k) i w ok = let r = round_keeps i w ok in keeps-trans d w.trees _ _ r (rounds-keeps k (suc i) (round d i w) r.0)

  pub walk-keeps : (ts : List Tree) (s : Search) → SoundTrees d ts → Keeps d ts (walk d ts s).trees
  unfolding walk
  walk-keeps ts s ok = rounds-keeps s.tree_count 0 (record { trees = ts; search = with_exhausted s true; tickets = 0 }) ok

pub rounds-length : (d : Domain) (k i : ℕ) (w : Walk) → length (rounds d k i w).trees ≡ length w.trees
unfolding rounds round
rounds-length d zero i w = refl
rounds-length d (suc k) i w = rounds-length d k (suc i) (round d i w) ∙ length-set w.trees _ _

pub walk-length : (d : Domain) (ts : List Tree) (s : Search) → length (walk d ts s).trees ≡ length ts
unfolding walk
walk-length d ts s = rounds-length d s.tree_count 0 (record { trees = ts; search = with_exhausted s true; tickets = 0 })

-- ---- a new tree

pub empty-word : (n x : ℕ) → closed_at (replicate n 0) x ≡ 0
empty-word zero x = refl
empty-word (suc n) zero = refl
empty-word (suc n) (suc x) = empty-word n x

pub new-sound : (d : Domain) (v : ℕ) → v < vertex_count d.graph → initial_cost d v ≢ absent → Sound d (new_tree d v)
unfolding new_tree
new-sound d v h a =
    record {
      some_node = omega arith;
      inside = h;
      allowed = a;
      root_vertex = refl;
      root-cost = refl;
      root_parent = refl;
      root_edge = refl;
      hangs = λ i z g. absurd (z (omega arith));
      queue = λ i q. elim (Memᴰ.cases_cons q) [ inl e ↦ omega (arith, e) | inr r ↦ absurd (Memᴰ.not-nil r) ];
      ascends = (omega arith, tt);
      sized = length-replicate (vertex_count d.graph) 0;
      closer = λ x i e. absurd (never x i e);
      cheapest = λ x i j e q. absurd (never x i e);
      few = omega arith;
      begun = inr (Memᴰ.head refl);
      onward = λ x i l e g f. absurd (never x i e);
    }
  where
    never : (x i : ℕ) → closed_at (replicate (vertex_count d.graph) 0) x ≡ suc i → ⊥
    never x i e = omega (arith, e, empty-word (vertex_count d.graph) x)

-- a tree is added whose start is new
module _ (d : Domain) (ts : List Tree) (t : Tree) (ok : SoundTrees d ts) (k : Sound d t) (new : (j : ℕ) → j < length ts → (tree ts j).start ≢ t.start) where
  snoc_old : (j : ℕ) → j < length ts → tree (ts ++ (t ∷ [])) j ≡ tree ts j
  snoc_old j h = get_or-append ts (t ∷ []) no_tree j h

  snoc-cases : (P : ℕ → Tree → Type 0) → P (length ts) t → ((j : ℕ) → j < length ts → P j (tree ts j)) → (j : ℕ) → j < length (ts ++ (t ∷ [])) → P j (tree (ts ++ (t ∷ [])) j)
  snoc-cases P p q j g = elim (dec_le (suc j) (length ts)) [
    | yes h ↦ rw (snoc_old j h) (q j h)
    | no h ↦ let e : j ≡ length ts = omega (arith, lt_of_not-le h, length-append ts (t ∷ [])) in rw (e, get_or-append_seam ts t [] no_tree) p
  ]

  -- a tree whose start is x, by the trees as they were
  snoc-differ : (x : Tree) (a : ℕ) → ((j : ℕ) → j < length ts → x.start ≡ (tree ts j).start → a ≡ j) → (x.start ≡ t.start → a ≡ length ts)
      → (j : ℕ) → j < length (ts ++ (t ∷ [])) → x.start ≡ (tree (ts ++ (t ∷ [])) j).start → a ≡ j
  snoc-differ x a f g = snoc-cases (λ j u. x.start ≡ u.start → a ≡ j) g f

  pub snoc-keeps : Keeps d ts (ts ++ (t ∷ []))
  snoc-keeps = (
    record {
      differ = λ a b p q e. snoc-cases (λ j u. u.start ≡ (tree (ts ++ (t ∷ [])) b).start → j ≡ b)
          (snoc-differ t (length ts) (λ j h z. absurd (new j h (sym z))) (λ z. refl) b q)
          (λ j h. snoc-differ (tree ts j) j (λ i g z. ok.differ j i h g z) (λ z. absurd (new j h z)) b q) a p e;
      each = snoc-cases (λ _ u. Sound d u) k ok.each;
    },
    record { longer = omega (arith, length-append ts (t ∷ [])); each = λ i h. rw (snoc_old i h) (later_refl (tree ts i)) },
  )

-- ---- the tree of a start

pub record Sought (ts : List Tree) (v k i : ℕ) : Type 0 where
  pub place : ℕ
  pub at : i ≡ k + place
  pub inside : place < length ts
  pub starts : (tree ts place).start ≡ v

abbrev pub seek_if : List Tree → ℕ → ℕ → Bool → Option ℕ
seek_if ts v k b = elim b [ true ↦ Some k | false ↦ seek ts v (suc k) ]

pub seek-some : (ts : List Tree) (v k i : ℕ) → seek ts v k ≡ Some i → Sought ts v k i
unfolding seek
seek-some [] v k i e = absurd (none-some i e)
seek-some (t ∷ ts) v k i e = go (seek-some ts v (suc k) i) (eqb t.start v) refl e
  where
    go : (seek ts v (suc k) ≡ Some i → Sought ts v (suc k) i) → (b : Bool) → eqb t.start v ≡ b → seek_if ts v k b ≡ Some i → Sought (t ∷ ts) v k i
    go ih true p q = let z : k ≡ i = cc in record { place = 0; at = omega arith; inside = omega arith; starts = eqb-true _ _ p }
    go ih false p q = let r = ih q in record { place = suc r.place; at = omega (arith, r.at); inside = omega (arith, r.inside); starts = r.starts }

pub seek-at : (ts : List Tree) (v i : ℕ) → seek ts v 0 ≡ Some i → (i < length ts) × ((tree ts i).start ≡ v)
seek-at ts v i e =
    let r = seek-some ts v 0 i e in
    let p : i ≡ r.place = omega (arith, r.at) in
    (omega (arith, r.inside), rw p r.starts)

pub seek-none : (ts : List Tree) (v k : ℕ) → seek ts v k ≡ None → (j : ℕ) → j < length ts → (tree ts j).start ≢ v
unfolding seek
seek-none [] v k e j h = absurd (omega arith)
seek-none (t ∷ ts) v k e j h = go (seek-none ts v (suc k)) (eqb t.start v) refl e j h
  where
    go : (seek ts v (suc k) ≡ None → (j : ℕ) → j < length ts → (tree ts j).start ≢ v) → (b : Bool) → eqb t.start v ≡ b → seek_if ts v k b ≡ None
        → (j : ℕ) → j < suc (length ts) → (tree (t ∷ ts) j).start ≢ v
    go ih true p q j h = absurd (none-some k (sym q))
    go ih false p q zero h = eqb-false _ _ p
    go ih false p q (suc j) h = ih q j (omega arith)

pub seek-more : (ts us : List Tree) (v k i : ℕ) → seek ts v k ≡ Some i → seek (ts ++ us) v k ≡ Some i
unfolding seek
seek-more [] us v k i e = absurd (none-some i e)
seek-more (t ∷ ts) us v k i e = go (seek-more ts us v (suc k) i) (eqb t.start v) e
  where
    go : (seek ts v (suc k) ≡ Some i → seek (ts ++ us) v (suc k) ≡ Some i) → (b : Bool) → seek_if ts v k b ≡ Some i → seek_if (ts ++ us) v k b ≡ Some i
    go ih true q = q
    go ih false q = ih q

pub seek-new : (ts : List Tree) (t : Tree) (v k : ℕ) → t.start ≡ v → seek ts v k ≡ None → seek (ts ++ (t ∷ [])) v k ≡ Some (k + length ts)
unfolding seek
seek-new [] t v k h e = rw (eq-eqb t.start v h, seek) (ap Some (omega arith))
seek-new (u ∷ ts) t v k h e = go (seek-new ts t v (suc k) h) (eqb u.start v) e
  where
    go : (seek ts v (suc k) ≡ None → seek (ts ++ (t ∷ [])) v (suc k) ≡ Some (suc k + length ts)) → (b : Bool) → seek_if ts v k b ≡ None
        → seek_if (ts ++ (t ∷ [])) v k b ≡ Some (k + suc (length ts))
    go ih true q = absurd (none-some k (sym q))
    go ih false q = ih q ∙ ap Some (omega arith)

-- ---- opening a search

pub plant-keeps : (d : Domain) (ts : List Tree) (v : ℕ) → SoundTrees d ts → v < vertex_count d.graph → Keeps d ts (plant d ts v (eqb (initial_cost d v) absent) (seek ts v 0)).trees
unfolding plant
plant-keeps d ts v ok h = go (eqb (initial_cost d v) absent) refl (seek ts v 0) refl
  where
    go : (b : Bool) → eqb (initial_cost d v) absent ≡ b → (o : Option ℕ) → seek ts v 0 ≡ o → Keeps d ts (plant d ts v b o).trees
    go true e o z = (ok, all-refl ts)
    go false e (Some i) z = (ok, all-refl ts)
    go false e None z = snoc-keeps d ts (new_tree d v) ok (new-sound d v h (eqb-false _ _ e)) (unfold new_tree in (seek-none ts v 0 z))

pub plants-keep : (d : Domain) (vs : List ℕ) (ts : List Tree) → SoundTrees d ts → ((v : ℕ) → mem v vs ≡ true → v < vertex_count d.graph) → Keeps d ts (plant_all d ts vs).trees
unfolding plant_all
plants-keep d [] ts ok h = (ok, all-refl ts)
plants-keep d (v ∷ vs) ts ok h =
    let k = plant-keeps d ts v ok (h v (mem-head v v vs refl)) in
    keeps-trans d ts _ _ k (plants-keep d vs _ k.0 (λ x e. h x (mem-tail x v vs e)))

-- ---- any call

pub record KeptCache (c c' : Cache) : Type 0 where
  pub domain : c'.domain ≡ c.domain
  pub slots : c'.slots ≡ c.slots
  pub within : length c'.trees ≤ c'.slots
  pub keeps : Keeps c.domain c.trees c'.trees

pub kept_refl : (c : Cache) → SoundCache c → KeptCache c c
kept_refl c ok = record { domain = refl; slots = refl; within = ok.within; keeps = (ok.trees, all-refl c.trees) }

pub kept-sound : (c c' : Cache) → KeptCache c c' → SoundCache c'
kept-sound c c' k = record { within = k.within; trees = subst (λ (d : Domain). SoundTrees d c'.trees) (sym k.domain) k.keeps.0 }

pub kept_trans : (a b c : Cache) → KeptCache a b → KeptCache b c → KeptCache a c
kept_trans a b c p q =
    record {
      domain = q.domain ∙ p.domain;
      slots = q.slots ∙ p.slots;
      within = q.within;
      keeps = (subst (λ (d : Domain). SoundTrees d c.trees) p.domain q.keeps.0, all-trans a.trees b.trees c.trees p.keeps.1 q.keeps.1);
    }

module _ (c : Cache) (acc : Accepted c.domain.graph) (ok : SoundCache c) where
  pub initialize-keeps : (ss gs : List ℕ) → KeptCache c (initialize c ss gs).cache
  unfolding initialize
  initialize-keeps ss gs = go (first_fault (initialize_faults c ss gs)) refl
    where
      go : (o : Option ℕ) → first_fault (initialize_faults c ss gs) ≡ o → KeptCache c (initialize_by o c ss gs).cache
      go (Some n) e = kept_refl c ok
      go None e =
          let m = may-initialize c ss gs e in
          record {
            domain = refl;
            slots = refl;
            within = omega (arith, m.room, ok.within);
            keeps = plants-keep c.domain (roots_of c.domain.direction ss gs) c.trees ok.trees (roots-below c.domain.direction c ss gs m);
          }

  pub step_keeps : (s : Search) → KeptCache c (step c s).cache
  unfolding step
  step_keeps s = go (first_fault (step_faults c s))
    where
      run : (b : Bool) → KeptCache c (step_if b c s).cache
      run true = kept_refl c ok
      run false =
          record {
            domain = refl;
            slots = refl;
            within = omega (arith, walk-length c.domain c.trees s, ok.within);
            keeps = walk-keeps c.domain acc c.trees s ok.trees;
          }

      go : (o : Option ℕ) → KeptCache c (step_by o c s).cache
      go (Some n) = kept_refl c ok
      go None = run s.exhausted

pub accepted-kept : (c c' : Cache) → KeptCache c c' → Accepted c.domain.graph → Accepted c'.domain.graph
accepted-kept c c' k acc = subst (λ (d : Domain). Accepted d.graph) (sym k.domain) acc

-- one call after the other
kept_on : (c b : Cache) → Accepted c.domain.graph → KeptCache c b → (d : Cache) → (Accepted b.domain.graph → SoundCache b → KeptCache b d) → KeptCache c d
kept_on c b acc k d next = kept_trans c b d k (next (accepted-kept c b k acc) (kept-sound c b k))

pub after-keeps : (c : Cache) → Accepted c.domain.graph → SoundCache c → (x : Call) → KeptCache c (after c x)
unfolding after
after-keeps c acc ok (initializing ss gs) = initialize-keeps c acc ok ss gs
after-keeps c acc ok (stepping s) = step_keeps c acc ok s
after-keeps c acc ok (retracing s p) = kept_refl c ok
after-keeps c acc ok reading = kept_refl c ok
after-keeps c acc ok (both x y) = kept_on c (after c x) acc (after-keeps c acc ok x) _ (λ a o. after-keeps (after c x) a o y)

pub after-all-keeps : (c : Cache) → Accepted c.domain.graph → SoundCache c → (xs : List Call) → KeptCache c (after_all c xs)
unfolding after_all
after-all-keeps c acc ok [] = kept_refl c ok
after-all-keeps c acc ok (x ∷ xs) = kept_on c (after c x) acc (after-keeps c acc ok x) _ (λ a o. after-all-keeps (after c x) a o xs)
