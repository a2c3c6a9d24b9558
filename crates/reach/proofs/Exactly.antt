-- The marks are exactly at the vertices that some path leads to.
-- Assumes nothing.
use mathlib.Core.Path.{◌≡◌, refl, sym, ap, ◌∙◌, subst}
use mathlib.Core.Logic.{◌⊎◌, inl, inr}
use mathlib.Core.Bool.{Bool, true, false, not, cond, true≢false}
use mathlib.Core.List.Memᴰ
use mathlib.Core.List.{List, [], ◌∷◌, ◌++◌, Memᴰ}
use Prim.Native.Nat.{ℕ, zero, suc, ◌<◌, ◌≤◌}
use native.Mathlib.Decide.{dec_lt, ℕ_discrete}
use native.Mathlib.Omega.{arith}
use borrow.Author.Tests.{eq-eqb, ne_eqb}
use lib.Dec.{eqb}
use lib.ListN.{length, get_or, set, length-map, get_or-map, get_or-eq_default}
use lib.Seq.{get_or-set_same}
use Rattle.model.specs.Graph.{Graph, Usable, forward, MayStart, Leads, absent, vertex_count, from, to, edges_in_use}
use Rattle.model.proofs.Paths.{leads-snoc}
use Rattle.model.proofs.Choices.{in-use-mem, in-use-has}
use Rattle.reach.specs.Reach.{Reachable, start_marks, along, along_all, spread, passes, reach_marks, ReachedExactly, AreMarks}
use Rattle.reach.specs.Walk.{mark_count}
use Rattle.reach.proofs.Marks.{count-le, set-marks, Grows, grows-refl, grows-trans, grows-set}

-- ---- paths

pub reach-start : (g : Graph) (v : ℕ) → v < vertex_count g → MayStart forward g v → Reachable g v
reach-start g v h s = record { start = v; vertex = h; allowed = s; edges = []; leads = refl }

pub reach-on : (g : Graph) (v l : ℕ) → Reachable g v → Usable g l → from g l ≡ v → Reachable g (to g l)
reach-on g v l r u e = record {
  start = r.start;
  vertex = r.vertex;
  allowed = r.allowed;
  edges = r.edges ++ (l ∷ []);
  leads = leads-snoc g r.start v l r.edges r.leads u e;
}

-- marks with the starts, and that edges do not lead out of, are at every vertex that a path leads to
pub reach-marked : (g : Graph) (m : List Bool) → ((v : ℕ) → v < vertex_count g → MayStart forward g v → get_or m v false ≡ true)
    → ((l : ℕ) → Usable g l → get_or m (from g l) false ≡ true → get_or m (to g l) false ≡ true) → (v : ℕ) → Reachable g v → get_or m v false ≡ true
reach-marked g m starts closed v r = follow r.start r.edges r.leads (starts r.start r.vertex r.allowed)
  where
    follow : (a : ℕ) (ls : List ℕ) → Leads g a ls v → get_or m a false ≡ true → get_or m v false ≡ true
    follow a [] e h = rw (← e) h
    follow a (l ∷ ls) e h = follow (to g l) ls e.2 (closed l e.0 (ap (λ (x : ℕ). get_or m x false) e.1 ∙ h))

-- ---- the starts

start-mark : (g : Graph) (v : ℕ) → get_or (start_marks g) v false ≡ not (eqb (get_or g.initial v absent) absent)
unfolding start_marks
start-mark g v = get_or-map (λ (c : ℕ). not (eqb c absent)) g.initial v absent

start-marked : (g : Graph) (v : ℕ) → MayStart forward g v → get_or (start_marks g) v false ≡ true
start-marked g v s = start-mark g v ∙ rw (ne_eqb (get_or g.initial v absent) absent s)

start-reached : (g : Graph) (v : ℕ) → get_or (start_marks g) v false ≡ true → Reachable g v
start-reached g v e = elim (ℕ_discrete (get_or g.initial v absent) absent) [
  | yes z ↦ absurd (true≢false (sym e ∙ start-mark g v ∙ ap not (eq-eqb (get_or g.initial v absent) absent z)))
  | no n ↦ elim (dec_lt v (vertex_count g)) [
    | yes h ↦ reach-start g v h n
    | no h ↦ absurd (n (get_or-eq_default g.initial absent (omega arith)))
  ]
]

start-length : (g : Graph) → length (start_marks g) ≡ vertex_count g
unfolding start_marks
start-length g = length-map g.initial _

-- ---- one edge, and many

module _ (g : Graph) where
  along-grows : (l : ℕ) (m : List Bool) → Grows m (along g l m)
  unfolding along
  along-grows l m = go (get_or m (from g l) false)
    where
      go : (t : Bool) → Grows m (cond t (set m (to g l) true) m)
      go true = grows-set m (to g l)
      go false = grows-refl m

  all-grows : (ls : List ℕ) (m : List Bool) → Grows m (along_all g ls m)
  unfolding along_all
  all-grows [] m = grows-refl m
  all-grows (l ∷ ls) m = grows-trans (along-grows l m) (all-grows ls (along g l m))

  -- a pass that changes nothing
  all_closed : (ls : List ℕ) (m : List Bool) → along_all g ls m ≡ m → (l : ℕ) → Memᴰ l ls → get_or m (from g l) false ≡ true → to g l < length m → get_or m (to g l) false ≡ true
  unfolding along_all
  all_closed [] m e l k o h = absurd (Memᴰ.not-nil k)
  all_closed (x ∷ xs) m e l k o h = go (all_closed xs m) (Memᴰ.cases_cons k)
    where
      first : Grows m (along g x m)
      first = along-grows x m

      same : along g x m ≡ m
      same = first.same (omega (arith, first.more, (all-grows xs (along g x m)).more, ap mark_count e))

      go : (along_all g xs m ≡ m → (y : ℕ) → Memᴰ y xs → get_or m (from g y) false ≡ true → to g y < length m → get_or m (to g y) false ≡ true)
          → (l ≡ x) ⊎ Memᴰ l xs → get_or m (to g l) false ≡ true
      go ih (inl z) =
          let now : set m (to g l) true ≡ m = ap (λ (b : Bool). cond b (set m (to g l) true) m) (sym o) ∙ ap (λ (y : ℕ). along g y m) z ∙ same in
          ap (λ (n : List Bool). get_or n (to g l) false) (sym now) ∙ get_or-set_same m (to g l) true false h
      go ih (inr r) = ih (sym (ap (along_all g xs) same) ∙ e) l r o h

  abbrev Reached : List Bool → Type 0
  Reached m = (v : ℕ) → get_or m v false ≡ true → Reachable g v

  along-reached : (l : ℕ) (m : List Bool) → Usable g l → Reached m → Reached (along g l m)
  unfolding along
  along-reached l m u r = go (get_or m (from g l) false) refl
    where
      go : (t : Bool) → get_or m (from g l) false ≡ t → Reached (cond t (set m (to g l) true) m)
      go true e = λ v o. elim (set-marks m (to g l) v o) [
        | inl z ↦ subst (Reachable g) (sym z) (reach-on g (from g l) l (r (from g l) e) u refl)
        | inr h ↦ r v h
      ]
      go false e = r

  all-reached : (ls : List ℕ) (m : List Bool) → ((l : ℕ) → Memᴰ l ls → Usable g l) → Reached m → Reached (along_all g ls m)
  unfolding along_all
  all-reached [] m u r = r
  all-reached (l ∷ ls) m u r =
      all-reached ls (along g l m) (λ x k. u x (Memᴰ.tail k)) (along-reached l m (u l (Memᴰ.head refl)) r)

  -- ---- passes

  spread-grows : (m : List Bool) → Grows m (spread g m)
  unfolding spread
  spread-grows m = all-grows (edges_in_use g) m

  passes-grow : (n : ℕ) → Grows (start_marks g) (passes g n)
  unfolding passes
  passes-grow zero = grows-refl (start_marks g)
  passes-grow (suc n) = grows-trans (passes-grow n) (spread-grows (passes g n))

  passes-reached : (n : ℕ) → Reached (passes g n)
  unfolding passes spread
  passes-reached zero = start-reached g
  passes-reached (suc n) = all-reached (edges_in_use g) (passes g n) (in-use-mem g) (passes-reached n)

  abbrev Settled : List Bool → Type 0
  Settled m = spread g m ≡ m

  settles : (n : ℕ) → Settled (passes g n) ⊎ (n ≤ mark_count (passes g n))
  unfolding passes
  settles zero = inr (omega arith)
  settles (suc n) = go (settles n)
    where
      m : List Bool
      m = passes g n

      next : Grows m (spread g m)
      next = spread-grows m

      go : Settled m ⊎ (n ≤ mark_count m) → Settled (spread g m) ⊎ (suc n ≤ mark_count (spread g m))
      go (inl e) = inl (ap (spread g) e)
      go (inr h) = elim (ℕ_discrete (mark_count (spread g m)) (mark_count m)) [
        | yes e ↦ inl (ap (spread g) (next.same e))
        | no ne ↦ inr (omega (arith, next.more))
      ]

  settled : Settled (reach_marks g)
  unfolding reach_marks
  settled = go (settles (vertex_count g))
    where
      m : List Bool
      m = passes g (vertex_count g)

      grown : Grows (start_marks g) m
      grown = passes-grow (vertex_count g)

      next : Grows m (spread g m)
      next = spread-grows m

      go : Settled m ⊎ (vertex_count g ≤ mark_count m) → Settled m
      go (inl e) = e
      go (inr h) =
          next.same (omega (arith, next.more, count-le (spread g m), next.len, grown.len, start-length g))

pub are-marks : AreMarks
unfolding reach_marks
are-marks g = (passes-grow g (vertex_count g)).len ∙ start-length g

pub reached-exactly : ReachedExactly
unfolding reach_marks spread
reached-exactly g ok v h = (
  passes-reached g (vertex_count g) v,
  reach-marked g (reach_marks g)
      (λ a i s. (passes-grow g (vertex_count g)).stay a (start-marked g a s))
      (λ l u o. all_closed g (edges_in_use g) (reach_marks g) (settled g) l (in-use-has g l u) o (omega (arith, ok.enters l u, are-marks g)))
      v,
)
