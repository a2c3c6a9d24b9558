-- The reference's maps of trees, pushed nodes, openings and lookups are the definitions': trees by their slots, solutions by their nodes.
-- Assumes nothing.
use mathlib.Core.Path.{◌≡◌, refl, sym, ap, ap₂, ◌∙◌}
use Rattle.std.specs.declared.option.Option.{Option}
use Rattle.std.specs.Prelude.{None, Some}
use mathlib.Core.Logic.{◌≢◌}
use mathlib.Core.Bool.{Bool, true, false}
use mathlib.Core.List.{List, [], ◌∷◌, ◌++◌, map, map-append}
use Prim.Native.Nat.{ℕ, zero, suc, ◌+◌, ◌-◌, ◌<◌}
use native.Mathlib.Nat.{lt_of_not-le}
use native.Mathlib.Decide.{dec_le, ℕ_discrete}
use native.Mathlib.Omega.{arith}
use borrow.Author.Tests.{eqb-true, eqb-false, eq-eqb, ne_eqb, ltb-true, ltb-false, le-leb, lt-leb}
use lib.Dec.{eqb, leb, ltb}
use lib.ListN.{length, get_or, set, replicate, length-append, get_or-append}
use lib.Seq.{take-append_seam, get_or-append_seam}
use Rattle.model.specs.declared.TreeMemory.{TreeMemory}
use Rattle.model.specs.Graph.{Domain, Direction, forward, backward, absent, vertex_count, cost, to, choices, initial_cost}
use Rattle.model.specs.Worth.{solution_cost_of}
use Rattle.model.specs.Tree.{Tree, Node, node, closed_at, evaluation_of, closed_within, push_if, child, new_tree, root_node, push_all}
use Rattle.model.specs.Tree as trees
use Rattle.model.specs.Sound.{no_tree, tree, SoundTrees}
use Rattle.model.specs.Search.{closed_count, remembers, chosen, consider, cheapest, lookup_if, lookup, seek, Planted, entry_of, plant, plant_all, roots_of, goals_of, new_search, blank}
use Rattle.model.specs.SimpleGraph.{edges_from_vertex}
use Rattle.model.specs.Reference.{cost_of, Path, TreeEntry, retrace_node, status_of_word, status_for_key, rejects, push_unless, push_node, get, put, entry_at, planted_tree, Opening, opening, openings, Opened, forward_initialize, initialize_in, initialize, path_if, look_at, look_goals, same_len, look_unless, text_graph, push_choices, read_solution, read_entry, read_memory}
use Rattle.model.proofs.Worth.{evaluation-cost, solution-costs}
use Rattle.model.proofs.Reversed.{domain-cost}
use Rattle.model.proofs.Rows.{target_of, rows-held}
use Rattle.model.proofs.Keeps.{seek-at, seek-none, empty-word}
use Rattle.model.proofs.Retraced.{retrace-cost}

-- ---- lists

pub map-ext : {A B : Type 0} (f g : A → B) (l : List A) (z : A) → ((i : ℕ) → i < length l → f (get_or l i z) ≡ g (get_or l i z)) → map f l ≡ map g l
map-ext f g [] z h = refl
map-ext f g (x ∷ xs) z h = ap₂ (λ y ys. y ∷ ys) (h 0 (omega arith)) (map-ext f g xs z (λ i k. h (suc i) (omega arith)))

pub map-set : {A B : Type 0} (f : A → B) (l : List A) (i : ℕ) (x : A) → map f (set l i x) ≡ set (map f l) i (f x)
map-set f [] i x = refl
map-set f (y ∷ ys) zero x = refl
map-set f (y ∷ ys) (suc i) x = ap (λ r. f y ∷ r) (map-set f ys i x)

pub map_at : {A B : Type 0} (f : A → B) (l : List A) (i : ℕ) (z : A) (w : B) → i < length l → get_or (map f l) i w ≡ f (get_or l i z)
map_at f [] i z w h = absurd (omega arith)
map_at f (x ∷ xs) zero z w h = refl
map_at f (x ∷ xs) (suc i) z w h = map_at f xs i z w (omega arith)

-- ---- a tree by its start

abbrev pub Differ : List Tree → Type 0
Differ ts = (i j : ℕ) → i < length ts → j < length ts → (tree ts i).start ≡ (tree ts j).start → i ≡ j

-- no tree of ts starts at v
abbrev pub Unplanted : List Tree → ℕ → Type 0
Unplanted ts v = (i : ℕ) → i < length ts → (tree ts i).start ≢ v

differ-tail : (t : Tree) (ts : List Tree) → Differ (t ∷ ts) → Differ ts
differ-tail t ts f i j h k e = let z : suc i ≡ suc j = f (suc i) (suc j) (omega arith) (omega arith) e in omega arith

differ-head : (t : Tree) (ts : List Tree) → Differ (t ∷ ts) → (i : ℕ) → i < length ts → t.start ≢ (tree ts i).start
differ-head t ts f i h e = let z : 0 ≡ suc i = f 0 (suc i) (omega arith) (omega arith) e in omega arith

get-same : (t : Tree) (ts : List Tree) (v : ℕ) → t.start ≡ v → get (t ∷ ts) v ≡ Some t
unfolding get
get-same t ts v e = rw (eq-eqb t.start v e, get)

get_other : (t : Tree) (ts : List Tree) (v : ℕ) → t.start ≢ v → get (t ∷ ts) v ≡ get ts v
unfolding get
get_other t ts v e = rw (ne_eqb t.start v e, get)

put_same : (t : Tree) (ts : List Tree) (v : ℕ) (u : Tree) → t.start ≡ v → put (t ∷ ts) v u ≡ u ∷ ts
unfolding put
put_same t ts v u e = rw (eq-eqb t.start v e, put)

put_other : (t : Tree) (ts : List Tree) (v : ℕ) (u : Tree) → t.start ≢ v → put (t ∷ ts) v u ≡ t ∷ put ts v u
unfolding put
put_other t ts v u e = rw (ne_eqb t.start v e, put)

get_at : (ts : List Tree) → Differ ts → (i : ℕ) → i < length ts → get ts (tree ts i).start ≡ Some (tree ts i)
get_at [] f i h = absurd (omega arith)
get_at (t ∷ ts) f zero h = get-same t ts t.start refl
get_at (t ∷ ts) f (suc i) h = get_other t ts _ (differ-head t ts f i (omega arith)) ∙ get_at ts (differ-tail t ts f) i (omega arith)

put-at : (ts : List Tree) (u : Tree) → Differ ts → (i : ℕ) → i < length ts → put ts (tree ts i).start u ≡ set ts i u
put-at [] u f i h = absurd (omega arith)
put-at (t ∷ ts) u f zero h = put_same t ts t.start u refl
put-at (t ∷ ts) u f (suc i) h = put_other t ts _ u (differ-head t ts f i (omega arith)) ∙ ap (λ (r : List Tree). t ∷ r) (put-at ts u (differ-tail t ts f) i (omega arith))

module _ (d : Domain) (ts : List Tree) (ok : SoundTrees d ts) (i : ℕ) (h : i < length ts) where
  pub get-is : get ts (tree ts i).start ≡ Some (tree ts i)
  get-is = get_at ts ok.differ i h

  pub put_is : (u : Tree) → put ts (tree ts i).start u ≡ set ts i u
  put_is u = put-at ts u ok.differ i h

get-some : (ts : List Tree) (v i : ℕ) → i < length ts → (tree ts i).start ≡ v → (t : Tree) × (get ts v ≡ Some t)
get-some [] v i h e = absurd (omega arith)
get-some (t ∷ ts) v zero h e = (t, get-same t ts v e)
get-some (t ∷ ts) v (suc i) h e = go (get-some ts v i (omega arith) e) (ℕ_discrete t.start v)
  where
    go : (u : Tree) × (get ts v ≡ Some u) → Dec (t.start ≡ v) → (u : Tree) × (get (t ∷ ts) v ≡ Some u)
    go r (yes z) = (t, get-same t ts v z)
    go r (no z) = (r.0, get_other t ts v z ∙ r.1)

unplanted-get : (ts : List Tree) (v : ℕ) → Unplanted ts v → get ts v ≡ None
unfolding get
unplanted-get [] v f = refl
unplanted-get (t ∷ ts) v f = get_other t ts v (f 0 (omega arith)) ∙ unplanted-get ts v (λ i h. f (suc i) (omega arith))

pub seek-missing : (ts : List Tree) (v : ℕ) → seek ts v 0 ≡ None → get ts v ≡ None
seek-missing ts v e = unplanted-get ts v (seek-none ts v 0 e)

-- ---- pushed nodes

pub rejects-is : (ns : List Node) (x : Node) (w : ℕ) → rejects ns x (status_of_word w) ≡ closed_within ns (evaluation_of x) w
rejects-is ns x zero = refl
rejects-is ns x (suc i) = sym (ap₂ leb (evaluation-cost (node ns i)) (evaluation-cost x))

unless-is : (b : Bool) (t : Tree) (x : Node) → push_unless b t x ≡ push_if b t x
unless-is true t x = refl
unless-is false t x = refl

pub push-is : (t : Tree) (x : Node) → push_node t x ≡ trees.push_node t x
unfolding push_node trees.push_node
push-is t x =
    ap (λ (b : Bool). push_unless b t x) (rejects-is t.nodes x (closed_at t.closed x.vertex))
    ∙ unless-is (closed_within t.nodes (evaluation_of x) (closed_at t.closed x.vertex)) t x

pub choices-is : (d : Domain) (n : ℕ) (p : Node) (t : Tree) (ls : List ℕ) → push_choices d n p t (map (target_of d.graph) ls) ≡ push_all d n p t ls
unfolding push_choices push_all
choices-is d n p t [] = refl
choices-is d n p t (l ∷ ls) =
    choices-is d n p (push_node t (record { vertex = to d.graph l; cost = p.cost + cost (text_graph d) l; parent = n; edge = l })) ls
    ∙ ap (λ (u : Tree). push_all d n p u ls)
    (ap (λ (c : ℕ). push_node t (record { vertex = to d.graph l; cost = p.cost + c; parent = n; edge = l })) (domain-cost d.direction d.graph l) ∙ push-is t (child d n p l))

-- a row of the Rust's edge table, pushed
pub row_is : (d : Domain) (n : ℕ) (p : Node) (t : Tree) (v : ℕ) → v < vertex_count d.graph
    → push_choices d n p t (edges_from_vertex d.direction (text_graph d) v) ≡ push_all d n p t (choices d v)
row_is d n p t v inside = ap (push_choices d n p t) (rows-held d v inside) ∙ choices-is d n p t (choices d v)

pub planted-is : (d : Domain) (v : ℕ) → planted_tree d v ≡ new_tree d v
unfolding planted_tree new_tree push_node
planted-is d v =
    ap (λ (w : ℕ). push_unless (rejects [] (root_node d v) (status_of_word w)) (record { start = v; nodes = []; waiting = []; closed = replicate (vertex_count d.graph) 0 }) (root_node d v))
    (empty-word (vertex_count d.graph) v)

-- ---- opening a search

-- the trees of ts stand in us as they did
abbrev Extends : List Tree → List Tree → Type 0
Extends ts us = (i : ℕ) → i < length ts → (i < length us) × (tree us i ≡ tree ts i)

snoc-extends : (ts : List Tree) (t : Tree) → Extends ts (ts ++ (t ∷ []))
snoc-extends ts t i h = (omega (arith, length-append ts (t ∷ [])), get_or-append ts (t ∷ []) no_tree i h)

plant-extends : (d : Domain) (ts : List Tree) (v : ℕ) (b : Bool) (o : Option ℕ) → Extends ts (plant d ts v b o).trees
unfolding plant
plant-extends d ts v true o = λ i h. (h, refl)
plant-extends d ts v false (Some j) = λ i h. (h, refl)
plant-extends d ts v false None = snoc-extends ts (new_tree d v)

plants-extend : (d : Domain) (vs : List ℕ) (ts : List Tree) → Extends ts (plant_all d ts vs).trees
unfolding plant_all
plants-extend d [] ts = λ i h. (h, refl)
plants-extend d (v ∷ vs) ts = λ i h.
    let p = plant-extends d ts v (eqb (initial_cost d v) absent) (seek ts v 0) i h in
    let q = plants-extend d vs _ i p.0 in
    (q.0, q.1 ∙ p.1)

-- every tree starts where a path may
abbrev pub AllAllowed : Domain → List Tree → Type 0
AllAllowed d ts = (i : ℕ) → i < length ts → initial_cost d (tree ts i).start ≢ absent

pub all-allowed : (d : Domain) (ts : List Tree) → SoundTrees d ts → AllAllowed d ts
all-allowed d ts ok i h = (ok.each i h).allowed

-- what is planted, read as the reference's opening, where the trees are us in the end
abbrev read_planted : List Tree → Planted → Opening
read_planted us p = record { trees = p.trees; entries = map (read_entry us) p.entries }

entry-at : (us : List Tree) (i v : ℕ) → (tree us i).start ≡ v → entry_at v ≡ read_entry us (entry_of i)
unfolding read_entry
entry-at us i v e = rw e

module _ (d : Domain) (ts : List Tree) (v : ℕ) (ok : AllAllowed d ts) where
  abbrev plants : Planted
  plants = plant d ts v (eqb (initial_cost d v) absent) (seek ts v 0)

  abbrev opens : Opening
  opens = opening d ts v (get ts v) (eqb (initial_cost d v) absent)

  opening-is : (us : List Tree) → Extends plants.trees us → opens ≡ read_planted us plants
  unfolding plant opening
  opening-is us = go (eqb (initial_cost d v) absent) refl (seek ts v 0) refl
    where
      go : (b : Bool) → eqb (initial_cost d v) absent ≡ b → (o : Option ℕ) → seek ts v 0 ≡ o → Extends (plant d ts v b o).trees us
          → opening d ts v (get ts v) b ≡ read_planted us (plant d ts v b o)
      go b e (Some i) z x =
          let s = seek-at ts v i z in
          let g = get-some ts v i s.0 s.1 in
          occupied g.0 g.1 i s.0 s.1 b e x
        where
          occupied : (t : Tree) → get ts v ≡ Some t → (i : ℕ) → i < length ts → (tree ts i).start ≡ v → (b : Bool) → eqb (initial_cost d v) absent ≡ b
              → Extends (plant d ts v b (Some i)).trees us → opening d ts v (get ts v) b ≡ read_planted us (plant d ts v b (Some i))
          occupied t g i h s true e x = absurd (ok i h (ap (initial_cost d) s ∙ eqb-true _ _ e))
          occupied t g i h s false e x =
              ap (λ (o : Option Tree). opening d ts v o false) g
              ∙ ap (λ (y : TreeEntry). record { trees = ts; entries = y ∷ [] }) (entry-at us i v (ap (λ (t : Tree). t.start) (x i h).1 ∙ s))
      go true e None z x = ap (λ (o : Option Tree). opening d ts v o true) (seek-missing ts v z)
      go false e None z x =
          let last : length ts < length (ts ++ (new_tree d v ∷ [])) = omega (arith, length-append ts (new_tree d v ∷ [])) in
          ap (λ (o : Option Tree). opening d ts v o false) (seek-missing ts v z)
          ∙ ap₂ (λ (t : Tree) (y : TreeEntry). record { trees = ts ++ (t ∷ []); entries = y ∷ [] }) (planted-is d v)
          (entry-at us (length ts) v (ap (λ (t : Tree). t.start) ((x (length ts) last).1 ∙ get_or-append_seam ts (new_tree d v) [] no_tree) ∙ unfold new_tree in refl))

  plants-allowed : AllAllowed d plants.trees
  unfolding plant new_tree
  plants-allowed = go (eqb (initial_cost d v) absent) refl (seek ts v 0)
    where
      go : (b : Bool) → eqb (initial_cost d v) absent ≡ b → (o : Option ℕ) → AllAllowed d (plant d ts v b o).trees
      go true e o = ok
      go false e (Some i) = ok
      go false e None = λ i h. elim (dec_le (suc i) (length ts)) [
        | yes k ↦ rw (get_or-append ts (new_tree d v ∷ []) no_tree i k) (ok i k)
        | no k ↦
            let z : i ≡ length ts = omega (arith, lt_of_not-le k, length-append ts (new_tree d v ∷ [])) in
            rw (z, get_or-append_seam ts (new_tree d v) [] no_tree) (eqb-false (initial_cost d v) absent e)
      ]

pub openings-is : (d : Domain) (vs : List ℕ) (ts : List Tree) → AllAllowed d ts
    → openings d ts vs ≡ record { trees = (plant_all d ts vs).trees; entries = map (read_entry (plant_all d ts vs).trees) (plant_all d ts vs).entries }
unfolding openings plant_all
openings-is d [] ts ok = refl
openings-is d (v ∷ vs) ts ok = go (opening-is d ts v ok us (plants-extend d vs ps)) (openings-is d vs ps (plants-allowed d ts v ok))
  where
    ps : List Tree
    ps = (plants d ts v ok).trees

    us : List Tree
    us = (plant_all d ps vs).trees

    Both : Opening → Opening → Opening
    Both o r = record { trees = r.trees; entries = o.entries ++ r.entries }

    go : opens d ts v ok ≡ read_planted us (plants d ts v ok) → openings d ps vs ≡ read_planted us (plant_all d ps vs)
        → Both (opens d ts v ok) (openings d (opens d ts v ok).trees vs)
        ≡ read_planted us (record { trees = us; entries = (plants d ts v ok).entries ++ (plant_all d ps vs).entries })
    go e ih =
        ap (λ (o : Opening). Both o (openings d o.trees vs)) e
        ∙ ap (λ (r : Opening). Both (read_planted us (plants d ts v ok)) r) ih
        ∙ ap (λ (es : List TreeEntry). record { trees = us; entries = es }) (sym (map-append (read_entry us) (plants d ts v ok).entries (plant_all d ps vs).entries))

module _ (d : Domain) (ts : List Tree) (ok : SoundTrees d ts) where
  abbrev read_opened : Planted → List ℕ → Opened
  read_opened p gs = record { trees = p.trees; memory = read_memory d p.trees (new_search p.entries gs) }

  forward-is : (vs gs : List ℕ) → forward_initialize d ts vs gs ≡ read_opened (plant_all d ts vs) gs
  unfolding forward_initialize read_memory
  forward-is vs gs =
      let p : Planted = plant_all d ts vs in
      ap (λ (o : Opening). record { trees = o.trees; memory = record { trees = o.entries; goal_keys = gs; best_solution = None; exhausted = false } })
      (openings-is d vs ts (all-allowed d ts ok))
      ∙ ap₂ (λ (es : List TreeMemory) (ks : List ℕ). record { trees = p.trees; memory = record { trees = map (read_entry p.trees) es; goal_keys = ks; best_solution = None; exhausted = false } })
      (sym (take-append_seam p.entries (replicate (64 - length p.entries) blank)))
      (sym (take-append_seam gs (replicate (64 - length gs) 0)))

  pub initialize-is : (ss gs : List ℕ)
      → initialize d ts ss gs
      ≡ (let p = plant_all d ts (roots_of d.direction ss gs) in record { trees = p.trees; memory = read_memory d p.trees (new_search p.entries (goals_of d.direction ss gs)) })
  unfolding initialize
  initialize-is ss gs = go d.direction
    where
      go : (dir : Direction) → initialize_in dir d ts ss gs ≡ read_opened (plant_all d ts (roots_of dir ss gs)) (goals_of dir ss gs)
      go forward = forward-is ss gs
      go backward = forward-is gs ss

-- ---- the lookup

module _ (d : Domain) (ns : List Node) where
  consider-is : (o : Option ℕ) (w : ℕ) → look_at ns (read_solution ns o) (status_of_word w) ≡ read_solution ns (consider d ns o w)
  consider-is o zero = refl
  consider-is None (suc i) = refl
  consider-is (Some j) (suc i) =
      ap (λ (k : ℕ). path_if (leb k (cost_of x)) (Some (retrace_node ns j)) (retrace_node ns i)) (retrace-cost ns j)
      ∙ go (ltb (solution_cost_of d x) (solution_cost_of d y)) refl
    where
      x : Node
      x = node ns i

      y : Node
      y = node ns j

      go : (b : Bool) → ltb (solution_cost_of d x) (solution_cost_of d y) ≡ b
          → path_if (leb (cost_of y) (cost_of x)) (Some (retrace_node ns j)) (retrace_node ns i) ≡ read_solution ns (chosen b i j)
      go true e = rw (lt-leb (cost_of y) (cost_of x) (omega (arith, ltb-true (solution_cost_of d x) (solution_cost_of d y) e, solution-costs d x, solution-costs d y)))
      go false e = rw (le-leb (cost_of y) (cost_of x) (omega (arith, ltb-false (solution_cost_of d x) (solution_cost_of d y) e, solution-costs d x, solution-costs d y)))

  cheapest-is : (t : Tree) → t.nodes ≡ ns → (vs : List ℕ) (o : Option ℕ) → look_goals t vs (read_solution ns o) ≡ read_solution ns (cheapest d ns t.closed vs o)
  unfolding look_goals cheapest
  cheapest-is t z [] o = refl
  cheapest-is t z (v ∷ vs) o =
      ap (λ (p : Option Path). look_goals t vs p) (ap (λ (us : List Node). look_at us (read_solution ns o) (status_for_key t v)) z ∙ consider-is o (closed_at t.closed v))
      ∙ cheapest-is t z vs (consider d ns o (closed_at t.closed v))

same_len_lem : (known : Option ℕ) (n : ℕ) → same_len known n ≡ remembers known n
same_len_lem None n = refl
same_len_lem (Some k) n = refl

pub look_is : (d : Domain) (t : Tree) (gs : List ℕ) (known : Option ℕ)
    → look_unless (same_len known (closed_count t.closed)) t gs ≡ read_solution t.nodes (lookup d t gs known)
unfolding lookup
look_is d t gs known =
    ap (λ (b : Bool). look_unless b t gs) (same_len_lem known (closed_count t.closed)) ∙ go (remembers known (closed_count t.closed))
  where
    go : (b : Bool) → look_unless b t gs ≡ read_solution t.nodes (lookup_if b d t.nodes t.closed gs)
    go true = refl
    go false = cheapest-is d t.nodes t refl gs None
