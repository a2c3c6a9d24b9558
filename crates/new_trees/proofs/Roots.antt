-- Roots planned one after the other, as the model plants them.
-- Assumes nothing.
use mathlib.Core.Path.{◌≡◌, refl, sym, ap, ◌∙◌, subst}
use Rattle.std.specs.declared.option.Option.{Option}
use Rattle.std.specs.Prelude.{None, Some}
use mathlib.Core.Bool.{Bool, true, false}
use mathlib.Core.List.{List, [], ◌∷◌, ◌++◌, append-nil, append_assoc}
use Prim.Native.Nat.{ℕ, suc, ◌+◌, ◌<◌, ◌≤◌}
use native.Mathlib.Omega.{arith}
use lib.Dec.{eqb}
use lib.ListN.{length, get_or, set, take, replicate, length-set, length-append, length-take}
use lib.Seq.{take-suc-set}
use Rattle.model.specs.declared.TreeMemory.{TreeMemory}
use Rattle.model.specs.declared.Search.{Search}
use Rattle.model.specs.Graph.{Domain, absent, initial_cost}
use Rattle.model.specs.Tree.{Tree, new_tree}
use Rattle.model.specs.Search.{blank, entry_of, with_entry, seek, Planted, plant, plant_all, empty_search, new_search}
use Rattle.model.proofs.Filled.{set-filled}
use Rattle.layout.specs.Read.{read_cache}
use Rattle.sound.proofs.Facts.{trees-length}
use Rattle.new_trees.specs.declared.TreePlan.{TreePlan}
use Rattle.new_trees.specs.Plant.{with_new, CanPlan, slot_word, SlotTable, Planning, plan_if, PlansRoot}
use Rattle.layout.specs.Planted.{planted_in}
use Rattle.new_trees.proofs.NewTrees.{take_next, new-append, new-length}
use Rattle.new_trees.proofs.Table.{table_more}
use Rattle.layout.specs.Layout.{trees_in}

-- ---- the model: one root more

abbrev root_if : Domain → Planted → ℕ → Bool → Option ℕ → Planted
root_if d p v b o = let q = plant d p.trees v b o in record { trees = q.trees; entries = p.entries ++ q.entries }

abbrev with_root : Domain → Planted → ℕ → Planted
with_root d p v = root_if d p v (eqb (initial_cost d v) absent) (seek p.trees v 0)

plants-snoc : (d : Domain) (ts : List Tree) (vs : List ℕ) (v : ℕ) → plant_all d ts (vs ++ (v ∷ [])) ≡ with_root d (plant_all d ts vs) v
unfolding plant_all
plants-snoc d ts [] v =
    let q = plant d ts v (eqb (initial_cost d v) absent) (seek ts v 0) in
    λ i. record { trees = q.trees; entries = append-nil q.entries i }
plants-snoc d ts (w ∷ vs) v =
    let p = plant d ts w (eqb (initial_cost d w) absent) (seek ts w 0) in
    let r = plant_all d p.trees vs in
    let q = plant d r.trees v (eqb (initial_cost d v) absent) (seek r.trees v 0) in
    ap (λ (x : Planted). record { trees = x.trees; entries = p.entries ++ x.entries }) (plants-snoc d p.trees vs v)
    ∙ (λ i. record { trees = q.trees; entries = sym (append_assoc p.entries r.entries q.entries) i })

-- ---- the record: one entry more

entry_more : (es : List TreeMemory) (i : ℕ) → length es < 64 → with_entry (new_search es []) i ≡ new_search (es ++ (entry_of i ∷ [])) []
entry_more es i h = λ x. record {
  trees = set-filled 64 es (entry_of i) blank h x;
  tree_count = sym (length-append es (entry_of i ∷ [])) x;
  goal_keys = empty_search.goal_keys;
  goal_count = 0;
  best_solution = empty_search.best_solution;
  exhausted = false;
}

-- ---- the plan and the table after n roots, where q is the model's planting

pub record Matches (ws : List ℕ) (q : Planted) (n : ℕ) (p : TreePlan) (table : List ℕ) : Type 0 where
  pub search : p.search ≡ new_search q.entries []
  pub short : length q.entries ≤ n
  pub count : p.count ≤ n
  pub starts : length p.starts ≡ 64
  pub trees : q.trees ≡ with_new (read_cache ws).domain (read_cache ws).trees (take p.count p.starts)
  pub slots : SlotTable q.trees table

module _ {ws : List ℕ} {q : Planted} {n : ℕ} {p : TreePlan} {table : List ℕ} (h : Matches ws q n p table) (few : n < 64) where
  abbrev d : Domain
  d = (read_cache ws).domain

  abbrev ts : List Tree
  ts = (read_cache ws).trees

  next-slot : length q.trees ≡ trees_in ws + p.count
  next-slot = omega (arith, ap length h.trees, new-length d ts (take p.count p.starts), length-take p.count p.starts, h.starts, h.count, trees-length ws)

  entered : (i : ℕ) → with_entry p.search i ≡ new_search (q.entries ++ (entry_of i ∷ [])) []
  entered i = ap (λ (s : Search). with_entry s i) h.search ∙ entry_more q.entries i (omega (arith, h.short))

  more : (e : TreeMemory) → length (q.entries ++ (e ∷ [])) ≤ n + 1
  more e = omega (arith, length-append q.entries (e ∷ []), h.short)

  root-matches : (v : ℕ) → v < 1024 → (b : Bool) (o : Option ℕ) → seek q.trees v 0 ≡ o
      → let g = plan_if b (slot_word o) (trees_in ws) v (record { plan = p; table = table }) in Matches ws (root_if d q v b o) (n + 1) g.plan g.table
  unfolding plant
  root-matches v k true o e = record {
    search = h.search ∙ ap (λ (es : List TreeMemory). new_search es []) (sym (append-nil q.entries));
    short = rw (append-nil q.entries) (omega (arith, h.short));
    count = omega (arith, h.count);
    starts = h.starts;
    trees = h.trees;
    slots = h.slots;
  }
  root-matches v k false (Some i) e = record {
    search = entered i;
    short = more (entry_of i);
    count = omega (arith, h.count);
    starts = h.starts;
    trees = h.trees;
    slots = h.slots;
  }
  root-matches v k false None e = record {
    search = entered (trees_in ws + p.count) ∙ ap (λ (i : ℕ). new_search (q.entries ++ (entry_of i ∷ [])) []) (sym next-slot);
    short = more (entry_of (length q.trees));
    count = omega (arith, h.count);
    starts = length-set p.starts p.count v ∙ h.starts;
    trees =
        let one : p.count + 1 ≡ suc p.count = omega arith in
        ap (λ (us : List Tree). us ++ (new_tree d v ∷ [])) h.trees
        ∙ new-append d ts (take p.count p.starts) (v ∷ [])
        ∙ ap (with_new d ts) (sym (take-suc-set p.starts p.count v (omega (arith, h.starts, h.count))) ∙ ap (λ (m : ℕ). take m (set p.starts p.count v)) (sym one));
    slots = table_more h.slots (new_tree d v) (unfold new_tree in refl) k e (omega (arith, next-slot));
  }

-- ---- the loop over the roots

pub matches-none : {ws table : List ℕ} {s : Search} → s ≡ empty_search → SlotTable (read_cache ws).trees table
    → Matches ws (planted_in ws []) 0 (record { search = s; starts = replicate 64 0; count = 0 }) table
unfolding plant_all
matches-none {ws} e h = record {
  search = e;
  short = omega arith;
  count = omega arith;
  starts = refl;
  trees = sym (append-nil (read_cache ws).trees);
  slots = h;
}

module _ {ws vs table : List ℕ} {p : TreePlan} {i : ℕ} (ok : CanPlan ws vs) (h : Matches ws (planted_in ws (take i vs)) i p table) where
  module _ (b : i < length vs) where
    abbrev v : ℕ
    v = get_or vs i 0

    abbrev q : Planted
    q = planted_in ws (take i vs)

    small : v < 1024
    small = omega (arith, ok.vertices i b, ok.sound.held.sized.vertices)

    all : planted_in ws (take (i + 1) vs) ≡ with_root (read_cache ws).domain q v
    all = ap (plant_all (read_cache ws).domain (read_cache ws).trees) (take_next 0 vs i b) ∙ plants-snoc (read_cache ws).domain (read_cache ws).trees (take i vs) v

    -- what the root's planning gives, by the word that stands in the table
    abbrev planned : List ℕ → ℕ → Planning
    planned t w = plan_if (eqb (initial_cost (read_cache ws).domain v) absent) w (trees_in ws) v (record { plan = p; table = t })

    matches : let g = planned table (slot_word (seek q.trees v 0)) in Matches ws (with_root (read_cache ws).domain q v) (i + 1) g.plan g.table
    matches = root-matches h (omega (arith, ok.few)) v small (eqb (initial_cost (read_cache ws).domain v) absent) (seek q.trees v 0) refl

    pub matches-next : {r : TreePlan} {t : List ℕ} → PlansRoot ws table p (get_or vs i 0) r t → Matches ws (planted_in ws (take (i + 1) vs)) (i + 1) r t
    matches-next {r} {t} e =
        let plan : ◌≡◌ {A = Planning} (record { plan = r; table = t }) (planned table (slot_word (seek q.trees v 0))) =
        e ∙ ap (planned table) (h.slots.slot v small) in
        rw all (subst (λ (x : Planning). Matches ws (with_root (read_cache ws).domain q v) (i + 1) x.plan x.table) (sym plan) matches)
