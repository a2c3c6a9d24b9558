-- New trees in the words of a cache: what the code promises.
-- Assumes nothing.
use Rattle.std.specs.Prelude.{◌≡◌, Bool, true, false, List, [], ◌∷◌, ◌++◌, map, ℕ, zero, suc, ◌+◌, ◌<◌, ◌≤◌, eqb, length, get_or, set, take, replicate, None, Some}
use Rattle.std.specs.declared.option.Option.{Option}
use Rattle.model.specs.Limits.{vertex_limit, list_limit}
use Rattle.model.specs.Graph.{Domain, absent, initial_cost}
use Rattle.model.specs.Tree.{Tree, new_tree}
use Rattle.model.specs.Sound.{SoundTrees}
use Rattle.model.specs.Search.{seek, new_search, with_entry}
use Rattle.model.specs.Calls.{with_trees}
use Rattle.layout.specs.Layout.{slots_in, trees_in, vertices_in}
use Rattle.layout.specs.Read.{read_cache}
use Rattle.layout.specs.Planted.{planted_all, planted_in}
use Rattle.sound.specs.Facts.{SoundWords}
use Rattle.new_trees.specs.declared.TreePlan.{TreePlan}

-- ---- planting: "New trees take the next slots in list order."

abbrev pub with_new : Domain → List Tree → List ℕ → List Tree
with_new d ts vs = ts ++ map (new_tree d) vs

-- there are unused slots, and the cache is sound with the new trees
pub record CanPlantAll (ws vs : List ℕ) : Type 0 where
  pub sound : SoundWords ws
  pub room : trees_in ws + length vs ≤ slots_in ws
  pub trees : SoundTrees (read_cache ws).domain (with_new (read_cache ws).domain (read_cache ws).trees vs)

pub record PlantsAll (ws vs left : List ℕ) : Type 0 where
  pub words : left ≡ planted_all ws vs
  pub cache : read_cache left ≡ with_trees (read_cache ws) (with_new (read_cache ws).domain (read_cache ws).trees vs)
  pub sound : SoundWords left

abbrev pub CanPlant : List ℕ → ℕ → Type 0
CanPlant ws v = CanPlantAll ws (v ∷ [])

abbrev pub Plants : List ℕ → ℕ → List ℕ → Type 0
Plants ws v left = PlantsAll ws (v ∷ []) left

-- ---- planning: what is to be planted, before a word is written

-- at most 64 roots, each a vertex
pub record CanPlan (ws vs : List ℕ) : Type 0 where
  pub sound : SoundWords ws
  pub few : length vs ≤ list_limit
  pub vertices : (i : ℕ) → i < length vs → get_or vs i 0 < vertices_in ws

-- the entries are the model's, and its trees are those there and the new ones
pub record Plans (ws vs : List ℕ) (r : TreePlan) : Type 0 where
  pub search : r.search ≡ new_search (planted_in ws vs).entries []
  pub few : length (planted_in ws vs).entries ≤ list_limit
  pub count : r.count ≤ list_limit
  pub starts : length r.starts ≡ list_limit
  pub trees : (planted_in ws vs).trees ≡ with_new (read_cache ws).domain (read_cache ws).trees (take r.count r.starts)

-- a slot as a word: 0 for none, else one more
abbrev pub slot_word : Option ℕ → ℕ
slot_word None = 0
slot_word (Some i) = suc i

-- for each vertex the slot of the tree that starts there
pub record SlotTable (ts : List Tree) (table : List ℕ) : Type 0 where
  pub len : length table ≡ vertex_limit
  pub slot : (v : ℕ) → v < vertex_limit → get_or table v 0 ≡ slot_word (seek ts v 0)

pub record CanFindTrees (ws table : List ℕ) : Type 0 where
  pub sound : SoundWords ws
  pub zeros : table ≡ replicate vertex_limit 0

pub record CanPlanRoot (ws table : List ℕ) (p : TreePlan) (v : ℕ) : Type 0 where
  pub sound : SoundWords ws
  pub len : length table ≡ vertex_limit
  pub entries : p.search.tree_count < list_limit
  pub count : p.count < list_limit
  pub vertex : v < vertices_in ws

pub record Planning : Type 0 where
  pub plan : TreePlan
  pub table : List ℕ

-- "Starts without a start cost are skipped. Each other start makes one entry .., and one tree per start motif is shared."
abbrev pub plan_if : Bool → ℕ → ℕ → ℕ → Planning → Planning
plan_if true w used v g = g
plan_if false (suc i) used v g =
    record { plan = record { search = with_entry g.plan.search i; starts = g.plan.starts; count = g.plan.count }; table = g.table }
plan_if false zero used v g =
    let p = g.plan in
    let next = used + p.count in
    record { plan = record { search = with_entry p.search next; starts = set p.starts p.count v; count = p.count + 1 }; table = set g.table v (next + 1) }

abbrev pub PlansRoot : List ℕ → List ℕ → TreePlan → ℕ → TreePlan → List ℕ → Type 0
PlansRoot ws table p v r table' =
    ◌≡◌ {A = Planning} (record { plan = r; table = table' })
    (plan_if (eqb (initial_cost (read_cache ws).domain v) absent) (get_or table v 0) (trees_in ws) v (record { plan = p; table = table }))
