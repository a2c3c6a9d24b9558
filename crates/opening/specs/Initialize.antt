-- Opening a search on sound words: what the code promises. It is the model's `initialize` (model/specs/Calls.antt) on the cache that the
-- words hold.
-- Assumes nothing.
use Rattle.std.specs.Prelude.{◌≡◌, Bool, true, false, List, [], ◌∷◌, ℕ, ◌+◌, ◌-◌, ◌≤◌, ltb, length, Err, Ok}
use Rattle.std.specs.declared.result.Result.{Result}
use Rattle.model.specs.Limits.{list_limit}
use Rattle.model.specs.declared.Refusal.{Refusal}
use Rattle.model.specs.declared.Refusal.TheVariants.{TreesFull}
use Rattle.model.specs.declared.Search.{Search}
use Rattle.model.specs.Answers.{initialize_reply}
use Rattle.model.specs.Search.{new_search, with_goal, roots_of}
use Rattle.model.specs.Calls.{initialize, opened_search}
use Rattle.layout.specs.Layout.{direction_in, slots_in, trees_in}
use Rattle.layout.specs.Read.{direction_of, read_cache}
use Rattle.layout.specs.Planted.{planted_in, new_starts, initialized_words}
use Rattle.sound.specs.Facts.{SoundWords}
use Rattle.new_trees.specs.Plant.{CanPlan, with_new, PlantsAll}

-- answer, record and every word are given by definitions; the cache that the words left hold is the model's
pub record Initializes (ws ss gs : List ℕ) (r : Result Search Refusal) (left : List ℕ) : Type 0 where
  pub answer : initialize_reply r ≡ (initialize (read_cache ws) ss gs).reply
  pub search : opened_search r ≡ (initialize (read_cache ws) ss gs).search
  pub words : left ≡ initialized_words (initialize (read_cache ws) ss gs).reply ws (roots_of (direction_of (direction_in ws)) ss gs)
  pub cache : read_cache left ≡ (initialize (read_cache ws) ss gs).cache
  pub sound : SoundWords left

-- ---- what the functions beneath promise each other

pub record CanOpenSearch (ws vs gs : List ℕ) : Type 0 where
  pub plan : CanPlan ws vs
  pub goals : length gs ≤ list_limit

-- "distinct new trees outnumber unused slots"
abbrev pub is_full : List ℕ → List ℕ → Bool
is_full ws vs = ltb (slots_in ws - trees_in ws) (length (planted_in ws vs).trees - trees_in ws)

pub record OpenedSearch (ws vs gs : List ℕ) (r : Result Search Refusal) (left : List ℕ) : Type 0 where
  pub result : r ≡ Ok (new_search (planted_in ws vs).entries gs)
  pub trees : (planted_in ws vs).trees ≡ with_new (read_cache ws).domain (read_cache ws).trees (new_starts ws vs)
  pub plants : PlantsAll ws (new_starts ws vs) left

abbrev pub OpensIf : Bool → List ℕ → List ℕ → List ℕ → Result Search Refusal → List ℕ → Type 0
OpensIf true ws vs gs r left = (r ≡ Err TreesFull) × (left ≡ ws)
OpensIf false ws vs gs r left = OpenedSearch ws vs gs r left

abbrev pub OpensSearch : List ℕ → List ℕ → List ℕ → Result Search Refusal → List ℕ → Type 0
OpensSearch ws vs gs r left = OpensIf (is_full ws vs) ws vs gs r left

pub record CanTakeGoals (s : Search) (gs : List ℕ) : Type 0 where
  pub room : s.goal_count + length gs ≤ list_limit

abbrev pub with_goals : Search → List ℕ → Search
with_goals s [] = s
with_goals s (g ∷ gs) = with_goals (with_goal s g) gs
