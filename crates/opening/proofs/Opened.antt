-- A search opened: refused where the new trees outnumber the unused slots, else with its new trees planted.
-- Assumes nothing.
use mathlib.Core.Path.{◌≡◌, refl, sym, ap, ◌∙◌, subst}
use Rattle.std.specs.declared.result.Result.{Result}
use Rattle.model.specs.declared.Refusal.{Refusal}
use Rattle.std.specs.Prelude.{Ok, Err}
use mathlib.Core.Bool.{Bool, true}
use mathlib.Core.List.{List}
use Prim.Native.Nat.{ℕ, ◌-◌, ◌<◌, ◌≤◌}
use native.Mathlib.Omega.{arith}
use borrow.Author.Tests.{lt-ltb, le-ltb}
use lib.ListN.{length, take}
use Rattle.model.specs.declared.Refusal.TheVariants.{TreesFull}
use Rattle.model.specs.declared.Search.{Search}
use Rattle.model.specs.Lists.{all_below}
use Rattle.layout.specs.Read.{read_cache}
use Rattle.tree.proofs.Parts.{below_in}
use Rattle.sound.specs.Facts.{SoundWords}
use Rattle.new_trees.specs.declared.TreePlan.{TreePlan}
use Rattle.new_trees.specs.Plant.{with_new, CanPlantAll, PlantsAll, Plans}
use Rattle.layout.specs.Planted.{planted_in, new_starts}
use Rattle.new_trees.proofs.Plans.{planned-length, planned-starts, can-plant-all}
use Rattle.opening.specs.Initialize.{CanOpenSearch, OpensIf, OpensSearch, CanTakeGoals, with_goals}
use Rattle.opening.proofs.Goals.{goals-taken}
use Rattle.layout.specs.Layout.{slots_in, trees_in, vertices_in}

-- the lists were judged
pub can-open : {ws vs gs : List ℕ} → SoundWords ws → {m : ℕ} → m ≡ vertices_in ws → length vs ≤ 64 → length gs ≤ 64 → all_below m vs ≡ true
    → CanOpenSearch ws vs gs
can-open {ws} {vs} ok {m} count few goals below = record {
  plan = record { sound = ok; few = few; vertices = λ i h. omega (arith, count, below_in m vs below i h) };
  goals = goals;
}

-- r: what was planned; t of the slots, u in use
module _ {ws vs gs : List ℕ} (ok : CanOpenSearch ws vs gs) {r : TreePlan} (p : Plans ws vs r) {t u : ℕ} (slots : t ≡ slots_in ws) (used : u ≡ trees_in ws) where
  new-count : length (planted_in ws vs).trees - trees_in ws ≡ r.count
  new-count = omega (arith, planned-length ok.plan p)

  pub no-slots : t - u < r.count → {o : Result Search Refusal} → o ≡ Err TreesFull → OpensSearch ws vs gs o ws
  no-slots h {o} e =
      let full : slots_in ws - trees_in ws < length (planted_in ws vs).trees - trees_in ws = omega (arith, h, slots, used, new-count) in
      subst (λ (b : Bool). OpensIf b ws vs gs o ws) (sym (lt-ltb _ _ full)) (e, refl)

  module _ (h : r.count ≤ t - u) where
    pub can-plant : CanPlantAll ws (take r.count r.starts)
    can-plant = can-plant-all ok.plan p (omega (arith, h, slots, used, ok.plan.sound.used))

    pub takes-goals : CanTakeGoals r.search gs
    takes-goals = record { room = omega (arith, ok.goals, ap (λ (s : Search). s.goal_count) p.search) }

    pub is-opened : (left : List ℕ) → PlantsAll ws (take r.count r.starts) left → (s : Search) → s ≡ with_goals r.search gs → OpensSearch ws vs gs (Ok s) left
    is-opened left q s e =
        let room : length (planted_in ws vs).trees - trees_in ws ≤ slots_in ws - trees_in ws = omega (arith, h, slots, used, new-count) in
        let new : take r.count r.starts ≡ new_starts ws vs = planned-starts ok.plan p in
        subst (λ (b : Bool). OpensIf b ws vs gs (Ok s) left) (sym (le-ltb _ _ room))
        (record {
          result = ap Ok (e ∙ ap (λ (x : Search). with_goals x gs) p.search ∙ goals-taken (planted_in ws vs).entries gs ok.goals);
          trees = p.trees ∙ ap (with_new (read_cache ws).domain (read_cache ws).trees) new;
          plants = subst (λ (l : List ℕ). PlantsAll ws l left) new q;
        })
