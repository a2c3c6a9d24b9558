-- One root planned: it has no initial cost, or a tree starts there, or a new one will.
-- Assumes nothing.
use mathlib.Core.Path.{◌≡◌, sym, ap, ap₂, ◌∙◌}
use mathlib.Core.Bool.{Bool, true, false, not}
use mathlib.Core.List.{List}
use Prim.Native.Nat.{ℕ, suc, ◌+◌, ◌-◌}
use native.Mathlib.Omega.{arith}
use borrow.Author.Tests.{eq-eqb, ne_eqb}
use lib.Dec.{eqb}
use lib.ListN.{get_or, set}
use Rattle.std.specs.Option.{is_some}
use Rattle.std.specs.declared.option.Option.{Option}
use Rattle.model.specs.declared.Search.{Search}
use Rattle.model.specs.Graph.{absent, root_cost, initial_cost}
use Rattle.model.specs.Search.{with_entry}
use Rattle.layout.specs.Layout.{initial_in, direction_in, trees_in}
use Rattle.layout.specs.Read.{direction_of, cost_if, read_cache}
use Rattle.layout.proofs.StartCosts.{cost-none, cost-some}
use Rattle.new_trees.specs.declared.TreePlan.{TreePlan}
use Rattle.new_trees.specs.Plant.{Planning, plan_if, CanPlanRoot, PlansRoot}
use Rattle.new_trees.proofs.Planting.{root-cost-is}

-- o: the cost of its root
module _ {ws table : List ℕ} {p : TreePlan} {v : ℕ} (h : CanPlanRoot ws table p v) {o : Option ℕ} (said : o ≡ cost_if (root_cost (direction_of (direction_in ws)) (initial_in ws v))) where
  abbrev g : Planning
  g = record { plan = p; table = table }

  cost : root_cost (direction_of (direction_in ws)) (initial_in ws v) ≡ initial_cost (read_cache ws).domain v
  cost = root-cost-is h.sound h.vertex

  -- k: whether there is none
  module _ {k : Bool} (told : is_some o ≡ not k) where
    pub plan-skips : k ≡ true → PlansRoot ws table p v p table
    plan-skips e = sym (ap (λ (b : Bool). plan_if b (get_or table v 0) (trees_in ws) v g) (eq-eqb (initial_cost (read_cache ws).domain v) absent (sym cost ∙ cost-none said (told ∙ ap not e))))

    module _ (some : k ≡ false) where
      abbrev s : ℕ
      s = get_or table v 0

      by-slot : {n : ℕ} → s ≡ n → plan_if (eqb (initial_cost (read_cache ws).domain v) absent) s (trees_in ws) v g ≡ plan_if false n (trees_in ws) v g
      by-slot e = ap₂ (λ (b : Bool) (n : ℕ). plan_if b n (trees_in ws) v g) (ne_eqb (initial_cost (read_cache ws).domain v) absent (λ z. cost-some said (told ∙ ap not some) (cost ∙ z))) e

      pub plan-shares : (s ≡ 0 → ⊥) → {q : Search} → q ≡ with_entry p.search (s - 1) → PlansRoot ws table p v (record { search = q; starts = p.starts; count = p.count }) table
      plan-shares nz e = (λ i. record { plan = record { search = e i; starts = p.starts; count = p.count }; table = table }) ∙ sym (by-slot {n = suc (s - 1)} (omega (arith, nz)))

      pub plan-plants : s ≡ 0 → {u : ℕ} → u ≡ trees_in ws → {q : Search} → q ≡ with_entry p.search (u + p.count)
          → PlansRoot ws table p v (record { search = q; starts = set p.starts p.count v; count = p.count + 1 }) (set table v (u + p.count + 1))
      plan-plants z eu e =
          (λ i. record {
            plan = record { search = (e ∙ ap (λ (n : ℕ). with_entry p.search (n + p.count)) eu) i; starts = set p.starts p.count v; count = p.count + 1 };
            table = set table v (eu i + p.count + 1);
          })
          ∙ sym (by-slot {n = 0} z)
