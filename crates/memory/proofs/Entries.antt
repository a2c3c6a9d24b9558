-- The tests of an entry, and of a node that is to be the best.
-- Assumes nothing.
use mathlib.Core.Path.{◌≡◌, refl, sym, ap, ◌∙◌}
use Rattle.std.specs.declared.option.Option.{Option}
use Rattle.std.specs.Prelude.{None, Some, is_some}
use Rattle.std.specs.Option.{option_eq}
use mathlib.Core.Bool.{Bool, true, false, not, ◌||◌}
use mathlib.Core.List.{List}
use Prim.Native.Nat.{ℕ, ◌<◌, ◌≤◌}
use native.Mathlib.Omega.{arith}
use borrow.Author.Tests.{lt-ltb, le-ltb, not-true, not-false}
use lib.Dec.{eqb, ltb}
use lib.ListN.{length, get_or}
use Rattle.model.specs.declared.TreeMemory.{TreeMemory}
use Rattle.model.specs.Lists.{allb}
use Rattle.model.specs.Worth.{solution_cost}
use Rattle.model.specs.Sound.{tree}
use Rattle.model.specs.Valid.{known_within, closes_goal, solution_closes, entry_tests, same_cost, is_held}
use Rattle.layout.specs.Read.{read_cache}
use Rattle.sound.proofs.Facts.{trees-length}
use Rattle.model.proofs.InTurn.{all-fails, read-last}
use Rattle.sound.specs.Facts.{InUse}
use Rattle.memory.specs.Memory.{HasNode, best_node_tests}
use Rattle.memory.proofs.Fits.{closes-node}
use Rattle.memory.proofs.Costs.{same-is, held-is}
use Rattle.layout.specs.Layout.{trees_in}

-- ---- one entry; u: the trees in use, k: whether its count is within

module _ (ws gs : List ℕ) (e : TreeMemory) {u : ℕ} (z : u ≡ trees_in ws) where
  abbrev tests : List Bool
  tests = entry_tests (read_cache ws).domain (read_cache ws).trees gs e

  pub entry-unused : u ≤ e.tree → false ≡ allb tests
  entry-unused h = sym (all-fails tests 0 (le-ltb e.tree (length (read_cache ws).trees) (omega (arith, trees-length ws))))

  module _ (h : e.tree < u) {k : Bool} (known : k ≡ known_within (read_cache ws).domain e.last_known_closed_len) where
    used : ltb e.tree (length (read_cache ws).trees) ≡ true
    used = lt-ltb e.tree (length (read_cache ws).trees) (omega (arith, trees-length ws))

    pub entry-beyond : not k ≡ true → false ≡ allb tests
    entry-beyond f = sym (all-fails tests 1 (sym known ∙ not-true k f))

    -- r: whether its solution closes a goal
    entry-last : not k ≡ false → {o : Option ℕ} {r : Bool} → e.solution ≡ o → r ≡ solution_closes gs (tree (read_cache ws).trees e.tree) o → r ≡ allb tests
    entry-last f o c =
        c ∙ sym (ap (solution_closes gs (tree (read_cache ws).trees e.tree)) o) ∙ read-last {cs = tests} refl 2 refl used (sym known ∙ not-false k f)

    pub entry-unsolved : not k ≡ false → e.solution ≡ None → true ≡ allb tests
    entry-unsolved f o = entry-last f o refl

    pub entry-solved : not k ≡ false → {n : ℕ} {r : Bool} → e.solution ≡ Some n → r ≡ closes_goal gs (tree (read_cache ws).trees e.tree) n → r ≡ allb tests
    entry-solved f o c = entry-last f o c

-- ---- a node that is to be the best, of the tree in slot i; o: what its entry holds, a: whether it closes a goal

module _ (ws gs : List ℕ) (i : ℕ) (o : Option ℕ) (n : ℕ) (least : Option ℕ) (x : Bool) {a : Bool} (closes : a ≡ closes_goal gs (tree (read_cache ws).trees i) n) where
  abbrev three : List Bool
  three = best_node_tests (read_cache ws).domain (tree (read_cache ws).trees i) gs o n least x

  pub best-elsewhere : a ≡ false → a ≡ allb three
  best-elsewhere f = f ∙ sym (all-fails three 0 (sym closes ∙ f))

  pub best-has-node : InUse ws i → a ≡ true → HasNode ws i n
  best-has-node u f = record { used = u; node = closes-node u.sound gs (omega (arith, u.slot, trees-length ws)) n (sym closes ∙ f) }

  -- g: whether it costs the least
  module _ (closed : a ≡ true) {k : ℕ} {g : Bool} (cost : k ≡ solution_cost (read_cache ws).domain (tree (read_cache ws).trees i).nodes n)
      (same : g ≡ option_eq eqb (Some k) least) where
    costs : g ≡ get_or three 1 true
    costs = same ∙ same-is (Some k) least ∙ ap (λ (c : ℕ). same_cost (Some c) least) cost

    pub best-costs-other : g ≡ false → g ≡ allb three
    best-costs-other f = f ∙ sym (all-fails three 1 (sym costs ∙ f))

    best-last : g ≡ true → (not x || is_held o) ≡ allb three
    best-last f = read-last {cs = three} refl 2 refl (sym closes ∙ closed) (sym costs ∙ f)

    pub best-unfinished : g ≡ true → not x ≡ true → not x ≡ allb three
    best-unfinished f y = y ∙ sym (ap (λ (b : Bool). b || is_held o) y) ∙ best-last f

    pub best-finished : g ≡ true → not x ≡ false → {r : Bool} → r ≡ is_some o → r ≡ allb three
    best-finished f y h = h ∙ held-is o ∙ sym (ap (λ (b : Bool). b || is_held o) y) ∙ best-last f
