-- Looking a goal up in a tree's words.
-- Assumes nothing.
use mathlib.Core.Path.{◌≡◌, sym, ap, ◌∙◌}
use Rattle.std.specs.declared.option.Option.{Option}
use Rattle.std.specs.Prelude.{None}
use mathlib.Core.Bool.{Bool, true, false}
use mathlib.Core.List.{List}
use Prim.Native.Nat.{ℕ}
use Rattle.model.specs.Graph.{Domain}
use Rattle.model.specs.Search.{lookup_if, lookup}
use Rattle.tree.specs.Tree.{tree_of, CheapestIs}
use Rattle.entry_turns.specs.Turn.{KnownIs, looks_up}

module _ (d : Domain) (ws : List ℕ) (l : ℕ) (t gs : List ℕ) (known : Option ℕ) {k : Bool} (test : KnownIs l t known k) where
  pub known-finds : k ≡ true → looks_up d ws l t gs known None
  unfolding lookup
  known-finds e = sym (ap (λ (b : Bool). lookup_if b d (tree_of ws l t).nodes (tree_of ws l t).closed gs) (sym (test ws) ∙ e))

  pub unknown-finds : {r : Option ℕ} → k ≡ false → CheapestIs d ws l t gs r → looks_up d ws l t gs known r
  unfolding lookup
  unknown-finds e c = c ∙ sym (ap (λ (b : Bool). lookup_if b d (tree_of ws l t).nodes (tree_of ws l t).closed gs) (sym (test ws) ∙ e))
