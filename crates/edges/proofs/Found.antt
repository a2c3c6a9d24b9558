-- What the answer of `next_edge` says.
-- Assumes nothing.
use mathlib.Core.Path.{◌≡◌, refl, sym, ap, subst, ◌∙◌}
use mathlib.Core.Bool.{Bool, true, false}
use mathlib.Core.List.{List}
use Prim.Native.Nat.{ℕ, ◌+◌, ◌<◌, ◌≤◌}
use native.Mathlib.Omega.{arith}
use lib.Dec.{ltb}
use lib.ListN.{length, get_or}
use borrow.Author.Tests.{ltb-true, ltb-false, lt-ltb}
use Rattle.edges.specs.Edges.{next_if, next_at, next_of, Advances}
use Rattle.edges.specs.declared.SimpleGraphEdges.{SimpleGraphEdges}
use Rattle.edges.specs.declared.Placed.{Placed}
use Rattle.std.specs.Prelude.{Some, None}
use Rattle.std.specs.declared.option.Option.{Option}

-- the edge number x stands at place p, before e, and the place past it is a
pub record Found (ns : List ℕ) (p e x a : ℕ) : Type 0 where
  pub before : p < e
  pub within : p < length ns
  pub edge : x ≡ get_or ns p 0
  pub after : a ≡ p + 1

module _ (ns : List ℕ) (p e : ℕ) {r : Placed} (said : r ≡ next_at ns p e) where
  by_tests : {x : ℕ} (b c : Bool) → ltb p e ≡ b → ltb p (length ns) ≡ c → (next_if b c ns p).edge ≡ Some x → Found ns p e x (next_if b c ns p).place
  by_tests true true f g same = record { before = ltb-true p e f; within = ltb-true p (length ns) g; edge = cc; after = refl }
  by_tests true false f g same = let z : ◌≡◌ {A = ℕ} 0 1 = cc in absurd (omega arith)
  by_tests false c f g same = let z : ◌≡◌ {A = ℕ} 0 1 = cc in absurd (omega arith)

  is_said : {x : Option ℕ} → r.edge ≡ x → (next_at ns p e).edge ≡ x
  is_said is = sym (ap (λ (y : Placed). y.edge) said) ∙ is

  pub edge-found : {x : ℕ} → r.edge ≡ Some x → Found ns p e x r.place
  edge-found {x} is = subst (λ (y : Placed). Found ns p e x y.place) (sym said) (by_tests (ltb p e) (ltb p (length ns)) refl refl (is_said is))

  by-test : e ≤ length ns → (b : Bool) → ltb p e ≡ b → (next_if b (ltb p (length ns)) ns p).edge ≡ None → e ≤ p
  by-test reach true f same =
      let within : p < length ns = omega (arith, ltb-true p e f) in
      let other : (next_if true true ns p).edge ≡ None = rw (lt-ltb p (length ns) within) at same in
      let z : ◌≡◌ {A = ℕ} 0 1 = cc in
      absurd (omega arith)
  by-test reach false f same = ltb-false p e f

  -- the end, where the numbers reach as far as e
  pub end-found : e ≤ length ns → r.edge ≡ None → e ≤ p
  end-found reach is = by-test reach (ltb p e) refl (is_said is)

-- the same where a cursor c gave a number, or nothing, and moved to m
module _ {c m : SimpleGraphEdges} where
  pub edge-given : {x : ℕ} → Advances c (Some x) m → Found c.numbers.now c.place c.end x m.place
  edge-given {x} said =
      subst (Found c.numbers.now c.place c.end x) (sym said.place)
      (edge-found c.numbers.now c.place c.end {r = next_of c} refl (sym said.edge))

  pub end-given : c.end ≤ length c.numbers.now → Advances c None m → c.end ≤ c.place
  end-given reach said = end-found c.numbers.now c.place c.end {r = next_of c} refl reach (sym said.edge)
