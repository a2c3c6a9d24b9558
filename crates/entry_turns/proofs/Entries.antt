-- An entry's slot read: its goals are vertices, and what is found or counted in its words is so in its tree.
-- Assumes nothing.
use mathlib.Core.Path.{◌≡◌, refl, ap}
use Rattle.std.specs.Prelude.{Some}
use Rattle.std.specs.declared.option.Option.{Option}
use mathlib.Core.Bool.{Bool}
use mathlib.Core.List.{List}
use Prim.Native.Nat.{ℕ}
use native.Mathlib.Omega.{arith}
use Rattle.model.specs.Tree.{Tree, least}
use Rattle.model.specs.Search.{closed_count, lookup, under}
use Rattle.layout.specs.Read.{read_cache}
use Rattle.layout.specs.Layout.{edges_in, vertices_in}
use Rattle.layout.specs.Slots.{slot_words}
use Rattle.tree.specs.Tree.{ClosedCountIs, HasGoals}
use Rattle.grow.specs.declared.Grown.{Grown}
use Rattle.sound.specs.Facts.{InUse}
use Rattle.sound.proofs.InUse.{words-length, words-formed, words-value}
use Rattle.entry_turns.specs.Turn.{tree_at, CanTurn, CanLookUp, looks_up, LooksUp, UnderIs, Remembers}

-- t: the slot's words, l: the edges of the header
module _ {ws : List ℕ} {i : ℕ} {gs : List ℕ} (can : CanTurn ws i gs) {t : List ℕ} (et : t ≡ slot_words (vertices_in ws) (edges_in ws) i ws) {l : ℕ} (el : l ≡ edges_in ws) where
  has-goals : HasGoals l t gs
  has-goals j h = omega (arith, can.goals j h, words-length can.used et, el)

  pub can-look-up : CanLookUp l t gs
  can-look-up = record { formed = words-formed can.used et el; goals = has-goals }

  pub looked-up : (known : Option ℕ) {r : Option ℕ} → looks_up (read_cache ws).domain ws l t gs known r → LooksUp ws i gs known r
  looked-up known f = words-value can.used et el (λ (u : Tree). lookup (read_cache ws).domain u gs known) f

-- n: the closed count; more: the test of the first ticket
module _ {ws : List ℕ} {i : ℕ} (u : InUse ws i) {t : List ℕ} (et : t ≡ slot_words (vertices_in ws) (edges_in ws) i ws) {l : ℕ} (el : l ≡ edges_in ws)
    (g : Grown) (b : Option ℕ) {n : ℕ} {more : Bool} where
  pub remembers : ClosedCountIs l t n → UnderIs l t b more
      → Remembers (tree_at ws i) g b (record { known = Some n; find = g.solution; more = more; tickets = g.tickets })
  remembers count test = record {
    known = ap Some (words-value u et el (λ (x : Tree). closed_count x.closed) (count ws));
    find = refl;
    more = words-value u et el (λ (x : Tree). under x.nodes (least x.nodes x.waiting) b) (test ws);
    tickets = refl;
  }
