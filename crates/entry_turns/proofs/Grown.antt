-- The turn of an entry in the words: a find by lookup leaves them, and growing leaves the model's tree in the slot.
-- Assumes nothing.
use mathlib.Core.Path.{◌≡◌, refl, sym, ap, ◌∙◌, subst}
use Rattle.std.specs.declared.option.Option.{Option}
use Rattle.std.specs.Prelude.{None, Some}
use mathlib.Core.Logic.{inl}
use mathlib.Core.Bool.{false}
use mathlib.Core.List.{List}
use Prim.Native.Nat.{ℕ}
use native.Mathlib.Omega.{arith}
use lib.ListN.{set}
use lib.Seq.{set-get_or, get_or-set_same}
use Rattle.model.specs.declared.TreeMemory.{TreeMemory}
use Rattle.model.specs.Tree.{Tree, least}
use Rattle.model.specs.Sound.{no_tree, tree}
use Rattle.model.specs.Search.{closed_count, under, Turn, grown}
use Rattle.model.specs.Calls.{Cache, with_trees}
use Rattle.layout.specs.Read.{read_cache}
use Rattle.sound.proofs.Facts.{trees-length}
use Rattle.sound.specs.Facts.{InUse}
use Rattle.grow.specs.declared.Grown.{Grown}
use Rattle.grow.specs.Grow.{growth_of, Grew}
use Rattle.entry_turns.specs.declared.Outcome.{Outcome}
use Rattle.entry_turns.specs.Turn.{tree_at, CanTurn, turn_of, Turns, LooksUp, Remembers}
use Rattle.entry_turns.proofs.Turning.{turn-found, turn-grown}

-- the tree in a slot that words hold another tree in
pub tree-left : {ws : List ℕ} (left : List ℕ) {i : ℕ} → InUse ws i → (t : Tree) → read_cache left ≡ with_trees (read_cache ws) (set (read_cache ws).trees i t) → tree_at left i ≡ t
tree-left {ws} left {i} u t e = ap (λ (c : Cache). tree c.trees i) e ∙ get_or-set_same (read_cache ws).trees i t no_tree (omega (arith, trees-length ws, u.slot))

module _ {ws : List ℕ} {i : ℕ} {gs : List ℕ} (u : InUse ws i) {b : Option ℕ} {g : Grown} {left : List ℕ} (grew : Grew ws i gs b g left) where
  pub can-remember : InUse left i
  can-remember = record { sound = grew.sound; slot = omega (arith, u.slot, grew.outside.word 4 (inl (omega arith))) }

  pub grown-turns : {r : Outcome} → Remembers (tree_at left i) g b r → Turns ws i (grown (growth_of ws i gs b) b) r left
  unfolding grown
  grown-turns m =
      let same = tree-left left u (growth_of ws i gs b).tree grew.cache in
      record {
        known = m.known ∙ ap (λ (t : Tree). Some (closed_count t.closed)) same;
        find = m.find ∙ grew.solution;
        more = m.more ∙ ap (λ (t : Tree). under t.nodes (least t.nodes t.waiting) b) same;
        tickets = m.tickets ∙ grew.tickets;
        cache = grew.cache;
        sound = grew.sound;
        outside = grew.outside;
      }

module _ {ws : List ℕ} (e : TreeMemory) {gs : List ℕ} (can : CanTurn ws e.tree gs) (b : Option ℕ) {o : Option ℕ} (l : LooksUp ws e.tree gs e.last_known_closed_len o) where
  pub turns-grown : {r : Outcome} {left : List ℕ} → o ≡ None → Turns ws e.tree (grown (growth_of ws e.tree gs b) b) r left → Turns ws e.tree (turn_of ws e gs b) r left
  turns-grown {r} {left} z t =
      subst (λ (u : Turn). Turns ws e.tree u r left) (sym (turn-grown (read_cache ws).domain gs b (tree_at ws e.tree) e.last_known_closed_len (sym l ∙ z))) t

  pub turns-found : {n : ℕ} → o ≡ Some n → Turns ws e.tree (turn_of ws e gs b) (record { known = None; find = o; more = false; tickets = 0 }) ws
  turns-found {n} z =
      subst (λ (u : Turn). Turns ws e.tree u (record { known = None; find = o; more = false; tickets = 0 }) ws)
      (sym (turn-found (read_cache ws).domain gs b (tree_at ws e.tree) e.last_known_closed_len n (sym l ∙ z)))
      (record {
        known = refl;
        find = z;
        more = refl;
        tickets = refl;
        cache = sym (ap (with_trees (read_cache ws)) (set-get_or (read_cache ws).trees e.tree no_tree));
        sound = can.used.sound;
        outside = record { len = refl; word = λ j h. refl };
      })
