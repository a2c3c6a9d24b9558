-- A record that fits a cache's words: what its entries, its best and the solutions held are there.
-- Assumes nothing.
use mathlib.Core.Path.{◌≡◌, sym, ap, ◌∙◌, subst}
use Rattle.std.specs.Prelude.{Some, None, IsTrue, MatchOption}
use Rattle.std.specs.declared.option.Option.{Option}
use mathlib.Core.Bool.{Bool, true}
use mathlib.Core.List.{List}
use Prim.Native.Nat.{ℕ, ◌<◌, ◌≤◌}
use native.Mathlib.Omega.{arith}
use borrow.Author.Tests.{ltb-true, leb-true, eqb-true}
use lib.Dec.{leb}
use lib.ListN.{length}
use lib.Seq.{length-take-le, get_or-take}
use Rattle.model.specs.declared.BestSolution.{BestSolution}
use Rattle.model.specs.declared.TreeMemory.{TreeMemory}
use Rattle.model.specs.declared.Search.{Search}
use Rattle.model.specs.Lists.{mem, allb, all_below}
use Rattle.model.specs.Worth.{node}
use Rattle.model.specs.Sound.{tree}
use Rattle.model.specs.Search.{entry, entries, goals, as_best}
use Rattle.model.specs.Valid.{list_tests, known_within, closes_goal, solution_closes, entry_tests, everyb, best_tests, best_closes, almost_tests, almost, valid}
use Rattle.model.proofs.Bools.{and-true, all_true}
use Rattle.model.proofs.Valid.{every-at, entries-length, entries_at}
use Rattle.model.proofs.StaysValid.{valid-almost}
use Rattle.layout.specs.Read.{read_cache}
use Rattle.tree.proofs.Parts.{below_in}
use Rattle.sound.specs.Facts.{SoundWords, InUse}
use Rattle.sound.proofs.Facts.{trees-length, sound-cache, vertices-read}
use Rattle.memory.specs.Memory.{HasNode, Listed, EntryHolds, CanJudge, FitsWords}
use Rattle.layout.specs.Layout.{vertices_in}

-- ---- an entry's tree

pub in_use : {ws : List ℕ} {i : ℕ} → SoundWords ws → i < length (read_cache ws).trees → InUse ws i
in_use {ws} ok h = record { sound = ok; slot = omega (arith, trees-length ws) }

-- a remembered count
pub known-read : {ws : List ℕ} → SoundWords ws → (k : Option ℕ) {m : ℕ} {r : Bool} → m ≡ vertices_in ws → MatchOption k (IsTrue r) (λ n. r ≡ leb n m)
    → r ≡ known_within (read_cache ws).domain k
known-read ok None z h = h
known-read ok (Some n) z h = h ∙ ap (leb n) (z ∙ sym (vertices-read ok))

-- the solution held
module _ {ws : List ℕ} {e : TreeMemory} {n : ℕ} (c : CanJudge ws e) (z : e.solution ≡ Some n) where
  pub held-node : HasNode ws e.tree n
  held-node = record { used = in_use c.0 c.1.slot; node = c.1.node n z }

-- ---- the best

module _ {ws : List ℕ} {s : Search} (ok : SoundWords ws) (f : FitsWords ws s) {i n : ℕ} (e : s.best_solution ≡ as_best i n) where
  pub best-few : i < 64
  best-few = omega (arith, (f.best i n e).0, f.listed.entries)

  pub best-node : HasNode ws (entry s i).tree n
  best-node = record { used = in_use ok (f.held i (f.best i n e).0).slot; node = (f.best i n e).1 }

-- ---- the facts of a record that passed its tests

pub listed-fits : {s : Search} → Listed s → s.tree_count ≤ length s.trees
listed-fits l = omega (arith, l.trees, l.entries)

listed_at : (s : Search) → allb (list_tests s) ≡ true → Listed s
listed_at s e =
    let l = all_true (list_tests s) e in
    record { trees = eqb-true _ _ l.0; entries = leb-true _ _ l.1.0; keys = eqb-true _ _ l.1.1.0; goals = leb-true _ _ l.1.1.1.0 }

module _ {ws : List ℕ} (ok : SoundWords ws) where
  -- a node that closes a goal is one of its tree
  pub closes-node : (gs : List ℕ) {i : ℕ} → i < length (read_cache ws).trees → (n : ℕ) → closes_goal gs (tree (read_cache ws).trees i) n ≡ true
      → n < length (tree (read_cache ws).trees i).nodes
  unfolding closes_goal
  closes-node gs {i} h n e =
      let v : ℕ = (node (tree (read_cache ws).trees i).nodes n).vertex in
      (((sound-cache ws ok).trees.each i h).closer v n (eqb-true _ _ (and-true (mem v gs) _ e).1)).0

  pub holds_at : (gs : List ℕ) (e : TreeMemory) → allb (entry_tests (read_cache ws).domain (read_cache ws).trees gs e) ≡ true → EntryHolds (read_cache ws).trees e
  holds_at gs e p =
      let t = all_true (entry_tests (read_cache ws).domain (read_cache ws).trees gs e) p in
      let slot : e.tree < length (read_cache ws).trees = ltb-true _ _ t.0 in
      record {
        slot = slot;
        node = λ n z. closes-node gs slot n (subst (λ (o : Option ℕ). solution_closes gs (tree (read_cache ws).trees e.tree) o ≡ true) z t.1.1.0);
      }

module _ (ws : List ℕ) (s : Search) (ok : SoundWords ws) (l : Listed s) where
  abbrev passes : TreeMemory → Bool
  passes e = allb (entry_tests (read_cache ws).domain (read_cache ws).trees (goals s) e)

  module _ (each : everyb passes (entries s) ≡ true) where
    pub held_at : (i : ℕ) → i < s.tree_count → EntryHolds (read_cache ws).trees (entry s i)
    held_at i h =
        let fits = listed-fits l in
        holds_at ok (goals s) (entry s i) (subst (λ (e : TreeMemory). passes e ≡ true) (entries_at s fits i h)
        (every-at passes (entries s) each i (omega (arith, entries-length s fits))))

    fits-at : all_below (vertices_in ws) (goals s) ≡ true → best_closes (read_cache ws).trees s s.best_solution ≡ true → FitsWords ws s
    fits-at below best = record {
      listed = l;
      goals = λ i h.
          let long : length (goals s) ≡ s.goal_count = length-take-le s.goal_count s.goal_keys (omega (arith, l.keys, l.goals)) in
          subst (λ (v : ℕ). v < vertices_in ws) (get_or-take s.goal_count s.goal_keys i 0 h) (below_in (vertices_in ws) (goals s) below i (omega (arith, long)));
      held = held_at;
      best = λ i n z.
          let q = all_true (best_tests (read_cache ws).trees s i n) (subst (λ (x : Option BestSolution). best_closes (read_cache ws).trees s x ≡ true) z best) in
          let counted : i < s.tree_count = ltb-true _ _ q.0 in
          (counted, closes-node ok (goals s) (held_at i counted).slot n q.1.0);
    }

-- the last test is not needed
pub almost-fits : (ws : List ℕ) (s : Search) → SoundWords ws → almost (read_cache ws).domain (read_cache ws).trees s ≡ true → FitsWords ws s
unfolding almost
almost-fits ws s ok e =
    let r = all_true (almost_tests (read_cache ws).domain (read_cache ws).trees s) e in
    let below = subst (λ (m : ℕ). all_below m (goals s) ≡ true) (vertices-read ok) r.1.0 in
    fits-at ws s ok (listed_at s r.0) r.1.1.0 below r.1.1.1.0

pub valid-fits : (ws : List ℕ) (s : Search) → SoundWords ws → valid (read_cache ws).domain (read_cache ws).trees s ≡ true → FitsWords ws s
valid-fits ws s ok e = almost-fits ws s ok (valid-almost (read_cache ws).domain (read_cache ws).trees s e)
