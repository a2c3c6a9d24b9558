-- How often a search waits and how many moves a solved one answers, at most.
-- Assumes nothing.
use mathlib.Core.Path.{◌≡◌, refl, sym}
use Rattle.std.specs.declared.option.Option.{Option}
use Rattle.std.specs.Prelude.{None, Some}
use mathlib.Core.Bool.{Bool, true, false, not, ◌||◌}
use mathlib.Core.List.{List, [], ◌∷◌}
use Prim.Native.Nat.{ℕ, suc, ◌+◌, ◌*◌, ◌<◌, ◌≤◌}
use native.Mathlib.Nat.{mul-le-mul_left, mul-le-mul_right}
use native.Mathlib.Omega.{arith}
use lib.Dec.{eqb}
use lib.ListN.{length, get_or}
use Rattle.model.specs.declared.BestSolution.{BestSolution}
use Rattle.model.specs.declared.Search.{Search}
use Rattle.model.specs.Lists.{keep, mem}
use Rattle.model.specs.Answers.{answered, solved}
use Rattle.model.specs.Graph.{Graph, Accepted, Direction, forward, backward, absent, vertex_count, edge_count}
use Rattle.model.specs.Tree.{Tree, node, closed_at}
use Rattle.model.specs.Path.{moves_of}
use Rattle.model.specs.Sound.{tree, SoundTrees}
use Rattle.model.specs.Search.{entry, as_best}
use Rattle.model.specs.Valid.{valid}
use Rattle.model.specs.Calls.{Cache, first_fault, shown_by, shown_tree_by, status_at, final_status, step_if, step_by, step}
use Rattle.model.specs.Demands.{distinct, trees_of, wait_limit}
use Rattle.model.proofs.Room.{moves-fit}
use Rattle.model.proofs.Replies.{answered-refused}
use Rattle.model.proofs.Valid.{valid-at}

-- ---- waits

distinct-few : (p : ℕ → Bool) (l : List ℕ) → length (distinct p l) ≤ length l
unfolding distinct
distinct-few p [] = omega arith
distinct-few p (v ∷ vs) = go (not (mem v vs || not (p v))) (distinct-few p vs)
  where
    go : (b : Bool) → length (distinct p vs) ≤ length vs → length (keep b v (distinct p vs)) ≤ suc (length vs)
    go true h = omega arith
    go false h = omega arith

trees-few : (dir : Direction) (g : Graph) (ss gs : List ℕ) → length ss ≤ 64 → length gs ≤ 64 → length (trees_of dir g ss gs) ≤ 64
trees-few forward g ss gs hs hg = omega (arith, distinct-few (λ (v : ℕ). not (eqb (get_or g.initial v absent) absent)) ss)
trees-few backward g ss gs hs hg = omega (arith, distinct-few (λ (v : ℕ). true) gs)

-- 1 + 64 × (1 + 2,048)
pub waits-few : (dir : Direction) (g : Graph) → Accepted g → (ss gs : List ℕ) → length ss ≤ 64 → length gs ≤ 64 → wait_limit dir g ss gs ≤ 131137
unfolding wait_limit
waits-few dir g acc ss gs hs hg =
    let k : ℕ = length (trees_of dir g ss gs) in
    let a : k * (1 + edge_count g) ≤ k * 2049 = mul-le-mul_left k (omega (arith, acc.edges)) in
    let b : k * 2049 ≤ 64 * 2049 = mul-le-mul_right 2049 (trees-few dir g ss gs hs hg) in
    omega arith

-- ---- moves

-- a solved step answers the moves of a closed node, fewer than there are vertices
module _ (c : Cache) (s : Search) (ok : SoundTrees c.domain c.trees) (k m : ℕ) where
  abbrev Few : Type 0
  Few = m < vertex_count c.domain.graph

  held-few : (v : valid c.domain c.trees s ≡ true) (i n : ℕ) → s.best_solution ≡ as_best i n
      → (o : Option ℕ) → (entry s i).solution ≡ o → status_at (tree c.trees (entry s i).tree) o ≡ solved k m → Few
  held-few v i n z None w e = absurd (let x : ◌≡◌ {A = ℕ} 0 1 = cc in omega arith)
  held-few v i n z (Some h) w e =
      let a = valid-at c.domain c.trees s v in
      let t : Tree = tree c.trees (entry s i).tree in
      let counted : i < s.tree_count = (a.best i n z).0 in
      let closes : closed_at t.closed (node t.nodes h).vertex ≡ suc h = (a.closes i counted h w).closes in
      let sound = ok.each _ (a.slots i counted) in
      let moves : moves_of t.nodes h ≡ m = cc in
      omega (arith, moves-fit c.domain t sound h (sound.closer _ h closes).0 closes)

  shown-few : valid c.domain c.trees s ≡ true → (b : Option BestSolution) → s.best_solution ≡ b
      → status_at (shown_tree_by c.trees s b) (shown_by s b) ≡ solved k m → Few
  shown-few v None z e = absurd (let x : ◌≡◌ {A = ℕ} 0 1 = cc in omega arith)
  shown-few v (Some b) z e = held-few v b.entry b.node z (entry s b.entry).solution refl e

  if-few : valid c.domain c.trees s ≡ true → (x : Bool) → (step_if x c s).reply ≡ answered (solved k m) → Few
  unfolding final_status
  if-few v true e = shown-few v s.best_solution refl cc
  if-few v false e = absurd (let x : ◌≡◌ {A = ℕ} 0 1 = cc in omega arith)

  pub moves-few : (step c s).reply ≡ answered (solved k m) → m < vertex_count c.domain.graph
  unfolding step
  moves-few e = go (valid c.domain c.trees s) refl e
    where
      go : (v : Bool) → valid c.domain c.trees s ≡ v → (step_by (first_fault (record { number = 8; given = not v } ∷ [])) c s).reply ≡ answered (solved k m) → Few
      go true v e = if-few v s.exhausted e
      go false v e = absurd (answered-refused (solved k m) 8 0 (sym e))
