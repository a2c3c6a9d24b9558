-- The path to a node of the tree in a slot, written from the part of the slot's words.
-- Assumes nothing.
use mathlib.Core.Path.{◌≡◌, refl, sym, ap, ap₂, ◌∙◌}
use Rattle.memory.specs.Standing.{HeldIs}
use Rattle.memory.specs.declared.held_node.HeldNode.{HeldNode}
use Rattle.std.specs.declared.option.Option.{Option}
use Rattle.std.specs.declared.result.Result.{Result}
use Rattle.model.specs.declared.Refusal.{Refusal}
use Rattle.std.specs.Prelude.{Err, Ok, None, Some}
use mathlib.Core.Bool.{Bool, true, false}
use mathlib.Core.List.{List, [], ◌∷◌}
use Prim.Native.Nat.{ℕ, zero, suc, ◌+◌, ◌*◌, ◌<◌, ◌≤◌}
use native.Mathlib.Omega.{arith}
use lib.Dec.{eqb}
use lib.ListN.{length, length-append}
use borrow.Author.Tests.{lt-ltb, le-ltb}
use Rattle.model.specs.declared.Refusal.TheVariants.{ShortPath}
use Rattle.model.specs.Tree.{Node, node}
use Rattle.model.specs.Sound.{tree}
use Rattle.model.specs.Answers.{answered}
use Rattle.model.specs.Path.{snoc_if, path_in, path, moves_of, words}
use Rattle.model.specs.Calls.{AfterRetrace, written, after_retrace}
use Rattle.layout.specs.Read.{direction_of, read_cache}
use Rattle.memory.specs.Memory.{HasNode}
use Rattle.sound.proofs.InUse.{words-formed, words-used}
use Rattle.paths.specs.Path.{CanBacktrack, Backtracks}
use Rattle.unchecked.proofs.Nodes.{nodes-are, is-hung}
use Rattle.memory.specs.declared.Shown.{Shown}
use Rattle.unchecked.specs.Retrace.{retrace_node_if, retrace_node, RetracesNode, retrace_shown, RetracesHeld}
use Rattle.layout.specs.Layout.{direction_in, edges_in, vertices_in}
use Rattle.layout.specs.Slots.{slot_words}

-- a path has no more moves than its bound
path-few : (ns : List Node) (b n : ℕ) → length (path_in ns b n) ≤ b
unfolding path_in
path-few ns zero n = omega arith
path-few ns (suc b) n = go (path-few ns b (node ns n).parent) (eqb n 0)
  where
    go : length (path_in ns b (node ns n).parent) ≤ b → (x : Bool) → length (snoc_if x (path_in ns b (node ns n).parent) (node ns n).edge) ≤ suc b
    go h true = omega arith
    go h false = omega (arith, h, length-append (path_in ns b (node ns n).parent) ((node ns n).edge ∷ []))

moves-few : (ns : List Node) (n : ℕ) → moves_of ns n ≤ n
unfolding path
moves-few ns n = path-few ns n n

module _ {ws : List ℕ} {i n : ℕ} (u : HasNode ws i n) where
  abbrev ns : List Node
  ns = (tree (read_cache ws).trees i).nodes

  pub few-moves : {k : ℕ} → k ≡ moves_of ns n → k ≤ 2048
  few-moves e =
      let f = words-formed u.used refl refl in
      omega (arith, e, moves-few ns n, u.node, words-used u.used refl refl, f.used, f.edges)

  -- t: the slot's words; w: the node's number
  module _ {t : List ℕ} (e : t ≡ slot_words (vertices_in ws) (edges_in ws) i ws) {w : ℕ} (is : w ≡ n) {k : ℕ} (count : k ≡ moves_of ns n) (p : List ℕ) (room : 1 + 2 * k ≤ length p) where
    pub can-backtrack : CanBacktrack ws t w (length p)
    can-backtrack = record {
      header = u.used.sound.header;
      hung = is-hung u e is;
      room = omega (arith, room, count, ap₂ (λ (x : List Node) (y : ℕ). moves_of x y) (nodes-are u e is) is);
    }

    pub path-written : (r : ℕ) (q : List ℕ) → Backtracks ws t (direction_in ws) w p r q → RetracesNode ws i n p (Ok k) q
    path-written r q h =
        let fits : 1 + 2 * moves_of ns n ≤ length p = omega (arith, room, count) in
        ap₂ (λ (m : ℕ) (x : List ℕ). given m x) count
        (h.path ∙ ap₂ (λ (x : List Node) (y : ℕ). written (words (direction_of (direction_in ws)) x y) p) (nodes-are u e is) is)
        ∙ sym (ap (λ (b : Bool). retrace_node_if b ws i n p) (le-ltb _ _ fits))
      where
        given : ℕ → List ℕ → AfterRetrace
        given m x = record { reply = answered m; path = x }

  pub path-short : {k : ℕ} → k ≡ moves_of ns n → (p : List ℕ) → length p < 1 + 2 * k → {r : Result ℕ Refusal} → r ≡ Err ShortPath
      → RetracesNode ws i n p r p
  path-short count p short e =
      let small : length p < 1 + 2 * moves_of ns n = omega (arith, short, count) in
      ap (λ (x : Result ℕ Refusal). after_retrace x p) e ∙ sym (ap (λ (b : Bool). retrace_node_if b ws i n p) (lt-ltb _ _ small))

-- ---- the node shown

pub held-retraced : (ws : List ℕ) (x : Option Shown) (o : Option HeldNode) → HeldIs ws x o → (p : List ℕ) (r : Result ℕ Refusal) (q : List ℕ) → RetracesHeld o p r q
    → after_retrace r q ≡ retrace_shown ws x p
held-retraced ws None None z p r q e = e
held-retraced ws None (Some h) z p r q e = absurd z
held-retraced ws (Some x) None z p r q e = absurd z
held-retraced ws (Some x) (Some h) z p r q e = e ∙ (λ i. retrace_node (z.0 i) (z.1.0 i) (z.1.1 i) p)
