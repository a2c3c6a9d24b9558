-- Whether a node is the closed node of a goal, test by test.
-- Assumes nothing.
use mathlib.Core.Path.{◌≡◌, sym, ap, ap₂, ◌∙◌}
use Rattle.std.specs.declared.option.Option.{Option}
use Rattle.std.specs.Prelude.{Some}
use Rattle.std.specs.Option.{option_eq}
use mathlib.Core.Logic.{◌≢◌}
use mathlib.Core.Bool.{Bool, true, false, ◌&&◌, and-false}
use mathlib.Core.List.{List}
use Prim.Native.Nat.{ℕ, zero, suc, ◌+◌, ◌-◌, ◌<◌, ◌≤◌}
use native.Mathlib.Omega.{arith}
use native.Mathlib.Decide.{dec_lt}
use borrow.Author.Tests.{ne_eqb}
use lib.Dec.{eqb, eqb-zero-suc, eqb-suc-suc}
use lib.ListN.{length, get_or-eq_default}
use Rattle.model.specs.Lists.{mem}
use Rattle.model.specs.Tree.{Node, node, closed_at}
use Rattle.model.specs.Valid.{closes_goal}
use Rattle.layout.specs.Layout.{closed_words_at, closed_word_in, used_in, vertex_in}
use Rattle.layout.proofs.Trees.{tree-node, tree-closed-length}
use Rattle.tree.specs.Tree.{tree_of, Formed, HasVertex, status_of}
use Rattle.tree.proofs.Closed.{tree-word, closer-used}
use Rattle.memory.specs.Memory.{HasVertices}

module _ {l : ℕ} {ws t : List ℕ} (n : ℕ) (ok : HasVertices l ws t) where
  abbrev closed : List ℕ
  closed = (tree_of ws l t).closed

  abbrev it : Node
  it = node (tree_of ws l t).nodes n

  closer-same : (w : ℕ) → option_eq eqb (status_of w) (Some n) ≡ eqb w (suc n)
  closer-same zero = sym (eqb-zero-suc n)
  closer-same (suc k) = sym (eqb-suc-suc k n)

  -- a closed word names a node in use
  unused : used_in t ≤ n → closed_at closed it.vertex ≢ suc n
  unused h e = elim (dec_lt (closed_words_at l + it.vertex) (length t)) [
    | yes b ↦ omega (arith, closer-used it.vertex ok.formed b (sym (tree-word ws l t it.vertex b) ∙ e))
    | no b ↦
        let all : length closed ≡ length t - closed_words_at l = tree-closed-length ws (length t - closed_words_at l) l t (omega (arith, ok.formed.fits)) in
        omega (arith, e, get_or-eq_default closed 0 {n = it.vertex} (omega (arith, all)))
  ]

  pub goal-unused : (gs : List ℕ) → used_in t ≤ n → false ≡ closes_goal gs (tree_of ws l t) n
  unfolding closes_goal
  goal-unused gs h =
      sym (ap (λ (b : Bool). mem it.vertex gs && b) (ne_eqb (closed_at closed it.vertex) (suc n) (unused h)) ∙ and-false (mem it.vertex gs))

  -- u: the tree's words in the node's hands; v: the vertex read of them
  module _ (h : n < used_in t) {u : List ℕ} (own : u ≡ t) {i v : ℕ} (at : i ≡ n) (read : v ≡ vertex_in ws u i) where
    word-is : v ≡ vertex_in ws t n
    word-is = read ∙ ap₂ (λ (x : List ℕ) (k : ℕ). vertex_in ws x k) own at

    goal-vertex : Formed l t × HasVertex l t v
    goal-vertex = (ok.formed, omega (arith, ok.vertices n h, word-is))

    module _ (gs : List ℕ) where
      closes-is : closes_goal gs (tree_of ws l t) n ≡ (mem v gs && eqb (closed_at closed v) (suc n))
      unfolding closes_goal
      closes-is =
          let vertex : v ≡ it.vertex = word-is ∙ sym (ap (λ (x : Node). x.vertex) (tree-node ws (length t - closed_words_at l) l t n h)) in
          ap (λ (x : ℕ). mem x gs && eqb (closed_at closed x) (suc n)) (sym vertex)

      module _ {g : Bool} (sought : g ≡ mem v gs) where
        pub goal-other : g ≡ false → g ≡ closes_goal gs (tree_of ws l t) n
        goal-other f = f ∙ sym (closes-is ∙ ap (λ (b : Bool). b && eqb (closed_at closed v) (suc n)) (sym sought ∙ f))

        -- s: the node that closed the vertex, if one did
        pub goal-same : g ≡ true → {s : Option ℕ} → s ≡ status_of (closed_word_in l t v) → {r : Bool} → r ≡ option_eq eqb s (Some n)
            → r ≡ closes_goal gs (tree_of ws l t) n
        goal-same found status same =
            same
            ∙ ap (λ (o : Option ℕ). option_eq eqb o (Some n)) status
            ∙ closer-same (closed_word_in l t v)
            ∙ sym
            (closes-is
            ∙ ap (λ (b : Bool). b && eqb (closed_at closed v) (suc n)) (sym sought ∙ found)
            ∙ ap (λ (x : ℕ). eqb x (suc n)) (tree-word ws l t v goal-vertex.1))
