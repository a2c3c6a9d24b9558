-- The path that is shown: its words are in the slice, as many as are told.
-- Assumes nothing.
use mathlib.Core.Path.{◌≡◌, refl, sym, ap, ◌∙◌, subst}
use Rattle.std.specs.declared.result.Result.{Result}
use Rattle.std.specs.Prelude.{Err, Ok}
use mathlib.Core.Bool.{Bool, true, false}
use mathlib.Core.List.{List}
use Prim.Native.Nat.{ℕ, ◌+◌, ◌*◌, ◌≤◌}
use native.Mathlib.Omega.{arith}
use borrow.Author.Tests.{ltb-false}
use lib.Dec.{ltb}
use lib.ListN.{length, take, drop}
use lib.Seq.{take-append_seam}
use Rattle.model.specs.declared.Refusal.{Refusal}
use Rattle.model.specs.Answers.{answered, refused, number, retrace_reply}
use Rattle.model.specs.Graph.{Direction}
use Rattle.model.specs.Tree.{Node}
use Rattle.model.specs.Sound.{tree}
use Rattle.model.specs.Path.{moves_of, words}
use Rattle.model.specs.Calls.{AfterRetrace, written}
use Rattle.model.proofs.Replies.{answered-refused, answered-is}
use Rattle.model.proofs.Words.{words_count}
use Rattle.layout.specs.Layout.{direction_in}
use Rattle.layout.specs.Read.{direction_of, read_cache}
use Rattle.unchecked.specs.Retrace.{retrace_node_if, RetracesNode}
use Rattle.order_lines.specs.declared.answers.Line.{Line}
use Rattle.order_lines.specs.Answers.{answer_line}
use Rattle.order_run.specs.Orders.{refused_order}
use Rattle.order_run.specs.Run.{PathRoom, path_line}

-- the words of a path that was written first
pub path-taken : (dir : Direction) (ns : List Node) (n : ℕ) (p : List ℕ) → take (1 + 2 * moves_of ns n) (written (words dir ns n) p) ≡ words dir ns n
path-taken dir ns n p =
    let ws : List ℕ = words dir ns n in
    subst (λ (k : ℕ). take k (written ws p) ≡ ws) (words_count dir ns n) (take-append_seam ws (drop (length ws) p))

module _ (ws : List ℕ) (slot n : ℕ) (p : List ℕ) (r : Result ℕ Refusal) (q : List ℕ) (h : RetracesNode ws slot n p r q) where
  abbrev ns : List Node
  ns = (tree (read_cache ws).trees slot).nodes

  -- by whether the slice is too short
  abbrev short : Bool
  short = ltb (length p) (1 + 2 * moves_of ns n)

  reply : (x : Result ℕ Refusal) → r ≡ x → retrace_reply x ≡ (retrace_node_if short ws slot n p).reply
  reply x e = ap retrace_reply (sym e) ∙ ap (λ (a : AfterRetrace). a.reply) h

  pub path-fits : (m : ℕ) → r ≡ Ok m → 1 + 2 * m ≤ length p
  path-fits m e = go short refl (reply (Ok m) e)
    where
      go : (b : Bool) → short ≡ b → answered m ≡ (retrace_node_if b ws slot n p).reply → 1 + 2 * m ≤ length p
      go true z k = absurd (answered-refused m 10 0 k)
      go false z k = omega (arith, answered-is m (moves_of ns n) k, ltb-false (length p) (1 + 2 * moves_of ns n) z)

  module _ (room : PathRoom p) (l : Line) where
    line-is : {b : Bool} → short ≡ b → path_line b ws l slot n ≡ path_line (ltb 2047 (1 + 2 * moves_of ns n)) ws l slot n
    line-is z = ap (λ (b : Bool). path_line b ws l slot n) (sym z ∙ ap (λ (k : ℕ). ltb k (1 + 2 * moves_of ns n)) room.words)

    -- the path is lent as the slice's first words
    pub path-text : (m : ℕ) → r ≡ Ok m → answer_line l (take (1 + 2 * m) q) ≡ path_line (ltb 2047 (1 + 2 * moves_of ns n)) ws l slot n
    path-text m e = go short refl (reply (Ok m) e) (ap (λ (a : AfterRetrace). a.path) h)
      where
        go : (b : Bool) → short ≡ b → answered m ≡ (retrace_node_if b ws slot n p).reply → q ≡ (retrace_node_if b ws slot n p).path
            → answer_line l (take (1 + 2 * m) q) ≡ path_line (ltb 2047 (1 + 2 * moves_of ns n)) ws l slot n
        go true z k y = absurd (answered-refused m 10 0 k)
        go false z k y =
            let count : 1 + 2 * m ≡ 1 + 2 * moves_of ns n = omega (arith, answered-is m (moves_of ns n) k) in
            ap (λ (j : ℕ). answer_line l (take j q)) count
            ∙ ap (λ (x : List ℕ). answer_line l (take (1 + 2 * moves_of ns n) x)) y
            ∙ ap (answer_line l) (path-taken (direction_of (direction_in ws)) ns n p)
            ∙ line-is z

    pub short-text : {f : Refusal} {k : ℕ} → r ≡ Err f → k ≡ number f
        → refused_order l.order k ≡ path_line (ltb 2047 (1 + 2 * moves_of ns n)) ws l slot n
    short-text {f} {k} e same = go short refl (reply (Err f) e)
      where
        go : (b : Bool) → short ≡ b → refused (number f) 0 ≡ (retrace_node_if b ws slot n p).reply
            → refused_order l.order k ≡ path_line (ltb 2047 (1 + 2 * moves_of ns n)) ws l slot n
        go true z y = let ten : number f ≡ 10 = cc in ap (refused_order l.order) (same ∙ ten) ∙ line-is z
        go false z y = absurd (answered-refused (moves_of ns n) (number f) 0 (sym y))
