-- The whole drawing: as its parts are put it is the definition's, and the bytes asked for have room for it.
-- Assumes nothing.
use mathlib.Core.Path.{◌≡◌, refl, sym, ap, ap₂, ◌∙◌}
use mathlib.Core.Bool.{Bool, true, false, cond, beq}
use mathlib.Core.List.{List, [], ◌∷◌, ◌++◌}
use Prim.Native.Nat.{ℕ, ◌+◌, ◌<◌, ◌≤◌}
use native.Mathlib.Omega.{arith}
use lib.ListN.{length, get_or}
use Rattle.model.specs.Lists.{numbers, joined}
use Rattle.model.specs.Graph.{absent}
use Rattle.layout.specs.Layout.{vertices_in, edges_in, edges_at}
use Rattle.layout.proofs.Edges.{edge-count-in, vertex-count-in, initial-word, from-word, to_word, cost-word}
use Rattle.layout.specs.Read.{cost_if}
use Rattle.drawing.specs.Drawing.{vertex_line, edge_line, opening, closing, marked, apart_text, drawn_vertex, drawn_edge, drawing_by}
use Rattle.drawing.specs.Draw.{drawing_room}
use Rattle.drawing.specs.Puts.{Table, is_some, vertex_of, vertex_if, edge_of, vertices_text, cluster_text, edges_text, HoldsGraph, held_graph}
use Rattle.drawing.proofs.LineTexts.{vertex-most, edge-most}
use Rattle.drawing.proofs.Joined.{joined-those, joined_same, lines-most, apart_none, cluster-length}

apart-same : (f h : ℕ → List ℕ) (vs : List ℕ) → joined f vs ≡ joined h vs → apart_text f vs ≡ apart_text h vs
apart-same f h [] e = refl
apart-same f h (v ∷ vs) e = rw e

module _ (ws : List ℕ) (marks : List Bool) (held : HoldsGraph ws) where
  abbrev vs : ℕ
  vs = vertices_in ws

  abbrev es : ℕ
  es = edges_in ws

  fits : edges_at vs ≤ length ws
  fits = omega (arith, held.fits)

  module _ (path : List ℕ) (vertices edges : List Bool) (first : Table true path vertices) (second : Table false path edges) where
    vertex-is : (v : ℕ) → v < vs → vertex_of ws vertices v ≡ drawn_vertex (held_graph ws) path v
    vertex-is v h = ap₂ (λ (c : ℕ). vertex_line v (cost_if c)) (sym (initial-word vs es ws v absent h fits)) (first.mark v (omega (arith, held.sized.vertices)))

    edge-is : (e : ℕ) → e < es → edge_of ws edges e ≡ drawn_edge (held_graph ws) path e
    edge-is e h =
        rw (from-word vs es ws e h, to_word vs es ws e h, cost-word vs es ws e h) (ap (edge_line _ _ _) (second.mark e (omega (arith, held.sized.edges))))

    -- the lines of the vertices with the mark k
    marked-is : (k : Bool) → vertices_text ws marks k vertices ≡ joined (drawn_vertex (held_graph ws) path) (marked k marks vs)
    marked-is k =
        joined_same (vertex_if ws marks k vertices) (λ v. cond (beq (get_or marks v false) k) (drawn_vertex (held_graph ws) path v) []) vs
        (λ v h. ap (λ (l : List ℕ). cond (beq (get_or marks v false) k) l []) (vertex-is v h))
        ∙ joined-those (drawn_vertex (held_graph ws) path) (λ v. beq (get_or marks v false) k) (numbers vs)

    apart-is : cluster_text ws marks vertices ≡ apart_text (drawn_vertex (held_graph ws) path) (marked false marks vs)
    apart-is =
        apart-same (vertex_of ws vertices) (drawn_vertex (held_graph ws) path) (marked false marks vs)
        (sym (joined-those (vertex_of ws vertices) (λ v. beq (get_or marks v false) false) (numbers vs)) ∙ marked-is false)

    pub drawing-is : opening ++ (vertices_text ws marks true vertices ++ (cluster_text ws marks vertices ++ (edges_text ws edges ++ closing))) ≡ drawing_by marks (held_graph ws) path
    unfolding drawing_by
    drawing-is =
        ap₂ (λ (v r : List ℕ). opening ++ (v ++ r)) (marked-is true)
        (ap₂ (λ (a r : List ℕ). a ++ (r ++ closing)) apart-is (joined_same (edge_of ws edges) (drawn_edge (held_graph ws) path) es edge-is))
        ∙ ap₂
        (λ (m l : ℕ). opening
        ++ (joined (drawn_vertex (held_graph ws) path) (marked true marks m)
        ++ (apart_text (drawn_vertex (held_graph ws) path) (marked false marks m) ++ (joined (drawn_edge (held_graph ws) path) (numbers l) ++ closing))))
        (sym (vertex-count-in vs es ws fits)) (sym (edge-count-in vs es ws))

  -- ---- room

  cluster-most : (vertices : List Bool) → length (cluster_text ws marks vertices) ≤ 80 + length (vertices_text ws marks false vertices)
  cluster-most vertices = go (is_some (marked false marks vs)) refl
    where
      go : (t : Bool) → is_some (marked false marks vs) ≡ t → length (cluster_text ws marks vertices) ≤ 80 + length (vertices_text ws marks false vertices)
      go true e = omega (arith, cluster-length ws marks vertices e)
      go false e = rw (apart_none (vertex_of ws vertices) (marked false marks vs) e) (omega arith)

  pub drawing-room : (vertices edges : List Bool) (n : ℕ) → drawing_room vs es ≤ n
      → 121 + (length (vertices_text ws marks true vertices) + (length (cluster_text ws marks vertices) + length (edges_text ws edges))) ≤ n
  drawing-room vertices edges n room =
      omega (
        arith,
        cluster-most vertices,
        lines-most (vertex_if ws marks true vertices) (vertex_if ws marks false vertices) vs (λ v h. vertex-most ws marks vertices v (omega (arith, held.sized.vertices))),
        lines-most (edge_of ws edges) (λ _. []) es (λ e h. edge-most ws edges e),
      )
