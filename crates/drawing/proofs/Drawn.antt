-- From what is put, and from what opening answers, to the promise of `draw`.
-- Assumes nothing.
use mathlib.Core.Path.{◌≡◌, refl, sym, ap, ap₂, ◌∙◌}
use Rattle.std.specs.declared.result.Result.{Result}
use Rattle.model.specs.declared.Refused.{Refused}
use Rattle.std.specs.declared.option.Option.{Option}
use Rattle.std.specs.Prelude.{None, Err, Ok}
use mathlib.Core.Bool.{Bool, true, false, beq, true≢false}
use mathlib.Core.List.{List, ◌++◌}
use Prim.Native.Nat.{ℕ, ◌+◌, ◌<◌, ◌≤◌}
use native.Mathlib.Omega.{arith}
use borrow.Author.Tests.{lt-ltb, le-ltb}
use lib.Dec.{ltb}
use lib.ListN.{length, get_or, drop, replicate, length-replicate}
use Rattle.model.specs.Lists.{numbers, joined}
use Rattle.model.specs.Graph.{Graph, Accepted, vertex_count, edge_count}
use Rattle.model.specs.Answers.{number, Reply, answered, refused}
use Rattle.model.specs.Calls.{Cache, first_fault, written, opened}
use Rattle.model.proofs.Lists.{those-same}
use Rattle.model.proofs.Replies.{answered-refused}
use Rattle.text.specs.declared.counts.Counts.{Counts}
use Rattle.text.specs.Read.{judge_text, graph_of, graph_by, read_graph}
use Rattle.text.proofs.Accepted.{judged-accepted}
use Rattle.layout.specs.Layout.{needed, vertices_in, edges_in}
use Rattle.layout.specs.Read.{read_cache}
use Rattle.layout.proofs.Edges.{edge-count-in, vertex-count-in}
use Rattle.cache.specs.Open.{AfterOpen, Opening, measure_faults, open_if, open_read, open_by, open_cache}
use Rattle.cache.specs.Demand1.{Opens}
use Rattle.cache.proofs.Demand1.{demand-1}
use Rattle.sound.proofs.Facts.{sound-words-at}
use Rattle.sound.proofs.Opened.{opened-sound}
use Rattle.put_text.specs.Puts.{Puts}
use Rattle.reach.specs.Reach.{reach_marks, ReachedIs}
use Rattle.drawing.specs.declared.DrawError.{DrawError}
use Rattle.drawing.specs.declared.DrawError.TheVariants.{Chart, ShortDrawing}
use Rattle.drawing.specs.Drawing.{opening, closing, marked, apart_text, drawn_vertex, drawn_edge, drawing_by, drawing}
use Rattle.drawing.specs.Draw.{drawing_room, draw_if, draw_read, draw_text, draw_reply, Drawing}
use Rattle.drawing.specs.Puts.{HoldsGraph, held_graph, DrawingHeld}

-- ---- marks that are the same make the same drawing

marked-same : (k : Bool) (m r : List Bool) (n : ℕ) → ((v : ℕ) → get_or m v false ≡ get_or r v false) → marked k m n ≡ marked k r n
marked-same k m r n e = those-same (λ v. beq (get_or m v false) k) (λ v. beq (get_or r v false) k) (numbers n) (λ v x. ap (λ (b : Bool). beq b k) (e v))

drawing-marks : (m r : List Bool) (g : Graph) (path : List ℕ) → ((v : ℕ) → get_or m v false ≡ get_or r v false) → drawing_by m g path ≡ drawing_by r g path
unfolding drawing_by
drawing-marks m r g path e =
    ap₂
    (λ (x y : List ℕ). opening
    ++ (joined (drawn_vertex g path) x ++ (apart_text (drawn_vertex g path) y ++ (joined (drawn_edge g path) (numbers (edge_count g)) ++ closing))))
    (marked-same true m r (vertex_count g) e) (marked-same false m r (vertex_count g) e)

-- ---- the graph that words hold

module _ (ws path out : List ℕ) (held : HoldsGraph ws) where
  room-is : drawing_room (vertex_count (held_graph ws)) (edge_count (held_graph ws)) ≡ drawing_room (vertices_in ws) (edges_in ws)
  room-is = ap₂ drawing_room (vertex-count-in (vertices_in ws) (edges_in ws) ws (omega (arith, held.fits))) (edge-count-in (vertices_in ws) (edges_in ws) ws)

  pub held-short : length out < drawing_room (vertices_in ws) (edges_in ws) → DrawingHeld ws path out (Err ShortDrawing) out
  held-short h = sym (ap (λ (b : Bool). draw_if b (held_graph ws) path out) (ap (ltb (length out)) room-is ∙ lt-ltb _ _ h))

  pub held-drawn : (marks : List Bool) {r : ℕ} {left : List ℕ} → drawing_room (vertices_in ws) (edges_in ws) ≤ length out
      → ReachedIs (read_cache ws).domain.graph marks → Puts out 0 (drawing_by marks (held_graph ws) path) r left → DrawingHeld ws path out (Ok r) left
  unfolding read_cache drawing
  held-drawn marks {r} {left} h is p = (λ i. record { reply = draw_reply (Ok (length-is i)); bytes = bytes-is i })
      ∙ sym (ap (λ (b : Bool). draw_if b (held_graph ws) path out) (ap (ltb (length out)) room-is ∙ le-ltb _ _ h))
    where
      text : List ℕ
      text = drawing (held_graph ws) path

      same : drawing_by marks (held_graph ws) path ≡ text
      same = drawing-marks marks (reach_marks (held_graph ws)) (held_graph ws) path is.mark

      zero-length : (l : List ℕ) → 0 + length l ≡ length l
      zero-length l = omega arith

      length-is : r ≡ length text
      length-is = p.end ∙ zero-length (drawing_by marks (held_graph ws) path) ∙ ap length same

      bytes-is : left ≡ written text out
      bytes-is = p.bytes ∙ ap (λ (n : ℕ). drawing_by marks (held_graph ws) path ++ drop n out) (zero-length (drawing_by marks (held_graph ws) path)) ∙ ap (λ (t : List ℕ). written t out) same

-- ---- what opening answers, where the words are enough for every graph that is read

pub opening-refused : (ws text left : List ℕ) (d t : ℕ) (f : Refused) → first_fault (measure_faults d t) ≡ None
    → ((g : Graph) → Accepted g → needed (vertex_count g) (edge_count g) t ≤ length ws) → Opening ws text d t (Err f) left
    → refused (number f.refusal) f.line ≡ read_graph text
unfolding open_cache read_graph
opening-refused ws text left d t f fine enough p =
    go (judge_text text) refl (ap (λ (x : AfterOpen). x.reply) (p ∙ ap (λ (o : Option ℕ). open_by o ws text d t) fine))
  where
    by : (g : Graph) → Accepted g → (b : Bool) → b ≡ ltb (length ws) (needed (vertex_count g) (edge_count g) t)
        → refused (number f.refusal) f.line ≡ (open_if b g ws d t).reply → ⊥
    by g ok true q r = true≢false (q ∙ le-ltb (length ws) (needed (vertex_count g) (edge_count g) t) (enough g ok))
    by g ok false q r = answered-refused tt (number f.refusal) f.line (sym r)

    go : (x : Reply Counts) → judge_text text ≡ x → refused (number f.refusal) f.line ≡ (open_read (graph_by x (graph_of text)) ws d t).reply
        → refused (number f.refusal) f.line ≡ graph_by x (graph_of text)
    go (refused n l) j r =
        let first : number f.refusal ≡ n = cc in
        let second : f.line ≡ l = cc in
        λ i. refused (first i) (second i)
    go (answered k) j r = absurd (by (graph_of text) (judged-accepted text k j) _ refl r)

-- 21,518 words are, with one slot
abbrev lent : List ℕ
lent = replicate 21518 0

pub draw-holds : (text left : List ℕ) → Opening lent text 0 1 (Ok tt) left → HoldsGraph left
draw-holds text left p = (sound-words-at left (opened-sound lent text 0 1 left ((demand-1 lent text 0 1 _ left p).opened refl))).held

module _ (text path out left : List ℕ) where
  pub draw-opened : (a : Result ℕ DrawError) {out' : List ℕ} → Opening lent text 0 1 (Ok tt) left → DrawingHeld left path out a out' → Drawing text path out a out'
  unfolding draw_text read_cache opened
  draw-opened a p h =
      let o : Opens lent text 0 1 left = (demand-1 lent text 0 1 _ left p).opened refl in
      let graph : held_graph left ≡ o.graph = ap (λ (c : Cache). c.domain.graph) o.cache in
      h ∙ ap (λ (x : Reply Graph). draw_read x path out) (ap (λ (g : Graph). answered g) graph ∙ sym o.read)

  pub draw-refused : (f : Refused) → Opening lent text 0 1 (Err f) left → Drawing text path out (Err (Chart f)) out
  unfolding draw_text
  draw-refused f p =
      ap (λ (x : Reply Graph). draw_read x path out)
      (opening-refused lent text left 0 1 f refl (λ g ok. omega (arith, length-replicate {A = ℕ} 21518 0, ok.vertices, ok.edges)) p)
