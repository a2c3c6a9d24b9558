-- The drawing or the refusal that is put, and the path that an order finds.
-- Assumes nothing.
use mathlib.Core.Path.{◌≡◌, refl, sym, ap, ap₂, ◌∙◌}
use Rattle.model.specs.declared.SearchStatus.{SearchStatus}
use Rattle.std.specs.declared.result.Result.{Result}
use Rattle.std.specs.declared.option.Option.{Option}
use Rattle.std.specs.Prelude.{None, Some, Err, Ok, ok_or}
use mathlib.Core.Bool.{Bool, true, false}
use mathlib.Core.List.{List, [], ◌++◌}
use Prim.Native.Nat.{ℕ, zero, suc, ◌+◌, ◌*◌, ◌<◌, ◌≤◌}
use native.Mathlib.Omega.{arith}
use borrow.Author.Tests.{lt-ltb, le-ltb, ltb-true, leb-true}
use lib.Dec.{ltb, leb}
use lib.ListN.{length, take, drop, replicate, length-replicate}
use Rattle.model.specs.declared.Refusal.{Refusal}
use Rattle.model.specs.declared.Refusal.TheVariants.{Malformed}
use Rattle.model.specs.declared.Refused.{Refused}
use Rattle.model.specs.declared.Planned.{Planned}
use Rattle.model.specs.Answers.{number, Reply, answered, refused, Status, waiting, solved, no_path, step_reply}
use Rattle.model.specs.Graph.{Graph, Accepted, vertex_count, edge_count}
use Rattle.model.specs.Calls.{Cache, first_fault, opened}
use Rattle.model.specs.Plan.{AfterPlan, plan}
use Rattle.text.specs.declared.counts.Counts.{Counts}
use Rattle.text.specs.Read.{judge_text, graph_of, graph_by, read_graph}
use Rattle.text.proofs.Accepted.{judged-accepted}
use Rattle.layout.specs.Read.{direction_of, read_cache}
use Rattle.cache.specs.Open.{Opening, measure_faults}
use Rattle.cache.specs.Demand1.{Opens}
use Rattle.cache.proofs.Demand1.{demand-1}
use Rattle.sound.proofs.Opened.{opened-sound}
use Rattle.planner.specs.Plan.{plan_if, plan_words, Planning}
use Rattle.planner.proofs.Ended.{has-path}
use Rattle.order_lines.specs.declared.orders.Form.{Form}
use Rattle.order_lines.specs.declared.orders.Form.TheVariants.{Forward, Backward}
use Rattle.order_lines.specs.declared.orders.Order.{Order}
use Rattle.order_lines.specs.Orders.{order_of}
use Rattle.order_run.specs.Run.{listed}
use Rattle.order_lines.specs.Answers.{refused_line}
use Rattle.put_text.specs.Puts.{Puts}
use Rattle.drawing.specs.declared.DrawError.TheVariants.{Chart, ShortDrawing}
use Rattle.drawing.specs.Drawing.{drawing}
use Rattle.drawing.specs.Draw.{drawing_room, AfterDraw, drawn, refused_by, short, draw_if, draw_read, draw_text, Drawing}
use Rattle.drawing.proofs.Drawn.{opening-refused}
use Rattle.draw.specs.Picture.{path_by, path_in, form_number, ordered_on, ordered_by, order_path, drawn_text, with_path, picture_by, picture_text, found_by, Few, FoundIs}

-- ---- the drawing, by the promise of `draw`

drawn-refused : {k n line : ℕ} → drawn k ≡ refused_by n line → ⊥
drawn-refused e = let z : ◌≡◌ {A = ℕ} 0 1 = cc in omega arith

drawn-short : {k : ℕ} → drawn k ≡ short → ⊥
drawn-short e = let z : ◌≡◌ {A = ℕ} 0 1 = cc in omega arith

refused-short : {n line : ℕ} → refused_by n line ≡ short → ⊥
refused-short e = let z : ◌≡◌ {A = ℕ} 0 1 = cc in omega arith

module _ (text path out left : List ℕ) where
  pub drawn-put : (n : ℕ) → Drawing text path out (Ok n) left → Puts out 0 (drawn_text (read_graph text) path) n left
  unfolding draw_text
  drawn-put n p = go (read_graph text) p
    where
      by : (g : Graph) (b : Bool) → record { reply = drawn n; bytes = left } ≡ draw_if b g path out → Puts out 0 (drawing g path) n left
      by g true e = absurd (drawn-short (ap (λ (x : AfterDraw). x.reply) e))
      by g false e =
          let long : drawn n ≡ drawn (length (drawing g path)) = ap (λ (x : AfterDraw). x.reply) e in
          let same : n ≡ length (drawing g path) = cc in
          let from : length (drawing g path) ≡ 0 + length (drawing g path) = omega arith in
          record {
            end = same ∙ from;
            bytes = ap (λ (x : AfterDraw). x.bytes) e ∙ ap (λ (k : ℕ). drawing g path ++ drop k out) from;
          }

      go : (x : Reply Graph) → record { reply = drawn n; bytes = left } ≡ draw_read x path out → Puts out 0 (drawn_text x path) n left
      go (refused k l) e = absurd (drawn-refused (ap (λ (x : AfterDraw). x.reply) e))
      go (answered g) e = by g (ltb (length out) (drawing_room (vertex_count g) (edge_count g))) e

  pub refused-drawn : (f : Refused) → Drawing text path out (Err (Chart f)) left → (left ≡ out) × (drawn_text (read_graph text) path ≡ refused_line (number f.refusal))
  unfolding draw_text
  refused-drawn f p = go (read_graph text) p
    where
      by : (g : Graph) (b : Bool) → record { reply = refused_by (number f.refusal) f.line; bytes = left } ≡ draw_if b g path out → ⊥
      by g true e = refused-short (ap (λ (x : AfterDraw). x.reply) e)
      by g false e = drawn-refused (sym (ap (λ (x : AfterDraw). x.reply) e))

      go : (x : Reply Graph) → record { reply = refused_by (number f.refusal) f.line; bytes = left } ≡ draw_read x path out → (left ≡ out) × (drawn_text x path ≡ refused_line (number f.refusal))
      go (refused k l) e =
          let reply : refused_by (number f.refusal) f.line ≡ refused_by k l = ap (λ (x : AfterDraw). x.reply) e in
          let same : k ≡ number f.refusal = cc in
          (ap (λ (x : AfterDraw). x.bytes) e, ap refused_line same)
      go (answered g) e = absurd (by g (ltb (length out) (drawing_room (vertex_count g) (edge_count g))) e)

  pub never-short : Drawing text path out (Err ShortDrawing) left → length out ≡ 196864 → ⊥
  unfolding draw_text read_graph
  never-short p size = go (judge_text text) refl p
    where
      by : (g : Graph) → Accepted g → (b : Bool) → ltb (length out) (drawing_room (vertex_count g) (edge_count g)) ≡ b → record { reply = short; bytes = left } ≡ draw_if b g path out → ⊥
      by g ok true q e = omega (arith, ltb-true (length out) (drawing_room (vertex_count g) (edge_count g)) q, ok.vertices, ok.edges)
      by g ok false q e = drawn-short (sym (ap (λ (x : AfterDraw). x.reply) e))

      go : (x : Reply Counts) → judge_text text ≡ x → record { reply = short; bytes = left } ≡ draw_read (graph_by x (graph_of text)) path out → ⊥
      go (refused k l) j e = refused-short (sym (ap (λ (x : AfterDraw). x.reply) e))
      go (answered k) j e = by (graph_of text) (judged-accepted text k j) _ refl e

-- ---- the path that a search of a direction finds

few-by : (x : Reply Status) (has : Bool) (n : ℕ) → n ≡ 2047 → ((k m : ℕ) → x ≡ answered (solved k m) → has ≡ leb (1 + 2 * m) n) → Few x has
few-by (answered waiting) has n e f = λ t. omega arith
few-by (answered (solved k m)) has n e f = λ t. omega (arith, leb-true (1 + 2 * m) n (sym (f k m refl) ∙ t))
few-by (answered no_path) has n e f = λ t. omega arith
few-by (refused k line) has n e f = tt

pub found-is : (a : Result SearchStatus Refusal) (has : Bool) (q : List ℕ) → length q ≡ 2047 → Few (step_reply a) has → FoundIs (found_by a has) q (path_by (step_reply a) has q)
found-is (Ok s) true q e f = (omega (arith, f refl), refl)
found-is (Ok s) false q e f = (omega arith, refl)
found-is (Err n) has q e f = refl

pub form-within : (f : Form) (d : ℕ) → d ≡ form_number f → d ≤ 1
form-within Forward d e = omega (arith, e)
form-within Backward d e = omega (arith, e)

fine : (d : ℕ) → d ≤ 1 → first_fault (measure_faults d 16) ≡ None
fine zero h = refl
fine (suc zero) h = refl
fine (suc (suc d)) h = absurd (omega arith)

module _ (text : List ℕ) (d : ℕ) (within : d ≤ 1) (left : List ℕ) where
  -- 190,598 words are enough for every graph that is read, with 16 slots
  abbrev lent : List ℕ
  lent = replicate 190598 0

  pub find-refused : (ss gs : List ℕ) (f : Refused) → Opening lent text d 16 (Err f) left → refused (number f.refusal) f.line ≡ path_in (direction_of d) (read_graph text) ss gs
  find-refused ss gs f p =
      ap (λ (x : Reply Graph). path_in (direction_of d) x ss gs)
      (opening-refused lent text left d 16 f (fine d within) (λ g ok. omega (arith, length-replicate {A = ℕ} 190598 0, ok.vertices, ok.edges)) p)

  module _ (ss gs p : List ℕ) (zeros : p ≡ replicate 2047 0) (r : Planned) (end q : List ℕ) (planned : Planning left ss gs p r end q) where
    pub find-few : Few (step_reply r.answer) r.has_path
    find-few =
        few-by (step_reply r.answer) r.has_path (length p) (ap length zeros ∙ length-replicate {A = ℕ} 2047 0) (has-path left ss gs p r end q planned).0

    pub find-opened : Opening lent text d 16 (Ok tt) left → path_by (step_reply r.answer) r.has_path q ≡ path_in (direction_of d) (read_graph text) ss gs
    find-opened h =
        let o : Opens lent text d 16 left = (demand-1 lent text d 16 _ left h).opened refl in
        let same : plan_words left ss gs p ≡ plan (opened (direction_of d) o.graph 16) ss gs (replicate 2047 0) =
        ap (λ (b : Bool). plan_if b (read_cache left) ss gs p) (opened-sound lent text d 16 left o) ∙ ap₂ (λ (c : Cache) (x : List ℕ). plan c ss gs x) o.cache zeros in
        (λ i. path_by (planned.answer i) (planned.has-path i) (planned.path i)) ∙ ap (λ (x : AfterPlan). path_by x.reply x.has_path x.path) same
        ∙ ap (λ (x : Reply Graph). path_in (direction_of d) x ss gs) (sym o.read)

-- ---- an order, by its form

module _ (chart order : List ℕ) where
  module _ (o : Order) (read : Some o ≡ order_of order) where
    on-form : (f : Form) → path_in (direction_of (form_number f)) (read_graph chart) (listed o.starts) (listed o.goals) ≡ ordered_on f o (read_graph chart)
    on-form Forward = refl
    on-form Backward = refl

    -- ss and gs: its lists, as they are lent
    pub ordered : {d : ℕ} {ss gs : List ℕ} → d ≡ form_number o.form → ss ≡ listed o.starts → gs ≡ listed o.goals → path_in (direction_of d) (read_graph chart) ss gs ≡ order_path chart order
    unfolding order_path
    ordered e starts goals = rw (e, starts, goals) (on-form o.form ∙ ap (λ (x : Option Order). ordered_by x (read_graph chart)) read)

  -- a line of no legal form is malformed
  pub ordered-none : (o : Option Order) (f : Refusal) → o ≡ order_of order → ◌≡◌ {A = Result Order Refusal} (Err f) (ok_or o Malformed) → refused (number f) 0 ≡ order_path chart order
  unfolding order_path
  ordered-none None f read e =
      let malformed : f ≡ Malformed = cc in
      ap (λ (x : Refusal). refused (number x) 0) malformed ∙ ap (λ (x : Option Order). ordered_by x (read_graph chart)) read
  ordered-none (Some o) f read e = cc

-- ---- the whole: for an overlong file, without an order, with one

module _ (chart : List ℕ) where
  pub picture-overlong : (o : Option (List ℕ)) → 65536 < length chart → picture_text chart o ≡ refused_line 4
  unfolding picture_text
  picture-overlong o h = ap (λ (b : Bool). picture_by b chart o) (lt-ltb 65536 (length chart) h)

  module _ (h : length chart ≤ 65536) where
    pub picture-plain : picture_text chart None ≡ drawn_text (read_graph chart) []
    unfolding picture_text
    picture-plain = ap (λ (b : Bool). picture_by b chart None) (le-ltb 65536 (length chart) h)

    module _ (order : List ℕ) where
      picture-ordered : picture_text chart (Some order) ≡ with_path (order_path chart order) chart
      unfolding picture_text
      picture-ordered = ap (λ (b : Bool). picture_by b chart (Some order)) (le-ltb 65536 (length chart) h)

      -- the order is refused, by f
      pub picture-refused : (f : Refused) {n : ℕ} → refused (number f.refusal) f.line ≡ order_path chart order → n ≡ number f.refusal → picture_text chart (Some order) ≡ refused_line n
      picture-refused f r same = picture-ordered ∙ sym (ap (λ (x : Reply (List ℕ)). with_path x chart) r) ∙ ap refused_line (sym same)

      -- its path was found: the first n words of q
      pub picture-found : (n : ℕ) (q : List ℕ) → answered (take n q) ≡ order_path chart order → picture_text chart (Some order) ≡ drawn_text (read_graph chart) (take n q)
      picture-found n q r = picture-ordered ∙ sym (ap (λ (x : Reply (List ℕ)). with_path x chart) r)
