-- The bytes of a sheet, part by part: what is left of it before and after a part.
-- Assumes nothing.
use mathlib.Core.Path.{◌≡◌, refl, sym, ap, ap₂, ◌∙◌, subst}
use Rattle.model.specs.declared.Refused.{Refused}
use Rattle.std.specs.declared.option.Option.{Option}
use Rattle.std.specs.Prelude.{None, Some, Err, Ok}
use mathlib.Core.Bool.{Bool, true, false}
use mathlib.Core.List.{List, [], ◌∷◌, ◌++◌, append-nil, append_assoc}
use Prim.Native.Nat.{ℕ, suc, ◌+◌, ◌-◌, ◌<◌, ◌≤◌}
use native.Mathlib.Numerals.{add-one}
use native.Mathlib.Omega.{arith}
use borrow.Author.Tests.{le-ltb}
use lib.Dec.{ltb}
use lib.ListN.{length, take, drop, length-drop, length-append}
use lib.Seq.{drop-drop, length-take-le, take-append-le, take-append_seam, take-append-add}
use Rattle.model.specs.Answers.{Reply, answered, refused, number}
use Rattle.model.specs.Graph.{Graph, backward, vertex_count, edge_count}
use Rattle.model.specs.Calls.{first_fault, opened}
use Rattle.model.proofs.Replies.{answered-refused, answered-is}
use Rattle.text.specs.Bytes.{place}
use Rattle.text.specs.Read.{read_graph}
use Rattle.text.proofs.Parted.{parted-cut, parted-whole, parted-some}
use Rattle.text.proofs.Parts.{rest, part-back}
use Rattle.text.proofs.LineCuts.{place-within}
use Rattle.layout.specs.Layout.{needed}
use Rattle.layout.specs.Read.{read_cache}
use Rattle.cache.specs.Open.{AfterOpen, measure_faults, open_if, open_read, open_by, open_cache, Opening}
use Rattle.cache.specs.Demand1.{Opens}
use Rattle.cache.proofs.Demand1.{demand-1}
use Rattle.order_lines.specs.declared.orders.Form.{Form}
use Rattle.order_lines.specs.declared.orders.Form.TheVariants.{Forward, Backward}
use Rattle.order_lines.specs.declared.orders.Order.{Order}
use Rattle.order_lines.specs.Orders.{order_of}
use Rattle.order_lines.specs.Answers.{refused_line}
use Rattle.put_text.specs.Puts.{Puts}
use Rattle.order_sheet.specs.declared.Part.{Part}
use Rattle.order_run.specs.Orders.{refused_order}
use Rattle.order_run.specs.Lent.{lent_words, lent_slots}
use Rattle.order_sheet.specs.Whole.{title, Caches, PrintedOrder, printed_on, printed_order_by, printed_order, lines_from, lines_in, lines_text, orders_text, chart_text, fresh_both, is_overlong, files_text, sheet_text}
use Rattle.order_run.specs.Run.{RanOn, RanBy, RanLine}
use Rattle.order_sheet.specs.Sheet.{caches_in, CanGoOn, RefusedPart, Begins, PutsNext, WrittenSoFar, Parts, no_more, one_more, WritesSheet}
use Rattle.order_run.proofs.Within.{put-within}
use Rattle.order_run.proofs.Called.{called-both, called-after}

-- ---- the lines of a text, line by line

pub lines_none : (i : ℕ) (c : Caches) → lines_text i c [] ≡ []
unfolding lines_text
lines_none i c = refl

lines-past : (i : ℕ) (c : Caches) (l : List ℕ) → lines_text i c (drop (length l) l) ≡ []
lines-past i c l = ap (lines_text i c) (all-dropped l) ∙ lines_none i c
  where
    all-dropped : (l : List ℕ) → drop (length l) l ≡ []
    all-dropped l = go (drop (length l) l) (length-drop (length l) l)
      where
        go : (x : List ℕ) → length x ≡ length l - length l → x ≡ []
        go [] e = refl
        go (y ∷ ys) e = absurd (omega arith)

lines_cut : (i : ℕ) (c : Caches) (l : List ℕ) → place 10 l < length l
    → let r = printed_order i c (take (place 10 l) l) in
    lines_text i c l ≡ r.text ++ lines_text (suc i) r.caches (drop (place 10 l + 1) l)
unfolding lines_text
lines_cut i c l h =
    ap (lines_in i c) (parted-cut 10 l h)
    ∙ parted-some (λ ps. lines_from i c (take (place 10 l) l) ps ≡ (let r = printed_order i c (take (place 10 l) l) in r.text ++ lines_in (suc i) r.caches ps))
    (λ p ps. refl) 10 (drop (place 10 l + 1) l)

lines-whole : (i : ℕ) (c : Caches) (l : List ℕ) → 0 < length l → place 10 l ≡ length l → lines_text i c l ≡ refused_order i 1
unfolding lines_text
lines-whole i c [] h e = absurd (omega arith)
lines-whole i c (x ∷ xs) h e = ap (lines_in i c) (parted-whole 10 (x ∷ xs) e)

-- the same at a place in a text; p: where the first LF from there on stands
module _ (i : ℕ) (c : Caches) (text : List ℕ) (at : ℕ) {p : ℕ} (found : p ≡ place 10 (rest text at)) where
  place_at : p ≡ place 10 (drop at text)
  place_at = found ∙ ap (place 10) (part-back at text)

  last_line : at < length text → at + p ≡ length text → lines_text i c (drop at text) ≡ refused_order i 1
  last_line h e = lines-whole i c (drop at text) (omega (arith, length-drop at text)) (omega (arith, place_at, length-drop at text))

  next-line : at + p < length text
      → let r = printed_order i c (take (at + p - at) (drop at text)) in
      lines_text i c (drop at text) ≡ r.text ++ lines_text (i + 1) r.caches (drop (at + p + 1) text)
  next-line h =
      let line : place 10 (drop at text) ≡ at + p - at = omega (arith, place_at) in
      let past : at + (place 10 (drop at text) + 1) ≡ at + p + 1 = omega (arith, place_at) in
      let below : drop (place 10 (drop at text) + 1) (drop at text) ≡ drop (at + p + 1) text =
      drop-drop (place 10 (drop at text) + 1) at text ∙ ap (λ (n : ℕ). drop n text) past in
      rw add-one
      (lines_cut i c (drop at text) (omega (arith, place_at, length-drop at text))
      ∙ ap₂ (λ (n : ℕ) (x : List ℕ). let r = printed_order i c (take n (drop at text)) in r.text ++ lines_text (suc i) r.caches x) line below)

-- ---- a part that is put

-- an order that was run is as it is printed
record RanAs (fs bs : List ℕ) (out : List ℕ) (x : PrintedOrder) (r : ℕ) (fs' bs' out' : List ℕ) : Type 0 where
  text : Puts out 0 x.text r out'
  caches : caches_in fs' bs' ≡ x.caches

ran-on : (f : Form) (fs bs : List ℕ) (i : ℕ) (o : Order) (out : List ℕ) (r : ℕ) (fs' bs' out' : List ℕ) → RanOn f fs bs i o out r fs' bs' out'
    → RanAs fs bs out (printed_on f i (caches_in fs bs) o) r fs' bs' out'
ran-on Forward fs bs i o out r fs' bs' out' h = record {
  text = h.ran.text;
  caches = λ j. record { forward = h.ran.cache j; backward = ap read_cache h.stays j };
}
ran-on Backward fs bs i o out r fs' bs' out' h = record {
  text = h.ran.text;
  caches = λ j. record { forward = ap read_cache h.stays j; backward = h.ran.cache j };
}

ran-by : (o : Option Order) (fs bs : List ℕ) (i : ℕ) (out : List ℕ) (r : ℕ) (fs' bs' out' : List ℕ) → RanBy o fs bs i out r fs' bs' out'
    → RanAs fs bs out (printed_order_by o i (caches_in fs bs)) r fs' bs' out'
ran-by None fs bs i out r fs' bs' out' h = record { text = h.text; caches = ap₂ caches_in h.forward h.backward }
ran-by (Some o) fs bs i out r fs' bs' out' h = ran-on o.form fs bs i o out r fs' bs' out' h

ran_line : (fs bs : List ℕ) (i : ℕ) (l out : List ℕ) (r : ℕ) (fs' bs' out' : List ℕ) → RanLine fs bs i l out r fs' bs' out'
    → RanAs fs bs out (printed_order i (caches_in fs bs) l) r fs' bs' out'
unfolding printed_order
ran_line fs bs i l = ran-by (order_of l) fs bs i

module _ {orders fs bs : List ℕ} (out : List ℕ) {p : Part} (left : p.at < length orders) (can : CanGoOn orders fs bs p)
    {k : ℕ} (found : k ≡ place 10 (rest orders p.at)) where
  -- a last line without LF
  pub put_last : {r : ℕ} {out' : List ℕ} → p.at + k ≡ length orders → Puts out 0 (refused_order p.order 1) r out'
      → PutsNext orders fs bs out p (record { bytes = r; at = p.at + k; order = p.order + 1 }) fs bs out'
  put_last {r} {out'} e t =
      let None : lines_text (p.order + 1) (caches_in fs bs) (drop (p.at + k) orders) ≡ [] =
      ap (λ (n : ℕ). lines_text (p.order + 1) (caches_in fs bs) (drop n orders)) e ∙ lines-past (p.order + 1) (caches_in fs bs) orders in
      record {
        part = record {
          text = refused_order p.order 1;
          put = t;
          rest = last_line p.order (caches_in fs bs) orders p.at found left e ∙ sym (append-nil (refused_order p.order 1)) ∙ ap (λ (x : List ℕ). refused_order p.order 1 ++ x) (sym None);
          within = omega arith;
          next = λ h. absurd (omega arith);
        };
        further = omega (arith, place-within orders p.at found);
      }

  pub put-line : {r : ℕ} {fs' bs' out' : List ℕ} → (p.at + k ≡ length orders → ⊥)
      → RanLine fs bs p.order (take (p.at + k - p.at) (drop p.at orders)) out r fs' bs' out'
      → PutsNext orders fs bs out p (record { bytes = r; at = p.at + k + 1; order = p.order + 1 }) fs' bs' out'
  put-line {r} {fs'} {bs'} {out'} e h =
      let inside : p.at + k < length orders = omega (arith, place-within orders p.at found) in
      let ran = ran_line fs bs p.order _ out r fs' bs' out' h in
      let x : PrintedOrder = printed_order p.order (caches_in fs bs) (take (p.at + k - p.at) (drop p.at orders)) in
      record {
        part = record {
          text = x.text;
          put = ran.text;
          rest = next-line p.order (caches_in fs bs) orders p.at found inside
              ∙ ap (λ (c : Caches). x.text ++ lines_text (p.order + 1) c (drop (p.at + k + 1) orders)) (sym ran.caches);
          within = omega arith;
          next = λ more. record { few = can.few; number = omega (arith, can.number); called = called-after fs bs p.order _ out r fs' bs' out' can.called h };
        };
        further = omega arith;
      }

-- ---- the first part

sheet-is : (chart orders : List ℕ) → sheet_text chart orders ≡ files_text (is_overlong chart) (is_overlong orders) chart orders
unfolding sheet_text
sheet-is chart orders = refl

-- a refused sheet is that line
pub begin-refused : (chart : List ℕ) {orders out : List ℕ} (n : ℕ) {p : Part} (fs bs : List ℕ) {out' : List ℕ} → sheet_text chart orders ≡ refused_line n → RefusedPart orders out n p out'
    → Begins chart orders out p fs bs out'
begin-refused chart {orders} {out} n {p} fs bs e h =
    let None : lines_text p.order (caches_in fs bs) (drop p.at orders) ≡ [] =
    ap (λ (k : ℕ). lines_text p.order (caches_in fs bs) (drop k orders)) h.end ∙ lines-past p.order (caches_in fs bs) orders in
    record {
      text = refused_line n;
      put = h.put;
      rest = e ∙ sym (append-nil (refused_line n)) ∙ ap (λ (x : List ℕ). refused_line n ++ x) (sym None);
      within = omega (arith, h.end);
      next = λ more. absurd (omega (arith, h.end));
    }

module _ (chart orders : List ℕ) where
  pub overlong-chart : true ≡ is_overlong chart → sheet_text chart orders ≡ refused_line 4
  overlong-chart e = sheet-is chart orders ∙ ap (λ (b : Bool). files_text b (is_overlong orders) chart orders) (sym e)

  module _ (short : false ≡ is_overlong chart) where
    pub overlong-orders : true ≡ is_overlong orders → sheet_text chart orders ≡ refused_line 4
    overlong-orders e =
        sheet-is chart orders
        ∙ ap (λ (b : Bool). files_text b (is_overlong orders) chart orders) (sym short)
        ∙ ap (λ (b : Bool). files_text false b chart orders) (sym e)

    module _ (fewer : false ≡ is_overlong orders) where
      charted : sheet_text chart orders ≡ chart_text (read_graph chart) orders
      charted =
          sheet-is chart orders
          ∙ ap (λ (b : Bool). files_text b (is_overlong orders) chart orders) (sym short)
          ∙ ap (λ (b : Bool). files_text false b chart orders) (sym fewer)

      -- either direction's refusal is the chart's
      pub chart-refused : (ws left : List ℕ) (d : ℕ) (f : Refused) → first_fault (measure_faults d lent_slots) ≡ None
          → length ws ≡ lent_words → Opening ws chart d lent_slots (Err f) left → sheet_text chart orders ≡ refused_line (number f.refusal)
      unfolding open_cache
      chart-refused ws left d f fine size h =
          charted ∙ go (read_graph chart) (ap (λ (x : AfterOpen). x.reply) (h ∙ ap (λ (o : Option ℕ). open_by o ws chart d lent_slots) fine))
        where
          by : (g : Graph) (b : Bool) → b ≡ ltb (length ws) (needed (vertex_count g) (edge_count g) lent_slots) → refused (number f.refusal) f.line ≡ (open_if b g ws d lent_slots).reply
              → orders_text (ltb lent_words (needed (vertex_count g) (edge_count g) lent_slots)) g orders ≡ refused_line (number f.refusal)
          by g true e r =
              let five : 5 ≡ number f.refusal = cc in
              ap (λ (b : Bool). orders_text b g orders) (sym (e ∙ ap (λ (n : ℕ). ltb n (needed (vertex_count g) (edge_count g) lent_slots)) size)) ∙ ap refused_line five
          by g false e r = absurd (answered-refused tt (number f.refusal) f.line (sym r))

          go : (x : Reply Graph) → refused (number f.refusal) f.line ≡ (open_read x ws d lent_slots).reply → chart_text x orders ≡ refused_line (number f.refusal)
          go (refused n l) r = let same : n ≡ number f.refusal = cc in ap refused_line same
          go (answered g) r = by g (ltb (length ws) (needed (vertex_count g) (edge_count g) lent_slots)) refl r

      -- both caches were opened
      pub begin-opened : (fs bs : List ℕ) {fs' bs' out out' : List ℕ} {r : ℕ} → length fs ≡ lent_words → length orders ≤ 65536
          → Opening fs chart 0 lent_slots (Ok tt) fs' → Opening bs chart 1 lent_slots (Ok tt) bs' → Puts out 0 title r out'
          → Begins chart orders out (record { bytes = r; at = 0; order = 0 }) fs' bs' out'
      begin-opened fs bs {fs'} {bs'} size few f b t =
          let x : Opens fs chart 0 lent_slots fs' = (demand-1 fs chart 0 lent_slots (Ok tt) fs' f).opened refl in
          let y : Opens bs chart 1 lent_slots bs' = (demand-1 bs chart 1 lent_slots (Ok tt) bs' b).opened refl in
          let g : Graph = x.graph in
          let same : y.graph ≡ g = answered-is y.graph g (sym y.read ∙ x.read) in
          let caches : fresh_both g ≡ caches_in fs' bs' = λ j. record {
            forward = sym x.cache j;
            backward = (ap (λ (z : Graph). opened backward z lent_slots) (sym same) ∙ sym y.cache) j;
          } in
          let words : ℕ = needed (vertex_count g) (edge_count g) lent_slots in
          let fits : words ≤ lent_words = rw size at x.fits in
          let enough : ltb lent_words words ≡ false = le-ltb lent_words words fits in
          record {
            text = title;
            put = t;
            rest = charted
                ∙ ap (λ (z : Reply Graph). chart_text z orders) x.read
                ∙ ap (λ (z : Bool). orders_text z g orders) enough
                ∙ ap (λ (c : Caches). title ++ lines_text 0 c orders) caches;
            within = omega arith;
            next = λ more. record { few = few; number = omega arith; called = called-both fs bs chart f b };
          }

-- ---- the parts one after the other

-- the first bytes of a part that was put
put-taken : {out t left : List ℕ} {r : ℕ} → Puts out 0 t r left → take r left ≡ t
put-taken {out} {t} {left} {r} h =
    let same : r ≡ length t = omega (arith, h.end) in
    ap (λ (n : ℕ). take n left) same ∙ ap (take (length t)) h.bytes ∙ take-append_seam t (drop (0 + length t) out)

pub written-first : {chart orders out fs bs out' : List ℕ} {p : Part} → Begins chart orders out p fs bs out' → WrittenSoFar chart orders fs bs out' p.bytes p
written-first {orders = orders} {fs = fs} {bs = bs} {p = p} x = record {
  written = [];
  rest = x.rest ∙ ap (λ (l : List ℕ). l ++ lines_text p.order (caches_in fs bs) (drop p.at orders)) (sym (put-taken x.put));
  fits = put-within x.put;
  within = x.within;
  next = x.next;
}

-- the bytes filled are written, or they stay; m are filled then
pub written-more : {chart orders fs bs out : List ℕ} {m n : ℕ} {p : Part} → m ≡ 0 → WrittenSoFar chart orders fs bs out n p → WrittenSoFar chart orders fs bs out m p
written-more {chart} {orders} {fs} {bs} {out} {n = n} {p = p} e w = subst (λ (k : ℕ). WrittenSoFar chart orders fs bs out k p) (sym e) (record {
  written = w.written ++ take n out;
  rest = w.rest ∙ sym (append_assoc w.written (take n out) (lines_text p.order (caches_in fs bs) (drop p.at orders)));
  fits = omega arith;
  within = w.within;
  next = w.next;
})

pub written_same : {chart orders fs bs out : List ℕ} {m n : ℕ} {p : Part} → m ≡ n → WrittenSoFar chart orders fs bs out n p → WrittenSoFar chart orders fs bs out m p
written_same {chart} {orders} {fs} {bs} {out} {p = p} e w = subst (λ (k : ℕ). WrittenSoFar chart orders fs bs out k p) (sym e) w

-- a part is put behind the bytes filled
pub written_next : {chart orders fs bs out : List ℕ} {n : ℕ} {p : Part} → WrittenSoFar chart orders fs bs out n p
    → {lent left : List ℕ} {q : Part} {fs' bs' : List ℕ} → PutsNext orders fs bs lent p q fs' bs' left → (after : List ℕ)
    → WrittenSoFar chart orders fs' bs' (take n out ++ (left ++ after)) (n + q.bytes) q
written_next {orders = orders} {out = out} {n = n} w {left = left} {q = q} {fs' = fs'} {bs' = bs'} x after =
    let lines : List ℕ = lines_text q.order (caches_in fs' bs') (drop q.at orders) in
    let size : length (take n out) ≡ n = length-take-le n out w.fits in
    let both : take (n + q.bytes) (take n out ++ (left ++ after)) ≡ take n out ++ x.part.text =
    ap (λ (k : ℕ). take (k + q.bytes) (take n out ++ (left ++ after))) (sym size)
    ∙ take-append-add (take n out) (left ++ after) q.bytes
    ∙ ap (λ (l : List ℕ). take n out ++ l) (take-append-le q.bytes left after (put-within x.part.put) ∙ put-taken x.part.put) in
    record {
      written = w.written;
      rest = w.rest
          ∙ ap (λ (l : List ℕ). w.written ++ (take n out ++ l)) x.part.rest
          ∙ ap (λ (l : List ℕ). w.written ++ l) (sym (append_assoc (take n out) x.part.text lines))
          ∙ ap (λ (l : List ℕ). w.written ++ (l ++ lines)) (sym both);
      fits = omega (arith, length-append (take n out) (left ++ after), length-append left after, size, put-within x.part.put);
      within = x.part.within;
      next = x.part.next;
    }

-- where no order is left, what was written and the bytes filled are the sheet
pub written_all : {chart orders fs bs out : List ℕ} {n : ℕ} {p : Part} (w : WrittenSoFar chart orders fs bs out n p) → length orders ≤ p.at
    → sheet_text chart orders ≡ w.written ++ take n out
written_all {orders = orders} {fs} {bs} {out} {n} {p} w past =
    let end : p.at ≡ length orders = omega (arith, w.within) in
    let None : lines_text p.order (caches_in fs bs) (drop p.at orders) ≡ [] =
    ap (λ (k : ℕ). lines_text p.order (caches_in fs bs) (drop k orders)) end ∙ lines-past p.order (caches_in fs bs) orders in
    w.rest ∙ ap (λ (l : List ℕ). w.written ++ (take n out ++ l)) None ∙ ap (λ (l : List ℕ). w.written ++ l) (append-nil (take n out))

parts_are : {orders fs bs : List ℕ} {p : Part} {l : List ℕ} → Parts orders fs bs p l → l ≡ lines_text p.order (caches_in fs bs) (drop p.at orders)
parts_are {orders} {fs} {bs} {p} (no_more e) =
    sym (ap (λ (n : ℕ). lines_text p.order (caches_in fs bs) (drop n orders)) e ∙ lines-past p.order (caches_in fs bs) orders)
parts_are (one_more x more) = ap (λ (l : List ℕ). x.part.text ++ l) (parts_are more) ∙ sym x.part.rest

pub writes-sheet : WritesSheet
writes-sheet chart orders out p fs bs out' rest x parts = ap (λ (l : List ℕ). x.text ++ l) (parts_are parts) ∙ sym x.rest
