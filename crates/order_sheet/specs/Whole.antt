-- The whole sheet of a chart and its orders, as bytes. The program writes it part by part.
-- Assumes nothing.
use Rattle.std.specs.Prelude.{Bool, true, false, None, Some, List, [], ◌∷◌, ◌++◌, ℕ, suc, ltb, length}
use Rattle.std.specs.declared.option.Option.{Option}
use Rattle.model.specs.Answers.{Reply, answered, refused}
use Rattle.model.specs.Graph.{Graph, forward, backward, vertex_count, edge_count}
use Rattle.model.specs.Calls.{Cache, opened}
use Rattle.text.specs.Bytes.{bytes, line_feed, parted}
use Rattle.text.specs.Read.{read_graph}
use Rattle.layout.specs.Layout.{needed}
use Rattle.order_lines.specs.declared.orders.Form.{Form}
use Rattle.order_lines.specs.declared.orders.Form.TheVariants.{Forward, Backward}
use Rattle.order_lines.specs.declared.orders.Order.{Order}
use Rattle.order_lines.specs.Orders.{order_of}
use Rattle.order_lines.specs.Answers.{refused_line}
use Rattle.order_run.specs.Lent.{max_bytes, lent_words, lent_slots}
use Rattle.order_run.specs.Orders.{Ordered, ordered, refused_order}
use Rattle.order_run.specs.Run.{listed}

-- "(order number, answer, total, waits, tickets, run ..)"
unfoldable pub title : List ℕ
title = bytes "order,answer,total,waits,tickets,run\n"

-- ---- the orders, each on the cache of its direction

pub record Caches : Type 0 where
  pub forward : Cache
  pub backward : Cache

pub record PrintedOrder : Type 0 where
  pub caches : Caches
  pub text : List ℕ

abbrev pub on_forward : Caches → Ordered → PrintedOrder
on_forward c r = record { caches = record { forward = r.cache; backward = c.backward }; text = r.text }

abbrev pub on_backward : Caches → Ordered → PrintedOrder
on_backward c r = record { caches = record { forward = c.forward; backward = r.cache }; text = r.text }

abbrev pub printed_on : Form → ℕ → Caches → Order → PrintedOrder
printed_on Forward i c o = on_forward c (ordered i c.forward (listed o.starts) (listed o.goals))
printed_on Backward i c o = on_backward c (ordered i c.backward (listed o.starts) (listed o.goals))

-- "An order without this form is refused 1, before any opening."
abbrev pub printed_order_by : Option Order → ℕ → Caches → PrintedOrder
printed_order_by None i c = record { caches = c; text = refused_order i 1 }
printed_order_by (Some o) i c = printed_on o.form i c o

-- order i, whose line l is without its LF
unfoldable pub printed_order : ℕ → Caches → List ℕ → PrintedOrder
unfolding order_of ordered
printed_order i c l = printed_order_by (order_of l) i c

-- what stands past the last LF is no order if it is empty, and else one without LF
abbrev pub unended_text : ℕ → List ℕ → List ℕ
unended_text i [] = []
unended_text i (x ∷ xs) = refused_order i 1

-- order i stands in the piece l, and those below it in ls
unfoldable pub lines_from : ℕ → Caches → List ℕ → List (List ℕ) → List ℕ
unfolding printed_order
lines_from i c l [] = unended_text i l
lines_from i c l (p ∷ ps) = let r = printed_order i c l in r.text ++ lines_from (suc i) r.caches p ps

abbrev pub lines_in : ℕ → Caches → List (List ℕ) → List ℕ
lines_in i c [] = []
lines_in i c (l ∷ ls) = lines_from i c l ls

-- the lines of the orders in a text, of which the first is order i
unfoldable pub lines_text : ℕ → Caches → List ℕ → List ℕ
unfolding parted lines_from
lines_text i c text = lines_in i c (parted line_feed text)

-- ---- the whole

abbrev pub fresh_both : Graph → Caches
fresh_both g = record { forward = opened forward g lent_slots; backward = opened backward g lent_slots }

-- are the words lent too few?
abbrev pub orders_text : Bool → Graph → List ℕ → List ℕ
orders_text true g orders = refused_line 5
orders_text false g orders = title ++ lines_text 0 (fresh_both g) orders

-- "A refused chart .. prints only `refused` and number"
abbrev pub chart_text : Reply Graph → List ℕ → List ℕ
chart_text (refused n line) orders = refused_line n
chart_text (answered g) orders = orders_text (ltb lent_words (needed (vertex_count g) (edge_count g) lent_slots)) g orders

abbrev pub is_overlong : List ℕ → Bool
is_overlong file = ltb max_bytes (length file)

-- "or overlong file .., 4 for length": is the chart's file overlong? is the orders'?
abbrev pub files_text : Bool → Bool → List ℕ → List ℕ → List ℕ
files_text true o chart orders = refused_line 4
files_text false true chart orders = refused_line 4
files_text false false chart orders = chart_text (read_graph chart) orders

unfoldable pub sheet_text : List ℕ → List ℕ → List ℕ
unfolding title lines_text read_graph opened refused_line
sheet_text chart orders = files_text (is_overlong chart) (is_overlong orders) chart orders
