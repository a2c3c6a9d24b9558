-- What the program prints: a chart's drawing, or why there is none.
-- Assumes nothing.
use Rattle.std.specs.Prelude.{◌≡◌, Bool, true, false, cond, List, [], ℕ, ◌+◌, ◌*◌, ◌≤◌, length, take, replicate, None, Some, Err, Ok}
use Rattle.model.specs.declared.SearchStatus.{SearchStatus}
use Rattle.std.specs.declared.option.Option.{Option}
use Rattle.std.specs.declared.result.Result.{Result}
use Rattle.model.specs.declared.Refusal.{Refusal}
use Rattle.model.specs.declared.Refused.{Refused}
use Rattle.model.specs.Answers.{number, Reply, answered, refused, Status, waiting, solved, no_path, status}
use Rattle.model.specs.Graph.{Graph, Direction, forward, backward}
use Rattle.model.specs.Calls.{opened, initialize, retrace}
use Rattle.model.specs.Solve.{solve}
use Rattle.model.specs.Plan.{plan}
use Rattle.text.specs.Read.{read_graph}
use Rattle.order_lines.specs.declared.orders.Form.{Form}
use Rattle.order_lines.specs.declared.orders.Form.TheVariants.{Forward, Backward}
use Rattle.order_lines.specs.declared.orders.Order.{Order}
use Rattle.order_lines.specs.Orders.{order_of}
use Rattle.order_lines.specs.Answers.{refused_line}
use Rattle.order_run.specs.Lent.{lent_slots}
use Rattle.order_run.specs.Run.{listed}
use Rattle.order_sheet.specs.Whole.{is_overlong}
use Rattle.drawing.specs.Drawing.{drawing}

-- ---- the path of an order

-- the words of a path: "first motif, then link and motif for each move"
abbrev pub words_in : Status → ℕ
words_in (solved k m) = 1 + 2 * m
words_in waiting = 0
words_in no_path = 0

-- by the reply of a whole search, whether its path was written, and the slice for it: no words where it was not
abbrev pub path_by : Reply Status → Bool → List ℕ → Reply (List ℕ)
path_by (refused n line) has path = refused n line
path_by (answered s) has path = answered (cond has (take (words_in s) path) [])

-- on a cache of the order's direction with the sheet's slots; 2,047 words have room for every path
abbrev pub path_in : Direction → Reply Graph → List ℕ → List ℕ → Reply (List ℕ)
path_in dir (refused n line) ss gs = refused n line
path_in dir (answered g) ss gs = let r = plan (opened dir g lent_slots) ss gs (replicate 2047 0) in path_by r.reply r.has_path r.path

-- the number of an order's direction, as `open` takes it
abbrev pub form_number : Form → ℕ
form_number Forward = 0
form_number Backward = 1

abbrev pub ordered_on : Form → Order → Reply Graph → Reply (List ℕ)
ordered_on Forward o chart = path_in forward chart (listed o.starts) (listed o.goals)
ordered_on Backward o chart = path_in backward chart (listed o.starts) (listed o.goals)

-- "An order without this form is refused 1, before any opening."
abbrev pub ordered_by : Option Order → Reply Graph → Reply (List ℕ)
ordered_by None chart = refused 1 0
ordered_by (Some o) chart = ordered_on o.form o chart

unfoldable pub order_path : List ℕ → List ℕ → Reply (List ℕ)
unfolding read_graph order_of opened initialize solve retrace
order_path chart order = ordered_by (order_of order) (read_graph chart)

-- ---- what is printed

-- `refused` and a number for a chart with a fault
abbrev pub drawn_text : Reply Graph → List ℕ → List ℕ
drawn_text (refused n line) path = refused_line n
drawn_text (answered g) path = drawing g path

-- and for an order that is refused
abbrev pub with_path : Reply (List ℕ) → List ℕ → List ℕ
with_path (refused n line) chart = refused_line n
with_path (answered path) chart = drawn_text (read_graph chart) path

-- is the file overlong? is there an order?
abbrev pub picture_by : Bool → List ℕ → Option (List ℕ) → List ℕ
picture_by true chart order = refused_line 4
picture_by false chart None = drawn_text (read_graph chart) []
picture_by false chart (Some order) = with_path (order_path chart order) chart

unfoldable pub picture_text : List ℕ → Option (List ℕ) → List ℕ
unfolding read_graph order_path drawing refused_line
picture_text chart order = picture_by (is_overlong chart) chart order

-- ---- what the functions beneath promise each other

-- the path stands in front of q; or the refusal
abbrev pub FoundIs : Result ℕ Refused → List ℕ → Reply (List ℕ) → Type 0
FoundIs (Ok n) q x = (n ≤ length q) × (answered (take n q) ≡ x)
FoundIs (Err f) q x = refused (number f.refusal) f.line ≡ x

abbrev pub found_by : Result SearchStatus Refusal → Bool → Result ℕ Refused
found_by (Ok s) has = Ok (cond has (words_in (status s)) 0)
found_by (Err f) has = Err (record { refusal = f; line = 0 })

-- a path that was written has at most 2,047 words
abbrev pub Few : Reply Status → Bool → Type 0
Few (answered s) has = has ≡ true → words_in s ≤ 2047
Few (refused n line) has = Unit {0}
