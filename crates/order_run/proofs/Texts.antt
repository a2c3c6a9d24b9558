-- The lines that are put: of a search that was run to its end, of an order.
-- Assumes nothing.
use mathlib.Core.Path.{◌≡◌, refl, sym, ap, ◌∙◌, subst}
use Rattle.std.specs.declared.option.Option.{Option}
use Rattle.std.specs.declared.result.Result.{Result}
use Rattle.model.specs.declared.Refusal.{Refusal}
use Rattle.std.specs.Prelude.{Err, Ok, None, Some}
use mathlib.Core.Bool.{Bool, true, false}
use mathlib.Core.List.{List}
use Prim.Native.Nat.{ℕ, ◌+◌, ◌*◌, ◌<◌, ◌≤◌}
use native.Mathlib.Omega.{arith}
use lib.Dec.{ltb}
use lib.ListN.{length, replicate}
use Rattle.model.specs.declared.Search.{Search}
use Rattle.model.specs.Answers.{Reply, answered, Status, initialize_reply, step_reply}
use Rattle.model.specs.Sound.{tree}
use Rattle.model.specs.Path.{moves_of}
use Rattle.model.specs.Calls.{Cache, AfterInitialize, initialize, opened_search, AfterRetrace, retrace}
use Rattle.model.specs.Solve.{AfterSteps, solve, max_steps}
use Rattle.layout.specs.Layout.{direction_in}
use Rattle.layout.specs.Read.{direction_of, read_cache}
use Rattle.sound.specs.Facts.{SoundWords}
use Rattle.memory.specs.declared.Shown.{Shown}
use Rattle.unchecked.specs.declared.SearchRun.{SearchRun}
use Rattle.memory.specs.declared.held_node.HeldNode.{HeldNode}
use Rattle.memory.specs.Standing.{shown_node, Shows, HeldIs}
use Rattle.unchecked.specs.Shown.{status_of}
use Rattle.unchecked.specs.Retrace.{retrace_node_if, retrace_shown}
use Rattle.unchecked.specs.Run.{RunsToEnd, RunsAfter, Runs}
use Rattle.order_lines.specs.declared.answers.Answer.{Answer}
use Rattle.order_lines.specs.declared.answers.Line.{Line}
use Rattle.order_lines.specs.declared.orders.Form.{Form}
use Rattle.order_lines.specs.declared.orders.Form.TheVariants.{Forward, Backward}
use Rattle.order_lines.specs.declared.orders.Order.{Order}
use Rattle.order_lines.specs.Orders.{order_of}
use Rattle.order_lines.specs.Answers.{answer_line}
use Rattle.put_text.specs.Puts.{Puts}
use Rattle.order_run.specs.Orders.{answer_of, line_for, shown_text, driven_by, driven_text, ordered_by, Ordered, ordered}
use Rattle.order_run.specs.Run.{path_line, shown_line, held_line, Ran, RanOn, RanBy, RanLine}
use Rattle.order_run.proofs.Within.{put-within}
use Rattle.order_run.proofs.Sizes.{path-taken}

pub puts-as : {out t t' left : List ℕ} {r : ℕ} → t ≡ t' → Puts out 0 t r left → Puts out 0 t' r left
puts-as {out} {left = left} {r = r} e h = subst (λ (x : List ℕ). Puts out 0 x r left) e h

-- the line with the path of the node that is held is that of the node shown
pub held-line : (ws : List ℕ) (l : Line) (x : Option Shown) (o : Option HeldNode) → HeldIs ws x o → held_line l o ≡ shown_line ws l x
held-line ws l None None z = refl
held-line ws l None (Some h) z = absurd z
held-line ws l (Some x) None z = absurd z
held-line ws l (Some x) (Some h) z = λ i. shown_line (z.0 i) l (shown_node (z.1.0 i) (z.1.1 i))

-- ---- a search that was run to its end

-- what a run came to, with the cache that the words left hold
abbrev after_run : SearchRun → List ℕ → AfterSteps
after_run r left = record { cache = read_cache left; search = r.search; reply = step_reply r.answer; waits = r.waits; tickets = r.tickets }

module _ {ws left : List ℕ} {s : Search} {r : SearchRun} (h : RunsToEnd ws s r left) (i : ℕ) where
  run_is : after_run r left ≡ solve max_steps (read_cache ws) s
  run_is = λ j. record {
    cache = h.solves.cache j;
    search = h.solves.search j;
    reply = h.solves.answer j;
    waits = h.solves.waits j;
    tickets = h.solves.tickets j;
  }

  -- its line shows the path that `retrace` shows
  shown-text : shown_line left (line_for i (after_run r left)) r.shown ≡ driven_text i (after_run r left)
  shown-text = go r.shown h.answers (h.retraces (replicate 2047 0)) ∙ ap (λ (x : Reply Status). driven_by (answer_of x) i d) (sym h.answers)
    where
      d : AfterSteps
      d = after_run r left

      l : Line
      l = line_for i d

      at-node : (slot n : ℕ) (b : Bool) → ltb 2047 (1 + 2 * moves_of (tree (read_cache left).trees slot).nodes n) ≡ b → {y : AfterRetrace} → y ≡ retrace_node_if b left slot n (replicate 2047 0)
          → path_line b left l slot n ≡ shown_text i d y.reply y.path
      at-node slot n true z e = sym (ap (λ (x : AfterRetrace). shown_text i d x.reply x.path) e)
      at-node slot n false z e =
          sym (ap (λ (x : AfterRetrace). shown_text i d x.reply x.path) e
          ∙ ap (answer_line l) (path-taken (direction_of (direction_in left)) (tree (read_cache left).trees slot).nodes n (replicate 2047 0)))

      go : (x : Option Shown) → d.reply ≡ answered (status_of (read_cache left).trees x) → retrace (read_cache left) d.search (replicate 2047 0) ≡ retrace_shown left x (replicate 2047 0)
          → shown_line left l x ≡ driven_by (answer_of (answered (status_of (read_cache left).trees x))) i d
      go None e y = refl
      go (Some x) e y = at-node x.slot x.node _ refl y

-- ---- an order of legal form

pub ordered-is : (i : ℕ) (c : Cache) (ss gs : List ℕ) → let r = initialize c ss gs in ordered_by r.reply r i ≡ ordered i c ss gs
unfolding ordered
ordered-is i c ss gs = refl

module _ {ws ss gs : List ℕ} {r : SearchRun} {left : List ℕ} (h : Runs ws ss gs r left) where
  abbrev after : Result Search Refusal → AfterInitialize
  after x = record { cache = read_cache h.mid; search = opened_search x; reply = initialize_reply x }

  opens_as : (i : ℕ) (x : Result Search Refusal) → h.opened ≡ x → ordered_by (initialize_reply x) (after x) i ≡ ordered i (read_cache ws) ss gs
  opens_as i x e =
      let called : after h.opened ≡ initialize (read_cache ws) ss gs = λ j. record { cache = h.opens.cache j; search = h.opens.search j; reply = h.opens.answer j } in
      ap (λ (y : Result Search Refusal). ordered_by (initialize_reply y) (after y) i) (sym e)
      ∙ ap (λ (y : AfterInitialize). ordered_by y.reply y i) called
      ∙ ordered-is i (read_cache ws) ss gs

  -- the line of its answer x
  abbrev line : ℕ → Answer → Line
  line i x = record { order = i; answer = x; waits = r.waits; tickets = r.tickets }

  -- with the path of the node that it shows
  module _ (i : ℕ) {n : ℕ} {out out' : List ℕ} {a : Answer} (told : a ≡ answer_of (step_reply r.answer)) where
    ran : {x : Ordered} → x ≡ ordered i (read_cache ws) ss gs → shown_line left (line i (answer_of (step_reply r.answer))) r.shown ≡ x.text → read_cache left ≡ x.cache → SoundWords left
        → Puts out 0 (shown_line left (line i a) r.shown) n out' → Ran ws i ss gs out n left out'
    ran e t c s put = record {
      text = puts-as (ap (λ (x : Answer). shown_line left (line i x) r.shown) told ∙ t ∙ ap (λ (y : Ordered). y.text) e) put;
      cache = c ∙ ap (λ (y : Ordered). y.cache) e;
      sound = s;
    }

    pub ran-search : Puts out 0 (shown_line left (line i a) r.shown) n out' → Ran ws i ss gs out n left out'
    ran-search = go h.opened refl h.after
      where
        go : (x : Result Search Refusal) → h.opened ≡ x → RunsAfter x h.mid r left
            → Puts out 0 (shown_line left (line i a) r.shown) n out' → Ran ws i ss gs out n left out'
        go (Err f) e k =
            ran (opens_as i (Err f) e)
            (ap (λ (y : SearchRun). shown_line left (record { order = i; answer = answer_of (step_reply y.answer); waits = y.waits; tickets = y.tickets }) y.shown) k.0)
            (ap read_cache k.1) (subst SoundWords (sym k.1) h.opens.sound)
        go (Ok s) e k =
            let steps = run_is k i in
            ran (opens_as i (Ok s) e) (shown-text k i ∙ ap (driven_text i) steps) (ap (λ (d : AfterSteps). d.cache) steps) k.solves.sound

  -- the counts are small: 640 × 131,137 is a number of 8 digits
  pub counts-fit : (r.waits < 10000000000) × (r.tickets < 10000000000)
  counts-fit = go h.opened h.after
    where
      go : (x : Result Search Refusal) → RunsAfter x h.mid r left → (r.waits < 10000000000) × (r.tickets < 10000000000)
      go (Err f) k =
          (omega (arith, ap (λ (y : SearchRun). y.waits) k.0), omega (arith, ap (λ (y : SearchRun). y.tickets) k.0))
      go (Ok s) k = (omega (arith, k.waits), omega (arith, k.waits, k.tickets))

  -- the node shown is one of the words left
  pub run-shows : Shows left r.shown
  run-shows = go h.opened h.after
    where
      go : (x : Result Search Refusal) → RunsAfter x h.mid r left → Shows left r.shown
      go (Err f) k = subst (Shows left) (sym (ap (λ (y : SearchRun). y.shown) k.0)) tt
      go (Ok s) k = k.shows

-- ---- an order's line, which was read

-- whatever its form, an order's line is within the bytes lent
by-within : (x : Option Order) (fs bs : List ℕ) (i : ℕ) (out : List ℕ) (r : ℕ) (fs' bs' out' : List ℕ) → RanBy x fs bs i out r fs' bs' out' → r ≤ length out'
by-within None fs bs i out r fs' bs' out' h = put-within h.text
by-within (Some o) fs bs i out r fs' bs' out' h = go o.form h
  where
    go : (f : Form) → RanOn f fs bs i o out r fs' bs' out' → r ≤ length out'
    go Forward k = put-within k.ran.text
    go Backward k = put-within k.ran.text

pub line-within : (fs bs : List ℕ) (i : ℕ) (l out : List ℕ) (r : ℕ) (fs' bs' out' : List ℕ) → RanLine fs bs i l out r fs' bs' out' → r ≤ length out'
line-within fs bs i l = by-within (order_of l) fs bs i
