-- What the functions that run an order and put its line promise each other: the bytes of the line, and the cache left.
-- Assumes nothing.
use Rattle.std.specs.Prelude.{◌≡◌, Bool, true, false, List, [], ℕ, ◌+◌, ◌*◌, ◌<◌, ◌≤◌, ltb, length, take, Ok, None, Some}
use Rattle.std.specs.declared.option.Option.{Option}
use Rattle.model.specs.Answers.{answered, refused}
use Rattle.model.specs.Sound.{tree}
use Rattle.model.specs.Path.{moves_of, words}
use Rattle.model.specs.Graph.{Graph, Accepted, Direction, forward, backward}
use Rattle.model.specs.Calls.{opened, initialize}
use Rattle.model.specs.Demands.{Call, after_all}
use Rattle.text.specs.Read.{read_graph}
use Rattle.layout.specs.Read.{direction_of, read_cache}
use Rattle.layout.specs.Layout.{direction_in}
use Rattle.sound.specs.Facts.{SoundWords}
use Rattle.cache.specs.Open.{Opening}
use Rattle.memory.specs.declared.Shown.{Shown}
use Rattle.memory.specs.declared.held_node.HeldNode.{HeldNode}
use Rattle.memory.specs.Standing.{shown_node}
use Rattle.order_lines.specs.declared.numbers.Numbers.{Numbers}
use Rattle.order_lines.specs.declared.orders.Form.{Form}
use Rattle.order_lines.specs.declared.orders.Form.TheVariants.{Forward, Backward}
use Rattle.order_lines.specs.declared.orders.Order.{Order}
use Rattle.order_lines.specs.Orders.{order_of}
use Rattle.order_lines.specs.declared.answers.Line.{Line}
use Rattle.order_lines.specs.Answers.{answer_line}
use Rattle.put_text.specs.Puts.{Puts}
use Rattle.order_run.specs.Lent.{max_bytes, lent_slots}
use Rattle.order_run.specs.Orders.{ordered, refused_order, RightLine}

-- the numbers of a list that was read
abbrev pub listed : Numbers → List ℕ
listed x = take x.count x.numbers

-- an order's number, and the bytes lent for its line
pub record CanPut (n : ℕ) (out : List ℕ) : Type 0 where
  pub order : n ≤ max_bytes
  pub room : 24576 ≤ length out

-- the words lent for a path: 1,023 moves are the most there are among 1,024 vertices
pub record PathRoom (path : List ℕ) : Type 0 where
  pub words : length path ≡ 2047

-- a line, whose counts are numbers of at most 10 digits, and the words and bytes lent for it
pub record CanPutShown (l : Line) (p out : List ℕ) : Type 0 where
  pub can : CanPut l.order out
  pub path : PathRoom p
  pub waits : l.waits < 10000000000
  pub tickets : l.tickets < 10000000000

-- ---- the orders, in words

-- the line l with the path of the node that is shown, where 2,047 words have room for it
abbrev pub path_line : Bool → List ℕ → Line → ℕ → ℕ → List ℕ
path_line true ws l slot n = refused_order l.order 10
path_line false ws l slot n = answer_line l (words (direction_of (direction_in ws)) (tree (read_cache ws).trees slot).nodes n)

abbrev pub shown_line : List ℕ → Line → Option Shown → List ℕ
shown_line ws l None = answer_line l []
shown_line ws l (Some x) = path_line (ltb 2047 (1 + 2 * moves_of (tree (read_cache ws).trees x.slot).nodes x.node)) ws l x.slot x.node

-- and with that of the node that is held
abbrev pub held_line : Line → Option HeldNode → List ℕ
held_line l None = answer_line l []
held_line l (Some h) = shown_line h.words.now l (shown_node h.slot h.node)

-- order i from ss to gs in the words ws: its text stands at the start of out, and r is its length
pub record Ran (ws : List ℕ) (i : ℕ) (ss gs out : List ℕ) (r : ℕ) (left out' : List ℕ) : Type 0 where
  pub text : Puts out 0 (ordered i (read_cache ws) ss gs).text r out'
  pub cache : read_cache left ≡ (ordered i (read_cache ws) ss gs).cache
  pub sound : SoundWords left

-- an order goes to the words of its direction, fs forward or bs backward; the others stay
pub record RanIn (ws ws' : List ℕ) (i : ℕ) (o : Order) (out : List ℕ) (r : ℕ) (left left' out' : List ℕ) : Type 0 where
  pub ran : Ran ws i (listed o.starts) (listed o.goals) out r left out'
  pub stays : left' ≡ ws'

pub record NotRun (fs bs : List ℕ) (i : ℕ) (out : List ℕ) (r : ℕ) (fs' bs' out' : List ℕ) : Type 0 where
  pub text : Puts out 0 (refused_order i 1) r out'
  pub forward : fs' ≡ fs
  pub backward : bs' ≡ bs

abbrev pub RanOn : Form → List ℕ → List ℕ → ℕ → Order → List ℕ → ℕ → List ℕ → List ℕ → List ℕ → Type 0
RanOn Forward fs bs i o out r fs' bs' out' = RanIn fs bs i o out r fs' bs' out'
RanOn Backward fs bs i o out r fs' bs' out' = RanIn bs fs i o out r bs' fs' out'

abbrev pub RanBy : Option Order → List ℕ → List ℕ → ℕ → List ℕ → ℕ → List ℕ → List ℕ → List ℕ → Type 0
RanBy None fs bs i out r fs' bs' out' = NotRun fs bs i out r fs' bs' out'
RanBy (Some o) fs bs i out r fs' bs' out' = RanOn o.form fs bs i o out r fs' bs' out'

-- an order's line l
abbrev pub RanLine : List ℕ → List ℕ → ℕ → List ℕ → List ℕ → ℕ → List ℕ → List ℕ → List ℕ → Type 0
RanLine fs bs i l out r fs' bs' out' = RanBy (order_of l) fs bs i out r fs' bs' out'

-- ---- what is printed is right: of an order that was run in words which hold a cache after any calls, by nothing but the promise

-- the words hold the cache that an accepted graph was opened as, after calls
pub record Called (dir : Direction) (g : Graph) (t : ℕ) (ws : List ℕ) : Type 0 where
  pub accepted : Accepted g
  pub calls : List Call
  pub cache : read_cache ws ≡ after_all (opened dir g t) calls
  pub sound : SoundWords ws

-- a refused order prints the number of its refusal, another one a right line; and the next order finds such words again
pub record PrintsRight (dir : Direction) (g : Graph) (t i : ℕ) (ws ss gs left text : List ℕ) : Type 0 where
  pub refusal : (n line : ℕ) → (initialize (read_cache ws) ss gs).reply ≡ refused n line → text ≡ refused_order i n
  pub answer : (initialize (read_cache ws) ss gs).reply ≡ answered tt → RightLine dir g ss gs i text
  pub next : Called dir g t left

abbrev pub LinesAreRight : Type 0
LinesAreRight =
    (dir : Direction) (g : Graph) (t i : ℕ) (ws ss gs out : List ℕ) (r : ℕ) (left out' : List ℕ) → Called dir g t ws → Ran ws i ss gs out r left out'
    → (text : List ℕ) × (Puts out 0 text r out' × PrintsRight dir g t i ws ss gs left text)

-- both directions' words, of one graph
pub record CalledBoth (fs bs : List ℕ) : Type 0 where
  pub graph : Graph
  pub forward : Called forward graph lent_slots fs
  pub backward : Called backward graph lent_slots bs

-- an opened cache is such a one
abbrev pub OpensCalled : Type 0
OpensCalled =
    (ws text : List ℕ) (d t : ℕ) (left : List ℕ) → Opening ws text d t (Ok tt) left
    → (g : Graph) × ((read_graph text ≡ answered g) × Called (direction_of d) g t left)
