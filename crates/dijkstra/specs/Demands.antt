-- The three demands on the calls as they are exported. A list of calls here is one of calls of `open`, `initialize`, `step` and `retrace` on
-- the same words, each known by nothing but the promise that its `ensures` states: `Opening` (cache/specs/Open.antt), `Initializing`,
-- `Stepping` and `Retracing` (Calls.antt). What is owed of a search (`Owed`), and what the Rust answers (`events_from`), are the model's.
-- Assumes nothing.
use Rattle.std.specs.Prelude.{◌≡◌, List, [], ◌∷◌, ℕ, ◌+◌, ◌<◌, ◌≤◌, length, get_or, Err, Ok}
use Rattle.std.specs.declared.result.Result.{Result}
use Rattle.model.specs.declared.Refusal.{Refusal}
use Rattle.model.specs.declared.Search.{Search}
use Rattle.model.specs.declared.Stepped.{Stepped}
use Rattle.model.specs.Answers.{number, answered, refused, initialize_reply, step_reply, retrace_reply}
use Rattle.model.specs.Graph.{Graph}
use Rattle.model.specs.Search.{entry, empty_search}
use Rattle.model.specs.Calls.{opened, opened_search}
use Rattle.model.specs.Demands.{Call, initializing as initializingCall, stepping as steppingCall, retracing as retracingCall, reading, both, Act, own_step, own_retrace, other, Event, stepped, retraced, Owed}
use Rattle.model.specs.Reference.{after_all, events_from}
use Rattle.text.specs.Read.{read_graph}
use Rattle.layout.specs.Layout.{queued_at, queue_at, slot_at, edges_in, vertices_in}
use Rattle.layout.specs.Read.{direction_of, read_cache}
use Rattle.cache.specs.Open.{Opening}
use Rattle.dijkstra.specs.Calls.{Initializing, Stepping, Retracing, after_retrace}

-- ---- Demand 1: "hold, after any refused call, what they held before it". That every call returns an answer is the language's.
-- The record of a refused opening is the empty one, and of each refusal the line is 0: "0 where no chart line is at fault".

abbrev pub Demand1 : Type 0
Demand1 =
    ((ws ss gs : List ℕ) (r : Result Search Refusal) (left : List ℕ) → Initializing ws ss gs r left
    → (f : Refusal) → r ≡ Err f → (left ≡ ws) × ((opened_search r ≡ empty_search) × (initialize_reply r ≡ refused (number f) 0)))
    × ((ws : List ℕ) (s : Search) (r : Stepped) (left : List ℕ) → Stepping ws s r left
    → (f : Refusal) → r.answer ≡ Err f → (left ≡ ws) × ((r.search ≡ s) × ((r.tickets ≡ 0) × (step_reply r.answer ≡ refused (number f) 0))))
    × ((ws : List ℕ) (s : Search) (p : List ℕ) (r : Result ℕ Refusal) (q : List ℕ) → Retracing ws s p r q
    → (f : Refusal) → r ≡ Err f → (q ≡ p) × (retrace_reply r ≡ refused (number f) 0))

-- ---- lists of calls on the same words: each gets the words as the last one left them

-- one call on the words ws, which leaves the words left: accepted or refused, with any lists, any record and any slice. One that only reads
-- leaves every word; one that is made of two is known by theirs
pub data Made : List ℕ → Call → List ℕ → Type 0 where
  made_initialize : {ws left : List ℕ} (ss gs : List ℕ) (r : Result Search Refusal) → Initializing ws ss gs r left → Made ws (initializingCall ss gs) left
  made_step : {ws left : List ℕ} (s : Search) (r : Stepped) → Stepping ws s r left → Made ws (steppingCall s) left
  made_retrace : {ws : List ℕ} (s : Search) (p : List ℕ) (r : Result ℕ Refusal) (q : List ℕ) → Retracing ws s p r q → Made ws (retracingCall s p) ws
  made_reading : {ws : List ℕ} → Made ws reading ws
  made_both : {ws mid left : List ℕ} {x y : Call} → Made ws x mid → Made mid y left → Made ws (both x y) left

pub data MadeAll : List ℕ → List Call → List ℕ → Type 0 where
  none_made : {ws : List ℕ} → MadeAll ws [] ws
  and_then : {ws mid left : List ℕ} {x : Call} {xs : List Call} → Made ws x mid → MadeAll mid xs left → MadeAll ws (x ∷ xs) left

-- the calls after a search was opened, its own among them: "A search's own steps form a chain: the first is handed the record that its
-- opening returned or left, each later one the record that the one before it in the chain returned or left. Its own retraces are handed
-- the record that its last step before them left". `Event`s are what the own calls answered.
pub data Chain : List ℕ → Search → List Act → List Event → Type 0 where
  ends : {ws : List ℕ} {s : Search} → Chain ws s [] []
  own-step : {ws left : List ℕ} {s : Search} {acts : List Act} {es : List Event} (r : Stepped) → Stepping ws s r left
      → Chain left r.search acts es → Chain ws s (own_step ∷ acts) (stepped (step_reply r.answer) ∷ es)
  own-retrace : {ws : List ℕ} {s : Search} {acts : List Act} {es : List Event} (p : List ℕ) (r : Result ℕ Refusal) (q : List ℕ)
      → Retracing ws s p r q → Chain ws s acts es → Chain ws s (own_retrace p ∷ acts) (retraced p (after_retrace r q) ∷ es)
  between : {ws left : List ℕ} {s : Search} {acts : List Act} {es : List Event} (x : Call) → Made ws x left
      → Chain left s acts es → Chain ws s (other x ∷ acts) es

-- a whole list of calls: `open` accepted a graph's text in direction d, with t slots, in some words; calls before; a search from ss to gs
-- opened and accepted; and the calls after it, of which its own answered es
pub record History (text : List ℕ) (d t : ℕ) (before : List Call) (ss gs : List ℕ) (acts : List Act) (es : List Event) : Type 0 where
  pub lent : List ℕ
  pub first : List ℕ
  pub opens : Opening lent text d t (Ok tt) first
  pub mid : List ℕ
  pub made : MadeAll first before mid
  pub search : Search
  pub next : List ℕ
  pub initializes : Initializing mid ss gs (Ok search) next
  pub chain : Chain next search acts es

-- ---- Demand 2: the Rust's code, made the same calls on the graph of the same text, answers the same

pub record Same (text : List ℕ) (d t : ℕ) (before : List Call) (ss gs : List ℕ) (acts : List Act) (es : List Event) : Type 0 where
  pub graph : Graph
  pub read : read_graph text ≡ answered graph
  pub same : es ≡ events_from (after_all (opened (direction_of d) graph t) before) ss gs acts

abbrev pub Demand2 : Type 0
Demand2 =
    (text : List ℕ) (d t : ℕ) (before : List Call) (ss gs : List ℕ) (acts : List Act) (es : List Event)
    → History text d t before ss gs acts es → Same text d t before ss gs acts es

-- ---- Demand 3: what is owed of a search holds of its own calls, whatever was called before and between; paths and totals are those of the
-- text's graph, in the graph's own direction

pub record Right (text : List ℕ) (d : ℕ) (ss gs : List ℕ) (es : List Event) : Type 0 where
  pub graph : Graph
  pub read : read_graph text ≡ answered graph
  pub owed : Owed (direction_of d) graph ss gs es

abbrev pub Demand3 : Type 0
Demand3 =
    (text : List ℕ) (d t : ℕ) (before : List Call) (ss gs : List ℕ) (acts : List Act) (es : List Event)
    → History text d t before ss gs acts es → Right text d ss gs es

-- ---- what is free: the arrangement of queue words, and nothing else

-- word j is one of the queue words in use in the slot of an entry, as a step on the words ws left them
pub record QueueWord (ws : List ℕ) (s : Search) (left : List ℕ) (j : ℕ) : Type 0 where
  pub which : ℕ
  pub is_entry : which < s.tree_count
  pub from : slot_at (vertices_in ws) (edges_in ws) (entry s which).tree + queue_at (edges_in ws) ≤ j
  pub below :
      let slot = slot_at (vertices_in ws) (edges_in ws) (entry s which).tree in
      j < slot + queue_at (edges_in ws) + get_or left (slot + queued_at) 0

-- every other word is the same, and so is the cache that the words hold: in the queue words the same nodes wait
pub record SameBut (ws : List ℕ) (s : Search) (left left' : List ℕ) : Type 0 where
  pub len : length left ≡ length left'
  pub word : (j : ℕ) → (QueueWord ws s left j → ⊥) → get_or left j 0 ≡ get_or left' j 0
  pub cache : read_cache left ≡ read_cache left'

-- the promise of `step` leaves no more open than that: what two steps from the same words and record promise
abbrev pub Determined : Type 0
Determined =
    (ws : List ℕ) (s : Search) (r r' : Stepped) (left left' : List ℕ) → Stepping ws s r left → Stepping ws s r' left'
    → (r ≡ r') × SameBut ws s left left'
