-- Demand 1, refused calls; and demand 3: lists of calls on a cache, the chain of one search's own steps and retraces among them, and what is owed of it.
-- Assumes nothing.
use Rattle.std.specs.Prelude.{◌≡◌, Bool, true, false, not, ◌||◌, List, [], ◌∷◌, ◌++◌, ℕ, suc, ◌+◌, ◌*◌, ◌<◌, ◌≤◌, eqb, ltb, length, get_or}
use Rattle.model.specs.declared.Search.{Search}
use Rattle.model.specs.Lists.{keep, mem}
use Rattle.model.specs.Answers.{Reply, answered, refused, Status, waiting, solved, no_path}
use Rattle.model.specs.Graph.{Graph, Accepted, Direction, forward, backward, absent, edge_count, path_words, total_cost, SearchPath}
use Rattle.model.specs.Search.{starts_of, empty_search}
use Rattle.model.specs.Calls.{Cache, opened, AfterInitialize, initialize, AfterStep, step, AfterRetrace, retrace, written}

-- ---- demand 1 on these values: "hold, after any refused call, what they held before it"; "Book, run slice and search stay as given"

-- a refused call of each kind, on any cache, sound or not, with any lists, record and slice; "0 where no chart line is at fault"
pub record RefusedInitialize (c : Cache) (line : ℕ) (r : AfterInitialize) : Type 0 where
  pub cache : r.cache ≡ c
  pub search : r.search ≡ empty_search
  pub lines : line ≡ 0

pub record RefusedStep (c : Cache) (s : Search) (line : ℕ) (r : AfterStep) : Type 0 where
  pub cache : r.cache ≡ c
  pub search : r.search ≡ s
  pub tickets : r.tickets ≡ 0
  pub lines : line ≡ 0

pub record RefusedRetrace (p : List ℕ) (line : ℕ) (r : AfterRetrace) : Type 0 where
  pub path : r.path ≡ p
  pub lines : line ≡ 0

abbrev pub Demand1 : Type 0
Demand1 =
    ((c : Cache) (ss gs : List ℕ) (n line : ℕ) → (initialize c ss gs).reply ≡ refused n line → RefusedInitialize c line (initialize c ss gs))
    × ((c : Cache) (s : Search) (n line : ℕ) → (step c s).reply ≡ refused n line → RefusedStep c s line (step c s))
    × ((c : Cache) (s : Search) (p : List ℕ) (n line : ℕ) → (retrace c s p).reply ≡ refused n line → RefusedRetrace p line (retrace c s p))

-- "Words past these stay.": a path of m moves fills 1 + 2 × m words of the slice p, and q is what p then holds
pub record Filled (p q : List ℕ) (m : ℕ) : Type 0 where
  pub fits : 1 + 2 * m ≤ length p
  pub same_length : length q ≡ length p
  pub past : (i : ℕ) → 1 + 2 * m ≤ i → get_or q i 0 ≡ get_or p i 0

-- ---- lists of calls

-- "opening a search with any start and wanted lists, and step and `retrace` with any record, strange ones too, and any run slice"; a call
-- that only reads the book, whatever it answers; and one that is made of two, one after the other
pub data Call : Type 0 where
  initializing : List ℕ → List ℕ → Call
  stepping : Search → Call
  retracing : Search → List ℕ → Call
  reading : Call
  both : Call → Call → Call

-- "each getting the book as the last one left it"
unfoldable pub after : Cache → Call → Cache
unfolding initialize step
after c (initializing ss gs) = (initialize c ss gs).cache
after c (stepping s) = (step c s).cache
after c (retracing s p) = c
after c reading = c
after c (both x y) = after (after c x) y

unfoldable pub after_all : Cache → List Call → Cache
unfolding after
after_all c [] = c
after_all c (x ∷ xs) = after_all (after c x) xs

-- "A search's own steps form a chain: the first is handed the record that its opening returned or left, each later one the record that
-- the one before it in the chain returned or left. Its own retraces are handed the record that its last step before them left". Any
-- other call stands between them, with whatever record: an equal one or an older copy too.
pub data Act : Type 0 where
  own_step : Act
  own_retrace : List ℕ → Act
  other : Call → Act

-- what an own call gives: a step its reply, a retrace the slice lent, with its reply and what the slice then holds
pub data Event : Type 0 where
  stepped : Reply Status → Event
  retraced : List ℕ → AfterRetrace → Event

unfoldable pub events : Cache → Search → List Act → List Event
unfolding after step retrace
events c s [] = []
events c s (own_step ∷ acts) = let r = step c s in stepped r.reply ∷ events r.cache r.search acts
events c s (own_retrace p ∷ acts) = retraced p (retrace c s p) ∷ events c s acts
events c s (other x ∷ acts) = events (after c x) s acts

-- the same said of a plain list of calls: a chain picks out of the list those calls that are handed the record it has come to, as many of
-- them as one likes; every other call stands between
pub data Chain : Cache → Search → List Call → List Event → Type 0 where
  ends : {c : Cache} {s : Search} → Chain c s [] []
  own-step : {c : Cache} {s : Search} {xs : List Call} {es : List Event} → Chain (step c s).cache (step c s).search xs es
      → Chain c s (stepping s ∷ xs) (stepped (step c s).reply ∷ es)
  own-retrace : {c : Cache} {s : Search} {p : List ℕ} {xs : List Call} {es : List Event} → Chain c s xs es
      → Chain c s (retracing s p ∷ xs) (retraced p (retrace c s p) ∷ es)
  between : {c : Cache} {s : Search} {x : Call} {xs : List Call} {es : List Event} → Chain (after c x) s xs es → Chain c s (x ∷ xs) es

-- ---- "at most 1 + trees × (1 + links) times"

-- the numbers of l that pass p, each once
unfoldable pub distinct : (ℕ → Bool) → List ℕ → List ℕ
unfolding mem
distinct p [] = []
distinct p (v ∷ vs) = keep (not (mem v vs || not (p v))) v (distinct p vs)

-- "its trees are, forward, the different starts with a start cost, backward the different wanted motifs"
abbrev pub trees_of : Direction → Graph → List ℕ → List ℕ → List ℕ
trees_of forward g ss gs = distinct (λ v. not (eqb (get_or g.initial v absent) absent)) (starts_of ss)
trees_of backward g ss gs = distinct (λ v. true) gs

unfoldable pub wait_limit : Direction → Graph → List ℕ → List ℕ → ℕ
unfolding distinct
wait_limit dir g ss gs = 1 + length (trees_of dir g ss gs) * (1 + edge_count g)

-- ---- the answer

-- no path, or a total, a path's first vertex and its edges
pub data Outcome : Type 0 where
  unreachable : Outcome
  reached : ℕ → ℕ → List ℕ → Outcome

-- "the run shown is such a run, the total answered is its total, and every other such run has at least as large a total"
pub record LeastPath (dir : Direction) (g : Graph) (ss gs : List ℕ) (k a : ℕ) (ls : List ℕ) : Type 0 where
  pub path : SearchPath dir g ss gs a ls
  pub totals : k ≡ total_cost dir g a ls
  pub least : (b : ℕ) (ms : List ℕ) → SearchPath dir g ss gs b ms → k ≤ total_cost dir g b ms

-- "The answer is none exactly when no run leads from its starts to its wanted motifs."
abbrev pub Right : Direction → Graph → List ℕ → List ℕ → Outcome → Type 0
Right dir g ss gs unreachable = (a : ℕ) (ls : List ℕ) → SearchPath dir g ss gs a ls → ⊥
Right dir g ss gs (reached k a ls) = LeastPath dir g ss gs k a ls

abbrev pub status_of : Outcome → Status
status_of unreachable = no_path
status_of (reached k a ls) = solved k (length ls)

abbrev pub not_solved : List ℕ → AfterRetrace
not_solved p = record { reply = refused 9 0; path = p }

abbrev pub shown_if : Bool → Graph → ℕ → List ℕ → List ℕ → AfterRetrace
shown_if true g a ls p = record { reply = refused 10 0; path = p }
shown_if false g a ls p = record { reply = answered (length ls); path = written (path_words g a ls) p }

-- "each own `retrace` with words enough shows the same run, with the moves answered"
abbrev pub shown_of : Graph → Outcome → List ℕ → AfterRetrace
shown_of g unreachable p = not_solved p
shown_of g (reached k a ls) p = shown_if (ltb (length p) (1 + 2 * length ls)) g a ls p

-- an event before the search is finished, and one after
abbrev pub Early : Event → Type 0
Early (stepped r) = r ≡ answered waiting
Early (retraced p r) = r ≡ not_solved p

abbrev pub Late : Graph → Outcome → Event → Type 0
Late g o (stepped r) = r ≡ answered (status_of o)
Late g o (retraced p r) = r ≡ shown_of g o p

abbrev pub Every : (Event → Type 0) → List Event → Type 0
Every P [] = Unit {0}
Every P (e ∷ es) = P e × Every P es

abbrev pub is_step : Event → ℕ → ℕ
is_step (stepped r) n = suc n
is_step (retraced p r) n = n

abbrev pub steps : List Event → ℕ
steps [] = 0
steps (e ∷ es) = is_step e (steps es)

-- "its steps first answer waiting, at most .. times, and then always the same, solved or none"
pub record Owed (dir : Direction) (g : Graph) (ss gs : List ℕ) (es : List Event) : Type 0 where
  pub first : List Event
  pub last : List Event
  pub outcome : Outcome
  pub split : es ≡ first ++ last
  pub early : Every Early first
  pub few : steps first ≤ wait_limit dir g ss gs
  pub late : Every (Late g outcome) last
  pub right : 0 < length last → Right dir g ss gs outcome

-- Demand 3, whole: on an accepted graph, in either direction, with any number of slots. `before` is the list of calls before the search is
-- opened, `acts` the list after it.
abbrev pub Demand3 : Type 0
Demand3 =
    (dir : Direction) (g : Graph) → Accepted g → (slots : ℕ) (before : List Call) (ss gs : List ℕ)
    → let r = initialize (after_all (opened dir g slots) before) ss gs in
    r.reply ≡ answered tt → (acts : List Act) → Owed dir g ss gs (events r.cache r.search acts)

-- the same of a plain list of calls and any chain in it
abbrev pub Demand3OfCalls : Type 0
Demand3OfCalls =
    (dir : Direction) (g : Graph) → Accepted g → (slots : ℕ) (before : List Call) (ss gs : List ℕ)
    → let r = initialize (after_all (opened dir g slots) before) ss gs in
    r.reply ≡ answered tt → (xs : List Call) (es : List Event) → Chain r.cache r.search xs es → Owed dir g ss gs es
