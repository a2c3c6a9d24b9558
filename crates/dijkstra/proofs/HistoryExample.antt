-- A whole list of calls, computed: 01's chart opened from its bytes, the search of order 0 opened and stepped until it answers, another
-- search and two retraces among its steps. So `History` speaks of something, and demands 2 and 3 of its answers.
-- Assumes nothing.
use mathlib.Core.Path.{◌≡◌, refl, sym, ap, ◌∙◌}
use Rattle.std.specs.declared.result.Result.{Result}
use Rattle.model.specs.declared.Refusal.{Refusal}
use Rattle.model.specs.Search.{as_best}
use Rattle.std.specs.Prelude.{None, Some, Err, Ok}
use mathlib.Core.Bool.{true, false}
use mathlib.Core.List.{List, [], ◌∷◌, ◌++◌}
use Prim.Native.Nat.{ℕ, ◌+◌, ◌-◌, ◌<◌, ◌≤◌}
use native.Mathlib.Decide.{dec_le}
use native.Mathlib.Nat.{lt_of_not-le}
use native.Mathlib.Omega.{arith}
use lib.ListN.{length, get_or, replicate, length-append, get_or-append}
use lib.Seq.{get_or-append-add}
use Rattle.model.specs.declared.Refusal.TheVariants as refusal
use Rattle.model.specs.declared.Search.{Search}
use Rattle.model.specs.declared.SearchStatus.TheVariants.{Incomplete, Solved}
use Rattle.model.specs.declared.Stepped.{Stepped}
use Rattle.model.specs.Answers.{answered, refused, waiting, solved}
use Rattle.model.specs.Worth.{weight, solution_cost_of}
use Rattle.model.specs.Graph.{absent}
use Rattle.model.specs.Path.{path, words}
use Rattle.model.specs.Calls.{initialize, step, retrace}
use Rattle.model.specs.Demands.{initializing, Act, own_step, own_retrace, other, Event, stepped, retraced}
use Rattle.model.proofs.AlteredRecords.{memory, record_of}
use Rattle.text.specs.Bytes.{bytes}
use Rattle.text.proofs.Examples.{example_text}
use Rattle.layout.specs.Read.{read_cache}
use Rattle.layout.specs.Sound.{sound_wordsb}
use Rattle.cache.specs.Open.{Opening, open_cache}
use Rattle.layout.specs.Leaves.{InSlot, Apart}
use Rattle.layout.specs.Planted.{planted_all}
use Rattle.dijkstra.specs.Calls.{Initializing, Stepping, Retracing}
use Rattle.dijkstra.specs.Demands.{made_initialize, none_made, ends, own-step, own-retrace, between, History, Same, Right}
use Rattle.dijkstra.proofs.Demands.{demand-2, demand-3}

-- ---- the words: 55 of 7 are lent, of which one slot needs 53

-- of the graph, with n trees in use
unfoldable graph_words : ℕ → List ℕ
graph_words n =
    0 ∷ 4 ∷ 3 ∷ 1 ∷ n
    ∷ 0 ∷ 5 ∷ absent ∷ absent
    ∷ 0 ∷ 1 ∷ 4 ∷ 1 ∷ 2 ∷ 3 ∷ 0 ∷ 2 ∷ 9
    ∷ 0 ∷ 2 ∷ 3 ∷ 3 ∷ 3
    ∷ 0 ∷ 2 ∷ 1
    ∷ []

unfoldable cache_words : ℕ → List ℕ → List ℕ
unfolding graph_words
cache_words n slot = graph_words n ++ slot ++ (7 ∷ 7 ∷ [])

-- the tree of 0: new; after three tickets, where node 2 waits; after the fourth. Header, nodes, queue words, closed words
abbrev new_slot : List ℕ
new_slot = (0 ∷ 1 ∷ 1 ∷ 0 ∷ 0 ∷ absent ∷ absent ∷ []) ++ replicate 20 0

abbrev grown_slot : ℕ → ℕ → List ℕ
grown_slot count first =
    0 ∷ 4 ∷ count
    ∷ 0 ∷ 0 ∷ absent ∷ absent ∷ 1 ∷ 4 ∷ 0 ∷ 0 ∷ 2 ∷ 9 ∷ 0 ∷ 2 ∷ 2 ∷ 7 ∷ 1 ∷ 1
    ∷ first ∷ 0 ∷ 0 ∷ 0
    ∷ 1 ∷ 2 ∷ 4 ∷ 0
    ∷ []

unfoldable pub words0 : List ℕ
unfolding cache_words
words0 = cache_words 0 (replicate 27 0)

unfoldable pub words1 : List ℕ
unfolding cache_words
words1 = cache_words 1 new_slot

unfoldable pub words2 : List ℕ
unfolding cache_words
words2 = cache_words 1 (grown_slot 1 2)

unfoldable pub words3 : List ℕ
unfolding cache_words
words3 = cache_words 1 (grown_slot 0 0)

-- ---- the records: opened; the path to node 3 found; finished

abbrev pub opened_search : Search
opened_search = record_of (memory 0 None None ∷ []) (2 ∷ []) None false

abbrev pub found_search : Search
found_search = record_of (memory 0 (Some 3) (Some 3) ∷ []) (2 ∷ []) (as_best 0 3) false

abbrev pub finished_search : Search
finished_search = record_of (memory 0 (Some 3) (Some 3) ∷ []) (2 ∷ []) (as_best 0 3) true

-- ---- the calls

pub opens : Opening (replicate 55 7) (bytes example_text) 0 1 (Ok tt) words0
unfolding open_cache words0
opens = refl

abbrev pub opened0 : Result Search Refusal
opened0 = Ok opened_search

pub initializes : Initializing words0 (0 ∷ []) (2 ∷ []) opened0 words1
unfolding sound_wordsb words0 words1 initialize planted_all read_cache
initializes = record { answer = refl; search = refl; words = refl; cache = refl; sound = refl }

-- a step writes in the slot of its entry alone, which are the words 26 to 52
module _ (s : Search) (a b : List ℕ) where
  apart : length a ≡ 27 → length b ≡ 27 → ((j : ℕ) → 26 ≤ j → j < 53 → InSlot (cache_words 1 a) s j) → Apart (cache_words 1 a) s (cache_words 1 b)
  unfolding cache_words
  apart la lb inside = record {
    len = omega (arith, la, lb, length-append a (7 ∷ 7 ∷ []), length-append b (7 ∷ 7 ∷ []));
    word = λ j out. elim (dec_le 26 j) [
      | no h ↦ get_or-append (graph_words 1) (b ++ (7 ∷ 7 ∷ [])) 0 j (lt_of_not-le h) ∙ sym (get_or-append (graph_words 1) (a ++ (7 ∷ 7 ∷ [])) 0 j (lt_of_not-le h))
      | yes h ↦ elim (dec_le 53 j) [
        | no k ↦ absurd (out (inside j h (lt_of_not-le k)))
        | yes k ↦ past b lb j k ∙ sym (past a la j k)
      ]
    ];
  }
    where
      past : (c : List ℕ) → length c ≡ 27 → (j : ℕ) → 53 ≤ j → get_or (cache_words 1 c) j 0 ≡ get_or (7 ∷ 7 ∷ []) (j - 53) 0
      past c lc j k =
          let place : j ≡ 26 + (length c + (j - 53)) = omega (arith, lc) in
          ap (λ (i : ℕ). get_or (cache_words 1 c) i 0) place
          ∙ get_or-append-add (graph_words 1) (c ++ (7 ∷ 7 ∷ [])) (length c + (j - 53)) 0
          ∙ get_or-append-add c (7 ∷ 7 ∷ []) (j - 53) 0

abbrev pub waits : Search → ℕ → Stepped
waits s n = record { answer = Ok Incomplete; tickets = n; search = s }

pub step1 : Stepping words1 opened_search (waits found_search 3) words2
unfolding sound_wordsb words1 words2 step read_cache weight solution_cost_of
step1 = record {
  answer = refl;
  tickets = refl;
  search = refl;
  cache = refl;
  sound = refl;
  words = apart opened_search new_slot (grown_slot 1 2) refl refl (λ j p q. record { which = 0; is_entry = omega arith; from = p; below = q });
}

pub step2 : Stepping words2 found_search (waits finished_search 1) words3
unfolding sound_wordsb words2 words3 step read_cache weight solution_cost_of
step2 = record {
  answer = refl;
  tickets = refl;
  search = refl;
  cache = refl;
  sound = refl;
  words = apart found_search (grown_slot 1 2) (grown_slot 0 0) refl refl (λ j p q. record { which = 0; is_entry = omega arith; from = p; below = q });
}

abbrev pub solved7 : Stepped
solved7 = record { answer = Ok (Solved 7 2); tickets = 0; search = finished_search }

pub step3 : Stepping words3 finished_search solved7 words3
unfolding sound_wordsb words3 step read_cache path weight solution_cost_of
step3 = record { answer = refl; tickets = refl; search = refl; cache = refl; sound = refl; words = refl }

-- another search, from 0 to 1, shares the tree: no word changes
abbrev pub opened_between : Result Search Refusal
opened_between = Ok (record_of (memory 0 None None ∷ []) (1 ∷ []) None false)

pub initializes-between : Initializing words2 (0 ∷ []) (1 ∷ []) opened_between words2
unfolding sound_wordsb words2 initialize planted_all read_cache weight solution_cost_of
initializes-between = record { answer = refl; search = refl; words = refl; cache = refl; sound = refl }

abbrev pub slice : List ℕ
slice = replicate 7 7

not_yet : Retracing words2 found_search slice (Err refusal.NotSolved) slice
unfolding sound_wordsb words2 retrace read_cache weight solution_cost_of
not_yet = refl

abbrev pub shown : List ℕ
shown = 0 ∷ 0 ∷ 1 ∷ 1 ∷ 2 ∷ 7 ∷ 7 ∷ []

pub shows : Retracing words3 finished_search slice (Ok 2) shown
unfolding sound_wordsb words3 retrace read_cache path words weight solution_cost_of
shows = refl

-- ---- the whole list, and what the demands say of it

abbrev acts : List Act
acts = own_step ∷ other (initializing (0 ∷ []) (1 ∷ [])) ∷ own_retrace slice ∷ own_step ∷ own_step ∷ own_retrace slice ∷ []

abbrev events : List Event
events =
    stepped (answered waiting)
    ∷ retraced slice (record { reply = refused 9 0; path = slice })
    ∷ stepped (answered waiting)
    ∷ stepped (answered (solved 7 2))
    ∷ retraced slice (record { reply = answered 2; path = shown })
    ∷ []

pub history : History (bytes example_text) 0 1 [] (0 ∷ []) (2 ∷ []) acts events
history = record {
  lent = replicate 55 7;
  first = words0;
  opens = opens;
  mid = words0;
  made = none_made;
  search = opened_search;
  next = words1;
  initializes = initializes;
  chain =
      own-step (waits found_search 3) step1 (
      between (initializing (0 ∷ []) (1 ∷ [])) (made_initialize (0 ∷ []) (1 ∷ []) opened_between initializes-between) (
      own-retrace slice (Err refusal.NotSolved) slice not_yet (
      own-step (waits finished_search 1) step2 (
      own-step solved7 step3 (
      own-retrace slice (Ok 2) shown shows ends)))));
}

-- the Rust answers the same
pub same : Same (bytes example_text) 0 1 [] (0 ∷ []) (2 ∷ []) acts events
same = demand-2 (bytes example_text) 0 1 [] (0 ∷ []) (2 ∷ []) acts events history

-- and the answers are right: no path from 0 to 2 costs less than 7
pub right : Right (bytes example_text) 0 (0 ∷ []) (2 ∷ []) events
right = demand-3 (bytes example_text) 0 1 [] (0 ∷ []) (2 ∷ []) acts events history
