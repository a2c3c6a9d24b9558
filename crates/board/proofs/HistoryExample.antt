-- A whole list of the board's calls, computed: 01's chart opened from its bytes, the search of order 0 opened, stepped three times and retraced,
-- its record kept in words; between its steps a call is handed words that are no record, and refused.
-- Assumes nothing.
use mathlib.Core.Path.{refl, sym, subst}
use Rattle.std.specs.Prelude.{Ok}
use mathlib.Core.List.{List, [], ◌∷◌}
use Prim.Native.Nat.{ℕ, ◌≤◌}
use native.Mathlib.Omega.{arith}
use lib.ListN.{length, replicate, length-replicate}
use Rattle.model.specs.declared.Search.{Search}
use Rattle.model.specs.Worth.{evaluation_of, weight}
use Rattle.model.specs.Answers.{answered, waiting, solved}
use Rattle.model.specs.Calls.{written}
use Rattle.model.specs.Demands.{reading, Act, own_step, own_retrace, other, Event, stepped, retraced}
use Rattle.text.specs.Bytes.{bytes}
use Rattle.text.proofs.Examples.{example_text}
use Rattle.layout.specs.Sound.{sound_wordsb}
use Rattle.search_words.specs.Record.{record_words, encode, is_record, Encodes}
use Rattle.search_words.proofs.Inverse.{Left, left_by}
use Rattle.dijkstra.specs.Calls.{Stepping, Retracing}
use Rattle.dijkstra.specs.Demands.{Same, Right}
use Rattle.dijkstra.proofs.HistoryExample.{words0, words1, words2, words3, opened_search, found_search, finished_search, opens, opened0, initializes, waits, step1, step2, solved7, step3, slice, shown, shows}
use Rattle.board.specs.Board.{no_numbers, InitializeCalled, StepCalled, RetraceCalled}
use Rattle.board.specs.Board as board
use Rattle.board.specs.Demands.{called_step, called_retrace, none_called, Chain, ends, own_call, between, by_initialize, History}
use Rattle.board.proofs.Demands.{demand-2, demand-3}

-- ---- the record's words: as they were lent, and after the opening and each step

abbrev lent : List ℕ
lent = replicate {A = ℕ} 390 7

abbrev record1 : List ℕ
record1 = written (encode opened_search) lent

abbrev record2 : List ℕ
record2 = written (encode found_search) record1

abbrev record3 : List ℕ
record3 = written (encode finished_search) record2

abbrev record4 : List ℕ
record4 = written (encode finished_search) record3

room : record_words ≤ length lent
room = omega (arith, length-replicate {A = ℕ} 390 7)

encodes1 : Encodes opened_search lent record1
encodes1 = record { arrays = record { trees = refl; goals = refl }; words = refl }

held1 : Left opened_search lent record1
held1 = left_by encodes1 room

encodes2 : Encodes found_search record1 record2
encodes2 = record { arrays = record { trees = refl; goals = refl }; words = refl }

held2 : Left found_search record1 record2
held2 = left_by encodes2 (omega (arith, room, held1.long))

encodes3 : Encodes finished_search record2 record3
encodes3 = record { arrays = record { trees = refl; goals = refl }; words = refl }

held3 : Left finished_search record2 record3
held3 = left_by encodes3 (omega (arith, room, held1.long, held2.long))

encodes4 : Encodes finished_search record3 record4
encodes4 = record { arrays = record { trees = refl; goals = refl }; words = refl }

held4 : Left finished_search record3 record4
held4 = left_by encodes4 (omega (arith, room, held1.long, held2.long, held3.long))

-- ---- the calls

initialized : InitializeCalled words0 (0 ∷ []) (2 ∷ []) lent 0 words1 record1
initialized = board.initialized room opened0 initializes refl encodes1

first : StepCalled words1 record1 0 (1 ∷ 0 ∷ 0 ∷ 1 ∷ 3 ∷ 0 ∷ []) words2 record2
first = board.stepped held1.passes (waits found_search 3) (subst (λ (s : Search). Stepping words1 s (waits found_search 3) words2) (sym held1.reads) step1) refl refl encodes2

no_record : StepCalled words2 [] 8 no_numbers words2 []
unfolding is_record sound_wordsb words2 evaluation_of weight
no_record = board.no_record refl refl refl refl refl

second : StepCalled words2 record2 0 (1 ∷ 0 ∷ 0 ∷ 1 ∷ 1 ∷ 0 ∷ []) words3 record3
second =
    board.stepped held2.passes (waits finished_search 1) (subst (λ (s : Search). Stepping words2 s (waits finished_search 1) words3) (sym held2.reads) step2) refl refl encodes3

third : StepCalled words3 record3 0 (2 ∷ 7 ∷ 2 ∷ 0 ∷ 0 ∷ 0 ∷ []) words3 record4
third = board.stepped held3.passes solved7 (subst (λ (s : Search). Stepping words3 s solved7 words3) (sym held3.reads) step3) refl refl encodes4

shows-path : RetraceCalled words3 record4 slice 0 2 shown
shows-path =
    board.retraced held4.passes (Ok 2) (subst (λ (s : Search). Retracing words3 s slice (Ok 2) shown) (sym held4.reads) shows) refl refl

-- ---- the whole list, and what the demands say of it

abbrev acts : List Act
acts = own_step ∷ other reading ∷ own_step ∷ own_step ∷ own_retrace slice ∷ []

abbrev events : List Event
events =
    stepped (answered waiting)
    ∷ stepped (answered waiting)
    ∷ stepped (answered (solved 7 2))
    ∷ retraced slice (record { reply = answered 2; path = shown })
    ∷ []

unfoldable chain : Chain words1 record1 acts events
unfolding no_record
chain =
    own_call (called_step record1 0 _ record2 first) (
    between reading (called_step [] 8 no_numbers [] no_record) (
    own_call (called_step record2 0 _ record3 second) (
    own_call (called_step record3 0 _ record4 third) (
    own_call (called_retrace record4 slice 0 2 shown shows-path) ends))))

pub history : History (bytes example_text) 0 1 [] (0 ∷ []) (2 ∷ []) acts events
history = record {
  lent = _;
  line = 0;
  first = words0;
  opens = record { answer = Ok tt; call = opens; number = refl; lines = refl };
  mid = words0;
  called = none_called;
  searched = by_initialize initialized chain;
}

-- the Rust answers the same
pub same : Same (bytes example_text) 0 1 [] (0 ∷ []) (2 ∷ []) acts events
same = demand-2 (bytes example_text) 0 1 [] (0 ∷ []) (2 ∷ []) acts events history

-- and the answers are right: no path from 0 to 2 costs less than 7
pub right : Right (bytes example_text) 0 (0 ∷ []) (2 ∷ []) events
right = demand-3 (bytes example_text) 0 1 [] (0 ∷ []) (2 ∷ []) acts events history
