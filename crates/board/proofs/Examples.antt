-- The definitions of the board's calls, computed: each number that is answered, each limit at it and one past it.
-- Assumes nothing.
use mathlib.Core.Path.{◌≡◌, refl}
use mathlib.Core.Bool.{true, false}
use mathlib.Core.List.{[], ◌∷◌}
use Prim.Native.Nat.{ℕ}
use lib.ListN.{replicate}
use Rattle.model.specs.Answers.{answered, refused, waiting, solved, no_path}
use Rattle.model.specs.Demands.{stepped}
use Rattle.layout.specs.Layout.{needed}
use Rattle.layout.specs.Sound.{sound_wordsb}
use Rattle.board.specs.Board.{answer_number, answer_line, path_moves, answer_numbers, step_waits, strange, sizedb}
use Rattle.board.specs.Demands.{step_told, path_told, step_events}

-- ---- 0, or the refusal's number and its line

opened : answer_number {A = Unit {0}} (answered tt) ≡ 0
opened = refl

refused-3 : answer_number {A = Unit {0}} (refused 3 5) ≡ 3
refused-3 = refl

at-line-5 : answer_line {A = Unit {0}} (refused 3 5) ≡ 5
at-line-5 = refl

no_line : answer_line {A = Unit {0}} (answered tt) ≡ 0
no_line = refl

moves-2 : path_moves (answered 2) ≡ 2
moves-2 = refl

no-moves : path_moves (refused 10 0) ≡ 0
no-moves = refl

-- ---- the six numbers of a step, of many, of a whole search

step_waits_lem : answer_numbers (answered waiting) 1 3 false ≡ 1 ∷ 0 ∷ 0 ∷ 1 ∷ 3 ∷ 0 ∷ []
step_waits_lem = refl

search-solved : answer_numbers (answered (solved 7 2)) 5 4 true ≡ 2 ∷ 7 ∷ 2 ∷ 5 ∷ 4 ∷ 1 ∷ []
search-solved = refl

search-none : answer_numbers (answered no_path) 6 8 false ≡ 3 ∷ 0 ∷ 0 ∷ 6 ∷ 8 ∷ 0 ∷ []
search-none = refl

search-refused : answer_numbers (refused 7 0) 6 8 true ≡ 0 ∷ 0 ∷ 0 ∷ 0 ∷ 0 ∷ 0 ∷ []
search-refused = refl

one-wait : step_waits (answered waiting) ≡ 1
one-wait = refl

no-wait : step_waits (answered (solved 7 2)) ≡ 0
no-wait = refl

-- ---- and what they say

says-waiting : step_told 0 (1 ∷ 0 ∷ 0 ∷ 1 ∷ 3 ∷ 0 ∷ []) ≡ answered waiting
says-waiting = refl

says-solved : step_told 0 (2 ∷ 7 ∷ 2 ∷ 5 ∷ 4 ∷ 1 ∷ []) ≡ answered (solved 7 2)
says-solved = refl

says_none : step_told 0 (3 ∷ 0 ∷ 0 ∷ 6 ∷ 8 ∷ 0 ∷ []) ≡ answered no_path
says_none = refl

says-refused : step_told 8 (0 ∷ 0 ∷ 0 ∷ 0 ∷ 0 ∷ 0 ∷ []) ≡ refused 8 0
says-refused = refl

says-moves : path_told 0 2 ≡ answered 2
says-moves = refl

says-no-path : path_told 10 0 ≡ refused 10 0
says-no-path = refl

-- two steps waited, and the third answered; two waited, and no more were made
two-and-the-answer : step_events 0 (2 ∷ 7 ∷ 2 ∷ 2 ∷ 4 ∷ 0 ∷ []) ≡ stepped (answered waiting) ∷ stepped (answered waiting) ∷ stepped (answered (solved 7 2)) ∷ []
two-and-the-answer = refl

two-that-wait : step_events 0 (1 ∷ 0 ∷ 0 ∷ 2 ∷ 4 ∷ 0 ∷ []) ≡ stepped (answered waiting) ∷ stepped (answered waiting) ∷ []
two-that-wait = refl

-- ---- words that are no record: 7 before 8

strange-7 : strange [] ≡ 7
unfolding sound_wordsb
strange-7 = refl

-- an empty graph with one slot, just opened
strange-8 : strange (0 ∷ 0 ∷ 0 ∷ 1 ∷ 0 ∷ replicate {A = ℕ} 9 0) ≡ 8
unfolding sound_wordsb
strange-8 = refl

-- ---- "At most 1,024 motifs and 2,048 links"; "T tree slots, 1 to 64"

at-the-limits : sizedb 1024 2048 64 ≡ true
at-the-limits = refl

least-of-all : sizedb 0 0 1 ≡ true
least-of-all = refl

vertices-1025 : sizedb 1025 2048 64 ≡ false
vertices-1025 = refl

edges-2049 : sizedb 1024 2049 64 ≡ false
edges-2049 = refl

no-slots : sizedb 1024 2048 0 ≡ false
no-slots = refl

slots-65 : sizedb 1024 2048 65 ≡ false
slots-65 = refl

-- "6 + 2M + 4L + T × (8 + 5L + M)"
needed-two : needed 4 3 2 ≡ 80
needed-two = refl

needed-most : needed 1024 2048 64 ≡ 731654
needed-most = refl
