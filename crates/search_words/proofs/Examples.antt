-- Records in words by computation: what stands where; and for each clause of the test words that this clause alone refuses, beside words with
-- the fault mended.
-- Assumes nothing.
use mathlib.Core.Path.{◌≡◌, refl}
use Rattle.std.specs.Prelude.{None, Some}
use mathlib.Core.Bool.{true, false}
use mathlib.Core.List.{List, [], ◌∷◌, ◌++◌}
use Prim.Native.Nat.{ℕ}
use lib.ListN.{set, take, drop, replicate}
use Rattle.model.specs.Calls.{written}
use Rattle.model.specs.Search.{blank, empty_search, as_best}
use Rattle.model.specs.declared.Search.{Search}
use Rattle.search_words.specs.Record.{record_words, encode, decode, is_record}

-- ---- what stands where

words-390 : record_words ≡ 390
words-390 = refl

abbrev zeros : List ℕ
zeros = replicate 390 0

empty : encode empty_search ≡ zeros
unfolding encode
empty = refl

-- an entry that knows a count and holds a node, one that does neither; two goals; finished
unfoldable pub sample : Search
sample =
    record {
      trees =
          record { tree = 3; last_known_closed_len = Some 7; solution = Some 9 } ∷ record { tree = 5; last_known_closed_len = None; solution = None } ∷ replicate 62 blank;
      tree_count = 2;
      goal_keys = 11 ∷ 12 ∷ 13 ∷ replicate 61 0;
      goal_count = 3;
      best_solution = as_best 0 9;
      exhausted = true;
    }

unfoldable pub sample_words : List ℕ
sample_words =
    -- the finished mark, how many entries, how many goals, the best
    1 ∷ 2 ∷ 3 ∷ 1 ∷ 0 ∷ 9
    -- the goals
    ∷ 11 ∷ 12 ∷ 13 ∷ (replicate 61 0
    -- the entries
    ++ (3 ∷ 1 ∷ 7 ∷ 1 ∷ 9
    ∷ 5 ∷ 0 ∷ 0 ∷ 0 ∷ 0
    ∷ replicate 310 0))

sample-encoded : encode sample ≡ sample_words
unfolding encode sample sample_words
sample-encoded = refl

sample-decoded : decode sample_words ≡ sample
unfolding decode sample sample_words
sample-decoded = refl

-- the last entry, and the last goal, of a search that counts no entry and no goal: an array is kept whole
abbrev last_ones : Search
last_ones =
    record {
      trees = set (replicate 64 blank) 63 (record { tree = 3; last_known_closed_len = Some 7; solution = Some 9 });
      tree_count = 0;
      goal_keys = set (replicate 64 0) 63 11;
      goal_count = 0;
      best_solution = None;
      exhausted = false;
    }

last-ones : drop 69 (encode last_ones) ≡ 11 ∷ (replicate 315 0 ++ (3 ∷ 1 ∷ 7 ∷ 1 ∷ 9 ∷ []))
unfolding encode
last-ones = refl

last-ones-decoded : decode (set (replicate 385 0) 69 11 ++ (3 ∷ 1 ∷ 7 ∷ 1 ∷ 9 ∷ [])) ≡ last_ones
unfolding decode
last-ones-decoded = refl

-- words past the record are not read, and stay
past-decoded : decode (sample_words ++ (7 ∷ [])) ≡ sample
unfolding decode sample sample_words
past-decoded = refl

past-stay : written (encode sample) (replicate 391 8) ≡ sample_words ++ (8 ∷ [])
unfolding encode sample sample_words
past-stay = refl

-- ---- which words are a record's

empty-passes : is_record zeros ≡ true
unfolding is_record
empty-passes = refl

sample-passes : is_record sample_words ≡ true
unfolding is_record sample_words
sample-passes = refl

past-passes : is_record (sample_words ++ (7 ∷ [])) ≡ true
unfolding is_record sample_words
past-passes = refl

one-word-short : is_record (take 389 sample_words) ≡ false
unfolding is_record sample_words
one-word-short = refl

mark-2 : (is_record (set zeros 0 2) ≡ false) × (is_record (set zeros 0 1) ≡ true)
unfolding is_record
mark-2 = (refl, refl)

best-tag-2 : (is_record (set zeros 3 2) ≡ false) × (is_record (set zeros 3 1) ≡ true)
unfolding is_record
best-tag-2 = (refl, refl)

-- no best, with an entry; with a node
no-best-entry : (is_record (set zeros 4 1) ≡ false) × (is_record (set (set zeros 4 1) 3 1) ≡ true)
unfolding is_record
no-best-entry = (refl, refl)

no-best-node : (is_record (set zeros 5 1) ≡ false) × (is_record (set (set zeros 5 1) 3 1) ≡ true)
unfolding is_record
no-best-node = (refl, refl)

-- of the first entry: the count's tag, and the node's
count-tag-2 : (is_record (set zeros 71 2) ≡ false) × (is_record (set zeros 71 1) ≡ true)
unfolding is_record
count-tag-2 = (refl, refl)

node-tag-2 : (is_record (set zeros 73 2) ≡ false) × (is_record (set zeros 73 1) ≡ true)
unfolding is_record
node-tag-2 = (refl, refl)

-- of the last entry: no count, with a number; no node, with one
no-count : (is_record (set zeros 387 1) ≡ false) × (is_record (set (set zeros 387 1) 386 1) ≡ true)
unfolding is_record
no-count = (refl, refl)

no_node : (is_record (set zeros 389 1) ≡ false) × (is_record (set (set zeros 389 1) 388 1) ≡ true)
unfolding is_record
no_node = (refl, refl)

-- numbers of every size pass: a record's words are not judged further
any-numbers : is_record (set (set (set zeros 1 4294967295) 2 4294967295) 70 4294967295) ≡ true
unfolding is_record
any-numbers = refl

-- ---- words that are no record's are read as one that is written as other words

number-lost : (decode (set zeros 4 1) ≡ empty_search) × (decode (set zeros 389 1) ≡ empty_search)
unfolding decode
number-lost = (refl, refl)

tag-lost : decode (set sample_words 71 2) ≡ sample
unfolding decode sample sample_words
tag-lost = refl

mark-lost : decode (set sample_words 0 2) ≡ sample
unfolding decode sample sample_words
mark-lost = refl

short-lost : decode (take 389 sample_words) ≡ sample
unfolding decode sample sample_words
short-lost = refl
