-- A search record in words that a board lends: a caller that has no struct of this shape keeps its record as 390 words.
-- Assumes nothing.
use Rattle.std.specs.Prelude.{◌≡◌, ◌↔◌, Bool, true, false, ◌&&◌, ◌||◌, List, [], ◌∷◌, ◌++◌, map, ℕ, zero, suc, ◌+◌, ◌*◌, ◌≤◌, eqb, leb, length, get_or, take, drop, None, Some}
use Rattle.model.specs.Search.{as_best}
use Rattle.std.specs.declared.option.Option.{Option}
use Rattle.model.specs.Limits.{list_limit}
use Rattle.model.specs.Lists.{numbers, allb, upto}
use Rattle.model.specs.Calls.{written}
use Rattle.model.specs.declared.BestSolution.{BestSolution}
use Rattle.model.specs.declared.TreeMemory.{TreeMemory}
use Rattle.model.specs.declared.Search.{Search}

-- ---- where each word stands: the finished mark, how many entries, how many goals, the best; then 64 goals; then 64 entries of 5 words

abbrev pub entry_count_at : ℕ
entry_count_at = 1

abbrev pub goal_count_at : ℕ
goal_count_at = 2

abbrev pub best_at : ℕ
best_at = 3

abbrev pub goals_at : ℕ
goals_at = 6

abbrev pub entries_at : ℕ
entries_at = goals_at + list_limit

abbrev pub entry_size : ℕ
entry_size = 5

abbrev pub entry_at : ℕ → ℕ
entry_at i = entries_at + entry_size * i

abbrev pub record_words : ℕ
record_words = entry_at list_limit

-- ---- a record as words: what may be absent is 0 and 0s, or 1 and its numbers

abbrev pub option_words : Option ℕ → List ℕ
option_words None = 0 ∷ 0 ∷ []
option_words (Some n) = 1 ∷ n ∷ []

abbrev pub best_words : Option BestSolution → List ℕ
best_words None = 0 ∷ 0 ∷ 0 ∷ []
best_words (Some b) = 1 ∷ b.entry ∷ b.node ∷ []

abbrev pub mark_word : Bool → ℕ
mark_word false = 0
mark_word true = 1

abbrev pub entry_words : TreeMemory → List ℕ
entry_words e = e.tree ∷ (option_words e.last_known_closed_len ++ option_words e.solution)

unfoldable pub entries_words : List TreeMemory → List ℕ
entries_words [] = []
entries_words (e ∷ es) = entry_words e ++ entries_words es

unfoldable pub encode : Search → List ℕ
unfolding entries_words
encode s =
    mark_word s.exhausted ∷ s.tree_count ∷ s.goal_count
    ∷ (best_words s.best_solution ++ (s.goal_keys ++ entries_words s.trees))

-- the arrays have 64 each, as those of every `Search` of the code
pub record Arrays (s : Search) : Type 0 where
  pub trees : length s.trees ≡ list_limit
  pub goals : length s.goal_keys ≡ list_limit

-- ---- words as a record

abbrev pub option_of : ℕ → ℕ → Option ℕ
option_of zero n = None
option_of (suc k) n = Some n

abbrev pub best_of : ℕ → ℕ → ℕ → Option BestSolution
best_of zero i n = None
best_of (suc k) i n = as_best i n

abbrev pub mark_of : ℕ → Bool
mark_of zero = false
mark_of (suc k) = true

abbrev pub entry_in : List ℕ → ℕ → TreeMemory
entry_in ws i =
    let at = entry_at i in
    record {
      tree = get_or ws at 0;
      last_known_closed_len = option_of (get_or ws (at + 1) 0) (get_or ws (at + 2) 0);
      solution = option_of (get_or ws (at + 3) 0) (get_or ws (at + 4) 0);
    }

unfoldable pub decode : List ℕ → Search
decode ws =
    record {
      trees = map (entry_in ws) (numbers list_limit);
      tree_count = get_or ws entry_count_at 0;
      goal_keys = take list_limit (drop goals_at ws);
      goal_count = get_or ws goal_count_at 0;
      best_solution = best_of (get_or ws best_at 0) (get_or ws (best_at + 1) 0) (get_or ws (best_at + 2) 0);
      exhausted = mark_of (get_or ws 0 0);
    }

-- ---- which words are a record's: "words that are the encoding of no record, or too few, are refused 8"

-- the tag is 0 and the numbers are all 0, or it is 1
abbrev pub tagb : ℕ → Bool → Bool
tagb k zeros = (eqb k 0 && zeros) || eqb k 1

abbrev pub optionb : ℕ → ℕ → Bool
optionb k n = tagb k (eqb n 0)

abbrev pub bestb : ℕ → ℕ → ℕ → Bool
bestb k i n = tagb k (eqb i 0 && eqb n 0)

abbrev pub entryb : List ℕ → ℕ → Bool
entryb ws i =
    let at = entry_at i in
    optionb (get_or ws (at + 1) 0) (get_or ws (at + 2) 0) && optionb (get_or ws (at + 3) 0) (get_or ws (at + 4) 0)

abbrev pub record_tests : List ℕ → List Bool
record_tests ws =
    leb record_words (length ws)
    ∷ leb (get_or ws 0 0) 1
    ∷ bestb (get_or ws best_at 0) (get_or ws (best_at + 1) 0) (get_or ws (best_at + 2) 0)
    ∷ upto (entryb ws) list_limit
    ∷ []

unfoldable pub is_record : List ℕ → Bool
unfolding upto
is_record ws = allb (record_tests ws)

-- ---- the two are inverse, and the test says exactly which words are a record's

pub record Inverse : Type 0 where
  pub decodes : (s : Search) → Arrays s → (past : List ℕ) → decode (encode s ++ past) ≡ s
  pub encodes : (ws : List ℕ) → is_record ws ≡ true → encode (decode ws) ≡ take record_words ws
  pub long : (s : Search) → Arrays s → length (encode s) ≡ record_words
  pub arrays : (ws : List ℕ) → record_words ≤ length ws → Arrays (decode ws)
  pub exactly : (ws : List ℕ) → (is_record ws ≡ true) ↔ ((s : Search) × (past : List ℕ) × (Arrays s × (ws ≡ encode s ++ past)))

-- ---- what the code promises

-- the words with the record s in front; words past these stay
pub record Encodes (s : Search) (ws left : List ℕ) : Type 0 where
  pub arrays : Arrays s
  pub words : left ≡ written (encode s) ws
