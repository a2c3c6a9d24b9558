-- `encode` and `decode` are inverse, and `is_record` says which words are a record's.
-- Assumes nothing.
use mathlib.Core.Path.{◌≡◌, refl, sym, ap, ap₂, ◌∙◌}
use mathlib.Core.Bool.{true}
use mathlib.Core.List.{List, [], ◌∷◌, ◌++◌, map, map-append, append_assoc}
use Prim.Native.Nat.{ℕ, zero, suc, ◌+◌, ◌*◌, ◌<◌, ◌≤◌}
use native.Mathlib.Omega.{arith}
use borrow.Author.Tests.{leb-true, le-leb}
use lib.Dec.{leb}
use lib.ListN.{length, get_or, take, drop, length-append, length-map, length-drop, get_or-append, take-append-drop}
use lib.Seq.{get_or-append-add, get_or-take, get_or-drop, ext_get_or, take_at, take-add, drop-drop, length-take-le}
use Rattle.model.specs.Limits.{list_limit}
use Rattle.model.specs.Lists.{numbers}
use Rattle.model.specs.Calls.{written}
use Rattle.model.specs.Search.{blank}
use Rattle.model.specs.declared.TreeMemory.{TreeMemory}
use Rattle.model.specs.declared.Search.{Search}
use Rattle.model.proofs.Bools.{and-true, true-and, all_true, true-given, upto-at, at-upto}
use Rattle.model.proofs.Demand1.{written-length}
use Rattle.model.proofs.Lists.{numbers-snoc, up-length, map-up-at}
use Rattle.search_words.specs.Record.{best_at, goals_at, entries_at, entry_at, entry_size, record_words, best_words, mark_word, entry_words, entries_words, encode, Arrays, option_of, best_of, mark_of, entry_in, decode, optionb, bestb, entryb, record_tests, is_record, Inverse, Encodes}
use Rattle.search_words.proofs.Stores.{entry_length, entries-snoc, record-length}
use Rattle.search_words.proofs.Tags.{option_written, best-written, mark-written, options-read, BestRead, best-read, mark-back, mark-passes}

-- ---- words in a row

-- the n words from a on, one by one
pub row : (n a : ℕ) (ws : List ℕ) → a + n ≤ length ws → take n (drop a ws) ≡ map (λ k. get_or ws (a + k) 0) (numbers n)
row n a ws h = ext_get_or 0 _ _ (long ∙ sym longs) at
  where
    word : ℕ → ℕ
    word k = get_or ws (a + k) 0

    long : length (take n (drop a ws)) ≡ n
    long = length-take-le n (drop a ws) (omega (arith, length-drop a ws))

    longs : length (map word (numbers n)) ≡ n
    longs = length-map (numbers n) word ∙ up-length n 0

    at : (i : ℕ) → i < length (take n (drop a ws)) → get_or (take n (drop a ws)) i 0 ≡ get_or (map word (numbers n)) i 0
    at i k =
        let l : i < n = omega (arith, long) in
        get_or-take n (drop a ws) i 0 l ∙ get_or-drop a ws i 0 ∙ sym (map-up-at word 0 n 0 i l ∙ ap word (omega arith))

-- ---- words that are read and written again

-- one entry
entry-again : (ws : List ℕ) (i : ℕ) → entry_at i + entry_size ≤ length ws → entryb ws i ≡ true → entry_words (entry_in ws i) ≡ take entry_size (drop (entry_at i) ws)
entry-again ws i h e =
    let at = entry_at i in
    let p = and-true (optionb (get_or ws (at + 1) 0) (get_or ws (at + 2) 0)) (optionb (get_or ws (at + 3) 0) (get_or ws (at + 4) 0)) e in
    ap₂ (λ (x y : List ℕ). get_or ws at 0 ∷ (x ++ y)) (option_written (get_or ws (at + 1) 0) (get_or ws (at + 2) 0) p.0) (option_written (get_or ws (at + 3) 0) (get_or ws (at + 4) 0) p.1)
    ∙ ap (λ (k : ℕ). get_or ws k 0 ∷ get_or ws (at + 1) 0 ∷ get_or ws (at + 2) 0 ∷ get_or ws (at + 3) 0 ∷ get_or ws (at + 4) 0 ∷ []) (omega arith)
    ∙ sym (row entry_size at ws h)

-- the first n entries
entries-again : (ws : List ℕ) (n : ℕ) → entry_at n ≤ length ws → ((i : ℕ) → i < n → entryb ws i ≡ true)
    → entries_words (map (entry_in ws) (numbers n)) ≡ take (entry_size * n) (drop entries_at ws)
unfolding entries_words
entries-again ws zero h f = refl
entries-again ws (suc n) h f =
    let more : entry_size * n + entry_size ≡ entry_size * suc n = omega arith in
    let ih = entries-again ws n (omega arith) (λ i k. f i (omega arith)) in
    ap entries_words (ap (map (entry_in ws)) (numbers-snoc n) ∙ map-append (entry_in ws) (numbers n) (n ∷ []))
    ∙ entries-snoc (map (entry_in ws) (numbers n)) (entry_in ws n)
    ∙ ap₂ (λ (x y : List ℕ). x ++ y) ih (entry-again ws n (omega arith) (f n (omega arith)) ∙ ap (take entry_size) (sym (drop-drop (entry_size * n) entries_at ws)))
    ∙ sym (take-add (entry_size * n) entry_size (drop entries_at ws))
    ∙ ap (λ (k : ℕ). take k (drop entries_at ws)) more

-- the whole record
again : (ws : List ℕ) → is_record ws ≡ true → encode (decode ws) ≡ take record_words ws
unfolding encode decode is_record
again ws e =
    let p = all_true (record_tests ws) e in
    let n : record_words ≤ length ws = leb-true record_words (length ws) p.0 in
    let entries = entries-again ws list_limit n (upto-at (entryb ws) list_limit p.1.1.1.0) in
    let best = best-written (get_or ws best_at 0) (get_or ws (best_at + 1) 0) (get_or ws (best_at + 2) 0) p.1.1.0 ∙ sym (row 3 best_at ws (omega arith)) in
    let mark = mark-written (get_or ws 0 0) (leb-true (get_or ws 0 0) 1 p.1.0) in
    let head = ap (λ (m : ℕ). m ∷ get_or ws 1 0 ∷ get_or ws 2 0 ∷ []) mark ∙ sym (row 3 0 ws (omega arith)) in
    ap₂ (λ (x y : List ℕ). x ++ y) head (ap₂ (λ (x y : List ℕ). x ++ (take list_limit (drop goals_at ws) ++ y)) best entries) ∙ sym (parts ws)
  where
    -- take 390 in four parts
    parts : (l : List ℕ) → take record_words l ≡ take 3 l ++ (take 3 (drop best_at l) ++ (take list_limit (drop goals_at l) ++ take 320 (drop entries_at l)))
    parts l =
        take-add 3 387 l
        ∙ ap (λ (x : List ℕ). take 3 l ++ x)
        (take-add 3 384 (drop 3 l)
        ∙ ap (λ (x : List ℕ). take 3 (drop 3 l) ++ take 384 x) (drop-drop 3 3 l)
        ∙ ap (λ (x : List ℕ). take 3 (drop 3 l) ++ x) (take-add 64 320 (drop 6 l) ∙ ap (λ (x : List ℕ). take 64 (drop 6 l) ++ take 320 x) (drop-drop 64 6 l)))

-- ---- a record that is written and read again

-- word k of entry i, in front of any words
entry-word : (es : List TreeMemory) (past : List ℕ) (i k : ℕ) → i < length es → k < entry_size → get_or (entries_words es ++ past) (entry_size * i + k) 0 ≡ get_or (entry_words (get_or es i blank)) k 0
unfolding entries_words
entry-word [] past i k h l = absurd (omega arith)
entry-word (e ∷ es) past zero k h l =
    let j : entry_size * zero + k ≡ k = omega arith in
    ap₂ (λ (x : List ℕ) (m : ℕ). get_or x m 0) (append_assoc (entry_words e) (entries_words es) past) j
    ∙ get_or-append (entry_words e) (entries_words es ++ past) 0 k (omega (arith, entry_length e))
entry-word (e ∷ es) past (suc i) k h l =
    let j : entry_size * suc i + k ≡ length (entry_words e) + (entry_size * i + k) = omega (arith, entry_length e) in
    ap₂ (λ (x : List ℕ) (m : ℕ). get_or x m 0) (append_assoc (entry_words e) (entries_words es) past) j
    ∙ get_or-append-add (entry_words e) (entries_words es ++ past) (entry_size * i + k) 0
    ∙ entry-word es past i k (omega arith) l

module _ (s : Search) (a : Arrays s) (past : List ℕ) where
  abbrev entries_past : List ℕ
  entries_past = entries_words s.trees ++ past

  abbrev goals_past : List ℕ
  goals_past = s.goal_keys ++ entries_past

  by_parts : encode s ++ past ≡ mark_word s.exhausted ∷ s.tree_count ∷ s.goal_count ∷ (best_words s.best_solution ++ goals_past)
  unfolding encode
  by_parts = simp append_assoc

  best : BestRead s.best_solution goals_past (best_words s.best_solution ++ goals_past)
  best = best-read s.best_solution goals_past

  from-goals : drop goals_at (encode s ++ past) ≡ goals_past
  from-goals = ap (drop goals_at) by_parts ∙ best.past

  word : (i k : ℕ) → i < list_limit → k < entry_size → get_or (encode s ++ past) (entry_at i + k) 0 ≡ get_or (entry_words (get_or s.trees i blank)) k 0
  word i k h l =
      let j = entry_size * i + k in
      let n = length s.goal_keys in
      let place : entry_at i + k ≡ goals_at + (n + j) = omega (arith, a.goals) in
      ap (λ (m : ℕ). get_or (encode s ++ past) m 0) place
      ∙ sym (get_or-drop goals_at (encode s ++ past) (n + j) 0)
      ∙ ap (λ (x : List ℕ). get_or x (n + j) 0) from-goals
      ∙ get_or-append-add s.goal_keys entries_past j 0
      ∙ entry-word s.trees past i k (omega (arith, a.trees)) l

  entry_read : (i : ℕ) → i < list_limit → entry_in (encode s ++ past) i ≡ get_or s.trees i blank
  entry_read i h =
      let e = get_or s.trees i blank in
      let r = options-read e.last_known_closed_len e.solution in
      let first : entry_at i ≡ entry_at i + 0 = omega arith in
      let tree = ap (λ (m : ℕ). get_or (encode s ++ past) m 0) first ∙ word i 0 h (omega arith) in
      let known = ap₂ option_of (word i 1 h (omega arith)) (word i 2 h (omega arith)) ∙ r.known in
      let solution = ap₂ option_of (word i 3 h (omega arith)) (word i 4 h (omega arith)) ∙ r.solution in
      λ x. record { tree = tree x; last_known_closed_len = known x; solution = solution x }

  entry-passes : (i : ℕ) → i < list_limit → entryb (encode s ++ past) i ≡ true
  entry-passes i h =
      let e = get_or s.trees i blank in
      let r = options-read e.last_known_closed_len e.solution in
      true-and _ _ (ap₂ optionb (word i 1 h (omega arith)) (word i 2 h (omega arith)) ∙ r.known_passes)
      (ap₂ optionb (word i 3 h (omega arith)) (word i 4 h (omega arith)) ∙ r.solution_passes)

  entries-read : map (entry_in (encode s ++ past)) (numbers list_limit) ≡ s.trees
  entries-read = ext_get_or blank _ s.trees (long ∙ sym a.trees) at
    where
      f : ℕ → TreeMemory
      f = entry_in (encode s ++ past)

      long : length (map f (numbers list_limit)) ≡ list_limit
      long = length-map (numbers list_limit) f ∙ up-length list_limit 0

      at : (i : ℕ) → i < length (map f (numbers list_limit)) → get_or (map f (numbers list_limit)) i blank ≡ get_or s.trees i blank
      at i k =
          let l : i < list_limit = omega (arith, long) in
          let j : 0 + i ≡ i = omega arith in
          map-up-at f blank list_limit 0 i l ∙ ap f j ∙ entry_read i l

  pub read_back : decode (encode s ++ past) ≡ s
  unfolding decode
  read_back =
      let goals = ap (take list_limit) from-goals ∙ take_at s.goal_keys entries_past list_limit a.goals in
      let mark = ap (λ (x : List ℕ). mark_of (get_or x 0 0)) by_parts ∙ mark-back s.exhausted in
      let trees-counted = ap (λ (x : List ℕ). get_or x 1 0) by_parts in
      let goals-counted = ap (λ (x : List ℕ). get_or x 2 0) by_parts in
      let held = ap (λ (x : List ℕ). best_of (get_or x 3 0) (get_or x 4 0) (get_or x 5 0)) by_parts ∙ best.reads in
      λ x. record {
        trees = entries-read x;
        tree_count = trees-counted x;
        goal_keys = goals x;
        goal_count = goals-counted x;
        best_solution = held x;
        exhausted = mark x;
      }

  pub passes : is_record (encode s ++ past) ≡ true
  unfolding is_record
  passes =
      let ws = encode s ++ past in
      let mark = ap (λ (x : List ℕ). leb (get_or x 0 0) 1) by_parts ∙ mark-passes s.exhausted in
      let held = ap (λ (x : List ℕ). bestb (get_or x 3 0) (get_or x 4 0) (get_or x 5 0)) by_parts ∙ best.passes in
      true-given (record_tests ws) (le-leb record_words (length ws) (omega (arith, length-append (encode s) past, record-length s a))) mark held
      (at-upto (entryb ws) list_limit entry-passes)

-- ---- inverse

pub arrays-read : (ws : List ℕ) → record_words ≤ length ws → Arrays (decode ws)
unfolding decode
arrays-read ws h = record {
  trees = length-map (numbers list_limit) (entry_in ws) ∙ up-length list_limit 0;
  goals = length-take-le list_limit (drop goals_at ws) (omega (arith, length-drop goals_at ws));
}

pub record-long : (ws : List ℕ) → is_record ws ≡ true → record_words ≤ length ws
unfolding is_record
record-long ws e = leb-true record_words (length ws) (all_true (record_tests ws) e).0

pub inverse : Inverse
inverse = record {
  decodes = read_back;
  encodes = again;
  long = record-length;
  arrays = arrays-read;
  exactly = λ ws. (
    (λ e. (decode ws, drop record_words ws, (arrays-read ws (record-long ws e), sym (ap (λ (x : List ℕ). x ++ drop record_words ws) (again ws e) ∙ take-append-drop record_words ws)))),
    (λ p. ap is_record p.2.1 ∙ passes p.0 p.2.0 p.1),
  );
}

-- ---- for users: a record in words that is read and written again, and what `encode` left

pub written-again : (ws : List ℕ) → is_record ws ≡ true → written (encode (decode ws)) ws ≡ ws
written-again ws e =
    let h = record-long ws e in
    let n = record-length (decode ws) (arrays-read ws h) in
    ap₂ (λ (x : List ℕ) (k : ℕ). x ++ drop k ws) (again ws e) n ∙ take-append-drop record_words ws

pub record Left (s : Search) (ws left : List ℕ) : Type 0 where
  pub reads : decode left ≡ s
  pub passes : is_record left ≡ true
  pub long : length left ≡ length ws

pub left_by : {s : Search} {ws left : List ℕ} → Encodes s ws left → record_words ≤ length ws → Left s ws left
left_by {s = s} {ws = ws} e h =
    let past = drop (length (encode s)) ws in
    let n = record-length s e.arrays in
    record {
      reads = ap decode e.words ∙ read_back s e.arrays past;
      passes = ap is_record e.words ∙ passes s e.arrays past;
      long = ap length e.words ∙ written-length (encode s) ws (omega arith);
    }
