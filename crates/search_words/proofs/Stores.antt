-- Words stored one after the other.
-- Assumes nothing.
use mathlib.Core.Path.{◌≡◌, refl, sym, ap, ap₂, ◌∙◌}
use Rattle.std.specs.declared.option.Option.{Option}
use Rattle.std.specs.Prelude.{None, Some}
use mathlib.Core.Bool.{Bool, true, false}
use mathlib.Core.List.{List, [], ◌∷◌, ◌++◌, append-nil, append_assoc}
use Prim.Native.Nat.{ℕ, suc, ◌+◌, ◌*◌, ◌<◌, ◌≤◌}
use native.Mathlib.Numerals.{add-one}
use native.Mathlib.Omega.{arith}
use mir.Val.{bool_byte}
use lib.ListN.{length, get_or, set, take, drop, length-append, length-take, length-drop}
use borrow.Rule.Slice.PartMut.{put_mid, mid_of, post_of}
use lib.Seq.{sets, sets-eq, take-suc, length-take-le, drop-drop}
use Rattle.model.specs.Limits.{list_limit}
use Rattle.model.specs.Search.{blank}
use Rattle.model.specs.Calls.{written}
use Rattle.model.specs.declared.TreeMemory.{TreeMemory}
use Rattle.model.specs.declared.BestSolution.{BestSolution}
use Rattle.model.specs.declared.Search.{Search}
use Rattle.search_words.specs.Record.{best_at, goals_at, entries_at, entry_at, entry_size, record_words, option_words, best_words, mark_word, entry_words, entries_words, encode, Arrays}

-- ---- words stored

sets-append : (vs us l : List ℕ) (i : ℕ) → sets l i (vs ++ us) ≡ sets (sets l i vs) (i + length vs) us
sets-append [] us l i = ap (λ (k : ℕ). sets l k us) (omega arith)
sets-append (v ∷ vs) us l i =
    let e : suc i + length vs ≡ i + suc (length vs) = omega arith in
    sets-append vs us (set l i v) (suc i) ∙ ap (λ (k : ℕ). sets (sets (set l i v) (suc i) vs) k us) e

-- words xs copied into a part, as ys
pub copied : (a k : ℕ) (ws xs ys : List ℕ) → ys ≡ xs → length ys ≡ length (mid_of a k ws) → a + k ≤ length ws → put_mid a k ws ys ≡ sets ws a xs
copied a k ws xs ys e n h =
    let m : length xs ≡ k = omega (arith, ap length e, n, length-take k (drop a ws), length-drop a ws) in
    ap (λ (l : List ℕ). take a ws ++ (l ++ post_of a k ws)) e
    ∙ ap (λ (l : List ℕ). take a ws ++ (xs ++ l)) (drop-drop k a ws ∙ ap (λ (j : ℕ). drop (a + j) ws) (sym m))
    ∙ sym (sets-eq xs ws a (omega (arith, m)) ∙ append_assoc (take a ws) xs (drop (a + length xs) ws))

-- ---- the words of entries

pub entry_length : (e : TreeMemory) → length (entry_words e) ≡ entry_size
entry_length e = go e.last_known_closed_len e.solution
  where
    go : (k : Option ℕ) (o : Option ℕ) → suc (length (option_words k ++ option_words o)) ≡ entry_size
    go None None = refl
    go None (Some n) = refl
    go (Some m) None = refl
    go (Some m) (Some n) = refl

-- an entry's words, stored by parts
pub entry-stored : (ws l left : List ℕ) (at t : ℕ) (k : Option ℕ) (o : Option ℕ) → l ≡ sets (set ws at t) (at + 1) (option_words k) → left ≡ sets l (at + 3) (option_words o)
    → left ≡ sets ws at (t ∷ (option_words k ++ option_words o))
entry-stored ws l left at t k o e q = q ∙ ap (λ (x : List ℕ). sets x (at + 3) (option_words o)) e ∙ go (length-known k)
  where
    length-known : (x : Option ℕ) → length (option_words x) ≡ 2
    length-known None = refl
    length-known (Some n) = refl

    go : length (option_words k) ≡ 2 → sets (sets (set ws at t) (at + 1) (option_words k)) (at + 3) (option_words o) ≡ sets (set ws at t) (suc at) (option_words k ++ option_words o)
    go n =
        let i : at + 1 ≡ suc at = omega arith in
        let j : at + 3 ≡ suc at + length (option_words k) = omega arith in
        ap₂ (λ (x y : ℕ). sets (sets (set ws at t) x (option_words k)) y (option_words o)) i j ∙ sym (sets-append (option_words k) (option_words o) (set ws at t) (suc at))

pub entries-length : (es : List TreeMemory) → length (entries_words es) ≡ entry_size * length es
unfolding entries_words
entries-length [] = refl
entries-length (e ∷ es) = omega (arith, length-append (entry_words e) (entries_words es), entry_length e, entries-length es)

pub entries-snoc : (es : List TreeMemory) (e : TreeMemory) → entries_words (es ++ (e ∷ [])) ≡ entries_words es ++ entry_words e
unfolding entries_words
entries-snoc [] e = append-nil (entry_words e)
entries-snoc (x ∷ es) e = ap (λ (l : List ℕ). entry_words x ++ l) (entries-snoc es e) ∙ sym (append_assoc (entry_words x) (entries_words es) (entry_words e))

-- the words l are ws with those of the first i entries
pub record Stored (ws l : List ℕ) (es : List TreeMemory) (i : ℕ) : Type 0 where
  pub words : l ≡ sets ws entries_at (entries_words (take i es))
  pub long : length es ≡ list_limit

pub one_entry : {ws l left : List ℕ} {es : List TreeMemory} {i : ℕ} → Stored ws l es i → i < list_limit → left ≡ sets l (entry_at i) (entry_words (get_or es i blank))
    → Stored ws left es (i + 1)
one_entry {ws} {l} {left} {es} {i} s h e = record { long = s.long; words = words }
  where
    more : take (i + 1) es ≡ take i es ++ (get_or es i blank ∷ [])
    more = rw add-one (take-suc es i blank (omega (arith, s.long)))

    place : entry_at i ≡ entries_at + length (entries_words (take i es))
    place = omega (arith, entries-length (take i es), length-take-le i es (omega (arith, s.long)))

    words : left ≡ sets ws entries_at (entries_words (take (i + 1) es))
    words =
        e
        ∙ ap₂ (λ (x : List ℕ) (k : ℕ). sets x k (entry_words (get_or es i blank))) s.words place
        ∙ sym (sets-append (entries_words (take i es)) (entry_words (get_or es i blank)) ws entries_at)
        ∙ ap (sets ws entries_at) (sym (ap entries_words more ∙ entries-snoc (take i es) (get_or es i blank)))

-- ---- the words of a record

best-length : (b : Option BestSolution) → length (best_words b) ≡ 3
best-length None = refl
best-length (Some b) = refl

mark-stored : (b : Bool) → bool_byte b ≡ mark_word b
mark-stored false = refl
mark-stored true = refl

pub record-length : (s : Search) → Arrays s → length (encode s) ≡ record_words
unfolding encode
record-length s a =
    let b = best_words s.best_solution in
    omega (arith, length-append b (s.goal_keys ++ entries_words s.trees), length-append s.goal_keys (entries_words s.trees), best-length s.best_solution, entries-length s.trees, a.goals, a.trees)

-- a record's words, stored by parts
pub record-stored : (s : Search) (ws l m left : List ℕ) → Arrays s → record_words ≤ length ws
    → l ≡ sets (set (set (set ws 0 (bool_byte s.exhausted)) 1 s.tree_count) 2 s.goal_count) best_at (best_words s.best_solution)
    → m ≡ sets l goals_at s.goal_keys → left ≡ sets m entries_at (entries_words s.trees) → left ≡ written (encode s) ws
unfolding encode
record-stored s ws l m left a h p q r =
    let b = best_words s.best_solution in
    let g = s.goal_keys in
    let t = entries_words s.trees in
    let head = set (set (set ws 0 (mark_word s.exhausted)) 1 s.tree_count) 2 s.goal_count in
    let at_goals : goals_at ≡ best_at + length b = omega (arith, best-length s.best_solution) in
    let at_entries : entries_at ≡ goals_at + length g = omega (arith, a.goals) in
    let n = record-length s a in
    let past : 0 + length (encode s) ≡ length (encode s) = omega arith in
    r ∙ ap (λ (x : List ℕ). sets x entries_at t) (q ∙ ap (λ (x : List ℕ). sets x goals_at g) (p ∙ ap (λ (x : ℕ). sets (set (set (set ws 0 x) 1 s.tree_count) 2 s.goal_count) best_at b) (mark-stored s.exhausted)))
    ∙ ap (λ (k : ℕ). sets (sets (sets head best_at b) goals_at g) k t) at_entries
    ∙ sym (sets-append g t (sets head best_at b) goals_at)
    ∙ ap (λ (k : ℕ). sets (sets head best_at b) k (g ++ t)) at_goals
    ∙ sym (sets-append b (g ++ t) head best_at)
    ∙ sets-eq (encode s) ws 0 (omega arith)
    ∙ ap (λ (k : ℕ). encode s ++ drop k ws) past
