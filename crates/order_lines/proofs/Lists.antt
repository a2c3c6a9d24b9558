-- A list read number by number.
-- Assumes nothing.
use mathlib.Core.HLevel.{is_prop→PathP}
use mathlib.Core.Path.{◌≡◌, refl, sym, ap, ◌∙◌}
use mathlib.Core.List.{List, [], ◌∷◌, ◌++◌, map, map-append, append-nil, append_assoc}
use Prim.Native.Nat.{ℕ, zero, suc, ◌+◌, ◌-◌, ◌<◌, ◌≤◌, min}
use native.Mathlib.Omega.{arith}
use lib.ListN.{length, take, replicate, set, length-append}
use lib.Seq.{take_all, take-append-le}
use Rattle.std.specs.Prelude.{Some, None}
use Rattle.std.specs.Coded.{le_prop}
use Rattle.std.specs.declared.option.Option.{Option}
use Rattle.model.proofs.Filled.{set-filled}
use Rattle.text.specs.Bytes.{parted, number_of}
use Rattle.order_lines.specs.declared.numbers.Numbers.{Numbers}
use Rattle.order_lines.specs.Orders.{cons_if, numbers_of, handed, handed-few, numbers_in, list_by, list_of, Pushed}

-- ---- one number more

abbrev with_number : List ℕ → ℕ → List ℕ
with_number xs n = take 65 (xs ++ (min 4294967295 n ∷ []))

take-before : (k : ℕ) (xs ys : List ℕ) → take k (take k xs ++ ys) ≡ take k (xs ++ ys)
take-before zero xs ys = refl
take-before (suc k) [] ys = refl
take-before (suc k) (x ∷ xs) ys = ap (λ (l : List ℕ). x ∷ l) (take-before k xs ys)

with_in : (l : List ℕ) (n : ℕ) → with_number (handed l) n ≡ handed (l ++ (n ∷ []))
with_in l n =
    take-before 65 (map (min 4294967295) l) (min 4294967295 n ∷ [])
    ∙ ap (take 65) (sym (map-append (min 4294967295) l (n ∷ [])))

same_numbers : (x y : Numbers) → x.numbers ≡ y.numbers → x.count ≡ y.count → x ≡ y
same_numbers x y e f = λ i. record { numbers = e i; count = f i; within = is_prop→PathP (λ j. f j ≤ 65) (λ j. le_prop) x.within y.within i }

pub same_handed : (l m : List ℕ) → handed l ≡ handed m → numbers_in l ≡ numbers_in m
same_handed l m e = same_numbers (numbers_in l) (numbers_in m) (ap (λ (h : List ℕ). h ++ replicate (65 - length h) 0) e) (ap length e)

-- x: the numbers of l as they are kept
module _ (x : Numbers) (l : List ℕ) (e : x ≡ numbers_in l) (n : ℕ) where
  pub kept_more : (y : Numbers) → x.count < 65 → y.numbers ≡ set x.numbers x.count (min 4294967295 n) → y.count ≡ x.count + 1 → y ≡ numbers_in (l ++ (n ∷ []))
  kept_more y few words more =
      let m = handed l ++ (min 4294967295 n ∷ []) in
      let count : x.count ≡ length (handed l) = ap (λ (z : Numbers). z.count) e in
      let long : length m ≡ length (handed l) + 1 = length-append (handed l) (min 4294967295 n ∷ []) in
      let next : m ≡ handed (l ++ (n ∷ [])) = sym (take_all 65 m (omega arith)) ∙ with_in l n in
      same_numbers y (numbers_in (l ++ (n ∷ [])))
      (words ∙ rw (e, ← next) (set-filled 65 (handed l) (min 4294967295 n) 0 (omega arith)))
      (omega (arith, ap length next))

  pub kept_full : 65 ≤ x.count → x ≡ numbers_in (l ++ (n ∷ []))
  kept_full full =
      let count : x.count ≡ length (handed l) = ap (λ (z : Numbers). z.count) e in
      let same : handed l ≡ handed (l ++ (n ∷ [])) = sym (take_all 65 (handed l) (handed-few l)) ∙ sym (take-append-le 65 (handed l) (min 4294967295 n ∷ []) (omega arith)) ∙ with_in l n in
      e ∙ same_handed l (l ++ (n ∷ [])) same

-- ---- the pieces that are left

abbrev pub read_by : Option ℕ → (ℕ → Option Numbers) → Option Numbers
read_by None f = None
read_by (Some n) f = f n

-- a list read on from the numbers l
unfoldable pub list_from : List ℕ → List (List ℕ) → Option Numbers
unfolding number_of
list_from l [] = Some (numbers_in l)
list_from l (p ∷ ps) = read_by (number_of p) (λ n. list_from (l ++ (n ∷ [])) ps)

abbrev behind : List ℕ → Option (List ℕ) → Option (List ℕ)
behind l None = None
behind l (Some r) = Some (l ++ r)

from_in_lem : (l : List ℕ) (ps : List (List ℕ)) → list_from l ps ≡ list_by (behind l (numbers_of ps))
unfolding list_from numbers_of
from_in_lem l [] = ap (λ (m : List ℕ). Some (numbers_in m)) (sym (append-nil l))
from_in_lem l (p ∷ ps) = go (λ n. from_in_lem (l ++ (n ∷ [])) ps) (number_of p)
  where
    more : (n : ℕ) (o : Option (List ℕ)) → behind (l ++ (n ∷ [])) o ≡ behind l (cons_if (Some n) o)
    more n None = refl
    more n (Some r) = ap Some (append_assoc l (n ∷ []) r)

    go : ((n : ℕ) → list_from (l ++ (n ∷ [])) ps ≡ list_by (behind (l ++ (n ∷ [])) (numbers_of ps)))
        → (v : Option ℕ) → read_by v (λ n. list_from (l ++ (n ∷ [])) ps) ≡ list_by (behind l (cons_if v (numbers_of ps)))
    go r None = refl
    go r (Some n) = r n ∙ ap list_by (more n (numbers_of ps))

-- ---- the text of a list, parted by b

pub list-none : (b : ℕ) (l : List ℕ) {x : Numbers} → length l ≡ 0 → x ≡ numbers_in [] → Some x ≡ list_of b l
unfolding list_of
list-none b [] e none = ap Some none
list-none b (x ∷ l) e none = absurd (omega arith)

list-start : (b : ℕ) (l : List ℕ) → (length l ≡ 0 → ⊥) → list_of b l ≡ list_from [] (parted b l)
unfolding list_of
list-start b [] h = absurd (h refl)
list-start b (x ∷ l) h = sym (from_in_lem [] (parted b (x ∷ l)) ∙ ap list_by (go (numbers_of (parted b (x ∷ l)))))
  where
    go : (o : Option (List ℕ)) → behind [] o ≡ o
    go None = refl
    go (Some r) = refl

-- x: the numbers read; ps: the pieces behind them
pub record Reading (b : ℕ) (l : List ℕ) (x : Numbers) (ps : List (List ℕ)) : Type 0 where
  pub read : List ℕ
  pub kept : x ≡ numbers_in read
  pub left : list_of b l ≡ list_from read ps

pub reading-start : {b : ℕ} {l : List ℕ} {x : Numbers} {ps : List (List ℕ)} → (length l ≡ 0 → ⊥) → x ≡ numbers_in [] → ps ≡ parted b l → Reading b l x ps
reading-start {b} {l} h none e = record { read = []; kept = none; left = list-start b l h ∙ rw e }

-- p: the next piece
module _ {b : ℕ} {l : List ℕ} {x : Numbers} {p : List ℕ} {ps qs : List (List ℕ)} (r : Reading b l x ps) (e : ps ≡ p ∷ qs) where
  reading-by : list_of b l ≡ read_by (number_of p) (λ n. list_from (r.read ++ (n ∷ [])) qs)
  unfolding list_from
  reading-by = r.left ∙ rw e

  pub reading-none : number_of p ≡ None → None ≡ list_of b l
  reading-none q = sym (reading-by ∙ rw q)

  pub reading-next : {n : ℕ} {y : Numbers} → number_of p ≡ Some n → Pushed x n y → Reading b l y qs
  reading-next {n} q more = record { read = r.read ++ (n ∷ []); kept = more r.read r.kept; left = reading-by ∙ rw q }

pub reading-end : {b : ℕ} {l : List ℕ} {x : Numbers} {ps : List (List ℕ)} → Reading b l x ps → ps ≡ [] → Some x ≡ list_of b l
unfolding list_from
reading-end r e = sym (r.left ∙ rw (e, r.kept))
