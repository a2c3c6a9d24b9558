-- One vertex marked and listed.
-- Assumes nothing.
use mathlib.Core.Path.{◌≡◌, refl, sym, ap, ◌∙◌, subst}
use mathlib.Core.Logic.{◌⊎◌, inl, inr}
use mathlib.Core.Bool.{Bool, true, false}
use mathlib.Core.List.{List, [], ◌∷◌, ◌++◌}
use Prim.Native.Nat.{ℕ, ◌+◌, ◌<◌}
use native.Mathlib.Decide.{ℕ_discrete}
use native.Mathlib.Omega.{arith}
use lib.ListN.{length, get_or, set, length-set, length-append, get_or-append}
use lib.Seq.{get_or-set_same, get_or-append_seam}
use Rattle.model.specs.Limits.{vertex_limit}
use Rattle.model.specs.Graph.{Graph, vertex_count}
use Rattle.reach.specs.Reach.{Reachable}
use Rattle.reach.specs.Walk.{mark_count, Listed, MarksOne, Explored}
use Rattle.reach.proofs.Marks.{count-le, count-new, set-marks, grows-set}

module _ {m : List Bool} {l : List ℕ} {v : ℕ} (h : Listed m l) (inside : v < vertex_limit) where
  module _ (free : get_or m v false ≡ false) where
    in-marks : v < length m
    in-marks = omega (arith, h.marks)

    counts : length l + 1 ≡ mark_count (set m v true)
    counts = omega (arith, h.count, count-new m v in-marks free)

    -- an unmarked vertex leaves room
    pub room : length l < vertex_limit
    room = omega (arith, counts, count-le (set m v true), length-set m v true, h.marks)

    abbrev more : List ℕ
    more = l ++ v ∷ []

    last : get_or more (length l) 0 ≡ v
    last = get_or-append_seam l v [] 0

    before : (i : ℕ) → i < length l → get_or more i 0 ≡ get_or l i 0
    before i b = get_or-append l (v ∷ []) 0 i b

    longer : length more ≡ length l + 1
    longer = length-append l (v ∷ [])

    new-listed : Listed (set m v true) more
    new-listed = record {
      marks = length-set m v true ∙ h.marks;
      count = longer ∙ counts;
      marked = λ i b. elim (ℕ_discrete i (length l)) [
        | yes e ↦ ap (λ (x : ℕ). get_or (set m v true) x false) (ap (λ (x : ℕ). get_or more x 0) e ∙ last) ∙ get_or-set_same m v true false in-marks
        | no n ↦
            let lower : i < length l = omega (arith, longer) in
            ap (λ (x : ℕ). get_or (set m v true) x false) (before i lower) ∙ (grows-set m v).stay (get_or l i 0) (h.marked i lower)
      ];
      place = λ x o. elim (set-marks m v x o) [
        | inl e ↦ (length l, omega (arith, longer), last ∙ sym e)
        | inr k ↦ let p = h.place x k in (p.0, omega (arith, p.1, longer), before p.0 p.1 ∙ p.2)
      ];
    }

    pub mark-new : {l' : List ℕ} → l' ≡ l ++ v ∷ [] → MarksOne m l v (set m v true) l'
    mark-new e = rw e (record { marks = refl; listed = new-listed; more = omega (arith, longer); keeps = before })

-- ---- one vertex marked that a path leads to

module _ {g : Graph} {m m' : List Bool} {l l' : List ℕ} {v : ℕ} (h : Explored g m l) (one : MarksOne m l v m' l') where
  pub one-stays : (x : ℕ) → get_or m x false ≡ true → get_or m' x false ≡ true
  one-stays x o = rw one.marks ((grows-set m v).stay x o)

  pub one-marked : v < vertex_limit → get_or m' v false ≡ true
  one-marked b = ap (λ (n : List Bool). get_or n v false) one.marks ∙ get_or-set_same m v true false (omega (arith, h.listed.marks))

  came : (x : ℕ) → get_or m' x false ≡ true → (x ≡ v) ⊎ (get_or m x false ≡ true)
  came x o = set-marks m v x (ap (λ (n : List Bool). get_or n x false) (sym one.marks) ∙ o)

  pub one-explored : v < vertex_count g → Reachable g v → Explored g m' l'
  one-explored b r = record {
    listed = one.listed;
    inside = λ x o. elim (came x o) [ inl e ↦ omega arith | inr k ↦ h.inside x k ];
    reached = λ x o. elim (came x o) [ inl e ↦ subst (Reachable g) (sym e) r | inr k ↦ h.reached x k ];
  }
