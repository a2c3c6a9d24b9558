-- A refused call of `plan` has changed nothing, and it is refused by 7, 4, 3 and 6 alone: once its search was opened it answers.
-- Assumes nothing.
use mathlib.Core.Path.{◌≡◌, refl, sym, ap, ◌∙◌, subst}
use Rattle.std.proofs.lemmas.Option.{none-some}
use Rattle.std.specs.declared.option.Option.{Option}
use Rattle.std.specs.Prelude.{None, Some, Err}
use mathlib.Core.Bool.{Bool, true, false}
use mathlib.Core.List.{List, [], ◌∷◌}
use Prim.Native.Nat.{ℕ}
use Rattle.model.specs.declared.Planned.{Planned}
use Rattle.model.specs.declared.Refusal.{Refusal}
use Rattle.model.specs.Answers.{refused, number, step_reply}
use Rattle.model.specs.Search.{empty_search}
use Rattle.model.specs.Calls.{Cache, Fault, or_else, first_fault, initialize_faults, initialize_by, initialize}
use Rattle.model.proofs.Replies.{refusal_of, refusal_is, answered-refused}
use Rattle.layout.specs.Read.{read_cache}
use Rattle.layout.specs.Sound.{sound_wordsb}
use Rattle.dijkstra.specs.Calls.{initialize_if}
use Rattle.dijkstra.proofs.Demand1 as calls
use Rattle.planner.specs.Plan.{CallsMade, not_opened, to_the_end, MayRefuse, Demand1}
use Rattle.planner.proofs.Planned.{refused-is}
use Rattle.planner.proofs.Ended.{end-told}

-- ---- the refusals of an opening

abbrev May : ℕ → Type 0
May n = MayRefuse (refusal_of n)

abbrev EveryMay : List Fault → Type 0
EveryMay [] = Unit {0}
EveryMay (f ∷ fs) = May f.number × EveryMay fs

or-may : (b : Bool) (m : ℕ) (o : Option ℕ) (n : ℕ) → May m → (o ≡ Some n → May n) → or_else b m o ≡ Some n → May n
or-may true m o n h rest e = let z : m ≡ n = cc in subst May z h
or-may false m o n h rest e = rest e

first-may : (fs : List Fault) → EveryMay fs → (n : ℕ) → first_fault fs ≡ Some n → May n
first-may [] h n e = absurd (none-some n e)
first-may (f ∷ fs) h n e = or-may f.given f.number (first_fault fs) n h.0 (λ z. first-may fs h.1 n z) e

fault-is : (o : Option ℕ) (c : Cache) (ss gs : List ℕ) (n line : ℕ) → (initialize_by o c ss gs).reply ≡ refused n line → o ≡ Some n
fault-is None c ss gs n line e = absurd (answered-refused tt n line e)
fault-is (Some m) c ss gs n line e = let z : m ≡ n = cc in ap Some z

opening-may : (b : Bool) (c : Cache) (ss gs : List ℕ) (n line : ℕ) → (initialize_if b c ss gs).reply ≡ refused n line → May n
unfolding initialize
opening-may true c ss gs n line e = first-may (initialize_faults c ss gs) (tt, (tt, (tt, tt))) n (fault-is (first_fault (initialize_faults c ss gs)) c ss gs n line e)
opening-may false c ss gs n line e = let z : 7 ≡ n = cc in subst May z tt

-- ---- the whole

module _ (ws ss gs p : List ℕ) (f : Refusal) where
  refused-leaves : {r : Planned} {left q : List ℕ} → CallsMade ws ss gs p r left q → step_reply r.answer ≡ refused (number f) 0
      → (left ≡ ws) × (q ≡ p) × (r.search ≡ empty_search) × (r.has_path ≡ false) × (r.waits ≡ 0) × (r.tickets ≡ 0)
      × (step_reply r.answer ≡ refused (number f) 0) × MayRefuse f
  refused-leaves (not_opened {left = left} g i) told =
      let same : number g ≡ number f = cc in
      let may : May (number g) = opening-may (sound_wordsb ws) (read_cache ws) ss gs (number g) 0 (refused-is ws ss gs p i) in
      (((calls.demand-1).0 ws ss gs (Err g) left i g refl).0, refl, refl, refl, refl, refl, told, subst MayRefuse (refusal_is f) (subst May same may))
  refused-leaves (to_the_end x e t i s k) told = absurd (answered-refused _ (number f) 0 (sym (end-told ws ss gs p i s) ∙ told))

pub demand-1 : Demand1
demand-1 ws ss gs p r left q k f e = refused-leaves ws ss gs p f k.called (ap step_reply e)
