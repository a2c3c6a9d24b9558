-- The lines of a text as `split_inclusive` gives them: each with its LF, and the last maybe without.
-- Assumes nothing.
use mathlib.Core.Path.{◌≡◌, refl, ap, subst}
use mathlib.Core.Bool.{Bool}
use mathlib.Core.List.{List, [], ◌∷◌, ◌++◌, map}
use denote.Bor.{Bor}
use denote.Param.Members.{Mut}
use Prim.Native.Nat.{ℕ, ◌+◌, ◌<◌, min}
use native.Mathlib.Omega.{arith}
use lib.Dec.{eqb}
use lib.ListN.{length}
use Rattle.std.specs.Prelude.{Some, None}
use Rattle.std.specs.declared.iter.Enumerate.{Enumerate}
use Rattle.std.specs.declared.option.Option.{Option}
use Rattle.std.specs.declared.slice.SplitInclusive.{SplitInclusive}
use Rattle.std.specs.Fn.{CalledAt, ComputesKey}
use Rattle.std.specs.Iterator.{Yields}
use Rattle.std.specs.Iterator.Adapters.{enumerate_source, enumerate_count, enumerate_steps}
use Rattle.std.specs.List.{IsFirstMatchOrLen}
use Rattle.std.specs.Option.{MatchOption}
use Rattle.std.specs.Slice.Iter.{split_inclusive_rest, split_inclusive_callee}
use Rattle.std.proofs.lemmas.Fn.{always_returns_same}
use Rattle.text.specs.Lines.{ended_line, lines_of}
use Rattle.text.proofs.LineCuts.{lines_piece}

module _ {F : Type 0} (g : Mut F (Bor ℕ × Unit {0}) Bool) where
  -- what std says of one piece
  abbrev pub Cuts : SplitInclusive ℕ F → Option (Bor (List ℕ)) → SplitInclusive ℕ F → Type 0
  Cuts s r t = MatchOption r ((length (split_inclusive_rest s) ≡ 0) × (t ≡ s))
      (λ x. (split_inclusive_rest s ≡ x.now ++ split_inclusive_rest t)
      × ((i : ℕ) × (length x.now ≡ min (i + 1) (length (split_inclusive_rest s)))
      × ((p : ℕ → Bool) → ComputesKey g p (split_inclusive_callee s) → ComputesKey g p (split_inclusive_callee t) × IsFirstMatchOrLen p (split_inclusive_rest s) i))
      × (0 < length (split_inclusive_rest s)))

  keeps_test : (p : ℕ → Bool) (s t : SplitInclusive ℕ F) (xs : List (Bor (List ℕ))) → Yields Cuts s xs t → ComputesKey g p (split_inclusive_callee s) → ComputesKey g p (split_inclusive_callee t)
  keeps_test p s t [] had h = subst (λ (u : SplitInclusive ℕ F). ComputesKey g p (split_inclusive_callee u)) had h
  keeps_test p s t (x ∷ xs) had h = keeps_test p had.0 t xs had.2 (had.1.1.2 p h).0

-- the piece x is cut off the bytes l, and r are left
pub record Cut (l x r : List ℕ) : Type 0 where
  pub whole : l ≡ x ++ r
  pub some : 0 < length x
  pub lines : lines_of l ≡ ended_line x ∷ lines_of r

-- xs came, and then, from u, the piece x or none
module _ {F : Type 0} {g : Mut F (Bor ℕ × Unit {0}) Bool} {s t : SplitInclusive ℕ F} {f : F} {o : Option (Bor (List ℕ))} (xs : List (Bor (List ℕ))) (u w : SplitInclusive ℕ F) where
  pub piece_cut : (x : Bor (List ℕ)) → Yields (Cuts g) s xs u → o ≡ Some x → Cuts g u o w → s ≡ t → split_inclusive_callee t ≡ f
      → ((y : ℕ) (b : Bool) (q : F) → CalledAt g f y b q → (q ≡ f) × (b ≡ eqb y 10)) → Cut (split_inclusive_rest u) x.now (split_inclusive_rest w)
  piece_cut x had is step same callee test =
      let cut : Cuts g u (Some x) w = subst (λ (o : Option (Bor (List ℕ))). Cuts g u o w) is step in
      let computes : ComputesKey g (λ y. eqb y 10) f = always_returns_same g (λ a r. r ≡ eqb a.0.now 10) f (λ a r q k. let m = test a.0.now r q (record { shown = a.0; shows = refl; called = k }) in (m.1, m.0)) in
      let first = (cut.1.2 (λ y. eqb y 10) (keeps_test g (λ y. eqb y 10) s u xs had (rw (same, callee) computes))).1 in
      record {
        whole = cut.0;
        some = omega (arith, cut.1.1, cut.2);
        lines = lines_piece x.now (split_inclusive_rest w) cut.1.0 cut.0 cut.2 cut.1.1 first;
      }

pub no_piece : {F : Type 0} (g : Mut F (Bor ℕ × Unit {0}) Bool) {o : Option (Bor (List ℕ))} (u w : SplitInclusive ℕ F) → o ≡ None → Cuts g u o w → length (split_inclusive_rest u) ≡ 0
no_piece g u w is step = (subst (λ (o : Option (Bor (List ℕ))). Cuts g u o w) is step).0

-- ---- the pieces counted

-- what a counted iterator yields, its source yields without the numbers
uncounted : {S A : Type 0} (steps : S → Option A → S → Type 0) (xs : List (ℕ × A)) (s t : Enumerate S) → Yields (enumerate_steps steps) s xs t
    → Yields steps (enumerate_source s) (map (λ x. x.1) xs) (enumerate_source t)
uncounted steps [] s t had = ap enumerate_source had
uncounted steps (x ∷ xs) s t had = (enumerate_source had.0, had.1.0, uncounted steps xs had.0 t had.2)

module _ {F : Type 0} {g : Mut F (Bor ℕ × Unit {0}) Bool} {t : SplitInclusive ℕ F} {f : F} {o : Option (ℕ × Bor (List ℕ))} (xs : List (ℕ × Bor (List ℕ))) (s u w : Enumerate (SplitInclusive ℕ F)) where
  pub counted_cut : (i : ℕ) (x : Bor (List ℕ)) → Yields (enumerate_steps (Cuts g)) s xs u → o ≡ Some (i, x) → enumerate_steps (Cuts g) u o w → enumerate_source s ≡ t → split_inclusive_callee t ≡ f
      → ((y : ℕ) (b : Bool) (q : F) → CalledAt g f y b q → (q ≡ f) × (b ≡ eqb y 10))
      → Cut (split_inclusive_rest (enumerate_source u)) x.now (split_inclusive_rest (enumerate_source w)) × (i ≡ enumerate_count u) × (enumerate_count w ≡ enumerate_count u + 1)
  counted_cut i x had is step same callee test =
      let next : enumerate_steps (Cuts g) u (Some (i, x)) w = subst (λ (o : Option (ℕ × Bor (List ℕ))). enumerate_steps (Cuts g) u o w) is step in
      (piece_cut (map (λ x. x.1) xs) (enumerate_source u) (enumerate_source w) x (uncounted (Cuts g) xs s u had) refl next.0 same callee test, next.1, next.2)

pub no_counted : {F : Type 0} (g : Mut F (Bor ℕ × Unit {0}) Bool) {o : Option (ℕ × Bor (List ℕ))} (u w : Enumerate (SplitInclusive ℕ F)) → o ≡ None → enumerate_steps (Cuts g) u o w → length (split_inclusive_rest (enumerate_source u)) ≡ 0
no_counted g u w is step = no_piece g (enumerate_source u) (enumerate_source w) refl (subst (λ (o : Option (ℕ × Bor (List ℕ))). enumerate_steps (Cuts g) u o w) is step).0
