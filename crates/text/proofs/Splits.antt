-- The pieces of a text as `split` gives them.
-- Assumes nothing.
use mathlib.Core.Path.{◌≡◌, refl, sym, ap, subst, ◌∙◌}
use mathlib.Core.Bool.{Bool, true, false, cond}
use mathlib.Core.List.{List, [], ◌∷◌, ◌++◌}
use denote.Bor.{Bor}
use denote.Param.Members.{Mut}
use Prim.Native.Nat.{ℕ, ◌<◌}
use native.Mathlib.Omega.{arith}
use lib.Dec.{eqb}
use lib.ListN.{length, length-append}
use lib.Seq.{take-append_seam, drop-append-add}
use Rattle.std.specs.Prelude.{Some, None}
use Rattle.std.specs.declared.option.Option.{Option}
use Rattle.std.specs.declared.slice.Split.{Split}
use Rattle.std.specs.Bool.{MatchBool}
use Rattle.std.specs.Fn.{CalledAt, ComputesKey}
use Rattle.std.specs.Iterator.{Yields}
use Rattle.std.specs.List.{IsFirstMatchOrLen}
use Rattle.std.specs.Slice.Iter.{split_steps, split_rest, split_done, split_callee}
use Rattle.std.proofs.lemmas.Fn.{always_returns_same}
use Rattle.std.proofs.lemmas.List.Sums.{position_or_len_is}
use Rattle.text.specs.Bytes.{place, parted}
use Rattle.text.proofs.Parted.{position-place, parted-cut, parted-whole}

-- a first piece x, and the pieces of what is left
first-piece : (b : ℕ) (l x r : List ℕ) (done : Bool) → MatchBool done (l ≡ x) ((y : ℕ) × (l ≡ x ++ (y ∷ r))) → IsFirstMatchOrLen (λ y. eqb y b) l (length x)
    → parted b l ≡ x ∷ cond done [] (parted b r)
first-piece b l x r true e first = parted-whole b l (at_end ∙ ap length (sym e)) ∙ rw e
  where
    at_end : place b l ≡ length x
    at_end = position-place b l ∙ position_or_len_is (λ y. eqb y b) l (length x) 0 (omega (arith, ap length e)) (λ k h. first.0 k 0 (omega arith) h) (λ h. absurd (omega (arith, ap length e)))
first-piece b l x r false e first =
    parted-cut b l (omega (arith, here, longer))
    ∙ rw (here, e.1, take-append_seam x (e.0 ∷ r), drop-append-add x (e.0 ∷ r) 1)
  where
    longer : length x < length l
    longer = omega (arith, ap length e.1, length-append x (e.0 ∷ r))

    here : place b l ≡ length x
    here = position-place b l ∙ position_or_len_is (λ y. eqb y b) l (length x) 0 (omega (arith, longer)) (λ k h. first.0 k 0 (omega arith) h) (λ h. first.1 h 0)

abbrev pub pieces_left : {F : Type 0} → ℕ → Split ℕ F → List (List ℕ)
pieces_left b s = cond (split_done s) [] (parted b (split_rest s))

-- it cuts at b
pub record Splits {F : Type 0} (g : Mut F (Bor ℕ × Unit {0}) Bool) (b : ℕ) (s : Split ℕ F) : Type 0 where
  pub test : ComputesKey g (λ x. eqb x b) (split_callee s)

pub pieces-start : {F : Type 0} (b : ℕ) (l : List ℕ) (s : Split ℕ F) → split_rest s ≡ l → split_done s ≡ false → pieces_left b s ≡ parted b l
pieces-start b l s rest done = rw (done, rest)

-- a call of `next`: what it gave, before what is left
abbrev pub onto : Option (Bor (List ℕ)) → List (List ℕ) → List (List ℕ)
onto None ps = []
onto (Some x) ps = x.now ∷ ps

pub pieces-step : {F : Type 0} {g : Mut F (Bor ℕ × Unit {0}) Bool} {b : ℕ} (s t : Split ℕ F) (r : Option (Bor (List ℕ))) → Splits g b s → split_steps g s r t
    → (pieces_left b s ≡ onto r (pieces_left b t)) × Splits g b t
pieces-step {F} {g} {b} s t None c step = (rw step.0, subst (λ (u : Split ℕ F). Splits g b u) (sym step.1) c)
pieces-step {F} {g} {b} s t (Some x) c step =
    let rest = step.2 (λ x. eqb x b) c.test in
    (rw step.0 (first-piece b (split_rest s) x.now (split_rest t) (split_done t) step.1 rest.1), record { test = rest.0 })

pub pieces-end : {F : Type 0} (g : Mut F (Bor ℕ × Unit {0}) Bool) (b : ℕ) (s t : Split ℕ F) {r : Option (Bor (List ℕ))} → r ≡ None → split_steps g s r t → pieces_left b s ≡ []
pieces-end g b s t is step = rw (subst (λ (r : Option (Bor (List ℕ))). split_steps g s r t) is step).0

-- ---- calls of `next`, as a loop makes them

pub splits-start : {F : Type 0} (g : Mut F (Bor ℕ × Unit {0}) Bool) (b : ℕ) (s : Split ℕ F) {f : F} → split_callee s ≡ f
    → ((x : ℕ) (t : Bool) (q : F) → CalledAt g f x t q → (q ≡ f) × (t ≡ eqb x b)) → Splits g b s
splits-start g b s {f} e test =
    record { test = rw e (always_returns_same g (λ a r. r ≡ eqb a.0.now b) f (λ a r q k. let m = test a.0.now r q (record { shown = a.0; shows = refl; called = k }) in (m.1, m.0))) }

splits-on : {F : Type 0} {g : Mut F (Bor ℕ × Unit {0}) Bool} {b : ℕ} (s t : Split ℕ F) (xs : List (Bor (List ℕ))) → Yields (split_steps g) s xs t → Splits g b s → Splits g b t
splits-on {F} {g} {b} s t [] had c = subst (λ (u : Split ℕ F). Splits g b u) had c
splits-on {F} {g} {b} s t (x ∷ xs) had c = splits-on had.0 t xs had.2 (pieces-step s had.0 (Some x) c had.1).1

-- after xs, which calls of `next` from s on have given, they give x
pub next_piece : {F : Type 0} {g : Mut F (Bor ℕ × Unit {0}) Bool} {s u : Split ℕ F} {f : F} {r : Option (Bor (List ℕ))} (b : ℕ) (xs : List (Bor (List ℕ))) (t w : Split ℕ F) (x : Bor (List ℕ))
    → Yields (split_steps g) s xs t → r ≡ Some x → split_steps g t r w → s ≡ u → split_callee u ≡ f → ((y : ℕ) (o : Bool) (q : F) → CalledAt g f y o q → (q ≡ f) × (o ≡ eqb y b))
    → pieces_left b t ≡ x.now ∷ pieces_left b w
next_piece {g = g} {s = s} {u = u} {r = r} b xs t w x had is step same callee test =
    (pieces-step t w r (splits-on s t xs had (rw same (splits-start g b u callee test))) step).0 ∙ ap (λ (o : Option (Bor (List ℕ))). onto o (pieces_left b w)) is
