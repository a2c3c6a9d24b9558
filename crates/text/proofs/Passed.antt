-- Lines that are not refused: what such a line is worth, and that the lines below it are not refused either.
-- Assumes nothing.
use mathlib.Core.Path.{◌≡◌, refl, sym, subst}
use Rattle.std.proofs.lemmas.Option.{none-some}
use mathlib.Core.Bool.{Bool, true, false, ◌||◌, true≢false}
use mathlib.Core.List.{List, [], ◌∷◌}
use Prim.Native.Nat.{ℕ, ◌+◌, ◌<◌, ◌≤◌}
use native.Mathlib.Omega.{arith}
use borrow.Author.Tests.{ltb-false, leb-false, eqb-true, not-false}
use Rattle.std.specs.Prelude.{Some, None}
use Rattle.std.specs.declared.option.Option.{Option}
use Rattle.model.specs.Answers.{Reply, answered}
use Rattle.model.specs.Calls.{first_fault}
use Rattle.model.proofs.Faults.{or-none}
use Rattle.model.proofs.Replies.{answered-refused}
use Rattle.text.specs.declared.lines.Line.{Line}
use Rattle.text.specs.declared.lines.Line.TheVariants.{Vertex, Edge}
use Rattle.text.specs.declared.counts.Counts.{Counts}
use Rattle.text.specs.Lines.{lines_of}
use Rattle.text.specs.Read.{dear, line_faults, counted, unless_fault, judge_from, no_counts, judge_text}

neither : (a b : Bool) → (a || b) ≡ false → (a ≡ false) × (b ≡ false)
neither true b e = absurd (true≢false e)
neither false b e = (refl, e)

-- ---- one line without a fault

abbrev pub Fine : Counts → Option Line → Type 0
Fine k None = ⊥
Fine k (Some (Vertex n i)) = (k.edges ≡ 0) × (n ≡ k.vertices) × (k.vertices < 1024) × (dear i ≡ false)
Fine k (Some (Edge m n c)) = (k.edges < 2048) × (c ≤ 999999) × (m < k.vertices) × (n < k.vertices)

pub fine : (k : Counts) (x : Option Line) → first_fault (line_faults k x) ≡ None → Fine k x
unfolding line_faults
fine k None e = absurd (none-some 1 (sym e))
fine k (Some (Vertex n i)) e =
    let r = or-none _ _ _ e in
    let q = or-none _ _ _ r.1 in
    let order = neither _ _ r.0 in
    let limit = neither _ _ q.0 in
    let first : k.edges ≤ 0 = ltb-false _ _ order.0 in
    (omega arith, eqb-true _ _ (not-false _ order.1), leb-false _ _ limit.0, limit.1)
fine k (Some (Edge m n c)) e =
    let r = or-none _ _ _ e in
    let q = or-none _ _ _ r.1 in
    let limit = neither _ _ r.0 in
    let ends = neither _ _ q.0 in
    (leb-false _ _ limit.0, ltb-false _ _ limit.1, leb-false _ _ ends.0, leb-false _ _ ends.1)

-- counts within the limits stay so
pub record Within (k : Counts) : Type 0 where
  pub vertices : k.vertices ≤ 1024
  pub edges : k.edges ≤ 2048

pub none_within : Within no_counts
none_within = record { vertices = omega arith; edges = omega arith }

pub within-counted : (k : Counts) (x : Option Line) → Within k → Fine k x → Within (counted k x)
unfolding counted
within-counted k None w f = absurd f
within-counted k (Some (Vertex n i)) w f = record { vertices = omega arith; edges = w.edges }
within-counted k (Some (Edge m n c)) w f = record { vertices = w.vertices; edges = omega arith }

-- ---- a line, and the lines below it

unless-answered : (o : Option ℕ) (n : ℕ) (r : Reply Counts) {z : Counts} → unless_fault o n r ≡ answered z → (o ≡ None) × (r ≡ answered z)
unless-answered None n r e = (refl, e)
unless-answered (Some f) n r {z} e = absurd (answered-refused z f n (sym e))

no-fault : (n : ℕ) (k : Counts) (x : Option Line) (xs : List (Option Line)) {z : Counts}
    → judge_from n k (x ∷ xs) ≡ answered z → (first_fault (line_faults k x) ≡ None) × (judge_from (n + 1) (counted k x) xs ≡ answered z)
unfolding judge_from
no-fault n k x xs e = unless-answered (first_fault (line_faults k x)) n (judge_from (n + 1) (counted k x) xs) e

pub fine-first : (n : ℕ) (k : Counts) (x : Option Line) (xs : List (Option Line)) {z : Counts} → judge_from n k (x ∷ xs) ≡ answered z → Fine k x
fine-first n k x xs e = fine k x (no-fault n k x xs e).0

pub passes-rest : (n : ℕ) (k : Counts) (x : Option Line) (xs : List (Option Line)) {z : Counts}
    → judge_from n k (x ∷ xs) ≡ answered z → judge_from (n + 1) (counted k x) xs ≡ answered z
passes-rest n k x xs e = (no-fault n k x xs e).1

pub answered-empty : (n : ℕ) (k : Counts) {z : Counts} → judge_from n k [] ≡ answered z → k ≡ z
unfolding judge_from
answered-empty n k e = cc

counted-more : (k : Counts) (x : Option Line) → (k.vertices ≤ (counted k x).vertices) × (k.edges ≤ (counted k x).edges)
unfolding counted
counted-more k None = omega arith
counted-more k (Some (Vertex n i)) = omega arith
counted-more k (Some (Edge m n c)) = omega arith

pub at_most : (n : ℕ) (k : Counts) (xs : List (Option Line)) {z : Counts} → judge_from n k xs ≡ answered z → (k.vertices ≤ z.vertices) × (k.edges ≤ z.edges)
at_most n k [] e = rw (answered-empty n k e) (omega arith)
at_most n k (x ∷ xs) e = omega (arith, at_most (n + 1) (counted k x) xs (passes-rest n k x xs e), counted-more k x)

pub limits : (n : ℕ) (k : Counts) (xs : List (Option Line)) {z : Counts} → judge_from n k xs ≡ answered z → Within k → Within z
limits n k [] e w = subst (λ (z : Counts). Within z) (answered-empty n k e) w
limits n k (x ∷ xs) e w = limits (n + 1) (counted k x) xs (passes-rest n k x xs e) (within-counted k x w (fine-first n k x xs e))

pub judged-within : (text : List ℕ) {z : Counts} → judge_text text ≡ answered z → Within z
unfolding judge_text
judged-within text e = limits 1 no_counts (lines_of text) e none_within

-- what a line is worth where k counts the lines above it and z all lines
pub record Passes (k z : Counts) (x : Option Line) : Type 0 where
  pub vertices : (counted k x).vertices ≤ z.vertices
  pub edges : (counted k x).edges ≤ z.edges
  pub legal : x ≡ None → ⊥
  pub vertex : {n : ℕ} {i : Option ℕ} → x ≡ Some (Vertex n i) → (k.vertices < z.vertices) × (n ≡ k.vertices) × (k.edges ≡ 0)
  pub initial : {n : ℕ} {i : Option ℕ} {c : ℕ} → x ≡ Some (Vertex n i) → i ≡ Some c → c ≤ 999999
  pub edge : {m n c : ℕ} → x ≡ Some (Edge m n c) → (k.edges < z.edges) × (m < z.vertices) × (n < z.vertices) × (c ≤ 999999)

worth : (k z : Counts) (x : Option Line) → Fine k x → (counted k x).vertices ≤ z.vertices → (counted k x).edges ≤ z.edges → Passes k z x
unfolding counted
worth k z x f v e =
    record {
      vertices = v;
      edges = e;
      legal = λ q. rw q at f;
      vertex = λ {n} {i} q.
          let g : Fine k (Some (Vertex n i)) = rw q at f in
          let h : k.vertices + 1 ≤ z.vertices = rw q at v in
          (omega arith, g.1, g.0);
      initial = λ {n} {i} {c} q r.
          let g : Fine k (Some (Vertex n i)) = rw q at f in
          ltb-false 999999 c (rw r at g.3);
      edge = λ {m} {n} {c} q.
          let g : Fine k (Some (Edge m n c)) = rw q at f in
          let h : k.edges + 1 ≤ z.edges = rw q at e in
          let w : k.vertices ≤ z.vertices = rw q at v in
          (omega arith, omega arith, omega arith, g.1);
    }

pub passes-first : (n : ℕ) (k : Counts) (x : Option Line) (xs : List (Option Line)) {z : Counts} → judge_from n k (x ∷ xs) ≡ answered z → Passes k z x
passes-first n k x xs {z} e =
    let m = at_most (n + 1) (counted k x) xs (passes-rest n k x xs e) in
    worth k z x (fine-first n k x xs e) m.0 m.1
