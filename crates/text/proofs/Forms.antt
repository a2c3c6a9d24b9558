-- A line by its pieces between commas: `Lines.line_of`, which goes by its fields, says the same.
-- Assumes nothing.
use mathlib.Core.Path.{◌≡◌, refl, sym, ap, ◌∙◌}
use mathlib.Core.Bool.{Bool, true, false, cond}
use mathlib.Core.List.{List, [], ◌∷◌}
use Prim.Native.Nat.{ℕ, ◌+◌, ◌<◌, ◌≤◌}
use native.Mathlib.Omega.{arith}
use borrow.Author.Tests.{eqb-true, ne_eqb}
use lib.Dec.{eqb}
use lib.ListN.{length}
use Rattle.std.specs.Prelude.{Some, None}
use Rattle.std.specs.declared.option.Option.{Option}
use Rattle.text.specs.declared.fields.Field.{Field}
use Rattle.text.specs.declared.fields.Field.TheVariants.{Number, Hyphen, Other}
use Rattle.text.specs.declared.fields.Fields.{Fields}
use Rattle.text.specs.declared.lines.Line.{Line}
use Rattle.text.specs.Bytes.{letter_l, letter_m, parted, parting, is_only, number_of}
use Rattle.text.specs.Fields.{value_by, value_of, no_fields, with_field, fields_from}
use Rattle.text.specs.Lines.{vertex_by, vertex_of, edge_by, edge_of, lettered_line, line_of}
use Rattle.text.proofs.Parted.{parted-some}
use Rattle.text.proofs.OneByte.{only-is}
use Rattle.text.proofs.Decimals.{of-legal, number_small}

abbrev pub line_if : Bool → Option Line → Option Line
line_if true x = x
line_if false x = None

-- "`M,number,start cost`", "`L,from,to,picks`": three pieces or four, the first one letter
unfoldable pub piece_line : List (List ℕ) → Option Line
unfolding value_of
piece_line [] = None
piece_line (t ∷ []) = None
piece_line (t ∷ f ∷ []) = None
piece_line (t ∷ n ∷ c ∷ []) = line_if (is_only letter_m t) (vertex_by (value_of n) (value_of c))
piece_line (t ∷ m ∷ n ∷ c ∷ []) = line_if (is_only letter_l t) (edge_by (value_of m) (value_of n) (value_of c))
piece_line (t ∷ m ∷ n ∷ c ∷ f ∷ fs) = None

-- ---- a piece is a number, `-` or neither

pub value-cases : (P : Bool → Option ℕ → Field → Type 0) (p : List ℕ)
    → P true None Hyphen
    → ((n : ℕ) → n ≤ 9999999999 → P false (Some n) (Number n))
    → P false None Other
    → P (is_only 45 p) (number_of p) (value_of p)
unfolding value_of number_of
value-cases P p hyphen number neither = go (is_only 45 p) refl (number_of p) refl
  where
    go : (b : Bool) → is_only 45 p ≡ b → (n : Option ℕ) → number_of p ≡ n → P b n (value_by b n)
    go true e None q = hyphen
    go true e (Some n) q = absurd (of-legal n (sym (ap number_of (only-is 45 p e)) ∙ q))
    go false e (Some n) q = number n (number_small p n q)
    go false e None q = neither

pub value-small : (p : List ℕ) (n : ℕ) → value_of p ≡ Number n → n ≤ 9999999999
value-small p n =
    value-cases (λ b o v. v ≡ Number n → n ≤ 9999999999) p
    (λ e. absurd cc)
    (λ k h e. let same : k ≡ n = cc in omega arith)
    (λ e. absurd cc)

-- ---- a line by its letter, and the pieces behind it

fields-count : (f : Fields) (ps : List (List ℕ)) → (fields_from f ps).count ≡ f.count + length ps
unfolding fields_from
fields-count f [] = omega arith
fields-count f (p ∷ ps) = omega (arith, fields-count (with_field f (value_of p)) ps)

-- with more than three fields it is neither
many-fields : (m n c f : List ℕ) (fs : List (List ℕ)) (k : ℕ) → k < 4 → eqb (fields_from no_fields (m ∷ n ∷ c ∷ f ∷ fs)).count k ≡ false
many-fields m n c f fs k h = ne_eqb (fields_from no_fields (m ∷ n ∷ c ∷ f ∷ fs)).count k (omega (arith, fields-count no_fields (m ∷ n ∷ c ∷ f ∷ fs)))

neither : (a b : Bool) {v e : Option Line} → v ≡ None → e ≡ None → cond a v (cond b e None) ≡ None
neither true b p q = p
neither false true p q = q
neither false false p q = refl

lettered-form : (x : ℕ) (ps : List (List ℕ)) → lettered_line (Some (record { letter = x; fields = fields_from no_fields ps })) ≡ piece_line ((x ∷ []) ∷ ps)
unfolding fields_from piece_line
lettered-form x [] = neither (eqb x 77) (eqb x 76) refl refl
lettered-form x (p ∷ []) = neither (eqb x 77) (eqb x 76) refl refl
lettered-form x (n ∷ c ∷ []) = go (eqb x 77) (eqb x 76)
  where
    go : (a b : Bool) → cond a (vertex_of (fields_from no_fields (n ∷ c ∷ []))) (cond b None None) ≡ line_if a (vertex_by (value_of n) (value_of c))
    go true b = refl
    go false b = neither false b {v = None} refl refl
lettered-form x (m ∷ n ∷ c ∷ []) = go (eqb x 77) refl (eqb x 76) refl
  where
    go : (a : Bool) → eqb x 77 ≡ a → (b : Bool) → eqb x 76 ≡ b
        → cond a None (cond b (edge_of (fields_from no_fields (m ∷ n ∷ c ∷ []))) None) ≡ line_if b (edge_by (value_of m) (value_of n) (value_of c))
    go true p true q = absurd (omega (arith, eqb-true x 77 p, eqb-true x 76 q))
    go true p false q = refl
    go false p true q = refl
    go false p false q = refl
lettered-form x (m ∷ n ∷ c ∷ f ∷ fs) = neither (eqb x 77) (eqb x 76) (rw (many-fields m n c f fs 2 (omega arith))) (rw (many-fields m n c f fs 3 (omega arith)))

letter-other : (t : List ℕ) (ps : List (List ℕ)) → is_only 77 t ≡ false → is_only 76 t ≡ false → piece_line (t ∷ ps) ≡ None
unfolding piece_line
letter-other t [] m l = refl
letter-other t (n ∷ []) m l = refl
letter-other t (n ∷ c ∷ []) m l = rw m
letter-other t (n ∷ c ∷ p ∷ []) m l = rw l
letter-other t (n ∷ c ∷ p ∷ q ∷ ps) m l = refl

pub line-form : (l : List ℕ) → line_of l ≡ piece_line (parted 44 l)
unfolding line_of piece_line parted
line-form [] = refl
line-form (x ∷ []) = go (eqb x 44)
  where
    go : (a : Bool) → None ≡ piece_line (parting a x ([] ∷ []))
    go true = refl
    go false = refl
line-form (x ∷ y ∷ l) = go (eqb x 44) refl (eqb y 44)
  where
    go : (a : Bool) → eqb x 44 ≡ a → (b : Bool)
        → lettered_line (cond b (Some (record { letter = x; fields = fields_from no_fields (parted 44 l) })) None) ≡ piece_line (parting a x (parting b y (parted 44 l)))
    go true e true = rw (eqb-true x 44 e) (sym (letter-other [] ([] ∷ parted 44 l) refl refl))
    go true e false = sym (letter-other [] (parting false y (parted 44 l)) refl refl)
    go false e true = lettered-form x (parted 44 l)
    go false e false = parted-some (λ ps. None ≡ piece_line (parting false x (parting false y ps))) (λ p ps. sym (letter-other (x ∷ y ∷ p) ps refl refl)) 44 l
