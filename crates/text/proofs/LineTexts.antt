-- The texts of lines: a legal line's text is read as it, and no other text is; the same of the lines of a text.
-- Assumes nothing.
use mathlib.Core.Path.{◌≡◌, refl, sym, ap, ap₂, ◌∙◌}
use mathlib.Core.Bool.{Bool, true, false}
use mathlib.Core.List.{List, [], ◌∷◌, ◌++◌}
use Prim.Native.Nat.{ℕ, ◌<◌}
use native.Mathlib.Omega.{arith}
use Rattle.std.specs.Prelude.{Some, None}
use Rattle.std.specs.declared.option.Option.{Option}
use Rattle.text.specs.declared.fields.Field.{Field}
use Rattle.text.specs.declared.fields.Field.TheVariants.{Number, Hyphen, Other}
use Rattle.text.specs.declared.lines.Line.{Line}
use Rattle.text.specs.declared.lines.Line.TheVariants.{Vertex, Edge}
use Rattle.text.specs.Bytes.{parted, is_only, number_of}
use Rattle.text.specs.Fields.{value_by, value_of}
use Rattle.text.specs.Lines.{vertex_by, edge_by, line_of, lined_from, lined, lines_of}
use Rattle.text.specs.Print.{decimal}
use Rattle.text.proofs.Pieces.{rejoined_from, rejoined, rejoined-parted, Above, above-append, parted-next, parted-last}
use Rattle.text.proofs.Decimals.{decimal-above, number-decimal, decimal-number}
use Rattle.text.proofs.OneByte.{only-is, only_above}
use Rattle.text.proofs.Forms.{line_if, piece_line, line-form}
use Rattle.text.proofs.LineCuts.{lined-cons}

abbrev pub initial_text : Option ℕ → List ℕ
initial_text None = 45 ∷ []
initial_text (Some c) = decimal c

-- a legal line without LF
abbrev pub line_text : Option Line → List ℕ
line_text None = []
line_text (Some (Vertex n i)) = 77 ∷ 44 ∷ (decimal n ++ (44 ∷ initial_text i))
line_text (Some (Edge m n c)) = 76 ∷ 44 ∷ (decimal m ++ (44 ∷ (decimal n ++ (44 ∷ decimal c))))

-- "1 to 10 digits"
abbrev pub Written : ℕ → Type 0
Written n = n < 10000000000

abbrev pub LegalCost : Option ℕ → Type 0
LegalCost None = Unit {0}
LegalCost (Some c) = Written c

abbrev pub Legal : Option Line → Type 0
Legal None = ⊥
Legal (Some (Vertex n i)) = Written n × LegalCost i
Legal (Some (Edge m n c)) = Written m × Written n × Written c

-- ---- a field is a number's text, `-` or neither

value-decimal : (n : ℕ) → Written n → value_of (decimal n) ≡ Number n
unfolding value_of
value-decimal n w = rw (only_above 45 (decimal n) (decimal-above 45 n (omega arith) w), number-decimal n w)

value-number : (l : List ℕ) (n : ℕ) → value_of l ≡ Number n → l ≡ decimal n
unfolding value_of
value-number l n e = go (is_only 45 l) (number_of l) refl e
  where
    go : (b : Bool) (o : Option ℕ) → number_of l ≡ o → value_by b o ≡ Number n → l ≡ decimal n
    go true o q e = absurd cc
    go false None q e = absurd cc
    go false (Some k) q e = decimal-number l n (q ∙ cc)

value-hyphen : (l : List ℕ) → value_of l ≡ Hyphen → l ≡ 45 ∷ []
unfolding value_of
value-hyphen l e = go (is_only 45 l) refl (number_of l) e
  where
    go : (b : Bool) → is_only 45 l ≡ b → (o : Option ℕ) → value_by b o ≡ Hyphen → l ≡ 45 ∷ []
    go true q o e = only-is 45 l q
    go false q None e = absurd cc
    go false q (Some k) e = absurd cc

-- ---- a line's text is read as the line

cost-above : (b : ℕ) (i : Option ℕ) → b < 45 → LegalCost i → Above b (initial_text i)
cost-above b None h w = omega arith
cost-above b (Some c) h w = decimal-above b c (omega arith) w

field-above : (n : ℕ) (l : List ℕ) → Written n → Above 10 l → Above 10 (decimal n ++ (44 ∷ l))
field-above n l w h = above-append 10 (decimal n) (44 ∷ l) (decimal-above 10 n (omega arith) w) (omega arith, h)

line-above : (x : Option Line) → Legal x → Above 10 (line_text x)
line-above None w = tt
line-above (Some (Vertex n i)) w = (omega arith, (omega arith, field-above n (initial_text i) w.0 (cost-above 10 i (omega arith) w.1)))
line-above (Some (Edge m n c)) w =
    (omega arith, (omega arith, field-above m (decimal n ++ (44 ∷ decimal c)) w.0 (field-above n (decimal c) w.1 (decimal-above 10 c (omega arith) w.2))))

-- a field and the ones behind it
field-parted : (n : ℕ) (l : List ℕ) → Written n → parted 44 (decimal n ++ (44 ∷ l)) ≡ decimal n ∷ parted 44 l
field-parted n l w = parted-next 44 (decimal n) l (decimal-above 44 n (omega arith) w)

vertex-of : (n : ℕ) (i : Option ℕ) → Written n → LegalCost i → vertex_by (value_of (decimal n)) (value_of (initial_text i)) ≡ Some (Vertex n i)
unfolding value_of
vertex-of n None w h = rw (value-decimal n w)
vertex-of n (Some c) w h = rw (value-decimal n w, value-decimal c h)

line-of : (x : Option Line) → Legal x → line_of (line_text x) ≡ x
unfolding piece_line parted
line-of None w = absurd w
line-of (Some (Vertex n i)) w =
    line-form (line_text (Some (Vertex n i))) ∙ rw (field-parted n (initial_text i) w.0, parted-last 44 (initial_text i) (cost-above 44 i (omega arith) w.1)) (vertex-of n i w.0 w.1)
line-of (Some (Edge m n c)) w =
    line-form (line_text (Some (Edge m n c))) ∙ rw (
      field-parted m (decimal n ++ (44 ∷ decimal c)) w.0,
      field-parted n (decimal c) w.1,
      parted-last 44 (decimal c) (decimal-above 44 c (omega arith) w.2),
      value-decimal m w.0,
      value-decimal n w.1,
      value-decimal c w.2,
    )

-- ---- no other text is

form-text : (ps : List (List ℕ)) → Legal (piece_line ps) → rejoined 44 ps ≡ line_text (piece_line ps)
unfolding piece_line
form-text [] w = absurd w
form-text (t ∷ []) w = absurd w
form-text (t ∷ f ∷ []) w = absurd w
form-text (t ∷ n ∷ c ∷ []) w = go (is_only 77 t) refl (value_of n) refl (value_of c) refl w
  where
    go : (l : Bool) → is_only 77 t ≡ l → (a : Field) → value_of n ≡ a → (b : Field) → value_of c ≡ b
        → Legal (line_if l (vertex_by a b)) → rejoined 44 (t ∷ n ∷ c ∷ []) ≡ line_text (line_if l (vertex_by a b))
    go false el a ea b eb w = absurd w
    go true el (Number v) ea (Number k) eb w = rw (only-is 77 t el, value-number n v ea, value-number c k eb)
    go true el (Number v) ea Hyphen eb w = rw (only-is 77 t el, value-number n v ea, value-hyphen c eb)
    go true el (Number v) ea Other eb w = absurd w
    go true el Hyphen ea b eb w = absurd w
    go true el Other ea b eb w = absurd w
form-text (t ∷ m ∷ n ∷ c ∷ []) w = go (is_only 76 t) refl (value_of m) refl (value_of n) refl (value_of c) refl w
  where
    go : (l : Bool) → is_only 76 t ≡ l → (a : Field) → value_of m ≡ a → (b : Field) → value_of n ≡ b → (d : Field) → value_of c ≡ d
        → Legal (line_if l (edge_by a b d)) → rejoined 44 (t ∷ m ∷ n ∷ c ∷ []) ≡ line_text (line_if l (edge_by a b d))
    go false el a ea b eb d ed w = absurd w
    go true el (Number u) ea (Number v) eb (Number k) ed w = rw (only-is 76 t el, value-number m u ea, value-number n v eb, value-number c k ed)
    go true el (Number u) ea (Number v) eb Hyphen ed w = absurd w
    go true el (Number u) ea (Number v) eb Other ed w = absurd w
    go true el (Number u) ea Hyphen eb d ed w = absurd w
    go true el (Number u) ea Other eb d ed w = absurd w
    go true el Hyphen ea b eb d ed w = absurd w
    go true el Other ea b eb d ed w = absurd w
form-text (t ∷ m ∷ n ∷ c ∷ f ∷ fs) w = absurd w

line-text : (l : List ℕ) → Legal (line_of l) → l ≡ line_text (line_of l)
line-text l w = sym (rejoined-parted 44 l) ∙ form-text (parted 44 l) (rw (line-form l) at w) ∙ ap line_text (sym (line-form l))

-- ---- the lines of a text

abbrev pub AllLegal : List (Option Line) → Type 0
AllLegal [] = Unit {0}
AllLegal (x ∷ xs) = Legal x × AllLegal xs

-- "Lines end in LF"
abbrev pub lines_text : List (Option Line) → List ℕ
lines_text [] = []
lines_text (x ∷ xs) = line_text x ++ (10 ∷ lines_text xs)

pub lines-of : (xs : List (Option Line)) → AllLegal xs → lines_of (lines_text xs) ≡ xs
unfolding lines_of
lines-of [] w = refl
lines-of (x ∷ xs) w =
    rw (parted-next 10 (line_text x) (lines_text xs) (line-above x w.0), lined-cons (line_text x) 10 (lines_text xs), line-of x w.0)
    (ap (λ (ys : List (Option Line)). x ∷ ys) (lines-of xs w.1))

pieces-text : (ps : List (List ℕ)) (p : List ℕ) → AllLegal (lined_from p ps) → rejoined_from 10 p ps ≡ lines_text (lined_from p ps)
pieces-text [] [] w = refl
pieces-text [] (x ∷ xs) w = absurd w.0
pieces-text (q ∷ qs) p w = ap₂ (λ (l r : List ℕ). l ++ (10 ∷ r)) (line-text p w.0) (pieces-text qs q w.1)

pub lines-text : (text : List ℕ) → AllLegal (lines_of text) → text ≡ lines_text (lines_of text)
unfolding lines_of
lines-text text w = sym (rejoined-parted 10 text) ∙ go (parted 10 text) w
  where
    go : (ps : List (List ℕ)) → AllLegal (lined ps) → rejoined 10 ps ≡ lines_text (lined ps)
    go [] w = refl
    go (p ∷ ps) w = pieces-text ps p w
