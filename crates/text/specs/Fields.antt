-- The fields of a line: "fields are parted by commas, unquoted; numbers are decimal, 1 to 10 digits". A field is a number or `-`.
-- Assumes nothing.
use Rattle.std.specs.Prelude.{Bool, true, false, cond, Some, None, List, [], ◌∷◌, ℕ, ◌+◌, eqb, ltb, get_or, set, replicate}
use Rattle.std.specs.declared.option.Option.{Option}
use Rattle.text.specs.declared.fields.Field.{Field}
use Rattle.text.specs.declared.fields.Field.TheVariants.{Number, Hyphen, Other}
use Rattle.text.specs.declared.fields.Fields.{Fields}
use Rattle.text.specs.declared.fields.Lettered.{Lettered}
use Rattle.text.specs.Bytes.{comma, hyphen, parted, is_only, number_of}

-- is the field `-`? and as a number
abbrev pub value_by : Bool → Option ℕ → Field
value_by true n = Hyphen
value_by false (Some n) = Number n
value_by false None = Other

unfoldable pub value_of : List ℕ → Field
unfolding number_of
value_of f = value_by (is_only hyphen f) (number_of f)

-- fields one after the other: all are counted, and the first five are kept
abbrev pub no_fields : Fields
no_fields = record { count = 0; values = replicate 5 Other }

abbrev pub with_field : Fields → Field → Fields
with_field f v = record { count = f.count + 1; values = cond (ltb f.count 5) (set f.values f.count v) f.values }

unfoldable pub fields_from : Fields → List (List ℕ) → Fields
unfolding value_of
fields_from f [] = f
fields_from f (p ∷ ps) = fields_from (with_field f (value_of p)) ps

-- a text whose fields are parted by b
unfoldable pub fields_of : ℕ → List ℕ → Fields
unfolding fields_from parted
fields_of b l = fields_from no_fields (parted b l)

-- a line, without LF: a letter, a comma and fields
unfoldable pub lettered_of : List ℕ → Option Lettered
unfolding fields_of
lettered_of [] = None
lettered_of (x ∷ []) = None
lettered_of (x ∷ y ∷ l) = cond (eqb y comma) (Some (record { letter = x; fields = fields_of comma l })) None

-- what field i is
abbrev pub value : Fields → ℕ → Field
value f i = get_or f.values i Other
