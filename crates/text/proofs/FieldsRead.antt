-- The fields of a text, read one after the other.
-- Assumes nothing.
use mathlib.Core.Path.{◌≡◌, sym, ◌∙◌}
use mathlib.Core.List.{List, [], ◌∷◌}
use Prim.Native.Nat.{ℕ, ◌+◌}
use native.Mathlib.Omega.{arith}
use Rattle.text.specs.declared.fields.Field.{Field}
use Rattle.text.specs.declared.fields.Fields.{Fields}
use Rattle.text.specs.Bytes.{parted}
use Rattle.text.specs.Fields.{value_of, no_fields, with_field, fields_from, fields_of}

-- f: the first n fields; ps: the pieces behind them
pub record Reading (b : ℕ) (l : List ℕ) (f : Fields) (n : ℕ) (ps : List (List ℕ)) : Type 0 where
  pub count : f.count ≡ n
  pub left : fields_of b l ≡ fields_from f ps

pub reading-start : {b : ℕ} {l : List ℕ} {ps : List (List ℕ)} → ps ≡ parted b l → Reading b l no_fields 0 ps
unfolding fields_of
reading-start e = record { count = omega arith; left = rw e }

pub reading-next : {b : ℕ} {l p : List ℕ} {f g : Fields} {n m : ℕ} {v : Field} {ps qs : List (List ℕ)} → Reading b l f n ps → ps ≡ p ∷ qs
    → v ≡ value_of p → g ≡ with_field f v → m ≡ n + 1 → Reading b l g m qs
unfolding fields_from
reading-next r e read q h = rw (q, read) (record { count = omega (arith, r.count); left = r.left ∙ rw e })

pub reading-end : {b : ℕ} {l : List ℕ} {f : Fields} {n : ℕ} {ps : List (List ℕ)} → Reading b l f n ps → ps ≡ [] → f ≡ fields_of b l
unfolding fields_from
reading-end r e = sym (r.left ∙ rw e)
