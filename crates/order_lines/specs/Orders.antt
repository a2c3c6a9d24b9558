-- The lines of an order sheet that are read.
-- Assumes nothing.
use Rattle.std.specs.Prelude.{◌≡◌, Bool, true, false, Some, None, List, [], ◌∷◌, ◌++◌, map, ℕ, ◌+◌, ◌-◌, ◌≤◌, min, length, take, replicate}
use Rattle.std.specs.declared.option.Option.{Option}
use Rattle.std.proofs.Common.{subst, sym}
use Rattle.std.proofs.lemmas.List.{length-take}
use Rattle.std.proofs.Math.Nat.{min-le_left}
use Rattle.model.specs.Limits.{list_limit}
use Rattle.text.specs.Bytes.{comma, parted, is_only, number_of}
use Rattle.order_lines.specs.declared.numbers.Numbers.{Numbers}
use Rattle.order_lines.specs.declared.orders.Form.{Form}
use Rattle.order_lines.specs.declared.orders.Form.TheVariants.{Forward, Backward}
use Rattle.order_lines.specs.declared.orders.Order.{Order}

-- the blank, `F` and `B`
abbrev pub space : ℕ
space = 32

abbrev pub letter_f : ℕ
letter_f = 70

abbrev pub letter_b : ℕ
letter_b = 66

-- ---- "lists are parted by single spaces, numbers as in charts"

abbrev pub cons_if : Option ℕ → Option (List ℕ) → Option (List ℕ)
cons_if None o = None
cons_if (Some n) None = None
cons_if (Some n) (Some l) = Some (n ∷ l)

unfoldable pub numbers_of : List (List ℕ) → Option (List ℕ)
unfolding number_of
numbers_of [] = Some []
numbers_of (p ∷ ps) = cons_if (number_of p) (numbers_of ps)

-- a list is empty or numbers parted by b, which is a space in an order
unfoldable pub field_numbers : ℕ → List ℕ → Option (List ℕ)
unfolding numbers_of parted
field_numbers b [] = Some []
field_numbers b (x ∷ xs) = numbers_of (parted b (x ∷ xs))

-- as it is handed on: a list of more than 64 is refused 4 and a number past 32 bits 3, so that 65 numbers, and 4294967295, tell as much
abbrev pub handed_limit : ℕ
handed_limit = 1 + list_limit

abbrev pub handed : List ℕ → List ℕ
handed l = take handed_limit (map (min 4294967295) l)

pub handed-few : (l : List ℕ) → length (handed l) ≤ handed_limit
handed-few l = subst (λ (n : ℕ). n ≤ handed_limit) (sym (length-take handed_limit (map (min 4294967295) l))) (min-le_left handed_limit (length (map (min 4294967295) l)))

abbrev pub numbers_in : List ℕ → Numbers
numbers_in l = record { numbers = handed l ++ replicate (handed_limit - length (handed l)) 0; count = length (handed l); within = handed-few l }

abbrev pub list_by : Option (List ℕ) → Option Numbers
list_by None = None
list_by (Some l) = Some (numbers_in l)

unfoldable pub list_of : ℕ → List ℕ → Option Numbers
unfolding field_numbers
list_of b f = list_by (field_numbers b f)

-- ---- "An order is `F` or `B`, starts, wanted": three fields parted by commas

-- is the first field `F`? is it `B`?
abbrev pub form_by : Bool → Bool → Option Form
form_by true b = Some Forward
form_by false true = Some Backward
form_by false false = None

abbrev pub form_of : List ℕ → Option Form
form_of d = form_by (is_only letter_f d) (is_only letter_b d)

abbrev pub order_told : Option Form → Option Numbers → Option Numbers → Option Order
order_told None s g = None
order_told (Some f) None g = None
order_told (Some f) (Some s) None = None
order_told (Some f) (Some s) (Some g) = Some (record { form = f; starts = s; goals = g })

abbrev pub order_from : List (List ℕ) → Option Order
order_from [] = None
order_from (d ∷ []) = None
order_from (d ∷ s ∷ []) = None
order_from (d ∷ s ∷ g ∷ []) = order_told (form_of d) (list_of space s) (list_of space g)
order_from (d ∷ s ∷ g ∷ h ∷ hs) = None

-- a line's bytes, without LF; "An order without this form is refused 1"
unfoldable pub order_of : List ℕ → Option Order
unfolding list_of parted
order_of l = order_from (parted comma l)

-- ---- what the functions beneath promise each other

-- y is x with one number more, if fewer than `handed_limit` are kept
abbrev pub Pushed : Numbers → ℕ → Numbers → Type 0
Pushed x n y = (l : List ℕ) → x ≡ numbers_in l → y ≡ numbers_in (l ++ (n ∷ []))
