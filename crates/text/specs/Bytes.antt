-- Bytes and numbers of a text.
-- Assumes nothing.
use Rattle.std.specs.Prelude.{Bool, true, false, not, ◌&&◌, ◌||◌, Some, None, List, [], ◌∷◌, ℕ, suc, ◌+◌, ◌-◌, ◌*◌, eqb, leb, length, get_or}
use Rattle.std.specs.declared.option.Option.{Option}
use Prim.Native.Char.{code}
use Prim.Native.String as string
use Rattle.model.specs.Lists.{allb}

-- LF, `,` and `-`, `0` and `9`, `L` and `M`
abbrev pub line_feed : ℕ
line_feed = 10

abbrev pub comma : ℕ
comma = 44

abbrev pub hyphen : ℕ
hyphen = 45

abbrev pub digit0 : ℕ
digit0 = 48

abbrev pub digit9 : ℕ
digit9 = 57

abbrev pub letter_l : ℕ
letter_l = 76

abbrev pub letter_m : ℕ
letter_m = 77

-- a text in ASCII, as its bytes
abbrev pub bytes : string.String → List ℕ
bytes string.[] = []
bytes (string.◌∷◌ c s) = code c ∷ bytes s

-- the pieces of a text between the bytes b: "fields are parted by commas"
abbrev pub parting : Bool → ℕ → List (List ℕ) → List (List ℕ)
parting true x ps = [] ∷ ps
parting false x [] = (x ∷ []) ∷ []
parting false x (p ∷ ps) = (x ∷ p) ∷ ps

unfoldable pub parted : ℕ → List ℕ → List (List ℕ)
parted b [] = [] ∷ []
parted b (x ∷ xs) = parting (eqb x b) x (parted b xs)

-- where the first b of a text stands; its length if it has none
abbrev pub place_by : Bool → ℕ → ℕ
place_by true n = 0
place_by false n = suc n

unfoldable pub place : ℕ → List ℕ → ℕ
place b [] = 0
place b (x ∷ xs) = place_by (eqb x b) (place b xs)

-- the text is the one byte b
abbrev pub is_only : ℕ → List ℕ → Bool
is_only b [] = false
is_only b (x ∷ []) = eqb x b
is_only b (x ∷ y ∷ l) = false

-- ---- "numbers are decimal, 1 to 10 digits, no leading zero except `0` itself"

abbrev pub is_digit : ℕ → Bool
is_digit x = leb digit0 x && leb x digit9

abbrev pub legal_if : Bool → Option ℕ → Option ℕ
legal_if true n = n
legal_if false n = None

-- the digits of a text, read on from the value v
unfoldable pub digits_from : ℕ → List ℕ → Option ℕ
digits_from v [] = Some v
digits_from v (x ∷ xs) = legal_if (is_digit x) (digits_from (v * 10 + (x - digit0)) xs)

abbrev pub number_tests : List ℕ → List Bool
number_tests l = leb 1 (length l) ∷ leb (length l) 10 ∷ (leb (length l) 1 || not (eqb (get_or l 0 0) digit0)) ∷ []

unfoldable pub number_of : List ℕ → Option ℕ
unfolding digits_from
number_of l = legal_if (allb (number_tests l)) (digits_from 0 l)
