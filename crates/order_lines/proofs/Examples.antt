-- Orders read and lines printed, by computing the definitions.
-- Assumes nothing.
use mathlib.Core.Path.{◌≡◌, refl, ap}
use mathlib.Core.List.{List, [], ◌∷◌, ◌++◌}
use Prim.Native.Nat.{ℕ, zero, suc}
use lib.ListN.{replicate}
use Rattle.std.specs.Prelude.{Some, None}
use Rattle.text.specs.Bytes.{bytes}
use Rattle.order_lines.specs.declared.answers.Answer.TheVariants as answer
use Rattle.order_lines.specs.declared.orders.Form.TheVariants.{Forward, Backward}
use Rattle.order_lines.specs.declared.numbers.Numbers.{Numbers}
use Rattle.order_lines.specs.Answers.{answer_line, refused_line}
use Rattle.order_lines.specs.Orders.{numbers_in, order_of}
use Rattle.order_lines.proofs.Lists.{same_handed}

forward : order_of (bytes "F,0 1,2") ≡ Some (record { form = Forward; starts = numbers_in (0 ∷ 1 ∷ []); goals = numbers_in (2 ∷ []) })
unfolding order_of
forward = refl

empty-lists : order_of (bytes "B,,") ≡ Some (record { form = Backward; starts = numbers_in []; goals = numbers_in [] })
unfolding order_of
empty-lists = refl

two-spaces : order_of (bytes "F,0  1,2") ≡ None
unfolding order_of
two-spaces = refl

leading-zero : order_of (bytes "F,01,2") ≡ None
unfolding order_of
leading-zero = refl

last-space : order_of (bytes "F,1 ,2") ≡ None
unfolding order_of
last-space = refl

two_fields : order_of (bytes "F,1") ≡ None
unfolding order_of
two_fields = refl

four-fields : order_of (bytes "F,1,2,3") ≡ None
unfolding order_of
four-fields = refl

two-letters : order_of (bytes "FF,1,2") ≡ None
unfolding order_of
two-letters = refl

-- handed on as 4294967295
past-32-bits : order_of (bytes "F,4294967296,") ≡ Some (record { form = Forward; starts = numbers_in (4294967295 ∷ []); goals = numbers_in [] })
unfolding order_of
past-32-bits = ap (λ (x : Numbers). Some (record { form = Forward; starts = x; goals = numbers_in [] })) (same_handed (4294967296 ∷ []) (4294967295 ∷ []) refl)

-- `1 ` n times over, before a text
unfoldable ones : ℕ → List ℕ → List ℕ
ones zero l = l
ones (suc n) l = bytes "1 " ++ ones n l

-- 66 numbers: 65 are handed on; and the 66th is judged
abbrev many : List ℕ → List ℕ
many end = bytes "F," ++ ones 65 end

list-of-66 : order_of (many (bytes "2,")) ≡ Some (record { form = Forward; starts = numbers_in (replicate 65 1); goals = numbers_in [] })
unfolding order_of ones
list-of-66 = ap (λ (x : Numbers). Some (record { form = Forward; starts = x; goals = numbers_in [] })) (same_handed (replicate 65 1 ++ (2 ∷ [])) (replicate 65 1) refl)

last-of-66 : order_of (many (bytes "02,")) ≡ None
unfolding order_of ones
last-of-66 = refl

-- ---- lines

solved : answer_line (record { order = 7; answer = answer.Solved 120; waits = 3; tickets = 45 }) (0 ∷ 10 ∷ 2 ∷ []) ≡ bytes "7,solved,120,3,45,0 10 2\n"
unfolding answer_line
solved = refl

none : answer_line (record { order = 0; answer = answer.Impossible; waits = 1; tickets = 2 }) [] ≡ bytes "0,none,-,1,2,-\n"
unfolding answer_line
none = refl

refused : answer_line (record { order = 1; answer = answer.Refused 4; waits = 0; tickets = 0 }) [] ≡ bytes "1,refused 4,-,0,0,-\n"
unfolding answer_line
refused = refl

waiting : answer_line (record { order = 2; answer = answer.Incomplete; waits = 10; tickets = 100 }) [] ≡ bytes "2,waiting,-,10,100,-\n"
unfolding answer_line
waiting = refl

sheet-refused : refused_line 2 ≡ bytes "refused 2\n"
unfolding refused_line
sheet-refused = refl
