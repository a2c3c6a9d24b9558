-- Lists of numbers and chains of tests, of which the definitions are made.
-- Assumes nothing.
use Rattle.std.specs.Prelude.{Bool, true, false, ◌&&◌, ◌||◌, List, [], ◌∷◌, ◌++◌, ℕ, zero, suc, ◌≤◌, eqb, leb, ltb}

-- k numbers from n on
abbrev pub up_from : ℕ → ℕ → List ℕ
up_from zero n = []
up_from (suc k) n = n ∷ up_from k (suc n)

-- the numbers below n, ascending
abbrev pub numbers : ℕ → List ℕ
numbers n = up_from n 0

-- x in front of l if the test passes
abbrev pub keep : Bool → ℕ → List ℕ → List ℕ
keep true x l = x ∷ l
keep false x l = l

-- of the numbers l, those at which p passes
unfoldable pub those : (ℕ → Bool) → List ℕ → List ℕ
those p [] = []
those p (x ∷ xs) = keep (p x) x (those p xs)

-- f of each number of l, one after the other
unfoldable pub joined : (ℕ → List ℕ) → List ℕ → List ℕ
joined f [] = []
joined f (x ∷ xs) = f x ++ joined f xs

unfoldable pub mem : ℕ → List ℕ → Bool
mem x [] = false
mem x (y ∷ ys) = eqb x y || mem x ys

-- many tests: all pass
abbrev pub allb : List Bool → Bool
allb [] = true
allb (b ∷ bs) = b && allb bs

abbrev pub all_below : ℕ → List ℕ → Bool
all_below n [] = true
all_below n (x ∷ xs) = ltb x n && all_below n xs

-- p passes at every number below n
unfoldable pub upto : (ℕ → Bool) → ℕ → Bool
upto p zero = true
upto p (suc n) = p n && upto p n

-- p passes at every element, at some element
unfoldable pub all_in : (ℕ → Bool) → List ℕ → Bool
all_in p [] = true
all_in p (x ∷ xs) = p x && all_in p xs

unfoldable pub any_in : (ℕ → Bool) → List ℕ → Bool
any_in p [] = false
any_in p (x ∷ xs) = p x || any_in p xs

-- a list of numbers from b on, each above the one before it: as a type, and as a test
abbrev pub Ascends : ℕ → List ℕ → Type 0
Ascends b [] = Unit {0}
Ascends b (x ∷ xs) = (b ≤ x) × Ascends (suc x) xs

unfoldable pub ascendsb : ℕ → List ℕ → Bool
ascendsb b [] = true
ascendsb b (x ∷ xs) = leb b x && ascendsb (suc x) xs
