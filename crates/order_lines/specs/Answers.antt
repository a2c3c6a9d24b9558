-- The lines of an order sheet that are printed.
-- Assumes nothing.
use Rattle.std.specs.Prelude.{List, [], ◌∷◌, ◌++◌, ℕ, zero, suc, ◌+◌, ◌*◌, ◌<◌, ◌≤◌, length}
use Rattle.text.specs.Bytes.{bytes, line_feed, comma, hyphen}
use Rattle.text.specs.Print.{decimal}
use Rattle.order_lines.specs.Orders.{space}
use Rattle.order_lines.specs.declared.answers.Answer.{Answer}
use Rattle.order_lines.specs.declared.answers.Answer.TheVariants.{Solved, Impossible, Refused, Incomplete}
use Rattle.order_lines.specs.declared.answers.Line.{Line}

-- `refused` and a number
abbrev pub refused_by : ℕ → List ℕ
refused_by n = bytes "refused" ++ (space ∷ decimal n)

abbrev pub answer_text : Answer → List ℕ
answer_text (Solved k) = bytes "solved"
answer_text Impossible = bytes "none"
answer_text (Refused n) = refused_by n
answer_text Incomplete = bytes "waiting"

-- "`-` absent"
abbrev pub total_text : Answer → List ℕ
total_text (Solved k) = decimal k
total_text Impossible = hyphen ∷ []
total_text (Refused n) = hyphen ∷ []
total_text Incomplete = hyphen ∷ []

-- a path's words, parted by single spaces
unfoldable pub words_text : List ℕ → List ℕ
unfolding decimal
words_text [] = []
words_text (w ∷ []) = decimal w
words_text (w ∷ x ∷ ws) = decimal w ++ (space ∷ words_text (x ∷ ws))

abbrev pub path_text : Answer → List ℕ → List ℕ
path_text (Solved k) p = words_text p
path_text Impossible p = hyphen ∷ []
path_text (Refused n) p = hyphen ∷ []
path_text Incomplete p = hyphen ∷ []

-- "order number, answer, total, waits, tickets, run"
unfoldable pub answer_line : Line → List ℕ → List ℕ
unfolding words_text
answer_line x p =
    decimal x.order ++ (comma ∷ (answer_text x.answer ++ (comma ∷ (total_text x.answer ++ (comma ∷ (decimal x.waits
    ++ (comma ∷ (decimal x.tickets ++ (comma ∷ (path_text x.answer p ++ (line_feed ∷ [])))))))))))

-- "A refused chart or overlong file prints only `refused` and number"
unfoldable pub refused_line : ℕ → List ℕ
unfolding decimal
refused_line n = refused_by n ++ (line_feed ∷ [])

-- ---- what the code promises

-- numbers of at most 10 digits, and room for six fields of 18 bytes and 11 for each word of the path
pub record CanPutLine (out : List ℕ) (x : Line) (p : List ℕ) : Type 0 where
  pub order : x.order < 10000000000
  pub waits : x.waits < 10000000000
  pub tickets : x.tickets < 10000000000
  pub room : 108 + 11 * length p ≤ length out

-- ---- what the functions beneath promise each other

-- the fields of answer and total, each with its comma
abbrev pub answer_fields : Answer → List ℕ
answer_fields a = answer_text a ++ (comma ∷ (total_text a ++ (comma ∷ [])))

-- word i of a path, parted from the one before
abbrev pub spaced : ℕ → ℕ → List ℕ
spaced zero w = decimal w
spaced (suc i) w = space ∷ decimal w
