-- What the functions that print a sheet promise each other: the bytes of each line, and the caches left.
-- Assumes nothing.
use Rattle.std.specs.Prelude.{◌≡◌, List, [], ◌++◌, ℕ, ◌<◌, ◌≤◌, length, take, drop}
use Rattle.layout.specs.Read.{read_cache}
use Rattle.order_lines.specs.Answers.{refused_line}
use Rattle.put_text.specs.Puts.{Puts}
use Rattle.order_run.specs.Lent.{max_bytes}
use Rattle.order_run.specs.Run.{CalledBoth}
use Rattle.order_sheet.specs.Whole.{Caches, lines_text, sheet_text}
use Rattle.order_sheet.specs.declared.Part.{Part}

-- ---- the sheet, part by part

abbrev pub caches_in : List ℕ → List ℕ → Caches
caches_in fs bs = record { forward = read_cache fs; backward = read_cache bs }

-- an order is left at the place of p: its number is no greater than the place, and the words hold caches of one graph after calls
pub record CanGoOn (orders fs bs : List ℕ) (p : Part) : Type 0 where
  pub few : length orders ≤ max_bytes
  pub number : p.order ≤ p.at
  pub called : CalledBoth fs bs

-- the text of a part stands at the start of out; what is left of the sheet are the lines of the orders from its place on
pub record PutsPart (orders out whole : List ℕ) (p : Part) (fs bs out' : List ℕ) : Type 0 where
  pub text : List ℕ
  pub put : Puts out 0 text p.bytes out'
  pub rest : whole ≡ text ++ lines_text p.order (caches_in fs bs) (drop p.at orders)
  pub within : p.at ≤ length orders
  pub next : p.at < length orders → CanGoOn orders fs bs p

-- a line `refused n`, and no order is left
pub record RefusedPart (orders out : List ℕ) (n : ℕ) (p : Part) (out' : List ℕ) : Type 0 where
  pub put : Puts out 0 (refused_line n) p.bytes out'
  pub end : p.at ≡ length orders

-- the first part: the title, or the only line of a sheet that is refused
abbrev pub Begins : List ℕ → List ℕ → List ℕ → Part → List ℕ → List ℕ → List ℕ → Type 0
Begins chart orders out p fs bs out' = PutsPart orders out (sheet_text chart orders) p fs bs out'

pub record CanPutNext (orders fs bs out : List ℕ) (p : Part) : Type 0 where
  pub left : p.at < length orders
  pub can : CanGoOn orders fs bs p
  pub room : 24576 ≤ length out

-- the part of the order at the place of p
pub record PutsNext (orders fs bs out : List ℕ) (p q : Part) (fs' bs' out' : List ℕ) : Type 0 where
  pub part : PutsPart orders out (lines_text p.order (caches_in fs bs) (drop p.at orders)) q fs' bs' out'
  pub further : p.at < q.at

-- so the parts one after the other are the sheet: some bytes of it were written, the next ones are the first of out, as many as are filled,
-- and what is left are the lines of the orders from the place of p on
pub record WrittenSoFar (chart orders fs bs out : List ℕ) (filled : ℕ) (p : Part) : Type 0 where
  pub written : List ℕ
  pub rest : sheet_text chart orders ≡ written ++ (take filled out ++ lines_text p.order (caches_in fs bs) (drop p.at orders))
  pub fits : filled ≤ length out
  pub within : p.at ≤ length orders
  pub next : p.at < length orders → CanGoOn orders fs bs p

-- the texts of parts, from the place of p to the end of the orders
pub data Parts (orders : List ℕ) : List ℕ → List ℕ → Part → List ℕ → Type 0 where
  no_more : {fs bs : List ℕ} {p : Part} → p.at ≡ length orders → Parts orders fs bs p []
  one_more : {fs bs out fs' bs' out' rest : List ℕ} {p q : Part} (x : PutsNext orders fs bs out p q fs' bs' out') → Parts orders fs' bs' q rest
      → Parts orders fs bs p (x.part.text ++ rest)

-- the first part and those after it, written one after the other, are the whole sheet
abbrev pub WritesSheet : Type 0
WritesSheet =
    (chart orders out : List ℕ) (p : Part) (fs bs out' rest : List ℕ) (x : Begins chart orders out p fs bs out') → Parts orders fs bs p rest
    → x.text ++ rest ≡ sheet_text chart orders
