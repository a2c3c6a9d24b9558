-- 01's table, "To be proved, as one table": from the bytes of a chart and of its orders to the bytes of the sheet.
-- Assumes nothing.
use mathlib.Core.Path.{◌≡◌, refl}
use mathlib.Core.List.{List, [], ◌∷◌, map}
use Prim.Native.Nat.{ℕ}
use Prim.Native.String.{String}
use lib.ListN.{replicate}
use Rattle.model.specs.Answers.{answered}
use Rattle.model.specs.Graph.{Graph}
use Rattle.model.specs.Worth.{solution_cost_of}
use Rattle.model.specs.Path.{path, words}
use Rattle.text.specs.Bytes.{bytes}
use Rattle.text.proofs.Examples.{example_text}
use Rattle.order_lines.specs.Answers.{refused_line}
use Rattle.order_sheet.specs.Whole.{title, lines_text, chart_text, sheet_text}

pub record Sheet : Type 0 where
  pub chart : String
  pub orders : String
  pub prints : String

unfoldable pub table : List Sheet
table =
    -- "these five", and the refused order
    record {
      chart = example_text;
      orders = "F,0,2\nF,0,2\nF,1,3\nF,2,0\nB,0,2\nF,0,4\n";
      prints = "order,answer,total,waits,tickets,run\n0,solved,7,2,4,0 0 1 1 2\n1,solved,7,1,0,0 0 1 1 2\n2,none,-,1,2,-\n3,none,-,1,0,-\n4,solved,7,2,4,0 0 1 1 2\n5,refused 3,-,0,0,-\n";
    }
    -- "`F,0 1,2` on fresh books (7, 2 waits, 6 tickets)"
    ∷ record { chart = example_text; orders = "F,0 1,2\n"; prints = "order,answer,total,waits,tickets,run\n0,solved,7,2,6,0 0 1 1 2\n" }
    -- "wanted equals start (no moves)"
    ∷ record { chart = example_text; orders = "F,0,0\nB,3,3\n"; prints = "order,answer,total,waits,tickets,run\n0,solved,0,2,2,0\n1,solved,0,1,1,3\n" }
    -- "a chain of 10 motifs, first to last (1 wait)"
    ∷ record {
      chart = "M,0,0\nM,1,0\nM,2,0\nM,3,0\nM,4,0\nM,5,0\nM,6,0\nM,7,0\nM,8,0\nM,9,0\nL,0,1,1\nL,1,2,1\nL,2,3,1\nL,3,4,1\nL,4,5,1\nL,5,6,1\nL,6,7,1\nL,7,8,1\nL,8,9,1\n";
      orders = "F,0,9\nB,0,9\n";
      prints = "order,answer,total,waits,tickets,run\n0,solved,9,1,10,0 0 1 1 2 2 3 3 4 4 5 5 6 6 7 7 8 8 9\n1,solved,9,1,10,0 0 1 1 2 2 3 3 4 4 5 5 6 6 7 7 8 8 9\n";
    }
    -- "and of 11 (2)"
    ∷ record {
      chart = "M,0,0\nM,1,0\nM,2,0\nM,3,0\nM,4,0\nM,5,0\nM,6,0\nM,7,0\nM,8,0\nM,9,0\nM,10,0\nL,0,1,1\nL,1,2,1\nL,2,3,1\nL,3,4,1\nL,4,5,1\nL,5,6,1\nL,6,7,1\nL,7,8,1\nL,8,9,1\nL,9,10,1\n";
      orders = "F,0,10\n";
      prints = "order,answer,total,waits,tickets,run\n0,solved,10,2,11,0 0 1 1 2 2 3 3 4 4 5 5 6 6 7 7 8 8 9 9 10\n";
    }
    -- "links 0 to 1 and back at 0 picks, motif 2 wanted: none"
    ∷ record { chart = "M,0,0\nM,1,0\nM,2,0\nL,0,1,0\nL,1,0,0\n"; orders = "F,0,2\nB,0,2\n"; prints = "order,answer,total,waits,tickets,run\n0,none,-,1,2,-\n1,none,-,1,1,-\n" }
    -- "the empty chart and lists"
    ∷ record { chart = ""; orders = "F,,\nB,,\n"; prints = "order,answer,total,waits,tickets,run\n0,none,-,1,0,-\n1,none,-,1,0,-\n" }
    ∷ record {
      chart = example_text;
      orders = "F,,\nF,,2\nF,0,\nB,,2\nB,0,\n";
      prints = "order,answer,total,waits,tickets,run\n0,none,-,1,0,-\n1,none,-,1,0,-\n2,none,-,1,4,-\n3,none,-,1,4,-\n4,none,-,1,0,-\n";
    }
    ∷ []

pub rows : map (λ (x : Sheet). sheet_text (bytes x.chart) (bytes x.orders)) table ≡ map (λ (x : Sheet). bytes x.prints) table
unfolding table sheet_text path words solution_cost_of
rows = refl

-- ---- where the sheet ends before its orders, and at its ends

unfoldable pub ends : List Sheet
ends =
    -- "A refused chart .. prints only `refused` and number"
    record { chart = "M,0,0\nM,2,0\n"; orders = "F,0,0\n"; prints = "refused 2\n" }
    -- "An order without this form is refused 1": another letter, a comma too few, one without LF
    ∷ record {
      chart = example_text;
      orders = "G,0,2\nF,0\n\nF,0,2";
      prints = "order,answer,total,waits,tickets,run\n0,refused 1,-,0,0,-\n1,refused 1,-,0,0,-\n2,refused 1,-,0,0,-\n3,refused 1,-,0,0,-\n";
    }
    ∷ record { chart = example_text; orders = ""; prints = "order,answer,total,waits,tickets,run\n" }
    -- 16 slots: 17 new trees outnumber them, 16 do not
    ∷ record {
      chart = "M,0,0\nM,1,0\nM,2,0\nM,3,0\nM,4,0\nM,5,0\nM,6,0\nM,7,0\nM,8,0\nM,9,0\nM,10,0\nM,11,0\nM,12,0\nM,13,0\nM,14,0\nM,15,0\nM,16,0\n";
      orders = "F,0 1 2 3 4 5 6 7 8 9 10 11 12 13 14 15 16,16\nF,0 1 2 3 4 5 6 7 8 9 10 11 12 13 14 15,16\n";
      prints = "order,answer,total,waits,tickets,run\n0,refused 6,-,0,0,-\n1,none,-,1,16,-\n";
    }
    ∷ []

pub end-rows : map (λ (x : Sheet). sheet_text (bytes x.chart) (bytes x.orders)) ends ≡ map (λ (x : Sheet). bytes x.prints) ends
unfolding ends sheet_text
end-rows = refl

-- ---- the limits of bytes and of words

-- n bytes `X`, which are no line
abbrev file : ℕ → List ℕ
file n = replicate n 88

-- a chart of 65,536 bytes is looked at, one of 65,537 is not; and so are the orders
whole-chart : sheet_text (file 65536) [] ≡ bytes "refused 1\n"
unfolding sheet_text
whole-chart = refl

overlong-chart : sheet_text (file 65537) [] ≡ bytes "refused 4\n"
unfolding sheet_text
overlong-chart = refl

whole-orders : sheet_text (bytes example_text) (file 65536) ≡ bytes "order,answer,total,waits,tickets,run\n0,refused 1,-,0,0,-\n"
unfolding sheet_text
whole-orders = refl

overlong-orders : sheet_text (bytes example_text) (file 65537) ≡ bytes "refused 4\n"
unfolding sheet_text
overlong-orders = refl

-- m vertices and l edges from 0 to 0: 4 and 188 need 15,998 words, 877 and 1 need 16,004, and no others need more than the first and
-- less than the second
abbrev graph : ℕ → ℕ → Graph
graph m l = record { initial = replicate m 0; edges = replicate l (record { from = 0; to = 0; cost = 0 }) }

words-enough : chart_text (answered (graph 4 188)) [] ≡ title
unfolding title lines_text
words-enough = refl

words-short : chart_text (answered (graph 877 1)) [] ≡ refused_line 5
words-short = refl
