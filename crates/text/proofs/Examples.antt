-- Texts by computation: what is read, and the first fault of each kind with its line.
-- Assumes nothing.
use mathlib.Core.Path.{◌≡◌, refl}
use mathlib.Core.List.{[], ◌∷◌}
use Prim.Native.String as string
use Rattle.model.specs.Answers.{Reply, answered, refused}
use Rattle.model.specs.Graph.{Graph, absent}
use Rattle.text.specs.declared.counts.Counts.{Counts}
use Rattle.text.specs.Bytes.{bytes}
use Rattle.text.specs.Print.{printed}
use Rattle.text.specs.Read.{read_graph, judge_text}

unfoldable said : string.String → Reply Counts
unfolding judge_text
said s = judge_text (bytes s)

-- 01's chart, read and printed
abbrev pub example_text : string.String
example_text = "M,0,0\nM,1,5\nM,2,-\nM,3,-\nL,0,1,4\nL,1,2,3\nL,0,2,9\n"

abbrev pub example_graph : Graph
example_graph =
    record {
      initial = 0 ∷ 5 ∷ absent ∷ absent ∷ [];
      edges =
          record { from = 0; to = 1; cost = 4 }
          ∷ record { from = 1; to = 2; cost = 3 }
          ∷ record { from = 0; to = 2; cost = 9 }
          ∷ [];
    }

read-example : read_graph (bytes example_text) ≡ answered example_graph
unfolding read_graph
read-example = refl

printed-example : printed example_graph ≡ bytes example_text
unfolding printed
printed-example = refl

-- digits up to the limits
printed-limits : printed (record { initial = 999999 ∷ 10 ∷ []; edges = record { from = 1; to = 0; cost = 100000 } ∷ [] })
    ≡ bytes "M,0,999999\nM,1,10\nL,1,0,100000\n"
unfolding printed
printed-limits = refl

printed-empty : printed (record { initial = []; edges = [] }) ≡ bytes ""
unfolding printed
printed-empty = refl

sample : said example_text ≡ answered (record { vertices = 4; edges = 3 })
unfolding said
sample = refl

empty : said "" ≡ answered (record { vertices = 0; edges = 0 })
unfolding said
empty = refl

loops-and-repeats : said "M,0,0\nL,0,0,0\nL,0,0,0\n" ≡ answered (record { vertices = 1; edges = 2 })
unfolding said
loops-and-repeats = refl

limits-met : said "M,0,999999\nL,0,0,999999\n" ≡ answered (record { vertices = 1; edges = 1 })
unfolding said
limits-met = refl

-- ---- 1: no legal form or no LF

empty-line : said "\n" ≡ refused 1 1
unfolding said
empty-line = refl

blank-last-line : said "M,0,0\n\n" ≡ refused 1 2
unfolding said
blank-last-line = refl

no-line-feed : said "M,0,0\nM,1,0" ≡ refused 1 2
unfolding said
no-line-feed = refl

no-line-feed-first : said "M,1,1000000" ≡ refused 1 1
unfolding said
no-line-feed-first = refl

other-letter : said "N,0,0\n" ≡ refused 1 1
unfolding said
other-letter = refl

two-letters : said "MM,0,0\n" ≡ refused 1 1
unfolding said
two-letters = refl

no-letter : said ",0,0\n" ≡ refused 1 1
unfolding said
no-letter = refl

letter-alone : said "M\n" ≡ refused 1 1
unfolding said
letter-alone = refl

one-field-short : said "M,0\n" ≡ refused 1 1
unfolding said
one-field-short = refl

one-field-more : said "M,0,0,0\n" ≡ refused 1 1
unfolding said
one-field-more = refl

vertex-of-four-fields : said "M,0,0\nM,1,0,0\n" ≡ refused 1 2
unfolding said
vertex-of-four-fields = refl

edge-of-three-fields : said "M,0,0\nL,0,0\n" ≡ refused 1 2
unfolding said
edge-of-three-fields = refl

edge-of-five-fields : said "M,0,0\nL,0,0,0,0\n" ≡ refused 1 2
unfolding said
edge-of-five-fields = refl

empty-number : said "M,,0\n" ≡ refused 1 1
unfolding said
empty-number = refl

empty-cost : said "M,0,\n" ≡ refused 1 1
unfolding said
empty-cost = refl

leading-zero : said "M,0,01\n" ≡ refused 1 1
unfolding said
leading-zero = refl

two-zeros : said "M,00,0\n" ≡ refused 1 1
unfolding said
two-zeros = refl

eleven-digits : said "M,12345678901,0\n" ≡ refused 1 1
unfolding said
eleven-digits = refl

sign : said "M,0,+1\n" ≡ refused 1 1
unfolding said
sign = refl

blank : said "M,0, 1\n" ≡ refused 1 1
unfolding said
blank = refl

carriage-return : said "M,0,0\r\n" ≡ refused 1 1
unfolding said
carriage-return = refl

below-digits : said "M,0,/\n" ≡ refused 1 1
unfolding said
below-digits = refl

above-digits : said "M,0,:\n" ≡ refused 1 1
unfolding said
above-digits = refl

hyphen-as-number : said "M,-,0\n" ≡ refused 1 1
unfolding said
hyphen-as-number = refl

hyphen-as-cost : said "M,0,0\nL,0,0,-\n" ≡ refused 1 2
unfolding said
hyphen-as-cost = refl

hyphen-twice : said "M,0,--\n" ≡ refused 1 1
unfolding said
hyphen-twice = refl

-- ---- 2: out of order

skipped : said "M,1,0\n" ≡ refused 2 1
unfolding said
skipped = refl

repeated : said "M,0,0\nM,0,0\n" ≡ refused 2 2
unfolding said
repeated = refl

vertex-after-edge : said "M,0,0\nL,0,0,0\nM,1,0\n" ≡ refused 2 3
unfolding said
vertex-after-edge = refl

past-32-bits-as-number : said "M,9999999999,0\n" ≡ refused 2 1
unfolding said
past-32-bits-as-number = refl

-- ---- 4: over a limit

dear-start : said "M,0,1000000\n" ≡ refused 4 1
unfolding said
dear-start = refl

dear-edge : said "M,0,0\nL,0,0,1000000\n" ≡ refused 4 2
unfolding said
dear-edge = refl

absent-in-digits : said "M,0,4294967295\n" ≡ refused 4 1
unfolding said
absent-in-digits = refl

past-32-bits-as-cost : said "M,0,0\nL,0,0,9999999999\n" ≡ refused 4 2
unfolding said
past-32-bits-as-cost = refl

-- ---- 3: no such vertex

no-such-from : said "M,0,0\nL,1,0,0\n" ≡ refused 3 2
unfolding said
no-such-from = refl

no-such-to : said "M,0,0\nL,0,1,0\n" ≡ refused 3 2
unfolding said
no-such-to = refl

edge-first : said "L,0,0,0\n" ≡ refused 3 1
unfolding said
edge-first = refl

edge-before-vertex : said "L,0,0,0\nM,0,0\n" ≡ refused 3 1
unfolding said
edge-before-vertex = refl

past-32-bits-as-end : said "M,0,0\nL,9999999999,0,0\n" ≡ refused 3 2
unfolding said
past-32-bits-as-end = refl

-- ---- the order 1, 2, 4, 3 in a line, and lines downward

one-before-two : said "M,1,01\n" ≡ refused 1 1
unfolding said
one-before-two = refl

two-before-four : said "M,1,1000000\n" ≡ refused 2 1
unfolding said
two-before-four = refl

two-after-edge-before-four : said "M,0,0\nL,0,0,0\nM,1,1000000\n" ≡ refused 2 3
unfolding said
two-after-edge-before-four = refl

four-before-three : said "M,0,0\nL,1,0,1000000\n" ≡ refused 4 2
unfolding said
four-before-three = refl

upper-line-first : said "M,0,0\nL,1,0,0\nM,0\n" ≡ refused 3 2
unfolding said
upper-line-first = refl

first-of-two : said "M,0,1000000\nM,0,01\n" ≡ refused 4 1
unfolding said
first-of-two = refl
