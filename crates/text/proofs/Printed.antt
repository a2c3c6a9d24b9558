-- A graph's text as it is printed is read as the graph, and no other text is.
-- Assumes nothing.
use mathlib.Core.Path.{◌≡◌, refl, sym, ap, ◌∙◌}
use mathlib.Core.Bool.{false}
use mathlib.Core.List.{List, [], ◌∷◌, ◌++◌, append_assoc}
use Prim.Native.Nat.{ℕ, suc, ◌+◌, ◌<◌}
use native.Mathlib.Numerals.{add-one}
use native.Mathlib.Omega.{arith}
use borrow.Author.Tests.{ltb-false, ne_eqb}
use lib.Dec.{eqb}
use Rattle.std.specs.Prelude.{Some, None}
use Rattle.std.specs.declared.option.Option.{Option}
use Rattle.model.specs.Answers.{Reply, answered, refused}
use Rattle.model.specs.Graph.{Graph, Accepted, absent}
use Rattle.text.specs.declared.lines.Line.{Line}
use Rattle.text.specs.declared.lines.Line.TheVariants.{Vertex, Edge}
use Rattle.text.specs.declared.counts.Counts.{Counts}
use Rattle.text.specs.Lines.{lines_of}
use Rattle.text.specs.Print.{decimal, initial_by, vertex_text, edge_text, vertices_text, edges_text, printed, Prints}
use Rattle.text.specs.Read.{dear, initial_word, counted, judge_from, no_counts, judge_text, initials_of, edges_of, graph_of, graph_by, read_graph}
use Rattle.text.proofs.LineTexts.{initial_text, line_text, LegalCost, Legal, AllLegal, lines_text, lines-of, lines-text}
use Rattle.text.proofs.GraphLines.{graph_of_lines, graph_lines, graph-of-lines, graph-answered}
use Rattle.model.proofs.Replies.{answered-refused}
use Rattle.text.proofs.Passed.{Fine, Within, none_within, within-counted, fine-first, passes-rest}

-- ---- lines without a fault are legal

fine-cost : (i : Option ℕ) → dear i ≡ false → LegalCost i
fine-cost None e = tt
fine-cost (Some c) e = omega (arith, ltb-false 999999 c e)

fine-legal : (k : Counts) (x : Option Line) → Within k → Fine k x → Legal x
fine-legal k None w f = f
fine-legal k (Some (Vertex n i)) w f = (omega arith, fine-cost i f.3)
fine-legal k (Some (Edge m n c)) w f = omega arith

judged-legal : (n : ℕ) (k : Counts) (xs : List (Option Line)) {z : Counts} → Within k → judge_from n k xs ≡ answered z → AllLegal xs
judged-legal n k [] w e = tt
judged-legal n k (x ∷ xs) w e =
    let f = fine-first n k x xs e in
    (fine-legal k x w f, judged-legal (n + 1) (counted k x) xs (within-counted k x w f) (passes-rest n k x xs e))

-- ---- their text is their graph's, printed

initial-text : (i : Option ℕ) → dear i ≡ false → initial_text i ≡ initial_by (eqb (initial_word i) absent) (initial_word i)
initial-text None e = refl
initial-text (Some c) e = rw (ne_eqb c absent (omega (arith, ltb-false 999999 c e)))

-- LF behind the last field
fields-end : (f g l : List ℕ) → (f ++ (44 ∷ g)) ++ (10 ∷ l) ≡ (f ++ (44 ∷ (g ++ (10 ∷ [])))) ++ l
fields-end f g l = simp append_assoc

vertex-text : (n : ℕ) (i : Option ℕ) (l : List ℕ) → dear i ≡ false → line_text (Some (Vertex n i)) ++ (10 ∷ l) ≡ vertex_text n (initial_word i) ++ l
unfolding vertex_text
vertex-text n i l e =
    ap (λ (r : List ℕ). 77 ∷ 44 ∷ r) (fields-end (decimal n) (initial_text i) l ∙ ap (λ (c : List ℕ). (decimal n ++ (44 ∷ (c ++ (10 ∷ [])))) ++ l) (initial-text i e))

edge-text : (m n c : ℕ) (l : List ℕ) → line_text (Some (Edge m n c)) ++ (10 ∷ l) ≡ edge_text (record { from = m; to = n; cost = c }) ++ l
unfolding edge_text
edge-text m n c l = simp append_assoc

-- no vertex line stands below an edge line
no-initials : (n : ℕ) (k : Counts) (xs : List (Option Line)) {z : Counts} → judge_from n k xs ≡ answered z → 0 < k.edges → initials_of xs ≡ []
unfolding initials_of counted
no-initials n k [] e h = refl
no-initials n k (None ∷ xs) e h = absurd (fine-first n k None xs e)
no-initials n k (Some (Vertex v i) ∷ xs) e h = absurd (omega (arith, (fine-first n k (Some (Vertex v i)) xs e).0))
no-initials n k (Some (Edge a b c) ∷ xs) e h = no-initials (n + 1) (counted k (Some (Edge a b c))) xs (passes-rest n k (Some (Edge a b c)) xs e) (omega arith)

judged-text : (n : ℕ) (k : Counts) (xs : List (Option Line)) {z : Counts} → judge_from n k xs ≡ answered z
    → lines_text xs ≡ vertices_text k.vertices (initials_of xs) ++ edges_text (edges_of xs)
unfolding initials_of edges_of counted vertices_text edges_text
judged-text n k [] e = refl
judged-text n k (None ∷ xs) e = absurd (fine-first n k None xs e)
judged-text n k (Some (Vertex v i) ∷ xs) e =
    let f = fine-first n k (Some (Vertex v i)) xs e in
    let r = judged-text (n + 1) (counted k (Some (Vertex v i))) xs (passes-rest n k (Some (Vertex v i)) xs e) in
    vertex-text v i (lines_text xs) f.3
    ∙ rw (r, f.1, add-one k.vertices) (sym (append_assoc (vertex_text k.vertices (initial_word i)) (vertices_text (suc k.vertices) (initials_of xs)) (edges_text (edges_of xs))))
judged-text n k (Some (Edge a b c) ∷ xs) e =
    let rest = passes-rest n k (Some (Edge a b c)) xs e in
    let none = no-initials (n + 1) (counted k (Some (Edge a b c))) xs rest (omega arith) in
    let r = judged-text (n + 1) (counted k (Some (Edge a b c))) xs rest in
    edge-text a b c (lines_text xs) ∙ rw (r, none)

judged-printed : (xs : List (Option Line)) {z : Counts} → judge_from 1 no_counts xs ≡ answered z → lines_text xs ≡ printed (graph_of_lines xs)
unfolding printed
judged-printed xs e = judged-text 1 no_counts xs e

-- ---- a whole text

only : (text : List ℕ) (g : Graph) → read_graph text ≡ answered g → text ≡ printed g
unfolding read_graph
only text g e = go (judge_text text) refl e
  where
    go : (r : Reply Counts) → judge_text text ≡ r → graph_by r (graph_of text) ≡ answered g → text ≡ printed g
    go (answered z) j q =
        let same : graph_of text ≡ g = cc in
        lines-text text (judged-legal 1 no_counts (lines_of text) none_within j) ∙ judged-printed (lines_of text) j ∙ ap printed same
    go (refused f n) j q = absurd (answered-refused g f n (sym q))

read-lines : (text : List ℕ) (xs : List (Option Line)) {z : Counts} → lines_of text ≡ xs → judge_from 1 no_counts xs ≡ answered z → read_graph text ≡ answered (graph_of_lines xs)
unfolding read_graph
read-lines text xs e j = rw (e, j)

reads : (g : Graph) → Accepted g → read_graph (printed g) ≡ answered g
reads g a =
    let xs : List (Option Line) = graph_lines g in
    let judged : judge_from 1 no_counts xs ≡ answered (graph-answered g a).0 = (graph-answered g a).1 1 in
    let text : printed g ≡ lines_text xs = sym (judged-printed xs judged ∙ ap printed (graph-of-lines g)) in
    let lines : lines_of (printed g) ≡ xs = ap lines_of text ∙ lines-of xs (judged-legal 1 no_counts xs none_within judged) in
    read-lines (printed g) xs lines judged ∙ ap answered (graph-of-lines g)

pub prints : Prints
prints = record { reads = reads; only = only }
