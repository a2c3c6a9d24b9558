-- A text that is not refused has the graph that it counts, and an accepted one.
-- Assumes nothing.
use mathlib.Core.Path.{◌≡◌, refl, ap}
use mathlib.Core.Logic.{◌⊎◌, inl, inr}
use mathlib.Core.Bool.{false}
use mathlib.Core.List.{List, [], ◌∷◌}
use Prim.Native.Nat.{ℕ, zero, suc, ◌+◌, ◌<◌, ◌≤◌}
use native.Mathlib.Omega.{arith}
use borrow.Author.Tests.{ltb-false}
use lib.ListN.{length, get_or}
use Rattle.std.specs.Prelude.{Some, None}
use Rattle.std.specs.declared.option.Option.{Option}
use Rattle.model.specs.Answers.{Reply, answered}
use Rattle.model.specs.Graph as graph
use Rattle.model.specs.Graph.{Accepted, absent, no_edge, vertex_count, edge_count}
use Rattle.text.specs.declared.lines.Line.{Line}
use Rattle.text.specs.declared.lines.Line.TheVariants.{Vertex, Edge}
use Rattle.text.specs.declared.counts.Counts.{Counts}
use Rattle.text.specs.Lines.{lines_of}
use Rattle.text.specs.Read.{dear, initial_word, counted, judge_from, no_counts, judge_text, initials_of, edges_of, graph_of, graph_by, read_graph}
use Rattle.text.proofs.Passed.{fine-first, passes-first, passes-rest, answered-empty, judged-within}

-- ---- the lines below those that k counts

pub counts-from : (n : ℕ) (k : Counts) (xs : List (Option Line)) {z : Counts} → judge_from n k xs ≡ answered z
    → (k.vertices + length (initials_of xs) ≡ z.vertices) × (k.edges + length (edges_of xs) ≡ z.edges)
unfolding initials_of edges_of counted
counts-from n k [] e = rw (answered-empty n k e) (omega arith)
counts-from n k (None ∷ xs) e = counts-from (n + 1) k xs (passes-rest n k None xs e)
counts-from n k (Some (Vertex v i) ∷ xs) e = omega (arith, counts-from (n + 1) (counted k (Some (Vertex v i))) xs (passes-rest n k (Some (Vertex v i)) xs e))
counts-from n k (Some (Edge a b c) ∷ xs) e = omega (arith, counts-from (n + 1) (counted k (Some (Edge a b c))) xs (passes-rest n k (Some (Edge a b c)) xs e))

abbrev pub Start : ℕ → Type 0
Start c = (c ≡ absent) ⊎ (c ≤ 999999)

start : (i : Option ℕ) → dear i ≡ false → Start (initial_word i)
start None e = inl refl
start (Some c) e = inr (ltb-false 999999 c e)

starts_from : (n : ℕ) (k : Counts) (xs : List (Option Line)) {z : Counts} → judge_from n k xs ≡ answered z → (v : ℕ) → Start (get_or (initials_of xs) v absent)
unfolding initials_of counted
starts_from n k [] e v = inl refl
starts_from n k (None ∷ xs) e v = starts_from (n + 1) k xs (passes-rest n k None xs e) v
starts_from n k (Some (Vertex u i) ∷ xs) e zero = start i (fine-first n k (Some (Vertex u i)) xs e).3
starts_from n k (Some (Vertex u i) ∷ xs) e (suc v) = starts_from (n + 1) (counted k (Some (Vertex u i))) xs (passes-rest n k (Some (Vertex u i)) xs e) v
starts_from n k (Some (Edge a b c) ∷ xs) e v = starts_from (n + 1) (counted k (Some (Edge a b c))) xs (passes-rest n k (Some (Edge a b c)) xs e) v

abbrev pub Sound : Counts → graph.Edge → Type 0
Sound z e = (e.from < z.vertices) × (e.to < z.vertices) × (e.cost ≤ 999999)

edges-from : (n : ℕ) (k : Counts) (xs : List (Option Line)) {z : Counts} → judge_from n k xs ≡ answered z
    → (l : ℕ) → l < length (edges_of xs) → Sound z (get_or (edges_of xs) l no_edge)
unfolding edges_of counted
edges-from n k [] e l h = absurd (omega arith)
edges-from n k (None ∷ xs) e l h = edges-from (n + 1) k xs (passes-rest n k None xs e) l h
edges-from n k (Some (Vertex v i) ∷ xs) e l h = edges-from (n + 1) (counted k (Some (Vertex v i))) xs (passes-rest n k (Some (Vertex v i)) xs e) l h
edges-from n k (Some (Edge a b c) ∷ xs) e zero h = let p = (passes-first n k (Some (Edge a b c)) xs e).edge refl in (p.1, p.2, p.3)
edges-from n k (Some (Edge a b c) ∷ xs) e (suc l) h = edges-from (n + 1) (counted k (Some (Edge a b c))) xs (passes-rest n k (Some (Edge a b c)) xs e) l (omega arith)

-- ---- a whole text

pub judged-counts : (text : List ℕ) (k : Counts) → judge_text text ≡ answered k → (vertex_count (graph_of text) ≡ k.vertices) × (edge_count (graph_of text) ≡ k.edges)
unfolding judge_text graph_of
judged-counts text k e = omega (arith, counts-from 1 no_counts (lines_of text) e)

pub judged-accepted : (text : List ℕ) (k : Counts) → judge_text text ≡ answered k → Accepted (graph_of text)
unfolding judge_text graph_of
judged-accepted text k e =
    let c = judged-counts text k e in
    let w = judged-within text e in
    let edges = edges-from 1 no_counts (lines_of text) e in
    record {
      vertices = omega arith;
      edges = omega arith;
      starts = starts_from 1 no_counts (lines_of text) e;
      leaves = λ l h. omega (arith, edges l h);
      enters = λ l h. omega (arith, edges l h);
      costs = λ l h. (edges l h).2;
    }

-- the graph or the first fault, by what judging says
pub read_is : (text : List ℕ) {r : Reply Counts} → judge_text text ≡ r → read_graph text ≡ graph_by r (graph_of text)
unfolding read_graph
read_is text e = ap (λ (r : Reply Counts). graph_by r (graph_of text)) e
