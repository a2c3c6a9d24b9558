-- The lines of a graph, vertices first: what they say is the graph, and those of an accepted graph have no fault.
-- Assumes nothing.
use mathlib.Core.Path.{◌≡◌, refl, sym, ap, ap₂}
use mathlib.Core.Logic.{inl, inr}
use mathlib.Core.Bool.{Bool, true, false}
use mathlib.Core.List.{List, [], ◌∷◌, map}
use Prim.Native.Nat.{ℕ, suc, ◌+◌, ◌<◌, ◌≤◌}
use native.Mathlib.Numerals.{add-one}
use native.Mathlib.Omega.{arith}
use borrow.Author.Tests.{eqb-true, le-ltb, lt-leb, eq-eqb, ne_eqb}
use lib.Dec.{eqb}
use lib.ListN.{length, get_or}
use Rattle.std.specs.Prelude.{Some, None}
use Rattle.std.specs.declared.option.Option.{Option}
use Rattle.model.specs.Answers.{answered}
use Rattle.model.specs.Calls.{first_fault}
use Rattle.model.specs.Graph as graph
use Rattle.model.specs.Graph.{Graph, Accepted, absent, no_edge}
use Rattle.text.specs.declared.lines.Line.{Line}
use Rattle.text.specs.declared.lines.Line.TheVariants.{Vertex, Edge}
use Rattle.text.specs.declared.counts.Counts.{Counts}
use Rattle.text.specs.Read.{dear, initial_word, line_faults, counted, judge_from, no_counts, initials_of, edges_of}
use Rattle.text.proofs.Passed.{Fine}
use Rattle.text.proofs.Accepted.{Start, Sound}

abbrev cost_by : Bool → ℕ → Option ℕ
cost_by true c = None
cost_by false c = Some c

abbrev initial_of : ℕ → Option ℕ
initial_of c = cost_by (eqb c absent) c

abbrev edge_line : graph.Edge → Option Line
edge_line e = Some (Edge e.from e.to e.cost)

abbrev edge_lines : List graph.Edge → List (Option Line)
edge_lines es = map edge_line es

-- the lines from vertex v on
abbrev lines_from : ℕ → List ℕ → List graph.Edge → List (Option Line)
lines_from v [] es = edge_lines es
lines_from v (c ∷ cs) es = Some (Vertex v (initial_of c)) ∷ lines_from (suc v) cs es

word_of : (c : ℕ) → initial_word (initial_of c) ≡ c
word_of c = go (eqb c absent) refl
  where
    go : (t : Bool) → eqb c absent ≡ t → initial_word (cost_by t c) ≡ c
    go true e = sym (eqb-true c absent e)
    go false e = refl

edge-initials : (es : List graph.Edge) → initials_of (edge_lines es) ≡ []
unfolding initials_of
edge-initials [] = refl
edge-initials (e ∷ es) = edge-initials es

edges-edges : (es : List graph.Edge) → edges_of (edge_lines es) ≡ es
unfolding edges_of
edges-edges [] = refl
edges-edges (e ∷ es) = ap (λ (l : List graph.Edge). e ∷ l) (edges-edges es)

lines-initials : (v : ℕ) (cs : List ℕ) (es : List graph.Edge) → initials_of (lines_from v cs es) ≡ cs
unfolding initials_of
lines-initials v [] es = edge-initials es
lines-initials v (c ∷ cs) es = ap₂ (λ (x : ℕ) (xs : List ℕ). x ∷ xs) (word_of c) (lines-initials (suc v) cs es)

lines-edges : (v : ℕ) (cs : List ℕ) (es : List graph.Edge) → edges_of (lines_from v cs es) ≡ es
unfolding edges_of
lines-edges v [] es = edges-edges es
lines-edges v (c ∷ cs) es = lines-edges (suc v) cs es

-- the graph that lines say
abbrev pub graph_of_lines : List (Option Line) → Graph
graph_of_lines xs = record { initial = initials_of xs; edges = edges_of xs }

abbrev pub graph_lines : Graph → List (Option Line)
graph_lines g = lines_from 0 g.initial g.edges

pub graph-of-lines : (g : Graph) → graph_of_lines (graph_lines g) ≡ g
graph-of-lines g = λ i. record { initial = lines-initials 0 g.initial g.edges i; edges = lines-edges 0 g.initial g.edges i }

-- ---- they have no fault

fine-none : (k : Counts) (x : Option Line) → Fine k x → first_fault (line_faults k x) ≡ None
unfolding line_faults
fine-none k None f = absurd f
fine-none k (Some (Vertex n i)) f = rw (le-ltb 0 k.edges (omega arith), eq-eqb n k.vertices f.1, lt-leb 1024 k.vertices f.2, f.3)
fine-none k (Some (Edge m n c)) f = rw (lt-leb 2048 k.edges f.0, le-ltb 999999 c f.1, lt-leb k.vertices m f.2, lt-leb k.vertices n f.3)

-- whichever line they begin at
abbrev pub Answered : Counts → List (Option Line) → Type 0
Answered k xs = (z : Counts) × ((n : ℕ) → judge_from n k xs ≡ answered z)

answered-cons : (k : Counts) (x : Option Line) (xs : List (Option Line)) → Fine k x → Answered (counted k x) xs → Answered k (x ∷ xs)
unfolding judge_from
answered-cons k x xs f r = (r.0, λ n. rw (fine-none k x f) (r.1 (n + 1)))

edges-answered : (es : List graph.Edge) (k : Counts) → k.edges + length es ≤ 2048 → ((l : ℕ) → l < length es → Sound k (get_or es l no_edge))
    → Answered k (edge_lines es)
unfolding judge_from counted
edges-answered [] k few sound = (k, λ n. refl)
edges-answered (e ∷ es) k few sound =
    let s = sound 0 (omega arith) in
    answered-cons k (edge_line e) (edge_lines es) (omega arith, s.2, s.0, s.1)
    (edges-answered es (counted k (edge_line e)) (omega arith) (λ l h. sound (suc l) (omega arith)))

fine-initial : (c : ℕ) → Start c → dear (initial_of c) ≡ false
fine-initial c (inl e) = rw (eq-eqb c absent e)
fine-initial c (inr h) = rw (ne_eqb c absent (omega arith)) (le-ltb 999999 c h)

vertices-answered : (cs : List ℕ) (v : ℕ) (es : List graph.Edge) → v + length cs ≤ 1024 → length es ≤ 2048 → ((u : ℕ) → Start (get_or cs u absent))
    → ((l : ℕ) → l < length es → Sound (record { vertices = v + length cs; edges = 0 }) (get_or es l no_edge)) → Answered (record { vertices = v; edges = 0 }) (lines_from v cs es)
unfolding counted
vertices-answered [] v es few edges starts sound = edges-answered es (record { vertices = v; edges = 0 }) (omega arith) (λ l h. omega (arith, sound l h))
vertices-answered (c ∷ cs) v es few edges starts sound =
    let k : Counts = record { vertices = v; edges = 0 } in
    let x = Some (Vertex v (initial_of c)) in
    let next = vertices-answered cs (suc v) es (omega arith) edges (λ u. starts (suc u)) (λ l h. omega (arith, sound l h)) in
    answered-cons k x (lines_from (suc v) cs es) (refl, refl, omega arith, fine-initial c (starts 0)) (rw (add-one v) next)

pub graph-answered : (g : Graph) → Accepted g → Answered no_counts (graph_lines g)
graph-answered g a =
    vertices-answered g.initial 0 g.edges (omega (arith, a.vertices)) a.edges a.starts (λ l h. omega (arith, a.leaves l h, a.enters l h, a.costs l h))
