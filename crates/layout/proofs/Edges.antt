-- The graph that words hold: its counts, its edges word by word, and that the words of a graph hold it.
-- Assumes nothing.
use mathlib.Core.Path.{◌≡◌, refl, sym, ap, ◌∙◌}
use mathlib.Core.List.{List, [], ◌∷◌, ◌++◌}
use Prim.Native.Nat.{ℕ, zero, suc, ◌+◌, ◌*◌, ◌<◌, ◌≤◌}
use native.Mathlib.Omega.{arith}
use lib.ListN.{length, get_or, take, drop}
use lib.Seq.{drop-drop, take_at, drop_at}
use Rattle.model.specs.Graph.{Edge, Graph, no_edge, vertex_count, edge_count, from, to, cost}
use Rattle.layout.specs.Layout.{header_words, initial_at, initial_in, edges_at, edge_size, edge_to_at, edge_cost_at, edge_at, from_in, to_in, edge_cost_in, part}
use Rattle.layout.specs.Words.{edge_words}
use Rattle.layout.specs.Read.{read_edges, graph_in}
use Rattle.layout.proofs.Places.{word-behind, part_at, part_length}

-- ---- counts

edges-in-length : (l : ℕ) (ws : List ℕ) → length (read_edges l ws) ≡ l
edges-in-length zero ws = refl
edges-in-length (suc l) ws = ap suc (edges-in-length l (drop edge_size ws))

pub edge-count-in : (m l : ℕ) (ws : List ℕ) → edge_count (graph_in m l ws) ≡ l
unfolding graph_in
edge-count-in m l ws = edges-in-length l (drop (edges_at m) ws)

pub vertex-count-in : (m l : ℕ) (ws : List ℕ) → edges_at m ≤ length ws → vertex_count (graph_in m l ws) ≡ m
unfolding graph_in
vertex-count-in m l ws h = part_length initial_at m ws h

pub edge-words-length : (es : List Edge) → length (edge_words es) ≡ edge_size * length es
edge-words-length [] = refl
edge-words-length (e ∷ es) = omega (arith, edge-words-length es)

-- ---- initial costs

-- a word that is there is no default
any-default : (ws : List ℕ) (i a b : ℕ) → i < length ws → get_or ws i a ≡ get_or ws i b
any-default [] i a b h = absurd (omega arith)
any-default (w ∷ ws) zero a b h = refl
any-default (w ∷ ws) (suc i) a b h = any-default ws i a b (omega arith)

pub initial-word : (m l : ℕ) (ws : List ℕ) (v a : ℕ) → v < m → edges_at m ≤ length ws → get_or (graph_in m l ws).initial v a ≡ initial_in ws v
unfolding graph_in
initial-word m l ws v a h fits = any-default (part initial_at m ws) v a 0 (omega (arith, part_length initial_at m ws fits)) ∙ part_at initial_at m ws v h

-- ---- an edge's words

-- the edge whose words stand from `at` on
abbrev edge_from : List ℕ → ℕ → Edge
edge_from ws at = record { from = get_or ws at 0; to = get_or ws (at + edge_to_at) 0; cost = get_or ws (at + edge_cost_at) 0 }

edge-at-drop : (n : ℕ) (ws : List ℕ) (j k : ℕ) → n + j ≡ k → edge_from (drop n ws) j ≡ edge_from ws k
edge-at-drop n ws j k e = λ i. record {
  from = word-behind n ws j k e i;
  to = word-behind n ws (j + edge_to_at) (k + edge_to_at) (omega arith) i;
  cost = word-behind n ws (j + edge_cost_at) (k + edge_cost_at) (omega arith) i;
}

edges-in-at : (l : ℕ) (ws : List ℕ) (e : ℕ) → e < l → get_or (read_edges l ws) e no_edge ≡ edge_from ws (edge_size * e)
edges-in-at zero ws e h = absurd (omega arith)
edges-in-at (suc l) ws zero h = refl
edges-in-at (suc l) ws (suc e) h = edges-in-at l (drop edge_size ws) e (omega arith) ∙ edge-at-drop edge_size ws (edge_size * e) (edge_size * suc e) (omega arith)

edge_in_lem : (m l : ℕ) (ws : List ℕ) (e : ℕ) → e < l → get_or (graph_in m l ws).edges e no_edge ≡ edge_from ws (edge_at m e)
unfolding graph_in
edge_in_lem m l ws e h = edges-in-at l (drop (edges_at m) ws) e h ∙ edge-at-drop (edges_at m) ws (edge_size * e) (edge_at m e) refl

pub from-word : (m l : ℕ) (ws : List ℕ) (e : ℕ) → e < l → from (graph_in m l ws) e ≡ from_in m ws e
from-word m l ws e h = ap (λ (x : Edge). x.from) (edge_in_lem m l ws e h)

pub to_word : (m l : ℕ) (ws : List ℕ) (e : ℕ) → e < l → to (graph_in m l ws) e ≡ to_in m ws e
to_word m l ws e h = ap (λ (x : Edge). x.to) (edge_in_lem m l ws e h)

pub cost-word : (m l : ℕ) (ws : List ℕ) (e : ℕ) → e < l → cost (graph_in m l ws) e ≡ edge_cost_in m ws e
cost-word m l ws e h = ap (λ (x : Edge). x.cost) (edge_in_lem m l ws e h)

-- ---- a graph's own words

edges-in-words : (es : List Edge) (rest : List ℕ) → read_edges (length es) (edge_words es ++ rest) ≡ es
edges-in-words [] rest = refl
edges-in-words (e ∷ es) rest = ap (λ (xs : List Edge). e ∷ xs) (edges-in-words es rest)

-- h: the header
pub graph-in : (h : List ℕ) (g : Graph) (rest : List ℕ) → length h ≡ header_words
    → graph_in (vertex_count g) (edge_count g) (h ++ (g.initial ++ (edge_words g.edges ++ rest))) ≡ g
unfolding graph_in
graph-in h g rest size = λ i. record { initial = initials i; edges = edges i }
  where
    words : List ℕ
    words = edge_words g.edges ++ rest

    behind : drop header_words (h ++ (g.initial ++ words)) ≡ g.initial ++ words
    behind = drop_at h (g.initial ++ words) header_words size

    initials : take (vertex_count g) (drop header_words (h ++ (g.initial ++ words))) ≡ g.initial
    initials = ap (take (vertex_count g)) behind ∙ take_at g.initial words (vertex_count g) refl

    edges : read_edges (edge_count g) (drop (edges_at (vertex_count g)) (h ++ (g.initial ++ words))) ≡ g.edges
    edges =
        ap (read_edges (edge_count g))
        (sym (drop-drop (vertex_count g) header_words (h ++ (g.initial ++ words))) ∙ ap (drop (vertex_count g)) behind ∙ drop_at g.initial words (vertex_count g) refl)
        ∙ edges-in-words g.edges rest
