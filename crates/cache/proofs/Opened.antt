-- The words that opening leaves: how many they are, how they come about, and what is read off them.
-- Assumes nothing.
use mathlib.Core.Path.{◌≡◌, refl, sym, ap, ap₂, ◌∙◌}
use mathlib.Core.List.{List, [], ◌∷◌, ◌++◌, append_assoc}
use Prim.Native.Nat.{ℕ, zero, suc, ◌+◌, ◌-◌, ◌*◌, ◌≤◌}
use native.Mathlib.Omega.{arith}
use lib.ListN.{length, take, drop, replicate, length-append, length-replicate}
use lib.Seq.{take_at, drop-drop, drop-append-add}
use Rattle.model.specs.Answers.{answered}
use Rattle.model.specs.Graph.{Graph, Direction, forward, backward, Domain, domain, Accepted, vertex_count, edge_count, edge_numbers}
use Rattle.model.specs.Calls.{opened, written}
use Rattle.model.proofs.Reversed.{domain-direction, domain-counts}
use Rattle.text.specs.declared.counts.Counts.{Counts}
use Rattle.text.specs.Read.{judge_text, graph_of}
use Rattle.text.proofs.Accepted.{judged-counts, judged-accepted}
use Rattle.layout.specs.Layout.{header_words, slots_at, tree_words, needed}
use Rattle.layout.specs.Words.{direction_word, header_of, edge_words, first_places, graph_words, opened_words}
use Rattle.layout.specs.Read.{direction_of, graph_in, read_cache}
use Rattle.layout.proofs.Edges.{graph-in}
use Rattle.graph.proofs.Lengths.{graph-words-length}

direction-of : (dir : Direction) → direction_of (direction_word dir) ≡ dir
direction-of forward = refl
direction-of backward = refl

-- a direction within its limit is its own word
pub word_of : (d : ℕ) → d ≤ 1 → direction_word (direction_of d) ≡ d
word_of zero h = refl
word_of (suc zero) h = refl
word_of (suc (suc d)) h = absurd (omega arith)

module _ (dir : Direction) (g : Graph) (t : ℕ) where
  abbrev m : ℕ
  m = vertex_count g

  abbrev l : ℕ
  l = edge_count g

  abbrev header : List ℕ
  header = header_of dir m l t

  abbrev zeros : List ℕ
  zeros = replicate (t * tree_words m l) 0

  abbrev pub front : List ℕ
  front = header ++ graph_words (domain dir g)

  pub front_length : Accepted g → length front ≡ slots_at m l
  front_length ok = omega (arith, length-append header (graph_words (domain dir g)), graph-words-length dir g ok)

  pub opened-split : opened_words dir g t ≡ front ++ zeros
  unfolding opened_words
  opened-split = sym (append_assoc header (graph_words (domain dir g)) zeros)

  -- "it needs 6 + 2M + 4L + T × (8 + 5L + M) words"
  pub opened-length : Accepted g → length (opened_words dir g t) ≡ needed m l t
  opened-length ok =
      omega (arith, ap length opened-split, length-append front zeros, front_length ok, length-replicate {A = ℕ} (t * tree_words m l) 0)

  -- header, graph and zeros, one after the other, are the words of an opened cache
  module _ (ok : Accepted g) (ws : List ℕ) (fits : needed m l t ≤ length ws) where
    abbrev headed : List ℕ
    headed = header ++ drop header_words ws

    abbrev graphed : List ℕ
    graphed = take header_words headed ++ (graph_words (domain dir g) ++ drop (slots_at m l) headed)

    graphed-is : graphed ≡ front ++ drop (slots_at m l) ws
    graphed-is =
        let slots : slots_at m l ≡ length header + (1 + 2 * m + 4 * l) = omega arith in
        let behind : drop (slots_at m l) headed ≡ drop (slots_at m l) ws =
        ap (λ (n : ℕ). drop n headed) slots
        ∙ drop-append-add header (drop header_words ws) (1 + 2 * m + 4 * l)
        ∙ drop-drop (1 + 2 * m + 4 * l) header_words ws
        ∙ ap (λ (n : ℕ). drop n ws) (sym slots) in
        ap₂ (λ (x y : List ℕ). x ++ (graph_words (domain dir g) ++ y)) (take_at header (drop header_words ws) header_words refl) behind
        ∙ sym (append_assoc header (graph_words (domain dir g)) (drop (slots_at m l) ws))

    pub opened-written : take (slots_at m l) graphed ++ (replicate (needed m l t - slots_at m l) 0 ++ drop (needed m l t) graphed)
        ≡ written (opened_words dir g t) ws
    opened-written =
        let words : needed m l t ≡ length front + t * tree_words m l = omega (arith, front_length ok) in
        let behind : drop (needed m l t) graphed ≡ drop (needed m l t) ws =
        ap (drop (needed m l t)) graphed-is
        ∙ ap (λ (n : ℕ). drop n (front ++ drop (slots_at m l) ws)) words
        ∙ drop-append-add front (drop (slots_at m l) ws) (t * tree_words m l)
        ∙ drop-drop (t * tree_words m l) (slots_at m l) ws in
        let count : needed m l t - slots_at m l ≡ t * tree_words m l = omega arith in
        ap₂ (λ (x y : List ℕ). x ++ y)
        (ap (take (slots_at m l)) graphed-is ∙ take_at front (drop (slots_at m l) ws) (slots_at m l) (front_length ok))
        (ap₂ (λ (n : ℕ) (y : List ℕ). replicate n 0 ++ y) count behind)
        ∙ sym (append_assoc front zeros (drop (needed m l t) ws))
        ∙ ap₂ (λ (x : List ℕ) (n : ℕ). x ++ drop n ws) (sym opened-split) (sym (opened-length ok))

-- ---- the same of a text without fault, in the code's terms: z counts its vertices and edges

module _ (text : List ℕ) (z : Counts) (d t : ℕ) (ws : List ℕ) (judged : judge_text text ≡ answered z) (within : d ≤ 1)
    (fits : needed z.vertices z.edges t ≤ length ws) where
  abbrev graph : Graph
  graph = graph_of text

  same : (vertex_count graph ≡ z.vertices) × (edge_count graph ≡ z.edges)
  same = judged-counts text z judged

  -- the words after the header x, m, l, then after the graph, then after the zeros
  abbrev headed-by : ℕ → ℕ → ℕ → List ℕ
  headed-by x m l = (x ∷ m ∷ l ∷ t ∷ 0 ∷ []) ++ drop header_words ws

  abbrev graphed-by : ℕ → ℕ → ℕ → List ℕ
  graphed-by x m l =
      take header_words (headed-by x m l) ++ (graph_words (domain (direction_of d) graph) ++ drop (slots_at m l) (headed-by x m l))

  abbrev cleared_by : ℕ → ℕ → ℕ → List ℕ
  cleared_by x m l =
      take (slots_at m l) (graphed-by x m l) ++ (replicate (needed m l t - slots_at m l) 0 ++ drop (needed m l t) (graphed-by x m l))

  pub text-opened : cleared_by d z.vertices z.edges ≡ written (opened_words (direction_of d) (graph_of text) t) ws
  text-opened =
      ap (λ (x : ℕ). cleared_by x z.vertices z.edges) (sym (word_of d within))
      ∙ ap₂ (cleared_by (direction_word (direction_of d))) (sym same.0) (sym same.1)
      ∙ opened-written (direction_of d) graph t (judged-accepted text z judged) ws (rw (same.0, same.1) fits)

-- ---- what is read off them

-- the graph is read as it is held, turned round in a backward cache
pub opened-graph : (dir : Direction) (g : Graph) (t : ℕ) (rest : List ℕ)
    → graph_in (vertex_count g) (edge_count g) (opened_words dir g t ++ rest) ≡ (domain dir g).graph
unfolding opened_words graph_words
opened-graph dir g t rest =
    ap (graph_in (vertex_count g) (edge_count g)) (simp append_assoc)
    ∙ ap₂ (λ (m l : ℕ). graph_in m l (header_of dir (vertex_count g) (edge_count g) t ++ (d.graph.initial ++ (edge_words d.graph.edges ++ words))))
    (sym (domain-counts dir g).0) (sym (domain-counts dir g).1)
    ∙ graph-in (header_of dir (vertex_count g) (edge_count g) t) d.graph words refl
  where
    d : Domain
    d = domain dir g

    words : List ℕ
    words = first_places d ++ (edge_numbers d ++ (replicate (t * tree_words (vertex_count g) (edge_count g)) 0 ++ rest))

-- the cache is the one just opened: no tree is in use
pub read_opened_lem : (dir : Direction) (g : Graph) (t : ℕ) (rest : List ℕ) → read_cache (opened_words dir g t ++ rest) ≡ opened dir g t
unfolding read_cache opened opened_words
read_opened_lem dir g t rest = λ i. record {
  domain = record { direction = direction i; graph = opened-graph dir g t rest i };
  slots = t;
  trees = [];
}
  where
    direction : direction_of (direction_word dir) ≡ (domain dir g).direction
    direction = direction-of dir ∙ sym (domain-direction dir g)
