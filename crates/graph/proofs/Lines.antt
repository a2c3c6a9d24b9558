-- What the lines of a text without fault write: its initial costs and its edges as held.
-- Assumes nothing.
use mathlib.Core.Path.{◌≡◌, refl, sym, ap, ap₂, ◌∙◌}
use mathlib.Core.List.{List, [], ◌∷◌, ◌++◌, map, append_assoc, map-id}
use Prim.Native.Nat.{ℕ, suc, ◌+◌, ◌<◌, ◌≤◌}
use native.Mathlib.Omega.{arith}
use lib.ListN.{length, set, take, drop, length-append, length-map}
use lib.Seq.{set_comm, sets, sets-eq}
use Rattle.std.specs.Prelude.{Some, None}
use Rattle.std.specs.declared.option.Option.{Option}
use Rattle.model.specs.Answers.{answered}
use Rattle.model.specs.Graph.{Edge, Graph, Direction, forward, backward, domain}
use Rattle.text.specs.declared.counts.Counts.{Counts}
use Rattle.text.specs.declared.lines.Line.{Line}
use Rattle.text.specs.declared.lines.Line.TheVariants as line
use Rattle.text.specs.Lines.{lines_of}
use Rattle.text.specs.Read.{judge_from, judge_text, counted, no_counts, initial_word, initials_of, edges_of, graph_of}
use Rattle.text.proofs.Passed.{passes-rest}
use Rattle.text.proofs.Accepted.{counts-from}
use Rattle.layout.specs.Layout.{header_words, initial_at, places_at, edge_at}
use Rattle.layout.specs.Words.{edge_words}
use Rattle.layout.proofs.Edges.{edge-words-length}
use Rattle.graph.proofs.LineWords.{line-length}
use Rattle.graph.specs.Write.{CanWrite, held, line_written, lines_written}

-- ---- stores that keep out of each other's way

set-sets : (l : List ℕ) (i j a : ℕ) (vs : List ℕ) → i < j → sets (set l i a) j vs ≡ set (sets l j vs) i a
set-sets l i j a [] h = refl
set-sets l i j a (v ∷ vs) h =
    ap (λ (r : List ℕ). sets r (suc j) vs) (set_comm l i j a v (λ e. omega arith)) ∙ set-sets (set l j v) i (suc j) a vs (omega arith)

sets-sets : (l : List ℕ) (i j : ℕ) (us vs : List ℕ) → i + length us ≤ j → sets (sets l j vs) i us ≡ sets (sets l i us) j vs
sets-sets l i j [] vs h = refl
sets-sets l i j (u ∷ us) vs h =
    ap (λ (r : List ℕ). sets r (suc i) us) (sym (set-sets l i j u vs (omega arith))) ∙ sets-sets (set l i u) (suc i) j us vs (omega arith)

sets-append : (l : List ℕ) (i : ℕ) (us vs : List ℕ) → sets (sets l i us) (i + length us) vs ≡ sets l i (us ++ vs)
sets-append l i [] vs = ap (λ (j : ℕ). sets l j vs) (omega arith)
sets-append l i (u ∷ us) vs =
    ap (λ (j : ℕ). sets (sets (set l i u) (suc i) us) j vs) (omega arith) ∙ sets-append (set l i u) (suc i) us vs

-- two lists stored side by side
stored : (ws : List ℕ) (i : ℕ) (us vs : List ℕ) (n : ℕ) → i + length us + length vs ≡ n → n ≤ length ws
    → sets (sets ws i us) (i + length us) vs ≡ take i ws ++ (us ++ (vs ++ drop n ws))
stored ws i us vs n e h =
    let whole : i + length (us ++ vs) ≡ n = omega (arith, length-append us vs) in
    sets-append ws i us vs
    ∙ sets-eq (us ++ vs) ws i (omega arith)
    ∙ append_assoc (take i ws) (us ++ vs) (drop (i + length (us ++ vs)) ws)
    ∙ ap (λ (r : List ℕ). take i ws ++ r) (append_assoc us vs (drop (i + length (us ++ vs)) ws) ∙ ap (λ (j : ℕ). us ++ (vs ++ drop j ws)) whole)

-- ---- line by line

pub lines-length : (dir : Direction) (m : ℕ) (k : Counts) (xs : List (Option Line)) (ws : List ℕ) → length (lines_written dir m k xs ws) ≡ length ws
unfolding lines_written
lines-length dir m k [] ws = refl
lines-length dir m k (x ∷ xs) ws = lines-length dir m (counted k x) xs (line_written dir m k x ws) ∙ line-length dir m k x ws

-- where k counts the lines above xs and z all lines
pub lines-written : (dir : Direction) (n : ℕ) (k z : Counts) (xs : List (Option Line)) (ws : List ℕ) → judge_from n k xs ≡ answered z
    → lines_written dir z.vertices k xs ws
    ≡ sets (sets ws (initial_at + k.vertices) (initials_of xs)) (edge_at z.vertices k.edges) (edge_words (map (held dir) (edges_of xs)))
unfolding lines_written initials_of edges_of
lines-written dir n k z [] ws e = refl
lines-written dir n k z (None ∷ xs) ws e = lines-written dir (n + 1) k z xs ws (passes-rest n k None xs e)
lines-written dir n k z (Some (line.Vertex v c) ∷ xs) ws e =
    let x : Option Line = Some (line.Vertex v c) in
    let words : List ℕ = edge_words (map (held dir) (edges_of xs)) in
    let more : List ℕ = set ws (initial_at + k.vertices) (initial_word c) in
    lines-written dir (n + 1) (counted k x) z xs more (passes-rest n k x xs e)
    ∙ ap (λ (i : ℕ). sets (sets more i (initials_of xs)) (edge_at z.vertices k.edges) words) (omega arith)
lines-written dir n k z (Some (line.Edge a b c) ∷ xs) ws e =
    let x : Option Line = Some (line.Edge a b c) in
    let words : List ℕ = edge_words (map (held dir) (edges_of xs)) in
    let own : List ℕ = edge_words (held dir (record { from = a; to = b; cost = c }) ∷ []) in
    let place : ℕ = edge_at z.vertices k.edges in
    let rest = passes-rest n k x xs e in
    let room : initial_at + k.vertices + length (initials_of xs) ≤ place = omega (arith, counts-from (n + 1) (counted k x) xs rest) in
    lines-written dir (n + 1) (counted k x) z xs (sets ws place own) rest
    ∙ ap₂ (λ (l : List ℕ) (i : ℕ). sets l i words) (sets-sets ws (initial_at + k.vertices) place (initials_of xs) own room) (omega arith)

-- ---- a whole text

held-edges : (dir : Direction) (text : List ℕ) → map (held dir) (edges_of (lines_of text)) ≡ (domain dir (graph_of text)).graph.edges
unfolding domain graph_of
held-edges forward text = map-id (edges_of (lines_of text))
held-edges backward text = refl

pub held-initial : (dir : Direction) (g : Graph) → (domain dir g).graph.initial ≡ g.initial
unfolding domain
held-initial forward g = refl
held-initial backward g = refl

-- the header stays, and so do the words behind the edges
pub text-written : (dir : Direction) (text : List ℕ) (z : Counts) (ws : List ℕ) → CanWrite ws text z
    → lines_written dir z.vertices no_counts (lines_of text) ws
    ≡ take header_words ws
    ++ ((domain dir (graph_of text)).graph.initial
    ++ (edge_words (domain dir (graph_of text)).graph.edges ++ drop (places_at z.vertices z.edges) ws))
unfolding judge_text graph_of
text-written dir text z ws can =
    lines-written dir 1 no_counts z (lines_of text) ws can.judged
    ∙ ap (λ (i : ℕ). sets (sets ws header_words us) i vs) (omega (arith, counts))
    ∙ stored ws header_words us vs (places_at z.vertices z.edges) (omega (arith, counts, edge-words-length es, length-map (edges_of (lines_of text)) (held dir)))
    (omega (arith, can.fits))
    ∙ ap₂ (λ (is : List ℕ) (ds : List Edge). take header_words ws ++ (is ++ (edge_words ds ++ drop (places_at z.vertices z.edges) ws)))
    initials (held-edges dir text)
  where
    us : List ℕ
    us = initials_of (lines_of text)

    es : List Edge
    es = map (held dir) (edges_of (lines_of text))

    vs : List ℕ
    vs = edge_words es

    initials : us ≡ (domain dir (graph_of text)).graph.initial
    initials = sym (held-initial dir (graph_of text))

    counts : (0 + length us ≡ z.vertices) × (0 + length (edges_of (lines_of text)) ≡ z.edges)
    counts = counts-from 1 no_counts (lines_of text) can.judged
