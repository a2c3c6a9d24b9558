-- One law for each kind of word of a cache just opened; `rest` is whatever stands behind its words.
-- Assumes nothing.
use mathlib.Core.Path.{◌≡◌, refl, sym, ap, ◌∙◌}
use mathlib.Core.List.{List, ◌++◌, append_assoc}
use Prim.Native.Nat.{ℕ, ◌+◌, ◌*◌, ◌<◌, ◌≤◌}
use native.Mathlib.Omega.{arith}
use lib.ListN.{length, get_or, take, replicate, length-append, length-replicate, get_or-replicate, get_or-append}
use lib.Seq.{get_or-append-add}
use Rattle.model.specs.Graph.{Graph, Direction, Domain, domain, Accepted, vertex_count, edge_count, from, to, cost, edge_numbers}
use Rattle.model.proofs.Reversed.{domain-counts}
use Rattle.layout.specs.Layout.{header_words, places_at, numbers_at, slots_at, tree_words, from_in, to_in, edge_cost_in, initial_in, place_in, number_in}
use Rattle.layout.specs.Words.{header_of, edge_words, first_place, first_places, opened_words}
use Rattle.layout.proofs.Edges.{edge-words-length, from-word, to_word, cost-word}
use Rattle.graph.proofs.Lines.{held-initial}
use Rattle.graph.proofs.Lengths.{first-places-length, first-place-at, edge-numbers-length}
use Rattle.cache.proofs.Opened.{front, front_length, opened-split, opened-graph}

-- a word of the list behind n others
word-behind : (xs ys zs : List ℕ) (n i : ℕ) → length xs ≡ n → i < length ys → get_or (xs ++ (ys ++ zs)) (n + i) 0 ≡ get_or ys i 0
word-behind xs ys zs n i e h =
    ap (λ (k : ℕ). get_or (xs ++ (ys ++ zs)) (k + i) 0) (sym e) ∙ get_or-append-add xs (ys ++ zs) i 0 ∙ get_or-append ys zs 0 i h

module _ (dir : Direction) (g : Graph) (t : ℕ) (rest : List ℕ) where
  abbrev m : ℕ
  m = vertex_count g

  abbrev l : ℕ
  l = edge_count g

  abbrev d : Domain
  d = domain dir g

  abbrev ws : List ℕ
  ws = opened_words dir g t ++ rest

  abbrev zeros : List ℕ
  zeros = replicate (t * tree_words m l) 0

  -- direction, M, L, T, trees in use
  pub header-words : take header_words ws ≡ header_of dir m l t
  unfolding opened_words
  header-words = refl

  apart : ws ≡ header_of dir m l t ++ (d.graph.initial ++ (edge_words d.graph.edges ++ (first_places d ++ (edge_numbers d ++ (zeros ++ rest)))))
  unfolding opened_words
  apart = simp append_assoc

  -- initial costs are as in the text, in both directions
  pub initial-word : (v : ℕ) → v < m → initial_in ws v ≡ get_or g.initial v 0
  initial-word v h =
      ap (λ (x : List ℕ). initial_in x v) apart
      ∙ word-behind (header_of dir m l t) d.graph.initial _ header_words v refl (omega (arith, (domain-counts dir g).0))
      ∙ ap (λ (x : List ℕ). get_or x v 0) (held-initial dir g)

  pub from-edge : (e : ℕ) → e < l → from_in m ws e ≡ from d.graph e
  from-edge e h = sym (from-word m l ws e h) ∙ ap (λ (x : Graph). from x e) (opened-graph dir g t rest)

  pub to-edge : (e : ℕ) → e < l → to_in m ws e ≡ to d.graph e
  to-edge e h = sym (to_word m l ws e h) ∙ ap (λ (x : Graph). to x e) (opened-graph dir g t rest)

  pub cost-edge : (e : ℕ) → e < l → edge_cost_in m ws e ≡ cost d.graph e
  cost-edge e h = sym (cost-word m l ws e h) ∙ ap (λ (x : Graph). cost x e) (opened-graph dir g t rest)

  -- the words before the first places
  abbrev edged : List ℕ
  edged = header_of dir m l t ++ (d.graph.initial ++ edge_words d.graph.edges)

  edged-length : length edged ≡ places_at m l
  edged-length =
      omega (
        arith,
        length-append d.graph.initial (edge_words d.graph.edges),
        edge-words-length d.graph.edges,
        domain-counts dir g,
      )

  split : ws ≡ edged ++ (first_places d ++ (edge_numbers d ++ (zeros ++ rest)))
  split = apart ∙ simp append_assoc

  pub place-word : (v : ℕ) → v ≤ m → place_in m l ws v ≡ first_place d v
  place-word v h =
      ap (λ (x : List ℕ). place_in m l x v) split
      ∙ word-behind edged (first_places d) (edge_numbers d ++ (zeros ++ rest)) (places_at m l) v edged-length
      (omega (arith, first-places-length d, domain-counts dir g))
      ∙ first-place-at d v (omega (arith, domain-counts dir g))

  pub number_word : Accepted g → (i : ℕ) → i < l → number_in m l ws i ≡ get_or (edge_numbers d) i 0
  number_word ok i h =
      ap (λ (x : List ℕ). number_in m l x i) (split ∙ sym (append_assoc edged (first_places d) (edge_numbers d ++ (zeros ++ rest))))
      ∙ word-behind (edged ++ first_places d) (edge_numbers d) (zeros ++ rest) (numbers_at m l) i
      (omega (arith, length-append edged (first_places d), edged-length, first-places-length d, domain-counts dir g))
      (omega (arith, edge-numbers-length dir g ok))

  pub slot-word : Accepted g → (i : ℕ) → i < t * tree_words m l → get_or ws (slots_at m l + i) 0 ≡ 0
  slot-word ok i h =
      ap (λ (x : List ℕ). get_or x (slots_at m l + i) 0) (ap (λ (x : List ℕ). x ++ rest) (opened-split dir g t) ∙ append_assoc (front dir g t) zeros rest)
      ∙ word-behind (front dir g t) zeros rest (slots_at m l) i (front_length dir g t ok) (omega (arith, length-replicate {A = ℕ} (t * tree_words m l) 0))
      ∙ get_or-replicate {A = ℕ} (t * tree_words m l) i 0 0 h
