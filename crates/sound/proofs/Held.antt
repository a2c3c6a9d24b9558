-- The words of a cache passed the tests of header and graph exactly if they hold an accepted graph and its index, and they still do
-- where the words before the slots stay.
-- Assumes nothing.
use mathlib.Core.Path.{◌≡◌, refl, sym, ap, ◌∙◌, subst}
use mathlib.Core.Logic.{◌⊎◌, inl, inr, ◌≢◌}
use mathlib.Core.Bool.{Bool, true}
use mathlib.Core.List.{List, ◌∷◌}
use Prim.Native.Nat.{ℕ, zero, suc, ◌+◌, ◌*◌, ◌<◌, ◌≤◌}
use native.Mathlib.Decide.{dec_lt}
use native.Mathlib.Omega.{arith}
use borrow.Author.Tests.{ltb-true, leb-true, eqb-true, lt-ltb, le-leb, eq-eqb}
use lib.Dec.{eqb, leb}
use lib.ListN.{length, get_or, drop, get_or-eq_default}
use lib.Seq.{get_or-drop}
use Rattle.model.specs.Lists.{allb, upto}
use Rattle.model.specs.Graph.{Graph, Domain, Accepted, absent, from, to, cost, vertex_count, edge_count, edge_numbers}
use Rattle.model.proofs.Bools.{AllTrue, or_cases, true-or-left, true-or-right, all_true, true-given, upto-at, at-upto, upto-same}
use Rattle.layout.specs.Layout.{Sized, direction_at, tree_count_at, initial_at, edges_at, edge_size, edge_to_at, edge_cost_at, places_at, numbers_at, slots_at, part, edges_in, vertices_in, initial_in, from_in, to_in, place_in, number_in}
use Rattle.layout.specs.Words.{first_place, first_places}
use Rattle.layout.specs.Read.{direction_of, read_edges, graph_in, domain_of, read_cache}
use Rattle.layout.specs.Sound.{header_tests, initialb, edge_tests, index_tests, indexb, graph_tests}
use Rattle.layout.specs.Held.{Held}
use Rattle.layout.proofs.Edges.{initial-word, vertex-count-in, edge-count-in, from-word, to_word}
use Rattle.layout.proofs.Places.{part_at, part_length}
use Rattle.layout.proofs.Same.{same-is, alike_same}
use Rattle.tree.proofs.Same.{part_same}
use Rattle.graph.proofs.Lengths.{first-places-length, first-place-at, numbers-length}
use Rattle.sound.proofs.Header.{headed}

-- ---- tests of an initial cost, of an edge

initial-at : (c : ℕ) → initialb c ≡ true → (c ≡ absent) ⊎ (c ≤ 999999)
initial-at c e = elim (or_cases (eqb c absent) (leb c 999999) e) [ inl z ↦ inl (eqb-true c absent z) | inr z ↦ inr (leb-true c 999999 z) ]

at-initial : (c : ℕ) → (c ≡ absent) ⊎ (c ≤ 999999) → initialb c ≡ true
at-initial c (inl z) = true-or-left (eqb c absent) (leb c 999999) (eq-eqb c absent z)
at-initial c (inr z) = true-or-right (eqb c absent) (leb c 999999) (le-leb c 999999 z)

abbrev initialsb : Graph → ℕ → Bool
initialsb g n = upto (λ v. initialb (get_or g.initial v absent)) n

abbrev edgesb : Graph → ℕ → Bool
edgesb g n = upto (λ e. allb (edge_tests g e)) n

edge_at : (g : Graph) (n : ℕ) → edgesb g n ≡ true → (e : ℕ) → e < n → AllTrue (edge_tests g e)
edge_at g n t e h = all_true (edge_tests g e) (upto-at (λ e. allb (edge_tests g e)) n t e h)

module _ (g : Graph) where
  accepted-at : vertex_count g ≤ 1024 → edge_count g ≤ 2048 → initialsb g (vertex_count g) ≡ true → edgesb g (edge_count g) ≡ true → Accepted g
  accepted-at few less s t = record {
    vertices = few;
    edges = less;
    starts = λ v. elim (dec_lt v (vertex_count g)) [
      | yes h ↦ initial-at _ (upto-at (λ v. initialb (get_or g.initial v absent)) (vertex_count g) s v h)
      | no h ↦ inl (get_or-eq_default g.initial absent (omega arith))
    ];
    leaves = λ e h. ltb-true (from g e) (vertex_count g) (edge_at g (edge_count g) t e h).0;
    enters = λ e h. ltb-true (to g e) (vertex_count g) (edge_at g (edge_count g) t e h).1.0;
    costs = λ e h. leb-true (cost g e) 999999 (edge_at g (edge_count g) t e h).1.1.0;
  }

  module _ (ok : Accepted g) where
    at-initials : initialsb g (vertex_count g) ≡ true
    at-initials = at-upto (λ v. initialb (get_or g.initial v absent)) (vertex_count g) (λ v h. at-initial (get_or g.initial v absent) (ok.starts v))

    at-edges : edgesb g (edge_count g) ≡ true
    at-edges = at-upto (λ e. allb (edge_tests g e)) (edge_count g) (λ e h.
        true-given (edge_tests g e) (lt-ltb (from g e) (vertex_count g) (ok.leaves e h)) (lt-ltb (to g e) (vertex_count g) (ok.enters e h)) (le-leb (cost g e) 999999 (ok.costs e h)))

-- ---- the graph and its index, from the tests and back

module _ (m l : ℕ) (ws : List ℕ) (fits : slots_at m l ≤ length ws) where
  abbrev d : Domain
  d = domain_of m l ws

  abbrev g : Graph
  g = graph_in m l ws

  vertices : vertex_count g ≡ m
  vertices = vertex-count-in m l ws (omega arith)

  edges : edge_count g ≡ l
  edges = edge-count-in m l ws

  -- the words of the index, as the tests have them
  abbrev places : List ℕ
  places = part (places_at (vertex_count g) (edge_count g)) (vertex_count g + 1) ws

  abbrev numbers : List ℕ
  numbers = part (numbers_at (vertex_count g) (edge_count g)) (edge_count g) ws

  place-word : (v : ℕ) → v ≤ m → get_or places v 0 ≡ place_in m l ws v
  place-word v h =
      part_at (places_at (vertex_count g) (edge_count g)) (vertex_count g + 1) ws v (omega (arith, vertices))
      ∙ ap (λ (n : ℕ). get_or ws n 0) (omega (arith, vertices, edges))

  number_word : (p : ℕ) → p < l → get_or numbers p 0 ≡ number_in m l ws p
  number_word p h =
      part_at (numbers_at (vertex_count g) (edge_count g)) (edge_count g) ws p (omega (arith, edges)) ∙ ap (λ (n : ℕ). get_or ws n 0) (omega (arith, vertices, edges))

  graph-held : Sized m l → allb (graph_tests d ws) ≡ true → Held m l ws
  unfolding indexb
  graph-held sized e =
      let r = all_true (graph_tests d ws) e in
      let x = all_true (index_tests d ws) r.1.1.0 in
      record {
        sized = sized;
        fits = fits;
        accepted = accepted-at g (omega (arith, vertices, sized.vertices)) (omega (arith, edges, sized.edges)) r.0 r.1.0;
        place = λ v h. sym (place-word v h) ∙ ap (λ (n : List ℕ). get_or n v 0) (same-is places (first_places d) x.0) ∙ first-place-at d v (omega (arith, vertices));
        number = λ p h. sym (number_word p h) ∙ ap (λ (n : List ℕ). get_or n p 0) (same-is numbers (edge_numbers d) x.1.0);
      }

  places-length : length places ≡ vertex_count g + 1
  places-length = part_length (places_at (vertex_count g) (edge_count g)) (vertex_count g + 1) ws (omega (arith, vertices, edges))

  numbers-count : length numbers ≡ edge_count g
  numbers-count = part_length (numbers_at (vertex_count g) (edge_count g)) (edge_count g) ws (omega (arith, vertices, edges))

  index_at : Held m l ws → indexb d ws ≡ true
  unfolding indexb
  index_at h =
      true-given (index_tests d ws)
      (alike_same places (first_places d) (places-length ∙ sym (first-places-length d)) (λ v k.
      let b : v ≤ m = omega (arith, places-length, vertices) in
      place-word v b ∙ h.place v b ∙ sym (first-place-at d v (omega (arith, vertices)))))
      (alike_same numbers (edge_numbers d) (numbers-count ∙ sym (numbers-length d.direction g h.accepted)) (λ p k.
      let b : p < l = omega (arith, numbers-count, edges) in
      number_word p b ∙ h.number p b))

held-graph : (m l : ℕ) (ws : List ℕ) → Held m l ws → allb (graph_tests (domain_of m l ws) ws) ≡ true
held-graph m l ws h =
    true-given (graph_tests (domain_of m l ws) ws) (at-initials (graph_in m l ws) h.accepted) (at-edges (graph_in m l ws) h.accepted) (index_at m l ws h.fits h)

-- ---- the same, of the whole cache

domain-read : (ws : List ℕ) → (read_cache ws).domain ≡ domain_of (vertices_in ws) (edges_in ws) ws
unfolding read_cache
domain-read ws = refl

pub held_at : (ws : List ℕ) → allb (header_tests ws) ≡ true → allb (graph_tests (read_cache ws).domain ws) ≡ true → Held (vertices_in ws) (edges_in ws) ws
held_at ws h t =
    let r = headed ws h in
    graph-held (vertices_in ws) (edges_in ws) ws (omega (arith, r.fits)) r.sized (subst (λ (d : Domain). allb (graph_tests d ws) ≡ true) (domain-read ws) t)

pub at_held : (ws : List ℕ) → Held (vertices_in ws) (edges_in ws) ws → allb (graph_tests (read_cache ws).domain ws) ≡ true
at_held ws held = subst (λ (d : Domain). allb (graph_tests d ws) ≡ true) (sym (domain-read ws)) (held-graph (vertices_in ws) (edges_in ws) ws held)

-- ---- where the words before the slots stay

edges-same : (l : ℕ) (ws ws' : List ℕ) → ((j : ℕ) → j < edge_size * l → get_or ws' j 0 ≡ get_or ws j 0) → read_edges l ws' ≡ read_edges l ws
edges-same zero ws ws' f = refl
edges-same (suc l) ws ws' f = λ i.
    record { from = f 0 (omega arith) i; to = f edge_to_at (omega arith) i; cost = f edge_cost_at (omega arith) i }
    ∷ edges-same l (drop edge_size ws) (drop edge_size ws') (λ j h. get_or-drop edge_size ws' j 0 ∙ f (edge_size + j) (omega arith) ∙ sym (get_or-drop edge_size ws j 0)) i

-- the header and the graph's words stay, but for the count of trees in use
module _ (m l : ℕ) (ws ws' : List ℕ) (len : length ws' ≡ length ws) (same : (j : ℕ) → j ≢ tree_count_at → j < slots_at m l → get_or ws' j 0 ≡ get_or ws j 0) where
  graph_same : slots_at m l ≤ length ws → graph_in m l ws' ≡ graph_in m l ws
  unfolding graph_in
  graph_same fits = λ i. record { initial = initials i; edges = edges i }
    where
      initials : part initial_at m ws' ≡ part initial_at m ws
      initials = part_same initial_at m ws ws' len (λ j k. same (initial_at + j) (omega arith) (omega arith))

      edges : read_edges l (drop (edges_at m) ws') ≡ read_edges l (drop (edges_at m) ws)
      edges = edges-same l (drop (edges_at m) ws) (drop (edges_at m) ws') (λ j h.
          get_or-drop (edges_at m) ws' j 0 ∙ same (edges_at m + j) (omega arith) (omega arith) ∙ sym (get_or-drop (edges_at m) ws j 0))

  pub domain-same : slots_at m l ≤ length ws → domain_of m l ws' ≡ domain_of m l ws
  domain-same fits = λ i. record { direction = direction_of (same direction_at (omega arith) (omega arith) i); graph = graph_same fits i }

  pub held_same : Held m l ws → Held m l ws'
  held_same h = record {
    sized = h.sized;
    fits = omega (arith, len, h.fits);
    accepted = subst Accepted (sym (graph_same h.fits)) h.accepted;
    place = λ v k. same (places_at m l + v) (omega arith) (omega arith) ∙ h.place v k ∙ ap (λ (d : Domain). first_place d v) (sym (domain-same h.fits));
    number = λ p k. same (numbers_at m l + p) (omega arith) (omega arith) ∙ h.number p k ∙ ap (λ (d : Domain). get_or (edge_numbers d) p 0) (sym (domain-same h.fits));
  }

-- ---- what is known where the tests of initial costs and edges passed

-- the initial costs, as the words and as the graph have them
pub initials-as : (m l : ℕ) (ws : List ℕ) → edges_at m ≤ length ws → upto (λ v. initialb (initial_in ws v)) m ≡ upto (λ v. initialb (get_or (graph_in m l ws).initial v absent)) m
initials-as m l ws h = upto-same _ _ m (λ v k. ap initialb (sym (initial-word m l ws v absent k h)))

module _ (m l : ℕ) (ws : List ℕ) (fits : edges_at m ≤ length ws) (passed : upto (λ e. allb (edge_tests (graph_in m l ws) e)) l ≡ true) where
  abbrev held : Graph
  held = graph_in m l ws

  ends : (e : ℕ) → e < l → (from held e < m) × (to held e < m)
  ends e h =
      let t = edge_at held l passed e h in
      omega (arith, vertex-count-in m l ws fits, ltb-true (from held e) (vertex_count held) t.0, ltb-true (to held e) (vertex_count held) t.1.0)

  pub edges-from : (e : ℕ) → e < l → from_in m ws e < m
  edges-from e h = rw (← from-word m l ws e h) (ends e h).0

  pub edges-to : (e : ℕ) → e < l → to_in m ws e < m
  edges-to e h = rw (← to_word m l ws e h) (ends e h).1
