-- Opening and the definition of sound words: what opening leaves is sound, and header and graph of words pass their tests exactly if
-- they are such as opening writes.
-- Assumes nothing.
use mathlib.Core.Path.{◌≡◌, refl, sym, ap, ap₂, ◌∙◌, subst}
use Rattle.std.specs.Prelude.{Ok}
use mathlib.Core.Logic.{◌≢◌}
use mathlib.Core.Bool.{true, ◌&&◌}
use mathlib.Core.List.{List, ◌++◌}
use Prim.Native.Nat.{ℕ, zero, suc, ◌+◌, ◌-◌, ◌*◌, ◌/◌, ◌<◌, ◌≤◌}
use native.Mathlib.Decide.{dec_lt}
use native.Mathlib.Nat.{add-zero}
use native.Mathlib.Omega.{arith}
use borrow.Author.Tests.{le-leb, le-ltb}
use lib.ListN.{length, get_or, drop, length-append}
use Rattle.model.specs.Lists.{allb}
use Rattle.model.specs.Graph.{Graph, Direction, forward, backward, Domain, Accepted, vertex_count, edge_count, from, to, cost, domain, edge_numbers}
use Rattle.model.specs.Calls.{Cache, opened, written}
use Rattle.model.proofs.Bools.{and-true, true-and}
use Rattle.model.proofs.Reversed.{accepted-domain, domain-twice, domain-counts}
use Rattle.text.specs.Print.{printed}
use Rattle.text.proofs.Printed.{prints}
use Rattle.layout.specs.Layout.{header_words, vertex_count_at, edge_count_at, tree_count_at, initial_at, edges_at, edge_size, edge_to_at, edge_cost_at, places_at, numbers_at, slots_at, needed, direction_in, edges_in, slots_in, trees_in, vertices_in, edge_at}
use Rattle.layout.specs.Words.{direction_word, first_place, opened_words}
use Rattle.layout.specs.Read.{direction_of, graph_in, domain_of, read_cache}
use Rattle.layout.specs.Sound.{header_tests, graph_tests, trees_tests, sound_wordsb}
use Rattle.layout.specs.Held.{Held}
use Rattle.layout.proofs.Edges.{initial-word, vertex-count-in, edge-count-in, from-word, to_word, cost-word}
use Rattle.cache.specs.Open.{after_open, open_cache}
use Rattle.cache.specs.Demand1.{Opens}
use Rattle.cache.proofs.Opened.{word_of, opened-length, read_opened_lem}
use Rattle.cache.proofs.OpenedKinds.{place-word, number_word, slot-word}
use Rattle.cache.proofs.Demand1.{demand-1}
use Rattle.sound.specs.Opened.{SuchAsOpening, ExactlySuch}
use Rattle.sound.specs.Facts.{SoundIn}
use Rattle.sound.proofs.Header.{Headed, headed, at-headed}
use Rattle.sound.proofs.Held.{held_at, at_held, held_same}
use Rattle.sound.proofs.Facts.{at-sound-words}

word-within : (dir : Direction) → direction_word dir ≤ 1
word-within forward = omega arith
word-within backward = omega arith

-- ---- the words of an opened cache, whatever stands behind them

module _ (dir : Direction) (g : Graph) (t : ℕ) (rest : List ℕ) where
  abbrev m : ℕ
  m = vertex_count g

  abbrev l : ℕ
  l = edge_count g

  abbrev ws : List ℕ
  ws = opened_words dir g t ++ rest

  opened-domain : domain_of m l ws ≡ domain dir g
  unfolding read_cache opened opened_words
  opened-domain = ap (λ (c : Cache). c.domain) (read_opened_lem dir g t rest)

  module _ (ok : Accepted g) where
    fits : needed m l t ≤ length ws
    fits = omega (arith, length-append (opened_words dir g t) rest, opened-length dir g t ok)

    opened-held : Held m l ws
    opened-held = record {
      sized = record { vertices = ok.vertices; edges = ok.edges };
      fits = omega (arith, fits);
      accepted = subst (λ (d : Domain). Accepted d.graph) (sym opened-domain) (accepted-domain dir g ok);
      place = λ v h. place-word dir g t rest v h ∙ ap (λ (d : Domain). first_place d v) (sym opened-domain);
      number = λ p h. number_word dir g t rest ok p h ∙ ap (λ (d : Domain). get_or (edge_numbers d) p 0) (sym opened-domain);
    }

    held-as : (m' l' : ℕ) → (m ≡ m') × (l ≡ l') → Held m' l' ws
    held-as m' l' e = subst (λ (n : ℕ). Held m' n ws) e.1 (subst (λ (n : ℕ). Held n l ws) e.0 opened-held)

    module _ (slots : (1 ≤ t) × (t ≤ 64)) where
      -- no tree is in use, and the words of the slots are 0
      words : SoundIn m l t 0 ws
      unfolding opened_words
      words = record {
        header = omega (arith, fits);
        direction = word-within dir;
        some_slot = slots.0;
        slots = slots.1;
        used = omega arith;
        fits = fits;
        held = opened-held;
        differ = λ i j a b e. absurd (omega arith);
        formed = λ i a. absurd (omega arith);
        sound = λ i a. absurd (omega arith);
        spare = λ i a b.
            let place : slots_at m l + (i - slots_at m l) ≡ i = omega arith in
            rw (← place) (slot-word dir g t rest ok (i - slots_at m l) (omega arith));
      }

      words-sound : sound_wordsb ws ≡ true
      unfolding opened_words
      words-sound = at-sound-words ws words

-- what an accepted opening leaves is sound
pub opened-sound : (ws text : List ℕ) (d t : ℕ) (left : List ℕ) → Opens ws text d t left → sound_wordsb left ≡ true
opened-sound ws text d t left o =
    let behind : List ℕ = drop (length (opened_words (direction_of d) o.graph t)) ws in
    rw o.words (words-sound (direction_of d) o.graph t behind o.accepted o.slots)

-- ---- words that hold one graph, with its index, are the same from the header to the slots

module _ (m l : ℕ) (a b : List ℕ) (ha : Held m l a) (hb : Held m l b) (one : domain_of m l a ≡ domain_of m l b) where
  -- a word that is read off the domain
  alike : (f : Domain → ℕ) (i : ℕ) → f (domain_of m l a) ≡ get_or a i 0 → f (domain_of m l b) ≡ get_or b i 0 → get_or a i 0 ≡ get_or b i 0
  alike f i p q = sym p ∙ ap f one ∙ q

  alike-edge : (e k : ℕ) → e < l → k < edge_size → get_or a (edge_at m e + k) 0 ≡ get_or b (edge_at m e + k) 0
  alike-edge e zero h lt = rw add-zero (alike (λ d. from d.graph e) (edge_at m e) (from-word m l a e h) (from-word m l b e h))
  alike-edge e (suc zero) h lt = alike (λ d. to d.graph e) (edge_at m e + edge_to_at) (to_word m l a e h) (to_word m l b e h)
  alike-edge e (suc (suc zero)) h lt = alike (λ d. cost d.graph e) (edge_at m e + edge_cost_at) (cost-word m l a e h) (cost-word m l b e h)
  alike-edge e (suc (suc (suc k))) h lt = absurd (omega arith)

  -- the word at place i of an area, by its place among all words
  placed : (j start i : ℕ) → start + i ≡ j → get_or a (start + i) 0 ≡ get_or b (start + i) 0 → get_or a j 0 ≡ get_or b j 0
  placed j start i e h = rw e at h

  graph-words : (j : ℕ) → initial_at ≤ j → j < slots_at m l → get_or a j 0 ≡ get_or b j 0
  graph-words j from below = elim (dec_lt j (edges_at m)) [
    | yes h ↦ let v : ℕ = j - initial_at in
        placed j initial_at v (omega arith) (alike (λ d. get_or d.graph.initial v 0) (initial_at + v) (initial-word m l a v 0 (omega arith) (omega (arith, ha.fits))) (initial-word m l b v 0 (omega arith) (omega (arith, hb.fits))))
    | no h ↦ elim (dec_lt j (places_at m l)) [
      | yes k ↦ let e : ℕ = (j - edges_at m) / edge_size in
          placed j (edge_at m e) (j - edges_at m - edge_size * e) (omega arith) (alike-edge e (j - edges_at m - edge_size * e) (omega arith) (omega arith))
      | no k ↦ elim (dec_lt j (numbers_at m l)) [
        | yes n ↦ let v : ℕ = j - places_at m l in
            placed j (places_at m l) v (omega arith) (alike (λ d. first_place d v) (places_at m l + v) (sym (ha.place v (omega arith))) (sym (hb.place v (omega arith))))
        | no n ↦ let p : ℕ = j - numbers_at m l in
            placed j (numbers_at m l) p (omega arith) (alike (λ d. get_or (edge_numbers d) p 0) (numbers_at m l + p) (sym (ha.number p (omega arith))) (sym (hb.number p (omega arith))))
      ]
    ]
  ]

-- ---- header and graph pass exactly of words such as opening writes

module _ (ws : List ℕ) where
  abbrev dir : Direction
  dir = direction_of (direction_in ws)

  abbrev vertices : ℕ
  vertices = vertices_in ws

  abbrev edges : ℕ
  edges = edges_in ws

  abbrev slots : ℕ
  slots = slots_in ws

  module _ (ok : Headed vertices edges slots (trees_in ws) ws) (held : Held vertices edges ws) where
    -- the graph of the text
    abbrev text_graph : Graph
    text_graph = (domain dir (graph_in vertices edges ws)).graph

    accepted : Accepted text_graph
    accepted = accepted-domain dir (graph_in vertices edges ws) held.accepted

    counts : (vertex_count text_graph ≡ vertices) × (edge_count text_graph ≡ edges)
    counts =
        let c = domain-counts dir (graph_in vertices edges ws) in
        (c.0 ∙ vertex-count-in vertices edges ws (omega (arith, held.fits)), c.1 ∙ edge-count-in vertices edges ws)

    room : needed (vertex_count text_graph) (edge_count text_graph) slots ≤ length ws
    room = rw (counts.0, counts.1) ok.fits

    abbrev rest : List ℕ
    rest = drop (length (opened_words dir text_graph slots)) ws

    abbrev left : List ℕ
    left = written (opened_words dir text_graph slots) ws

    -- the opening is accepted
    accepts : after_open (Ok tt) left ≡ open_cache ws (printed text_graph) (direction_in ws) slots
    unfolding open_cache
    accepts =
        rw (
          le-ltb 1 (direction_in ws) ok.direction,
          le-leb 1 slots ok.some_slot,
          le-leb slots 64 ok.slots,
          prints.reads text_graph accepted,
          le-ltb (length ws) (needed (vertex_count text_graph) (edge_count text_graph) slots) room,
        )

    same-domain : domain_of vertices edges left ≡ domain_of vertices edges ws
    same-domain =
        ap₂ (λ (m l : ℕ). domain_of m l left) (sym counts.0) (sym counts.1)
        ∙ opened-domain dir text_graph slots rest
        ∙ domain-twice dir (graph_in vertices edges ws)

    header-same : (j : ℕ) → j < header_words → j ≢ tree_count_at → get_or left j 0 ≡ get_or ws j 0
    unfolding opened_words
    header-same zero h n = word_of (direction_in ws) ok.direction
    header-same (suc zero) h n = counts.0
    header-same (suc (suc zero)) h n = counts.1
    header-same (suc (suc (suc zero))) h n = refl
    header-same (suc (suc (suc (suc j)))) h n = absurd (n (omega arith))

    writes : SuchAsOpening ws
    writes = record {
      text = printed text_graph;
      left = left;
      opens = (demand-1 ws (printed text_graph) (direction_in ws) slots (Ok tt) left accepts).opened refl;
      same = λ j h n. elim (dec_lt j header_words) [
        | yes k ↦ header-same j k n
        | no k ↦ graph-words vertices edges left ws (held-as dir text_graph slots rest accepted vertices edges counts) held same-domain j (omega arith) h
      ];
      used = ok.used;
    }

  -- and back
  module _ (such : SuchAsOpening ws) where
    abbrev opening : Opens ws such.text (direction_in ws) slots such.left
    opening = such.opens

    abbrev written-graph : Graph
    written-graph = opening.graph

    word : (j : ℕ) → j < header_words → j ≢ tree_count_at → get_or (written (opened_words dir written-graph slots) ws) j 0 ≡ get_or ws j 0
    word j h n = ap (λ (x : List ℕ). get_or x j 0) (sym opening.words) ∙ such.same j (omega arith) n

    sizes : (vertex_count written-graph ≡ vertices) × (edge_count written-graph ≡ edges)
    unfolding opened_words
    sizes = (word vertex_count_at (omega arith) (omega arith), word edge_count_at (omega arith) (omega arith))

    left-held : Held vertices edges such.left
    left-held = rw opening.words (held-as dir written-graph slots _ opening.accepted vertices edges sizes)

    still-held : Held vertices edges ws
    still-held = held_same vertices edges such.left ws (sym opening.same_length) (λ j n h. sym (such.same j h n)) left-held

    header : Headed vertices edges slots (trees_in ws) ws
    header =
        let fits : needed vertices edges slots ≤ length ws = rw (← sizes.0, ← sizes.1) opening.fits in
        record {
          header = omega arith;
          direction = opening.direction;
          sized = still-held.sized;
          some_slot = opening.slots.0;
          slots = opening.slots.1;
          used = such.used;
          fits = fits;
        }

pub exactly-such : ExactlySuch
exactly-such ws = (
  λ e. let p = and-true (allb (header_tests ws)) (allb (graph_tests (read_cache ws).domain ws)) e in writes ws (headed ws p.0) (held_at ws p.0 p.1),
  λ such. true-and (allb (header_tests ws)) (allb (graph_tests (read_cache ws).domain ws)) (at-headed ws (header ws such)) (at_held ws (still-held ws such)),
)

-- so it is of sound words
pub such-as-opening : (ws : List ℕ) → sound_wordsb ws ≡ true → SuchAsOpening ws
unfolding sound_wordsb
such-as-opening ws e =
    let p = and-true (allb (header_tests ws)) (allb (graph_tests (read_cache ws).domain ws) && allb (trees_tests ws)) e in
    let q = and-true (allb (graph_tests (read_cache ws).domain ws)) (allb (trees_tests ws)) p.1 in
    (exactly-such ws).0 (true-and (allb (header_tests ws)) (allb (graph_tests (read_cache ws).domain ws)) p.0 q.0)
