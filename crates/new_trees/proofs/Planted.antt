-- A new tree in the first unused slot: the words stay sound, and the cache that they hold has that tree more.
-- Assumes nothing.
use mathlib.Core.Path.{◌≡◌, refl, sym, ap, ◌∙◌}
use mathlib.Core.Logic.{◌⊎◌, inl, inr, ◌≢◌}
use mathlib.Core.List.{List, [], ◌∷◌, ◌++◌}
use Prim.Native.Nat.{ℕ, ◌+◌, ◌<◌, ◌≤◌}
use native.Mathlib.Decide.{dec_lt}
use native.Mathlib.Omega.{arith}
use lib.ListN.{length, get_or, set, length-set, length-append, get_or-append}
use lib.Seq.{sets, length-sets, get_or-set_same, get_or-set_other, get_or_at, ext_get_or}
use Rattle.model.specs.Graph.{Domain, absent, initial_cost}
use Rattle.model.specs.Tree.{Tree, new_tree}
use Rattle.model.specs.Sound.{Sound, SoundTrees, no_tree, tree}
use Rattle.model.specs.Calls.{with_trees}
use Rattle.layout.specs.Layout.{header_words, direction_at, vertex_count_at, edge_count_at, slot_count_at, tree_count_at, edges_in, slots_in, trees_in, vertices_in, start_in, node_at, tree_words, slot_at}
use Rattle.layout.specs.Read.{tree_in, read_trees, domain_of, read_cache}
use Rattle.layout.specs.Held.{Held}
use Rattle.layout.proofs.Edges.{vertex-count-in}
use Rattle.layout.proofs.Places.{part_at}
use Rattle.layout.proofs.Trees.{GraphStays, tree-graph}
use Rattle.layout.specs.Slots.{slot_words}
use Rattle.tree.specs.Tree.{Formed}
use Rattle.tree.proofs.Added.{get_or-sets-other}
use Rattle.tree.proofs.Same.{part_same}
use Rattle.sound.specs.Facts.{SoundIn, SoundWords}
use Rattle.sound.proofs.Held.{domain-same, held_same}
use Rattle.sound.proofs.Slots.{slot-before, slot-length, tree-in-at, trees-in-length}
use Rattle.new_trees.specs.Plant.{with_new, CanPlant}
use Rattle.layout.specs.Planted.{root_words, planted}
use Rattle.new_trees.proofs.Stored.{stored_at}
use Rattle.new_trees.proofs.NewTree.{new-formed, new-tree}

module _ (ws : List ℕ) (v : ℕ) (h : CanPlant ws v) where
  abbrev m : ℕ
  m = vertices_in ws

  abbrev l : ℕ
  l = edges_in ws

  abbrev u : ℕ
  u = trees_in ws

  abbrev d : Domain
  d = domain_of m l ws

  abbrev root : List ℕ
  root = root_words v (initial_cost d v)

  abbrev mid : List ℕ
  mid = sets ws (slot_at m l u) root

  abbrev left : List ℕ
  left = set mid tree_count_at (u + 1)

  below : u < slots_in ws
  below = omega (arith, h.room)

  pub fits : slot_at m l u + tree_words m l ≤ length ws
  fits = omega (arith, slot-before m l below, h.sound.fits)

  -- ---- which words stay

  mid_len : length mid ≡ length ws
  mid_len = length-sets ws (slot_at m l u) root

  left-len : length left ≡ length ws
  left-len = length-set mid tree_count_at (u + 1) ∙ mid_len

  apart : (j : ℕ) → (j < slot_at m l u) ⊎ (slot_at m l u + node_at 1 ≤ j) → (k : ℕ) → k < node_at 1 → j ≢ slot_at m l u + k
  apart j (inl b) k h e = omega arith
  apart j (inr b) k h e = omega arith

  stays : (j : ℕ) → j ≢ tree_count_at → (j < slot_at m l u) ⊎ (slot_at m l u + node_at 1 ≤ j) → get_or left j 0 ≡ get_or ws j 0
  stays j ne b = get_or-set_other mid tree_count_at j (u + 1) 0 ne ∙ get_or-sets-other root ws (slot_at m l u) j (apart j b)

  count : trees_in left ≡ u + 1
  count = get_or-set_same mid tree_count_at (u + 1) 0 (omega (arith, mid_len, fits))

  before : GraphStays m l ws left
  before j ne b = stays j ne (inl (omega arith))

  header : (j : ℕ) → j ≢ tree_count_at → j < header_words → get_or left j 0 ≡ get_or ws j 0
  header j ne b = before j ne (omega arith)

  domain : domain_of m l left ≡ d
  domain = domain-same m l ws left left-len before h.sound.held.fits

  held : Held m l left
  held = held_same m l ws left left-len before h.sound.held

  -- ---- the slots

  old : (j : ℕ) → j < u → slot_words m l j left ≡ slot_words m l j ws
  old j b = part_same (slot_at m l j) (tree_words m l) ws left left-len (λ n k. stays (slot_at m l j + n) (omega arith) (inl (omega (arith, slot-before m l b))))

  new : List ℕ
  new = slot_words m l u left

  new-len : length new ≡ tree_words m l
  unfolding new
  new-len = slot-length m l left below (omega (arith, left-len, h.sound.fits))

  word : (i : ℕ) → i < tree_words m l → get_or new i 0 ≡ get_or root i 0
  unfolding new
  word i b =
      part_at (slot_at m l u) (tree_words m l) left i b
      ∙ get_or-set_other mid tree_count_at (slot_at m l u + i) (u + 1) 0 (omega arith)
      ∙ stored_at root ws (slot_at m l u) i (omega (arith, fits)) (λ _. h.sound.spare (slot_at m l u + i) (omega arith) (omega (arith, slot-before m l below)))

  formed : Formed l new
  formed = new-formed m l new v (initial_cost d v) new-len word h.sound.held.sized

  planted-tree : tree_in left m l new ≡ new_tree d v
  planted-tree = new-tree m l new v (initial_cost d v) new-len word d (vertex-count-in m l ws (omega (arith, h.sound.held.fits))) refl left

  abbrev ts : List Tree
  ts = read_trees m l u ws

  -- what is known of the words of each slot: of the new one, and of the others as it was
  at_slot : (P : ℕ → List ℕ → Type 0) → P u new → ((j : ℕ) → j < u → P j (slot_words m l j ws)) → (j : ℕ) → j < u + 1 → P j (slot_words m l j left)
  unfolding new
  at_slot P p q j b = elim (dec_lt j u) [ yes k ↦ rw (old j k) (q j k) | no k ↦ let e : j ≡ u = omega arith in rw e p ]

  trees : read_trees m l (u + 1) left ≡ ts ++ (new_tree d v ∷ [])
  trees =
      let n = trees-in-length m l u ws in
      let n' = trees-in-length m l (u + 1) left in
      ext_get_or no_tree (read_trees m l (u + 1) left) (ts ++ (new_tree d v ∷ [])) (omega (arith, n, n', length-append ts (new_tree d v ∷ []))) (λ j b.
      let c : j < u + 1 = omega (arith, n') in
      tree-in-at m l left c
      ∙ at_slot (λ (j : ℕ) (t : List ℕ). tree_in left m l t ≡ tree (ts ++ (new_tree d v ∷ [])) j)
      (planted-tree ∙ sym (get_or_at ts (new_tree d v) [] no_tree u n))
      (λ j k. tree-graph m l ws left (slot_words m l j ws) before ∙ sym (get_or-append ts (new_tree d v ∷ []) no_tree j (omega (arith, n)) ∙ tree-in-at m l ws k)) j c)

  sound-trees : SoundTrees d (ts ++ (new_tree d v ∷ []))
  unfolding read_cache
  sound-trees = h.trees

  -- tree j, with its start
  tree-at : (j : ℕ) → j < u + 1 → tree_in left m l (slot_words m l j left) ≡ tree (ts ++ (new_tree d v ∷ [])) j
  tree-at j b = sym (tree-in-at m l left b) ∙ ap (λ (x : List Tree). tree x j) trees

  inside : (j : ℕ) → j < u + 1 → j < length (ts ++ (new_tree d v ∷ []))
  inside j b = omega (arith, trees-in-length m l u ws, length-append ts (new_tree d v ∷ []))

  start-at : (j : ℕ) → j < u + 1 → start_in (slot_words m l j left) ≡ (tree (ts ++ (new_tree d v ∷ [])) j).start
  unfolding tree_in
  start-at j b = ap (λ (t : Tree). t.start) (tree-at j b)

  new-sound : Sound d (new_tree d v)
  new-sound = rw (get_or_at ts (new_tree d v) [] no_tree u (trees-in-length m l u ws)) at (sound-trees.each u (inside u (omega arith)))

  pub root-inside : v < m
  unfolding new_tree
  root-inside = omega (arith, new-sound.inside, vertex-count-in m l ws (omega (arith, h.sound.held.fits)))

  pub root-allowed : initial_cost (read_cache ws).domain v ≢ absent
  unfolding new_tree read_cache
  root-allowed = new-sound.allowed

  planted-in : SoundIn m l (slots_in ws) (u + 1) left
  planted-in =
      record {
        header = omega (arith, h.sound.header, left-len);
        direction = rw (header direction_at (omega arith) (omega arith)) h.sound.direction;
        some_slot = h.sound.some_slot;
        slots = h.sound.slots;
        used = omega (arith, below);
        fits = omega (arith, h.sound.fits, left-len);
        held = held;
        differ = λ i j a b e. sound-trees.differ i j (inside i a) (inside j b) (sym (start-at i a) ∙ e ∙ start-at j b);
        formed = at_slot (λ (j : ℕ) (t : List ℕ). Formed l t) formed h.sound.formed;
        sound = λ j b. rw (domain, tree-at j b) (sound-trees.each j (inside j b));
        spare = λ j a b.
            let more : slot_at m l u + tree_words m l ≤ slot_at m l (u + 1) = slot-before m l (omega arith) in
            stays j (omega arith) (inr (omega arith)) ∙ h.sound.spare j (omega arith) b;
      }

  planted-words : SoundWords left
  planted-words = rw (header vertex_count_at (omega arith) (omega arith), header edge_count_at (omega arith) (omega arith), header slot_count_at (omega arith) (omega arith), count) planted-in

  planted-cache : read_cache left ≡ with_trees (read_cache ws) (with_new (read_cache ws).domain (read_cache ws).trees (v ∷ []))
  unfolding read_cache
  planted-cache =
      rw (header vertex_count_at (omega arith) (omega arith), header edge_count_at (omega arith) (omega arith), header slot_count_at (omega arith) (omega arith), count)
      (λ x. record { domain = domain x; slots = slots_in ws; trees = trees x })

  pub plants : SoundWords (planted ws v) × (read_cache (planted ws v) ≡ with_trees (read_cache ws) (with_new (read_cache ws).domain (read_cache ws).trees (v ∷ [])))
  unfolding planted
  plants = (planted-words, planted-cache)
