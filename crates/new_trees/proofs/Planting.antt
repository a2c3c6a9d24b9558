-- One new tree and all new trees, as the code plants them.
-- Assumes nothing.
use mathlib.Core.Path.{◌≡◌, refl, sym, ap, ◌∙◌}
use mathlib.Core.List.{List, [], ◌∷◌, ◌++◌, append-nil}
use Prim.Native.Nat.{ℕ, ◌+◌, ◌-◌, ◌<◌}
use native.Mathlib.Omega.{arith}
use lib.ListN.{length, get_or, set, take, length-take}
use lib.Seq.{sets}
use borrow.Rule.Slice.PartMut.{put_mid, mid_of}
use Rattle.std.specs.Prelude.{Some}
use Rattle.std.specs.Option.{is_some, IsSome}
use Rattle.std.specs.declared.option.Option.{Option}
use Rattle.model.specs.Graph.{Domain, root_cost, initial_cost}
use Rattle.model.specs.Tree.{Tree}
use Rattle.model.specs.Calls.{Cache, with_trees}
use Rattle.layout.specs.declared.slots.Slot.{Slot}
use Rattle.layout.specs.Slots.{slot_of, HasSlot}
use Rattle.layout.specs.Layout.{tree_count_at, initial_in, initial_at, tree_words, slot_at, direction_in, edges_in, slots_in, trees_in, vertices_in}
use Rattle.layout.specs.Read.{direction_of, cost_if, read_cache}
use Rattle.layout.proofs.StartCosts.{cost-there}
use Rattle.sound.specs.Facts.{SoundWords}
use Rattle.sound.proofs.Facts.{trees-length}
use Rattle.sound_tree.proofs.Nodes.{start-cost}
use Rattle.new_trees.specs.Plant.{with_new, CanPlantAll, PlantsAll, CanPlant, Plants}
use Rattle.layout.specs.Planted.{root_words, planted, planted_all}
use Rattle.new_trees.proofs.Stored.{stored-part}
use Rattle.new_trees.proofs.Planted.{fits, root-inside, root-allowed, plants}
use Rattle.new_trees.proofs.NewTrees.{take_next, new-append, new-length, sound-new}

-- the cost of a root, as the words have it
pub root-cost-is : {ws : List ℕ} → SoundWords ws → {v : ℕ} → v < vertices_in ws → root_cost (direction_of (direction_in ws)) (initial_in ws v) ≡ initial_cost (read_cache ws).domain v
unfolding read_cache
root-cost-is {ws} ok {v} b =
    sym (start-cost (vertices_in ws) (edges_in ws) ws v b (omega (arith, ok.held.fits)))

-- ---- one tree

module _ {ws : List ℕ} {v : ℕ} (h : CanPlant ws v) where
  pub root-word : initial_at + v < length ws
  root-word = omega (arith, root-inside ws v h, h.sound.held.fits)

  root-cost : root_cost (direction_of (direction_in ws)) (initial_in ws v) ≡ initial_cost (read_cache ws).domain v
  root-cost = root-cost-is h.sound (root-inside ws v h)

  -- o: the cost of the root, by which the new tree is sound
  module _ {o : Option ℕ} (said : o ≡ cost_if (root_cost (direction_of (direction_in ws)) (initial_in ws v))) where
    there : o ≡ Some (initial_cost (read_cache ws).domain v)
    there = cost-there said (λ e. root-allowed ws v h (sym root-cost ∙ e)) ∙ ap Some root-cost

    pub root-there : IsSome o
    root-there = ap is_some there

    pub root-is : {c : ℕ} → o ≡ Some c → c ≡ initial_cost (read_cache ws).domain v
    root-is {c} e =
        let same : Some c ≡ Some (initial_cost (read_cache ws).domain v) = sym e ∙ there in
        cc

  -- s: the next slot, by its number u
  module _ {u : ℕ} (eu : u ≡ trees_in ws) where
    pub next-slot : HasSlot ws u
    next-slot = record {
      numbered = record { header = h.sound.header; sized = h.sound.held.sized; few = omega (arith, eu, h.room, h.sound.slots) };
      fits = rw eu (fits ws v h);
    }

    module _ {s : Slot} (es : s ≡ slot_of ws u) {c : ℕ} (cost : c ≡ initial_cost (read_cache ws).domain v) where
      pub plant-ends : (ys : List ℕ) → ys ≡ sets (mid_of s.at (s.end - s.at) ws) 0 (root_words v c)
          → Plants ws v (set (put_mid s.at (s.end - s.at) ws ys) tree_count_at (u + 1))
      unfolding planted_all
      plant-ends ys ey = record { words = words; cache = rw words (plants ws v h).1; sound = rw words (plants ws v h).0 }
        where
          at : s.at ≡ slot_at (vertices_in ws) (edges_in ws) (trees_in ws)
          at = ap (λ (x : Slot). x.at) es ∙ ap (slot_at (vertices_in ws) (edges_in ws)) eu

          size : s.end - s.at ≡ tree_words (vertices_in ws) (edges_in ws)
          size = omega (arith, ap (λ (x : Slot). x.at) es, ap (λ (x : Slot). x.end) es)

          words : set (put_mid s.at (s.end - s.at) ws ys) tree_count_at (u + 1) ≡ planted ws v
          words =
              ap (λ (xs : List ℕ). set xs tree_count_at (u + 1))
              (ap (put_mid s.at (s.end - s.at) ws) ey ∙ stored-part s.at (s.end - s.at) ws (root_words v c) (omega (arith, size)) (omega (arith, at, size, fits ws v h)))
              ∙ (λ i. set (sets ws (at i) (root_words v (cost i))) tree_count_at (eu i + 1))

-- ---- one tree after the other

planted-snoc : (ws vs : List ℕ) (v : ℕ) → planted_all ws (vs ++ (v ∷ [])) ≡ planted (planted_all ws vs) v
unfolding planted_all
planted-snoc ws [] v = refl
planted-snoc ws (w ∷ vs) v = planted-snoc (planted ws w) vs v

pub planting-none : {ws vs : List ℕ} → CanPlantAll ws vs → PlantsAll ws (take 0 vs) ws
unfolding planted_all
planting-none {ws} h = record { words = refl; cache = ap (with_trees (read_cache ws)) (sym (append-nil (read_cache ws).trees)); sound = h.sound }

module _ {ws vs left : List ℕ} {i : ℕ} (h : CanPlantAll ws vs) (p : PlantsAll ws (take i vs) left) (b : i < length vs) where
  abbrev d : Domain
  d = (read_cache ws).domain

  abbrev ts : List Tree
  ts = (read_cache ws).trees

  abbrev v : ℕ
  v = get_or vs i 0

  taken : take (i + 1) vs ≡ take i vs ++ (v ∷ [])
  taken = take_next 0 vs i b

  one_more : with_new d (with_new d ts (take i vs)) (v ∷ []) ≡ with_new d ts (take (i + 1) vs)
  one_more = new-append d ts (take i vs) (v ∷ []) ∙ ap (with_new d ts) (sym taken)

  used : trees_in left ≡ trees_in ws + i
  used =
      omega (arith, trees-length ws, trees-length left, ap (λ (c : Cache). length c.trees) p.cache, new-length d ts (take i vs), length-take i vs)

  slots : slots_in left ≡ slots_in ws
  unfolding read_cache
  slots = ap (λ (c : Cache). c.slots) p.cache

  pub can-plant-next : CanPlant left (get_or vs i 0)
  can-plant-next = record {
    sound = p.sound;
    room = omega (arith, used, slots, h.room);
    trees = rw (p.cache, one_more) (sound-new d ts vs (i + 1) h.trees);
  }

  pub planting-next : {next : List ℕ} → Plants left (get_or vs i 0) next → PlantsAll ws (take (i + 1) vs) next
  unfolding planted_all
  planting-next q = record {
    words = q.words ∙ ap (λ (xs : List ℕ). planted xs v) p.words ∙ sym (planted-snoc ws (take i vs) v) ∙ ap (planted_all ws) (sym taken);
    cache = q.cache ∙ ap (λ (c : Cache). with_trees c (with_new c.domain c.trees (v ∷ []))) p.cache ∙ ap (with_trees (read_cache ws)) one_more;
    sound = q.sound;
  }
