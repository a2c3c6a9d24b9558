-- The turns of the entries one after the other: what is known after i of them, and that after all of them it is the model's walk.
-- Assumes nothing.
use mathlib.Core.Path.{◌≡◌, refl, sym, ap, ap₂, ◌∙◌, subst}
use mathlib.Core.Logic.{◌⊎◌, inl, inr}
use mathlib.Core.Bool.{true}
use mathlib.Core.List.{List}
use Prim.Native.Nat.{ℕ, zero, suc, ◌+◌, ◌-◌, ◌*◌, ◌<◌, ◌≤◌}
use native.Mathlib.Omega.{arith}
use native.Mathlib.Decide.{dec_lt}
use native.Mathlib.Numerals.{add-one}
use lib.ListN.{get_or, take}
use Rattle.model.specs.Limits.{step_tickets}
use Rattle.model.specs.declared.Search.{Search}
use Rattle.model.specs.Graph.{Domain}
use Rattle.model.specs.Search.{entry, goals, with_exhausted, Walk, round, rounds, walk}
use Rattle.model.specs.Calls.{Cache, with_trees}
use Rattle.model.proofs.Recorded.{round-count, round-goals, round-slots}
use Rattle.layout.specs.Layout.{slot_at, tree_words, edges_in, vertices_in}
use Rattle.layout.specs.Read.{read_cache}
use Rattle.sound.specs.Facts.{SoundWords}
use Rattle.grow.specs.Grow.{Outside}
use Rattle.memory.specs.Memory.{FitsWords}
use Rattle.entry_turns.specs.Turn.{CanStep, Steps}
use Rattle.layout.specs.Leaves.{Apart, InSlot}
use Rattle.entry_turns.proofs.Round.{HasEntry, round_of, Rounds}

-- ---- the model's rounds

-- the last round peeled off
rounds-last : (d : Domain) (k i : ℕ) (w : Walk) → rounds d (suc k) i w ≡ round d (i + k) (rounds d k i w)
unfolding rounds
rounds-last d zero i w = let at : i ≡ i + 0 = omega arith in ap (λ (j : ℕ). round d j w) at
rounds-last d (suc k) i w =
    let at : suc i + k ≡ i + suc k = omega arith in
    rounds-last d k (suc i) (round d i w) ∙ ap (λ (j : ℕ). round d j (rounds d k (suc i) (round d i w))) at

-- the same trees and record, with no ticket taken
abbrev afresh : Walk → Walk
afresh w = record { trees = w.trees; search = w.search; tickets = 0 }

round-tickets : (d : Domain) (i : ℕ) (w : Walk) → (round d i w).tickets ≡ w.tickets + (round d i (afresh w)).tickets
unfolding round
round-tickets d i w = omega arith

pub rounds-slots : (d : Domain) (k i : ℕ) (w : Walk) (j : ℕ) → (entry (rounds d k i w).search j).tree ≡ (entry w.search j).tree
unfolding rounds
rounds-slots d zero i w j = refl
rounds-slots d (suc k) i w j = rounds-slots d k (suc i) (round d i w) j ∙ round-slots d i w j

pub rounds-count : (d : Domain) (k i : ℕ) (w : Walk) → (rounds d k i w).search.tree_count ≡ w.search.tree_count
unfolding rounds
rounds-count d zero i w = refl
rounds-count d (suc k) i w = rounds-count d k (suc i) (round d i w) ∙ round-count d i w

-- ---- the walk after i rounds

abbrev walked : List ℕ → Search → ℕ → Walk
walked ws s i = let c = read_cache ws in rounds c.domain i 0 (record { trees = c.trees; search = with_exhausted s true; tickets = 0 })

walked_more : (ws : List ℕ) (s : Search) (i : ℕ) → walked ws s (i + 1) ≡ round (read_cache ws).domain i (walked ws s i)
walked_more ws s i =
    let d = (read_cache ws).domain in
    let w : Walk = record { trees = (read_cache ws).trees; search = with_exhausted s true; tickets = 0 } in
    let at : 0 + i ≡ i = omega arith in
    ap (λ (n : ℕ). rounds d n 0 w) (add-one i) ∙ rounds-last d i 0 w ∙ ap (λ (j : ℕ). round d j (walked ws s i)) at

-- words, record and tickets after i turns
pub record Walked (ws : List ℕ) (s : Search) (words : List ℕ) (next : Search) (k i : ℕ) : Type 0 where
  pub can : CanStep ws s
  pub search : next ≡ (walked ws s i).search
  pub tickets : k ≡ (walked ws s i).tickets
  pub cache : read_cache words ≡ with_trees (read_cache ws) (walked ws s i).trees
  pub sound : SoundWords words
  pub fits : FitsWords words next
  pub apart : Apart ws s words
  pub within : i ≤ s.tree_count
  pub few : k ≤ 10 * i
  pub count : next.tree_count ≡ s.tree_count
  pub slots : (j : ℕ) → (entry next j).tree ≡ (entry s j).tree
  pub goals_stay : goals next ≡ goals s

pub walked_none : {ws : List ℕ} {s next : Search} → CanStep ws s → next ≡ with_exhausted s true → Walked ws s ws next 0 0
unfolding rounds
walked_none {ws} {s} {next} can e =
    subst (λ (x : Search). Walked ws s ws x 0 0) (sym e) (record {
      can = can;
      search = refl;
      tickets = refl;
      cache = refl;
      sound = can.sound;
      fits = record {
        listed = record { trees = f.listed.trees; entries = f.listed.entries; keys = f.listed.keys; goals = f.listed.goals };
        goals = f.goals;
        held = f.held;
        best = f.best;
      };
      apart = record { len = refl; word = λ j h. refl };
      within = omega arith;
      few = omega arith;
      count = refl;
      slots = λ j. refl;
      goals_stay = refl;
    })
  where
    f : FitsWords ws s
    f = can.fits

module _ {ws : List ℕ} {s : Search} {words : List ℕ} {next : Search} {k i : ℕ} (w : Walked ws s words next k i) where
  pub walked_all : s.tree_count ≤ i → Steps ws s (record { search = next; tickets = k }) words
  unfolding walk
  walked_all h =
      let e : i ≡ s.tree_count = omega (arith, w.within) in
      record {
        search = w.search ∙ ap (λ (n : ℕ). (walked ws s n).search) e;
        tickets = w.tickets ∙ ap (λ (n : ℕ). (walked ws s n).tickets) e;
        cache = w.cache ∙ ap (λ (n : ℕ). with_trees (read_cache ws) (walked ws s n).trees) e;
        sound = w.sound;
        apart = w.apart;
      }

  module _ (h : i < s.tree_count) where
    pub has-entry : HasEntry words next i
    has-entry = record { can = record { sound = w.sound; fits = w.fits }; is_entry = omega (arith, w.count) }

    -- the part of the goals that is lent
    pub goals-lent : take (s.goal_count - 0) s.goal_keys ≡ goals next
    goals-lent = let all : s.goal_count - 0 ≡ s.goal_count = omega arith in ap (λ (n : ℕ). take n s.goal_keys) all ∙ sym w.goals_stay

    pub walked-few : k ≤ step_tickets
    walked-few = omega (arith, w.few, w.can.fits.listed.entries)

    pub walked-index : i < 64
    walked-index = omega (arith, w.can.fits.listed.entries)

    -- the turn of entry i
    module _ {after : Search} {n : ℕ} {left : List ℕ} (t : Rounds words next i after n left) where
      header : (j : ℕ) → j < 5 → get_or words j 0 ≡ get_or ws j 0
      header j b = w.apart.word j (λ x. omega (arith, x.from))

      outside : Outside (vertices_in ws) (edges_in ws) (entry s i).tree words left
      outside = rw (header 1 (omega arith), header 2 (omega arith), w.slots i) at t.outside

      apart-left : (j : ℕ) → (InSlot ws s j → ⊥) → get_or left j 0 ≡ get_or ws j 0
      apart-left j out = outside.word j beside ∙ w.apart.word j out
        where
          a : ℕ
          a = slot_at (vertices_in ws) (edges_in ws) (entry s i).tree

          beside : (j < a) ⊎ (a + tree_words (vertices_in ws) (edges_in ws) ≤ j)
          beside = elim (dec_lt j a) [
            | yes b ↦ inl b
            | no b ↦ elim (dec_lt j (a + tree_words (vertices_in ws) (edges_in ws))) [
              | yes c ↦ absurd (out (record { which = i; is_entry = h; from = omega arith; below = c }))
              | no c ↦ inr (omega arith)
            ]
          ]

      -- the model's round, from where the walk stands
      round_is : round_of words next i ≡ round (read_cache ws).domain i (afresh (walked ws s i))
      round_is = ap₂ (λ (c : Cache) (x : Search). round c.domain i (record { trees = c.trees; search = x; tickets = 0 })) w.cache w.search

      pub walked_next : Walked ws s left after (k + n) (i + 1)
      unfolding round
      walked_next =
          let d = (read_cache ws).domain in
          let more = walked_more ws s i in
          let from : Walk = record { trees = (read_cache words).trees; search = next; tickets = 0 } in
          record {
            can = w.can;
            search = t.search ∙ ap (λ (x : Walk). x.search) round_is ∙ ap (λ (x : Walk). x.search) (sym more);
            tickets =
                ap₂ (λ (x y : ℕ). x + y) w.tickets (t.tickets ∙ ap (λ (x : Walk). x.tickets) round_is)
                ∙ sym (ap (λ (x : Walk). x.tickets) more ∙ round-tickets d i (walked ws s i));
            cache =
                t.cache
                ∙ ap₂ (λ (c : Cache) (x : Walk). with_trees c x.trees) w.cache round_is
                ∙ ap (λ (x : Walk). with_trees (read_cache ws) x.trees) (sym more);
            sound = t.sound;
            fits = t.fits;
            apart = record { len = outside.len ∙ w.apart.len; word = apart-left };
            within = omega arith;
            few = omega (arith, w.few, t.few);
            count = ap (λ (x : Search). x.tree_count) t.search ∙ round-count (read_cache words).domain i from ∙ w.count;
            slots = λ j. ap (λ (x : Search). (entry x j).tree) t.search ∙ round-slots (read_cache words).domain i from j ∙ w.slots j;
            goals_stay = ap goals t.search ∙ round-goals (read_cache words).domain i from ∙ w.goals_stay;
          }
