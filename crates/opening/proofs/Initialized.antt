-- `initialize` on sound words, refusal by refusal, and accepted.
-- Assumes nothing.
use mathlib.Core.Path.{◌≡◌, refl, sym, ap, ap₂, ◌∙◌, subst}
use Rattle.model.specs.declared.Search.{Search}
use Rattle.std.specs.declared.result.Result.{Result}
use Rattle.std.specs.declared.option.Option.{Option}
use Rattle.std.specs.Prelude.{None, Err}
use mathlib.Core.Logic.{◌≢◌}
use mathlib.Core.Bool.{Bool, true, false, not, ◌&&◌}
use mathlib.Core.List.{List}
use Prim.Native.Nat.{ℕ, ◌-◌, ◌<◌, ◌≤◌}
use borrow.Author.Tests.{le-leb, lt-leb}
use lib.Dec.{leb, ltb}
use lib.ListN.{length}
use Rattle.model.specs.declared.Refusal.{Refusal}
use Rattle.model.specs.declared.Refusal.TheVariants.{NoSuchVertex, OverLimit, TreesFull}
use Rattle.model.specs.Lists.{all_below}
use Rattle.model.specs.Answers.{number, answered, refused, initialize_reply}
use Rattle.model.specs.Graph.{Direction, vertex_count}
use Rattle.model.specs.Search.{empty_search, new_search, roots_of, goals_of}
use Rattle.model.specs.Calls.{Cache, AfterInitialize, or_else, first_fault, with_trees, initialize_faults, initialize_by, initialize, opened_search}
use Rattle.layout.specs.Read.{direction_of, read_cache}
use Rattle.layout.proofs.Directions.{backward-word}
use Rattle.sound.specs.Facts.{SoundWords}
use Rattle.sound.proofs.Facts.{trees-length, vertices-read}
use Rattle.layout.specs.Planted.{planted_in, initialized_words}
use Rattle.opening.specs.Initialize.{Initializes, is_full, OpensIf, OpenedSearch}
use Rattle.layout.specs.Layout.{direction_in, slots_in, trees_in, vertices_in}

-- the slots and the direction
slots-are : (ws : List ℕ) → (read_cache ws).slots ≡ slots_in ws
unfolding read_cache
slots-are ws = refl

pub direction-is : (ws : List ℕ) → (read_cache ws).domain.direction ≡ direction_of (direction_in ws)
unfolding read_cache
direction-is ws = refl

-- the lists by the direction word: roots and goals
pub forward-lists : {n : ℕ} → n ≡ 0 → (ss gs : List ℕ) → (roots_of (direction_of n) ss gs ≡ ss) × (goals_of (direction_of n) ss gs ≡ gs)
forward-lists e ss gs = (ap (λ (n : ℕ). roots_of (direction_of n) ss gs) e, ap (λ (n : ℕ). goals_of (direction_of n) ss gs) e)

pub backward-lists : (n : ℕ) → n ≢ 0 → (ss gs : List ℕ) → (roots_of (direction_of n) ss gs ≡ gs) × (goals_of (direction_of n) ss gs ≡ ss)
backward-lists n h ss gs =
    (ap (λ (d : Direction). roots_of d ss gs) (backward-word n h), ap (λ (d : Direction). goals_of d ss gs) (backward-word n h))

module _ (ws ss gs : List ℕ) where
  abbrev c : Cache
  c = read_cache ws

  abbrev dir : Direction
  dir = direction_of (direction_in ws)

  -- an accepted search from the roots vs to the goals hs
  abbrev opened_as : List ℕ → List ℕ → AfterInitialize
  opened_as vs hs =
      let p = planted_in ws vs in
      record { cache = with_trees c p.trees; search = new_search p.entries hs; reply = answered tt }

  module _ (ok : SoundWords ws) where
    -- what is left where a refusal was given
    refused_as : (f : Refusal) → initialize c ss gs ≡ record { cache = c; search = empty_search; reply = refused (number f) 0 }
        → Initializes ws ss gs (Err f) ws
    refused_as f e = record {
      answer = sym (ap (λ (a : AfterInitialize). a.reply) e);
      search = sym (ap (λ (a : AfterInitialize). a.search) e);
      words = sym (ap (λ (a : AfterInitialize). initialized_words a.reply ws (roots_of dir ss gs)) e);
      cache = sym (ap (λ (a : AfterInitialize). a.cache) e);
      sound = ok;
    }

    given : {o : Option ℕ} → first_fault (initialize_faults c ss gs) ≡ o → initialize c ss gs ≡ initialize_by o c ss gs
    unfolding initialize
    given e = ap (λ (o : Option ℕ). initialize_by o c ss gs) e

    -- the first fault, by what each test gives
    abbrev full : Bool
    full = ltb (c.slots - length c.trees) (length (planted_in ws (roots_of c.domain.direction ss gs)).trees - length c.trees)

    faults : {few below : Bool} → (leb (length ss) 64 && leb (length gs) 64) ≡ few
        → (all_below (vertex_count c.domain.graph) ss && all_below (vertex_count c.domain.graph) gs) ≡ below
        → first_fault (initialize_faults c ss gs) ≡ or_else (not few) 4 (or_else (not below) 3 (or_else full 6 None))
    faults e f = ap₂ (λ (a b : Bool). or_else (not a) 4 (or_else (not b) 3 (or_else full 6 None))) e f

    pub starts-over : 64 < length ss → Initializes ws ss gs (Err OverLimit) ws
    starts-over h = refused_as OverLimit (given (faults (ap (λ (b : Bool). b && leb (length gs) 64) (lt-leb (length ss) 64 h)) refl))

    module _ (few_starts : length ss ≤ 64) where
      pub goals-over : 64 < length gs → Initializes ws ss gs (Err OverLimit) ws
      goals-over h = refused_as OverLimit (given (faults (ap₂ (λ (a b : Bool). a && b) (le-leb _ _ few_starts) (lt-leb (length gs) 64 h)) refl))

      module _ (few_goals : length gs ≤ 64) {v : ℕ} (count : v ≡ vertices_in ws) where
        few : (leb (length ss) 64 && leb (length gs) 64) ≡ true
        few = ap₂ (λ (a b : Bool). a && b) (le-leb _ _ few_starts) (le-leb _ _ few_goals)

        -- the lists against the vertices, as they are counted in the words
        below_as : (l : List ℕ) {b : Bool} → all_below v l ≡ b → all_below (vertex_count c.domain.graph) l ≡ b
        below_as l e = ap (λ (m : ℕ). all_below m l) (vertices-read ok ∙ sym count) ∙ e

        pub start-past : all_below v ss ≡ false → Initializes ws ss gs (Err NoSuchVertex) ws
        start-past e =
            refused_as NoSuchVertex (given (faults few (ap (λ (b : Bool). b && all_below (vertex_count c.domain.graph) gs) (below_as ss e))))

        module _ (starts : all_below v ss ≡ true) where
          pub goal-past : all_below v gs ≡ false → Initializes ws ss gs (Err NoSuchVertex) ws
          goal-past e = refused_as NoSuchVertex (given (faults few (ap₂ (λ (a b : Bool). a && b) (below_as ss starts) (below_as gs e))))

          -- the lists were judged: the search from the roots vs to the goals hs
          module _ (goals : all_below v gs ≡ true) (vs hs : List ℕ) (roots : roots_of dir ss gs ≡ vs) (wanted : goals_of dir ss gs ≡ hs)
              (r : Result Search Refusal) (left : List ℕ) where
            roots-are : roots_of c.domain.direction ss gs ≡ vs
            roots-are = ap (λ (d : Direction). roots_of d ss gs) (direction-is ws) ∙ roots

            full_is : full ≡ is_full ws vs
            full_is =
                ap₂ (λ (n : ℕ) (l : List ℕ). ltb (c.slots - n) (length (planted_in ws l).trees - n)) (trees-length ws) roots-are
                ∙ ap (λ (n : ℕ). ltb (n - trees_in ws) (length (planted_in ws vs).trees - trees_in ws)) (slots-are ws)

            fault : {b : Bool} → is_full ws vs ≡ b → first_fault (initialize_faults c ss gs) ≡ or_else b 6 None
            fault e =
                faults few (ap₂ (λ (a b : Bool). a && b) (below_as ss starts) (below_as gs goals))
                ∙ ap (λ (x : Bool). or_else x 6 None) (full_is ∙ e)

            planted-for : initialize_by None c ss gs ≡ opened_as vs hs
            planted-for =
                ap₂ (λ (l k : List ℕ). opened_as l k) roots-are (ap (λ (d : Direction). goals_of d ss gs) (direction-is ws) ∙ wanted)

            accepted : is_full ws vs ≡ false → OpenedSearch ws vs hs r left → Initializes ws ss gs r left
            accepted e o =
                let is : initialize c ss gs ≡ opened_as vs hs = given (fault e) ∙ planted-for in
                record {
                  answer = ap initialize_reply o.result ∙ sym (ap (λ (a : AfterInitialize). a.reply) is);
                  search = ap opened_search o.result ∙ sym (ap (λ (a : AfterInitialize). a.search) is);
                  words = o.plants.words ∙ sym (ap₂ (λ (a : AfterInitialize) (l : List ℕ). initialized_words a.reply ws l) is roots);
                  cache = o.plants.cache ∙ ap (with_trees c) (sym o.trees) ∙ sym (ap (λ (a : AfterInitialize). a.cache) is);
                  sound = o.plants.sound;
                }

            pub opened : OpensIf (is_full ws vs) ws vs hs r left → Initializes ws ss gs r left
            opened = go (is_full ws vs) refl
              where
                go : (b : Bool) → is_full ws vs ≡ b → OpensIf b ws vs hs r left → Initializes ws ss gs r left
                go true e o =
                    subst (λ (x : Result Search Refusal). Initializes ws ss gs x left) (sym o.0)
                    (subst (λ (l : List ℕ). Initializes ws ss gs (Err TreesFull) l) (sym o.1) (refused_as TreesFull (given (fault e))))
                go false e o = accepted e o
