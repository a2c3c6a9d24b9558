-- The turn of entry i in the words is the model's round: what the functions of a turn ask for, and what is known after it.
-- Assumes nothing.
use mathlib.Core.Path.{◌≡◌, refl, sym, ap, ap₂, ◌∙◌, subst}
use Rattle.std.specs.Prelude.{None, Some}
use Rattle.std.specs.declared.option.Option.{Option}
use mathlib.Core.Logic.{inl}
use mathlib.Core.Bool.{Bool}
use mathlib.Core.List.{List}
use Prim.Native.Nat.{ℕ, ◌<◌, ◌≤◌}
use native.Mathlib.Omega.{arith}
use lib.ListN.{length, get_or}
use lib.Seq.{get_or-take, length-take-le}
use Rattle.model.specs.declared.BestSolution.{BestSolution}
use Rattle.model.specs.declared.Search.{Search}
use Rattle.model.specs.Graph.{Domain, Accepted}
use Rattle.model.specs.Tree.{Tree, Node}
use Rattle.model.specs.Sound.{Sound, tree}
use Rattle.model.specs.Search.{entry, goals, bound_of, bound, remembered, unfinished_if, Turn, turn, Walk, round}
use Rattle.model.specs.Calls.{Cache, with_trees}
use Rattle.model.proofs.Recorded.{held_kept}
use Rattle.model.proofs.Keeps.{turn-keeps}
use Rattle.model.proofs.RefinesRead.{find-in}
use Rattle.layout.specs.Read.{read_cache}
use Rattle.sound.specs.Facts.{SoundWords, InUse}
use Rattle.sound.proofs.Facts.{sound-accepted, sound-cache}
use Rattle.grow.specs.Grow.{Outside}
use Rattle.memory.specs.Memory.{Fits, FitsWords, HasNode}
use Rattle.memory.proofs.Fits.{in_use, best-few, best-node}
use Rattle.entry_turns.specs.declared.Outcome.{Outcome}
use Rattle.entry_turns.specs.declared.Find.{Find}
use Rattle.entry_turns.specs.Turn.{CanStep, tree_at, best_entry, CanBound, bound_in, CanTurn, turn_of, Turns, CanRecord, found_in, found_of}
use Rattle.entry_turns.proofs.Held.{with_found, with-found}
use Rattle.entry_turns.proofs.Turning.{turn-few}
use Rattle.entry_turns.proofs.Fits.{round-fits}
use Rattle.entry_turns.proofs.Grown.{tree-left}
use Rattle.layout.specs.Layout.{edges_in, vertices_in}

-- i is an entry of a record that fits the words
pub record HasEntry (ws : List ℕ) (s : Search) (i : ℕ) : Type 0 where
  pub can : CanStep ws s
  pub is_entry : i < s.tree_count

abbrev pub round_of : List ℕ → Search → ℕ → Walk
round_of ws s i = let c = read_cache ws in round c.domain i (record { trees = c.trees; search = s; tickets = 0 })

-- the record next and k tickets after the turn of entry i, and the words left
pub record Rounds (ws : List ℕ) (s : Search) (i : ℕ) (next : Search) (k : ℕ) (left : List ℕ) : Type 0 where
  pub search : next ≡ (round_of ws s i).search
  pub tickets : k ≡ (round_of ws s i).tickets
  pub few : k ≤ 10
  pub cache : read_cache left ≡ with_trees (read_cache ws) (round_of ws s i).trees
  pub sound : SoundWords left
  pub fits : FitsWords left next
  pub outside : Outside (vertices_in ws) (edges_in ws) (entry s i).tree ws left

bound-in : (d : Domain) (ts : List Tree) (s : Search) (x : Option BestSolution) → bound_in d (tree ts (entry s (best_entry x)).tree).nodes x ≡ bound_of d ts s x
bound-in d ts s None = refl
bound-in d ts s (Some b) = refl

pub best-place : {ws : List ℕ} {s : Search} → CanStep ws s → {j : ℕ} → j ≡ best_entry s.best_solution → j < 64
best-place {ws} {s} can {j} e = go s.best_solution refl e
  where
    go : (x : Option BestSolution) → s.best_solution ≡ x → j ≡ best_entry x → j < 64
    go None z h = omega arith
    go (Some b) z h = omega (arith, best-few can.sound can.fits z)

module _ {ws : List ℕ} {s : Search} {i : ℕ} (has : HasEntry ws s i) where
  abbrev slot : ℕ
  slot = (entry s i).tree

  abbrev d : Domain
  d = (read_cache ws).domain

  abbrev ts : List Tree
  ts = (read_cache ws).trees

  abbrev most : Option ℕ
  most = bound d ts s

  used : InUse ws slot
  used = in_use has.can.sound (has.can.fits.held i has.is_entry).slot

  pub entry-few : i < 64
  entry-few = omega (arith, has.is_entry, has.can.fits.listed.entries)

  -- ---- the bound

  module _ {j : ℕ} (e : j ≡ best_entry s.best_solution) where
    pub can-bound : CanBound ws s.best_solution (entry s j).tree
    can-bound b z = subst (λ (m : ℕ). HasNode ws (entry s m).tree b.node) (sym (e ∙ ap best_entry z)) (best-node has.can.sound has.can.fits z)

    pub bound-is : {b : Option ℕ} → b ≡ bound_in d (tree_at ws (entry s j).tree).nodes s.best_solution → b ≡ most
    bound-is h =
        h
        ∙ ap (λ (m : ℕ). bound_in d (tree_at ws (entry s m).tree).nodes s.best_solution) e
        ∙ bound-in d ts s s.best_solution

  -- ---- the turn, with the goals gs that were lent

  module _ {gs : List ℕ} (e : gs ≡ goals s) where
    pub can-turn : CanTurn ws slot gs
    can-turn = record { used = used; goals = below }
      where
        below : (j : ℕ) → j < length gs → get_or gs j 0 < vertices_in ws
        below j h =
            let long : length (goals s) ≡ s.goal_count = length-take-le s.goal_count s.goal_keys (omega (arith, has.can.fits.listed.keys, has.can.fits.listed.goals)) in
            let few : j < s.goal_count = omega (arith, ap length e, long) in
            omega (arith, ap (λ (l : List ℕ). get_or l j 0) e, get_or-take s.goal_count s.goal_keys j 0 few, has.can.fits.goals j few)

    module _ {b : Option ℕ} {r : Outcome} {left : List ℕ} (most-is : b ≡ most) (lent : Turns ws slot (turn_of ws (entry s i) gs b) r left) where
      abbrev u : Turn
      u = turn d (goals s) most (tree_at ws slot) (entry s i).last_known_closed_len

      turns : Turns ws slot u r left
      turns =
          subst (λ (x : Option ℕ). Turns ws slot (turn_of ws (entry s i) (goals s) x) r left) most-is
          (subst (λ (l : List ℕ). Turns ws slot (turn_of ws (entry s i) l b) r left) e lent)

      acc : Accepted d.graph
      acc = sound-accepted ws has.can.sound

      sound-tree : Sound d (tree_at ws slot)
      sound-tree = (sound-cache ws has.can.sound).trees.each slot (has.can.fits.held i has.is_entry).slot

      left-tree : tree_at left slot ≡ u.tree
      left-tree = tree-left left used u.tree turns.cache

      trees-left : (read_cache left).trees ≡ (round_of ws s i).trees
      unfolding round
      trees-left = ap (λ (c : Cache). c.trees) turns.cache

      vertices-left : vertices_in left ≡ vertices_in ws
      vertices-left = turns.outside.word 1 (inl (omega arith))

      fit : Fits (vertices_in ws) (round_of ws s i).trees (round_of ws s i).search
      fit = round-fits d acc i (record { trees = ts; search = s; tickets = 0 }) (sound-cache ws has.can.sound).trees has.is_entry has.can.fits

      -- what the entry held stays, and the find is a node of the tree left
      pub can-record : CanRecord left (entry s i) r.find
      can-record =
          let more = (turn-keeps d acc (goals s) most (tree_at ws slot) (entry s i).last_known_closed_len sound-tree).1.longer in
          record {
            used = record { sound = turns.sound; slot = omega (arith, used.slot, turns.outside.word 4 (inl (omega arith))) };
            held = λ n z. rw left-tree (omega (arith, more, (has.can.fits.held i has.is_entry).node n z));
            find = λ n z. rw left-tree (find-in d acc (goals s) most (tree_at ws slot) (entry s i).last_known_closed_len sound-tree n (sym turns.find ∙ z));
          }

      pub few-tickets : r.tickets ≤ 10
      few-tickets = omega (arith, turns.tickets, turn-few d (goals s) most (tree_at ws slot) (entry s i).last_known_closed_len)

      -- ---- what is recorded: the count and the mark, then the find

      pub rounds : {counted marked next : Search} {f : Option Find} → counted ≡ remembered s i r.known → marked ≡ unfinished_if r.more counted
          → f ≡ found_of left (entry s i) r.find b → next ≡ with_found marked i f → Rounds ws s i next r.tickets left
      unfolding round
      rounds {marked = marked} {next} {f} count mark found h = record {
        search = search_is;
        tickets = omega (arith, turns.tickets);
        few = few-tickets;
        cache = turns.cache;
        sound = turns.sound;
        fits =
            subst (λ (m : ℕ). Fits m (read_cache left).trees next) (sym vertices-left)
            (subst (λ (l : List Tree). Fits (vertices_in ws) l next) (sym trees-left) (subst (λ (y : Search). Fits (vertices_in ws) (round_of ws s i).trees y) (sym search_is) fit));
        outside = turns.outside;
      }
        where
          ns : List Node
          ns = u.tree.nodes

          rest : Search
          rest = unfinished_if u.more (remembered s i u.known)

          rest-is : marked ≡ rest
          rest-is = mark ∙ ap (unfinished_if r.more) count ∙ ap₂ (λ (m : Bool) (known : Option ℕ). unfinished_if m (remembered s i known)) turns.more turns.known

          -- what was found is what the model's turn gives
          found-is : f ≡ found_in d ns (entry rest i).solution most u.find
          found-is =
              found
              ∙ ap₂ (λ (c : Cache) (t : Tree). found_in c.domain t.nodes (entry s i).solution b r.find) turns.cache left-tree
              ∙ ap₂ (λ (m : Option ℕ) (o : Option ℕ). found_in d ns (entry s i).solution m o) most-is turns.find
              ∙ sym (ap (λ (x : Option ℕ). found_in d ns x most u.find) (held_kept s i u.more u.known))

          search_is : next ≡ (round_of ws s i).search
          search_is = h ∙ ap₂ (λ (x : Search) (y : Option Find). with_found x i y) rest-is found-is ∙ with-found d ns most rest i u.find
