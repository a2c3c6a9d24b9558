-- The reference's growing of a sound tree, and an entry's turn, are the definitions', with nodes read as their paths.
-- Assumes nothing.
use mathlib.Core.Path.{◌≡◌, refl, sym, ap, ap₂, ◌∙◌, subst}
use Rattle.std.proofs.lemmas.Option.{none-some}
use Rattle.std.specs.declared.option.Option.{Option}
use Rattle.std.specs.Prelude.{None, Some}
use mathlib.Core.Logic.{inl, inr}
use mathlib.Core.Bool.{Bool, true, false, not, ◌&&◌, ◌||◌}
use mathlib.Core.List.{List, [], ◌∷◌, Memᴰ}
use Prim.Native.Nat.{ℕ, zero, suc}
use borrow.Author.Tests.{le-leb}
use lib.Dec.{eqb, ltb, eqb-suc-zero}
use Rattle.model.specs.Lists.{mem}
use Rattle.model.specs.Graph.{Domain, Accepted}
use Rattle.model.specs.Tree.{Tree, Node, node, closed_at, evaluation_of, evaluation, precedes, pick, least_of, least, popped, close, expanded, Going, on, found, over, Growth, above, going_on, taken, ticket_of, ticket, grow}
use Rattle.model.specs.Sound.{Sound}
use Rattle.model.specs.Search.{closed_count, lookup, Turn, find_of, under, grown, turn_by, turn}
use Rattle.model.specs.Reference.{cost_of, ordering_of, or_compare, top_when, top_of, top, rejects, status_of_word, same_len, look_unless, Growing, past_bound, closing, end_ticket, expand_top, close_top, pop_top, iterate, grow_tree, peeks, TurnEnd, exhausted_unless, grown_end, turn_end, read_solution}
use Rattle.model.proofs.Lists.{Least, least-is}
use Rattle.model.proofs.Worth.{evaluation-cost}
use Rattle.model.proofs.Least.{node-inside}
use Rattle.model.proofs.Grow.{popped-sound, expanded-sound}
use Rattle.model.proofs.Later.{ticket-cases}
use Rattle.model.proofs.Recorded.{known_after}
use Rattle.model.proofs.Refines.{rejects-is, row_is, look_is}

past_is : (b : Option ℕ) (k : ℕ) → past_bound b k ≡ above k b
past_is None k = refl
past_is (Some b) k = refl

peeks-is : (ns : List Node) (o : Option ℕ) (b : Option ℕ) → peeks ns o b ≡ under ns o b
peeks-is ns None b = refl
peeks-is ns (Some n) None = refl
peeks-is ns (Some n) (Some b) = refl

-- ---- a growth and a turn, read as the reference's

abbrev pub stopped : Going → Bool
stopped on = false
stopped (found n) = true
stopped over = true

abbrev pub read_growth : Growth → Growing
read_growth g = record { tree = g.tree; solution = read_solution g.tree.nodes (find_of g.going); broken = stopped g.going }

end_is : (m o : Bool) (t : Tree) (k n : ℕ) → end_ticket m o t n ≡ read_growth (record { tree = t; tickets = k; going = going_on m o n })
end_is true o t k n = refl
end_is false true t k n = refl
end_is false false t k n = refl

-- a turn, where the entry remembered known before it and the search was exhausted or not
abbrev pub read_turn : Option ℕ → Turn → Bool → TurnEnd
read_turn known u x =
    record { tree = u.tree; known = (known_after known u.known); solution = read_solution u.tree.nodes u.find; exhausted = exhausted_unless u.more x }

-- the top of the heap is the least ticket
top-of : (ns : List Node) (b : ℕ) (q : List ℕ) → top_of ns b q ≡ least_of ns b q
unfolding top_of least_of
top-of ns b [] = refl
top-of ns b (i ∷ is) =
    ap (λ (x : ℕ). top_of ns x is) (go (ltb (evaluation ns i) (evaluation ns b)) (eqb (evaluation ns i) (evaluation ns b)) (ltb i b) (eqb i b))
    ∙ top-of ns (pick (precedes ns i b) i b) is
  where
    go : (p q r t : Bool) → top_when (or_compare (ordering_of p q) (ordering_of r t)) i b ≡ pick (p || (q && r)) i b
    go true q r t = refl
    go false false r t = refl
    go false true true t = refl
    go false true false true = refl
    go false true false false = refl

top-is : (ns : List Node) (q : List ℕ) → top ns q ≡ least ns q
unfolding top least
top-is ns [] = refl
top-is ns (i ∷ is) = ap Some (top-of ns i is)

-- the least ticket waits
least-waits : (ns : List Node) (q : List ℕ) (n : ℕ) → least ns q ≡ Some n → Memᴰ n q
unfolding least
least-waits ns [] n e = absurd (none-some n e)
least-waits ns (x ∷ xs) n e =
    let z : least_of ns x xs ≡ n = cc in
    let r : Least ns x xs n = subst (Least ns x xs) z (least-is ns x xs) in
    elim r.among [ inl h ↦ Memᴰ.head h | inr m ↦ Memᴰ.tail m ]

module _ (d : Domain) (gs : List ℕ) (b : Option ℕ) (acc : Accepted d.graph) where
  module _ (t : Tree) (ok : Sound d t) (k : ℕ) where
    expand-is : (n : ℕ) → Memᴰ n t.waiting → expand_top d gs b (popped t n) n ≡ read_growth (taken d gs b t k n false)
    unfolding expand_top taken popped expanded close
    expand-is n m =
        let x : Node = node t.nodes n in
        ap₂ (λ (o : Bool) (u : Tree). end_ticket (mem x.vertex gs) o u n) (past_is b (cost_of x) ∙ ap (λ (k : ℕ). above k b) (sym (evaluation-cost x)))
        (row_is d n x (closing (popped t n) x.vertex n) x.vertex (node-inside d acc t ok n (ok.queue n m)))
        ∙ end_is (mem x.vertex gs) (above (evaluation_of x) b) (expanded d (popped t n) n) (suc k) n

    -- a ticket for a closed vertex costs no less than the node that closed it
    close-is : (n : ℕ) → Memᴰ n t.waiting → (w : ℕ) → closed_at t.closed (node t.nodes n).vertex ≡ w
        → close_top d gs b (popped t n) n (rejects t.nodes (node t.nodes n) (status_of_word w)) ≡ read_growth (taken d gs b t k n (not (eqb w 0)))
    unfolding close_top taken
    close-is n m zero e = expand-is n m
    close-is n m (suc i) e =
        rw (eqb-suc-zero i, rejects-is t.nodes (node t.nodes n) (suc i), le-leb (evaluation t.nodes i) (evaluation t.nodes n) (ok.cheapest _ i n e m))

    pop-is : (o : Option ℕ) → least t.nodes t.waiting ≡ o → pop_top d gs b t o ≡ read_growth (ticket_of d gs b t k o)
    unfolding pop_top ticket_of
    pop-is None e = refl
    pop-is (Some n) e = close-is n (least-waits t.nodes t.waiting n e) (closed_at t.closed (node t.nodes n).vertex) refl

  iterate-is : (t : Tree) (k : ℕ) (g : Going) → Sound d t
      → iterate d gs b (read_growth (record { tree = t; tickets = k; going = g })) (stopped g) ≡ read_growth (ticket d gs b t k g)
  unfolding ticket
  iterate-is t k on ok = ap (pop_top d gs b t) (top-is t.nodes t.waiting) ∙ pop-is t ok k (least t.nodes t.waiting) refl
  iterate-is t k (found n) ok = refl
  iterate-is t k over ok = refl

  ticket-sound : (t : Tree) (k : ℕ) (g : Going) → Sound d t → Sound d (ticket d gs b t k g).tree
  unfolding ticket
  ticket-sound t k on ok =
      ticket-cases d acc gs b t ok k (λ g. Sound d g.tree) (λ e. ok) (λ n i m e. popped-sound d t ok n i m e) (λ n m e f. expanded-sound d acc t ok n m e f)
  ticket-sound t k (found n) ok = ok
  ticket-sound t k over ok = ok

  pub grow-is : (j : ℕ) (g : Growth) → Sound d g.tree → grow_tree d gs b j (read_growth g) ≡ read_growth (grow d gs b j g)
  unfolding grow_tree grow
  grow-is zero g ok = refl
  grow-is (suc j) g ok =
      ap (λ (r : Growing). grow_tree d gs b j r) (iterate-is g.tree g.tickets g.going ok)
      ∙ grow-is j (ticket d gs b g.tree g.tickets g.going) (ticket-sound g.tree g.tickets g.going ok)

  -- ---- an entry's turn

  grown-is : (known : Option ℕ) (g : Growth) (x : Bool) → grown_end (read_growth g) b x ≡ read_turn known (grown g b) x
  unfolding grown_end grown
  grown-is known g x =
      ap (λ (p : Bool). record {
        tree = g.tree;
        known = Some (closed_count g.tree.closed);
        solution = read_solution g.tree.nodes (find_of g.going);
        exhausted = exhausted_unless p x;
      }) (ap (λ (o : Option ℕ). peeks g.tree.nodes o b) (top-is g.tree.nodes g.tree.waiting) ∙ peeks-is g.tree.nodes (least g.tree.nodes g.tree.waiting) b)

  pub turn_is : (t : Tree) (known : Option ℕ) (x : Bool) → Sound d t
      → turn_end d gs b t known x (look_unless (same_len known (closed_count t.closed)) t gs) ≡ read_turn known (turn d gs b t known) x
  unfolding turn_end turn
  turn_is t known x ok = ap (turn_end d gs b t known x) (look_is d t gs known) ∙ go (lookup d t gs known)
    where
      go : (o : Option ℕ) → turn_end d gs b t known x (read_solution t.nodes o) ≡ read_turn known (turn_by d gs b t o) x
      go (Some n) = refl
      go None =
          let g : Growth = record { tree = t; tickets = 0; going = on } in
          ap (λ (r : Growing). grown_end r b x) (grow-is 10 g ok) ∙ grown-is known (grow d gs b 10 g) x
