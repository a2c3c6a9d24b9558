-- The ends of a vertex's edges, marked one by one.
-- Assumes nothing.
use mathlib.Core.Path.{◌≡◌, refl, sym, ap, ap₂, ◌∙◌}
use mathlib.Core.Bool.{Bool, true, false}
use mathlib.Core.List.Memᴰ
use mathlib.Core.List.{List, [], ◌∷◌, Memᴰ}
use Prim.Native.Nat.{ℕ, suc, ◌+◌, ◌-◌, ◌<◌, ◌≤◌}
use native.Mathlib.Decide.{ℕ_discrete}
use native.Mathlib.Omega.{arith}
use lib.ListN.{length, get_or, drop}
use lib.Seq.{get_or-take}
use denote.Ref.{Bor}
use borrow.Rule.Slice.PartMut.{mid_of, mid_len}
use Rattle.model.specs.Limits.{vertex_limit}
use Rattle.model.specs.Graph.{Graph, Domain, Usable, vertex_count, from, to, choices, edge_numbers}
use Rattle.model.proofs.Choices.{choices-mem, choices-has}
use Rattle.layout.specs.Layout.{EdgeFits, places_at, numbers_at, slots_at, place_in, to_in}
use Rattle.layout.specs.Words.{first_place}
use Rattle.layout.specs.Read.{graph_in, domain_of}
use Rattle.layout.proofs.Edges.{edge-count-in, vertex-count-in, to_word}
use Rattle.layout.proofs.Places.{word-behind}
use Rattle.edges.specs.Edges.{Advances}
use Rattle.edges.specs.declared.SimpleGraphEdges.{SimpleGraphEdges}
use Rattle.std.specs.Prelude.{Some, None}
use Rattle.edges.proofs.Found.{Found, edge-given, end-given}
use Rattle.graph.proofs.Ordered.{get_or-mem}
use Rattle.graph.proofs.Choices.{next_place, choice-at, places-fit}
use Rattle.reach.specs.Walk.{Listed, MarksOne, Explored, CanMarkEnds, MarksEnds}
use Rattle.reach.proofs.Listing.{one-stays, one-marked, one-explored}
use Rattle.reach.proofs.Exactly.{reach-on}

-- where a member of a list stands
place_of : (xs : List ℕ) (x : ℕ) → Memᴰ x xs → (i : ℕ) × (i < length xs) × (get_or xs i 0 ≡ x)
place_of [] x k = absurd (Memᴰ.not-nil k)
place_of (y ∷ ys) x (Memᴰ.head e) = (0, omega arith, sym e)
place_of (y ∷ ys) x (Memᴰ.tail k) = let r = place_of ys x k in (suc r.0, omega (arith, r.1), r.2)

-- the edge numbers that are lent
abbrev numbers_in : ℕ → ℕ → List ℕ → List ℕ
numbers_in vs es ws = mid_of (numbers_at vs es) (slots_at vs es - numbers_at vs es) ws

-- a cursor over the edges of vertex v, and the ends of the ones before it are marked
pub record Ending (vs es : ℕ) (ws : List ℕ) (v : ℕ) (m : List Bool) (l : List ℕ) (m' : List Bool) (l' : List ℕ) (at : SimpleGraphEdges) : Type 0 where
  pub can : CanMarkEnds vs es ws v m l
  pub numbers : at.numbers.now ≡ numbers_in vs es ws
  pub ends : at.end ≡ first_place (domain_of vs es ws) v + length (choices (domain_of vs es ws) v)
  pub above : first_place (domain_of vs es ws) v ≤ at.place
  pub explored : Explored (graph_in vs es ws) m' l'
  pub done : (j : ℕ) → j < at.place - first_place (domain_of vs es ws) v → get_or m' (to (graph_in vs es ws) (get_or (choices (domain_of vs es ws) v) j 0)) false ≡ true
  pub stay : (x : ℕ) → get_or m x false ≡ true → get_or m' x false ≡ true
  pub more : length l ≤ length l'
  pub keeps : (i : ℕ) → i < length l → get_or l' i 0 ≡ get_or l i 0

module _ {vs es : ℕ} {ws : List ℕ} {v : ℕ} {m : List Bool} {l : List ℕ} (h : CanMarkEnds vs es ws v m l) where
  abbrev g : Graph
  g = graph_in vs es ws

  abbrev d : Domain
  d = domain_of vs es ws

  vertices : vertex_count g ≡ vs
  vertices = vertex-count-in vs es ws (omega (arith, h.held.fits))

  vertex-in : v < vs
  vertex-in = omega (arith, h.explored.inside v h.marked, vertices)

  -- the first places of v and of the vertex after it
  pub can-find : (i : ℕ) → i ≤ v + 1 → places_at vs es + i < length ws
  can-find i b = omega (arith, vertex-in, h.held.fits)

  module _ {a b first last : ℕ} {lent : Bor (List ℕ)} {made at : SimpleGraphEdges} (here : a ≡ numbers_at vs es) (there : b ≡ slots_at vs es)
      (begins : first ≡ place_in vs es ws v) (stops : last ≡ place_in vs es ws (v + 1))
      (part : lent.now ≡ mid_of a (b - a) ws) (from : (made.numbers ≡ lent) × ((made.place ≡ first) × (made.end ≡ last))) (is : at ≡ made) where
    starts-at : at.place ≡ first_place d v
    starts-at =
        ap (λ (y : SimpleGraphEdges). y.place) is
        ∙ from.1.0
        ∙ begins
        ∙ h.held.place v (omega (arith, vertex-in))

    ends_at : at.end ≡ first_place d v + length (choices d v)
    ends_at =
        ap (λ (y : SimpleGraphEdges). y.end) is
        ∙ from.1.1
        ∙ stops
        ∙ h.held.place (v + 1) (omega (arith, vertex-in))
        ∙ next_place d v

    pub ending-none : Ending vs es ws v m l m l at
    ending-none = record {
      can = h;
      numbers =
          ap (λ (y : SimpleGraphEdges). y.numbers.now) is
          ∙ ap (λ (y : Bor (List ℕ)). y.now) from.0
          ∙ part
          ∙ ap₂ (λ (i j : ℕ). mid_of i (j - i) ws) here there;
      ends = ends_at;
      above = omega (arith, starts-at);
      explored = h.explored;
      done = λ j k. absurd (omega (arith, starts-at));
      stay = λ x o. o;
      more = omega arith;
      keeps = λ i k. refl;
    }

module _ {vs es : ℕ} {ws : List ℕ} {v : ℕ} {m : List Bool} {l : List ℕ} {m' : List Bool} {l' : List ℕ} {at : SimpleGraphEdges} (i : Ending vs es ws v m l m' l' at) where
  abbrev graph : Graph
  graph = graph_in vs es ws

  abbrev dom : Domain
  dom = domain_of vs es ws

  -- the edges of the vertex, and where they begin
  abbrev its : List ℕ
  its = choices dom v

  abbrev first : ℕ
  first = first_place dom v

  numbers-count : length at.numbers.now ≡ es
  numbers-count =
      ap length i.numbers
      ∙ mid_len (numbers_at vs es) (slots_at vs es) ws (omega (arith, i.can.held.fits))
      ∙ omega arith

  inside : v < vertex_count graph
  inside = i.can.explored.inside v i.can.marked

  last_fits : at.end ≤ es
  last_fits = omega (arith, i.ends, places-fit dom v inside i.can.held.accepted, edge-count-in vs es ws)

  pub ending-all : {next : SimpleGraphEdges} → Advances at None next → MarksEnds graph v m l m' l'
  ending-all said = record {
    explored = i.explored;
    ends = λ e u leaves.
        let stop : at.end ≤ at.place = end-given (omega (arith, numbers-count, last_fits)) said in
        let p = place_of its e (choices-has dom i.can.held.accepted v e u leaves) in
        ap (λ (x : ℕ). get_or m' (to graph x) false) (sym p.2) ∙ i.done p.0 (omega (arith, p.1, i.ends));
    stay = i.stay;
    more = i.more;
    keeps = i.keeps;
  }

  module _ {e : ℕ} {next : SimpleGraphEdges} (said : Advances at (Some e) next) where
    found : Found at.numbers.now at.place at.end e next.place
    found = edge-given said

    abbrev j : ℕ
    j = at.place - first

    in-choices : j < length its
    in-choices = omega (arith, found.before, i.ends, i.above)

    -- the edge is the next one of the vertex
    edge-is : e ≡ get_or its j 0
    edge-is =
        let there : at.place ≡ first + j = omega (arith, i.above) in
        found.edge
        ∙ ap (λ (xs : List ℕ). get_or xs at.place 0) i.numbers
        ∙ get_or-take (slots_at vs es - numbers_at vs es) (drop (numbers_at vs es) ws) at.place 0 (omega (arith, found.before, last_fits))
        ∙ word-behind (numbers_at vs es) ws at.place (numbers_at vs es + at.place) refl
        ∙ i.can.held.number at.place (omega (arith, found.before, last_fits))
        ∙ ap (λ (p : ℕ). get_or (edge_numbers dom) p 0) there
        ∙ choice-at dom v inside j in-choices

    leaves : Usable graph e × (from graph e ≡ v)
    leaves = rw edge-is (choices-mem dom v (get_or its j 0) (get_or-mem its j in-choices))

    edge_in_lem : e < es
    edge_in_lem = omega (arith, leaves.0, edge-count-in vs es ws)

    pub can-follow : EdgeFits (length ws) vs e
    can-follow = record {
      vertices = i.can.held.sized.vertices;
      edge = omega (arith, edge_in_lem, i.can.held.sized.edges);
      within = omega (arith, edge_in_lem, i.can.held.fits);
    }

    -- y: the vertex that it enters
    module _ {y : ℕ} (enters : y ≡ to_in vs ws e) where
      end_is : y ≡ to graph e
      end_is = enters ∙ sym (to_word vs es ws e edge_in_lem)

      end-in : y < vertex_count graph
      end-in = omega (arith, end_is, i.can.held.accepted.enters e leaves.0)

      pub can-mark-end : Listed m' l' × (y < vertex_limit)
      can-mark-end = (i.explored.listed, omega (arith, end-in, vertices i.can, i.can.held.sized.vertices))

      module _ {m'' : List Bool} {l'' : List ℕ} (one : MarksOne m' l' y m'' l'') where
        stays : (x : ℕ) → get_or m' x false ≡ true → get_or m'' x false ≡ true
        stays = one-stays i.explored one

        pub ending-one : Ending vs es ws v m l m'' l'' next
        ending-one = record {
          can = i.can;
          numbers = ap (λ (x : Bor (List ℕ)). x.now) said.numbers ∙ i.numbers;
          ends = said.end ∙ i.ends;
          above = omega (arith, i.above, found.after);
          explored =
              one-explored i.explored one end-in
              (rw end_is (reach-on graph v e (i.can.explored.reached v i.can.marked) leaves.0 leaves.1));
          done = λ k b. elim (ℕ_discrete k j) [
            | yes q ↦
                ap (λ (x : ℕ). get_or m'' (to graph (get_or its x 0)) false) q
                ∙ ap (λ (x : ℕ). get_or m'' (to graph x) false) (sym edge-is)
                ∙ ap (λ (x : ℕ). get_or m'' x false) (sym end_is)
                ∙ one-marked i.explored one can-mark-end.1
            | no n ↦ stays _ (i.done k (omega (arith, i.above, found.after)))
          ];
          stay = λ x o. stays x (i.stay x o);
          more = omega (arith, i.more, one.more);
          keeps = λ k b. one.keeps k (omega (arith, i.more)) ∙ i.keeps k b;
        }
