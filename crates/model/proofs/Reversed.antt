-- The reversed graph: its edges and limits, and that a path on it is a path on the graph, read from its end, with the same total.
-- Assumes nothing.
use mathlib.Core.Path.{◌≡◌, refl, sym, ap, ◌∙◌, subst}
use mathlib.Core.List.{List, [], ◌∷◌, ◌++◌, map}
use Prim.Native.Nat.{ℕ}
use native.Mathlib.Omega.{arith}
use lib.ListN.{length, get_or, length-map, length-append, get_or-map}
use Rattle.model.specs.Graph.{Graph, Edge, no_edge, vertex_count, edge_count, from, to, cost, Accepted, Leads, total, Direction, forward, backward, swap, reversed, domain}
use Rattle.model.proofs.Paths.{leads-snoc, total-snoc}

-- ---- a list read from its end

unfoldable pub back : List ℕ → List ℕ
back [] = []
back (l ∷ ls) = back ls ++ (l ∷ [])

pub back-snoc : (ls : List ℕ) (l : ℕ) → back (ls ++ (l ∷ [])) ≡ l ∷ back ls
unfolding back
back-snoc [] l = refl
back-snoc (k ∷ ks) l = ap (λ (r : List ℕ). r ++ (k ∷ [])) (back-snoc ks l)

pub back-length : (ls : List ℕ) → length (back ls) ≡ length ls
unfolding back
back-length [] = refl
back-length (l ∷ ls) = omega (arith, length-append (back ls) (l ∷ []), back-length ls)

-- ---- the reversed graph, edge by edge

module _ (g : Graph) where
  reverse-edge : (l : ℕ) → get_or (reversed g).edges l no_edge ≡ swap (get_or g.edges l no_edge)
  unfolding reversed
  reverse-edge l = get_or-map swap g.edges l no_edge

  pub reverse-from : (l : ℕ) → from (reversed g) l ≡ to g l
  reverse-from l = ap (λ (x : Edge). x.from) (reverse-edge l)

  pub reverse-to : (l : ℕ) → to (reversed g) l ≡ from g l
  reverse-to l = ap (λ (x : Edge). x.to) (reverse-edge l)

  pub reverse-cost : (l : ℕ) → cost (reversed g) l ≡ cost g l
  reverse-cost l = ap (λ (x : Edge). x.cost) (reverse-edge l)

  pub reverse-count : edge_count (reversed g) ≡ edge_count g
  unfolding reversed
  reverse-count = length-map g.edges swap

  pub reverse-vertices : vertex_count (reversed g) ≡ vertex_count g
  unfolding reversed
  reverse-vertices = refl

  pub accepted-reversed : Accepted g → Accepted (reversed g)
  unfolding reversed
  accepted-reversed ok = record {
    vertices = ok.vertices;
    edges = rw reverse-count ok.edges;
    starts = ok.starts;
    leaves = λ l h. rw (reverse-from l) (ok.enters l (omega (arith, h, reverse-count)));
    enters = λ l h. rw (reverse-to l) (ok.leaves l (omega (arith, h, reverse-count)));
    costs = λ l h. rw (reverse-cost l) (ok.costs l (omega (arith, h, reverse-count)));
  }

  -- ---- paths

  pub leads-back : (ls : List ℕ) (a b : ℕ) → Leads (reversed g) a ls b → Leads g b (back ls) a
  unfolding back
  leads-back [] a b r = sym r
  leads-back (l ∷ ls) a b r =
      let p = leads-back ls (to (reversed g) l) b r.2 in
      subst (Leads g b (back ls ++ (l ∷ []))) (sym (reverse-from l) ∙ r.1)
      (leads-snoc g b (to (reversed g) l) l (back ls) p (omega (arith, r.0, reverse-count)) (sym (reverse-to l)))

  pub total-back : (ls : List ℕ) → total g (back ls) ≡ total (reversed g) ls
  unfolding back
  total-back [] = refl
  total-back (l ∷ ls) = omega (arith, total-snoc g l (back ls), total-back ls, reverse-cost l)

  pub back-leads : (ls : List ℕ) (a b : ℕ) → Leads g a ls b → Leads (reversed g) b (back ls) a
  unfolding back
  back-leads [] a b r = sym r
  back-leads (l ∷ ls) a b r =
      let p = back-leads ls (to g l) b r.2 in
      subst (Leads (reversed g) b (back ls ++ (l ∷ []))) (reverse-to l ∙ r.1)
      (leads-snoc (reversed g) b (to g l) l (back ls) p (omega (arith, r.0, reverse-count)) (reverse-from l))

  pub back_total : (ls : List ℕ) → total (reversed g) (back ls) ≡ total g ls
  unfolding back
  back_total [] = refl
  back_total (l ∷ ls) = omega (arith, total-snoc (reversed g) l (back ls), back_total ls, reverse-cost l)

-- ---- the domain of a cache

pub accepted-domain : (dir : Direction) (g : Graph) → Accepted g → Accepted (domain dir g).graph
unfolding domain
accepted-domain forward g ok = ok
accepted-domain backward g ok = accepted-reversed g ok

pub domain-counts : (dir : Direction) (g : Graph)
    → (vertex_count (domain dir g).graph ≡ vertex_count g) × (edge_count (domain dir g).graph ≡ edge_count g)
unfolding domain
domain-counts forward g = (refl, refl)
domain-counts backward g = (reverse-vertices g, reverse-count g)

pub domain-cost : (dir : Direction) (g : Graph) (l : ℕ) → cost (domain dir g).graph l ≡ cost g l
unfolding domain
domain-cost forward g l = refl
domain-cost backward g l = reverse-cost g l

pub domain-direction : (dir : Direction) (g : Graph) → (domain dir g).direction ≡ dir
unfolding domain
domain-direction forward g = refl
domain-direction backward g = refl

swapped-twice : (es : List Edge) → map swap (map swap es) ≡ es
swapped-twice [] = refl
swapped-twice (e ∷ es) = ap (λ (xs : List Edge). e ∷ xs) (swapped-twice es)

-- a graph held in a backward cache was turned round, and turned round again it is the text's
pub domain-twice : (dir : Direction) (g : Graph) → domain dir (domain dir g).graph ≡ record { direction = dir; graph = g }
unfolding domain
domain-twice forward g = refl
domain-twice backward g = λ i. record { direction = backward; graph = record { initial = g.initial; edges = swapped-twice g.edges i } }
