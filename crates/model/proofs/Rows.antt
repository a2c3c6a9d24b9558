-- The rows of the Rust's edge table are `choices`: forward the edges that leave a vertex, by number; backward its `reversed`, row by row.
-- Assumes nothing.
use mathlib.Core.Path.{◌≡◌, refl, sym, ap, ap₂, ◌∙◌, subst}
use mathlib.Core.Bool.{Bool, true, false, ◌&&◌}
use mathlib.Core.List.{List, [], ◌∷◌, ◌++◌, map, map-append, append-nil, append_assoc}
use Prim.Native.Nat.{ℕ, suc, ◌+◌, ◌<◌}
use native.Mathlib.Nat.{add-zero}
use native.Mathlib.Omega.{arith}
use borrow.Author.Tests.{eqb-true, eqb-false}
use lib.Dec.{eqb}
use lib.ListN.{length, get_or, length-set, length-replicate, get_or-replicate}
use lib.Seq.{get_or-set_same, get_or-set_other, append_snoc}
use Rattle.model.specs.Lists.{up_from, numbers, keep, those, joined}
use Rattle.model.specs.Graph.{Edge, no_edge, Graph, vertex_count, from, to, edges_in_use, Direction, forward, backward, reversed, Domain, domain, leaving, between, choices}
use Rattle.model.specs.SimpleGraph.{Target, no_targets, push_edge, empty_rows, from_iters, edge_rows, reverse_row, reverse_rows, reversed_rows, edges_from_vertex}
use Rattle.model.specs.Reference.{text_graph}
use Rattle.model.proofs.Reversed.{reverse-from, reverse-to, reverse-count, reverse-vertices, domain-counts, domain-twice}

-- the edge l, as a row of g's table holds it
abbrev pub target_of : Graph → ℕ → Target
target_of g l = record { to = to g l; edge = l }

-- ---- one push

abbrev row : List (List Target) → ℕ → List Target
row rows v = get_or rows v no_targets

push-length : (rows : List (List Target)) (w : ℕ) (x : Target) → length (push_edge rows w x) ≡ length rows
push-length rows w x = length-set rows w (row rows w ++ (x ∷ []))

-- to row v, and to another row
push-here : (rows : List (List Target)) (w v : ℕ) (x : Target) (more : List Target) → v < length rows → w ≡ v
    → row (push_edge rows w x) v ++ more ≡ row rows v ++ x ∷ more
push-here rows w v x more inside e =
    subst (λ (u : ℕ). row (push_edge rows u x) v ++ more ≡ row rows v ++ x ∷ more) (sym e)
    (ap (λ (r : List Target). r ++ more) (get_or-set_same rows v (row rows v ++ (x ∷ [])) no_targets inside) ∙ append_snoc (row rows v) x more)

push-there : (rows : List (List Target)) (w v : ℕ) (x : Target) → (w ≡ v → ⊥) → row (push_edge rows w x) v ≡ row rows v
push-there rows w v x apart = get_or-set_other rows w v (row rows w ++ (x ∷ [])) no_targets (λ e. apart (sym e))

-- as many rows as before
from-iters-length : (es : List Edge) (n : ℕ) (rows : List (List Target)) → length (from_iters es n rows) ≡ length rows
unfolding from_iters
from-iters-length [] n rows = refl
from-iters-length (e ∷ es) n rows =
    let x : Target = record { to = e.to; edge = n } in
    from-iters-length es (suc n) (push_edge rows e.from x) ∙ push-length rows e.from x

reverse-row-length : (w : ℕ) (xs : List Target) (rows : List (List Target)) → length (reverse_row w xs rows) ≡ length rows
unfolding reverse_row
reverse-row-length w [] rows = refl
reverse-row-length w (x ∷ xs) rows =
    let y : Target = record { to = w; edge = x.edge } in
    reverse-row-length w xs (push_edge rows x.to y) ∙ push-length rows x.to y

module _ (g : Graph) where
  -- ---- forward: row v gains the edges from v, by number; es are the edges from the number n on

  from-iters-row : (v : ℕ) (es : List Edge) (n : ℕ) (rows : List (List Target)) → v < length rows
      → ((i : ℕ) → get_or g.edges (n + i) no_edge ≡ get_or es i no_edge)
      → row (from_iters es n rows) v ≡ row rows v ++ map (target_of g) (those (λ l. eqb (from g l) v) (up_from (length es) n))
  unfolding from_iters those
  from-iters-row v [] n rows inside are = sym (append-nil (row rows v))
  from-iters-row v (e ∷ es) n rows inside are =
      let here : get_or g.edges n no_edge ≡ e = ap (λ (k : ℕ). get_or g.edges k no_edge) (sym (add-zero n)) ∙ are 0 in
      let x : Target = record { to = e.to; edge = n } in
      from-iters-row v es (suc n) (push_edge rows e.from x) (omega (arith, push-length rows e.from x))
      (λ i. ap (λ (k : ℕ). get_or g.edges k no_edge) (omega arith) ∙ are (suc i))
      ∙ subst (λ (d : Edge). Pushed d (eqb (from g n) v)) here (go (eqb (from g n) v) refl)
    where
      rest : List ℕ
      rest = those (λ l. eqb (from g l) v) (up_from (length es) (suc n))

      Pushed : Edge → Bool → Type 0
      Pushed d b = row (push_edge rows d.from (record { to = d.to; edge = n })) v ++ map (target_of g) rest ≡ row rows v ++ map (target_of g) (keep b n rest)

      go : (b : Bool) → eqb (from g n) v ≡ b → Pushed (get_or g.edges n no_edge) b
      go true t = push-here rows (from g n) v (target_of g n) (map (target_of g) rest) inside (eqb-true (from g n) v t)
      go false t = ap (λ (r : List Target). r ++ map (target_of g) rest) (push-there rows (from g n) v (target_of g n) (eqb-false (from g n) v t))

  empty-row : (v : ℕ) → v < vertex_count g → row (empty_rows g) v ≡ []
  empty-row v inside = get_or-replicate (vertex_count g) v no_targets no_targets inside

  edge-rows-length : length (edge_rows g) ≡ vertex_count g
  unfolding edge_rows
  edge-rows-length = from-iters-length g.edges 0 (empty_rows g) ∙ length-replicate (vertex_count g) no_targets

  edge-rows-row : (v : ℕ) → v < vertex_count g → row (edge_rows g) v ≡ map (target_of g) (leaving g v)
  unfolding edge_rows leaving
  edge-rows-row v inside =
      from-iters-row v g.edges 0 (empty_rows g) (omega (arith, length-replicate (vertex_count g) no_targets))
      (λ i. ap (λ (k : ℕ). get_or g.edges k no_edge) (omega arith))
      ∙ ap (λ (r : List Target). r ++ map (target_of g) (leaving g v)) (empty-row v inside)

  -- ---- backward: of row w, row v of the new table gains the edges that enter v; ms are edge numbers

  abbrev turned : ℕ → ℕ → List ℕ → List ℕ
  turned v w ms = those (λ l. eqb (from (reversed g) l) v && eqb (to (reversed g) l) w) ms

  reverse-row-row : (v w : ℕ) (ms : List ℕ) (rows : List (List Target)) → v < length rows
      → row (reverse_row w (map (target_of g) (those (λ l. eqb (from g l) w) ms)) rows) v ≡ row rows v ++ map (target_of (reversed g)) (turned v w ms)
  unfolding reverse_row those
  reverse-row-row v w [] rows inside = sym (append-nil (row rows v))
  reverse-row-row v w (m ∷ ms) rows inside =
      subst (Grown (eqb (from g m) w)) (ap₂ (λ (a b : ℕ). eqb a v && eqb b w) (sym (reverse-from g m)) (sym (reverse-to g m)))
      (go (reverse-row-row v w ms) (eqb (from g m) w) refl (eqb (to g m) v) refl)
    where
      xs : List ℕ
      xs = those (λ l. eqb (from g l) w) ms

      ys : List Target
      ys = map (target_of (reversed g)) (turned v w ms)

      Grown : Bool → Bool → Type 0
      Grown b c = row (reverse_row w (map (target_of g) (keep b m xs)) rows) v ≡ row rows v ++ map (target_of (reversed g)) (keep c m (turned v w ms))

      x : Target
      x = record { to = w; edge = m }

      next : List (List Target)
      next = push_edge rows (to g m) x

      go : ((rs : List (List Target)) → v < length rs → row (reverse_row w (map (target_of g) xs) rs) v ≡ row rs v ++ ys)
          → (b : Bool) → eqb (from g m) w ≡ b → (c : Bool) → eqb (to g m) v ≡ c → Grown b (c && b)
      go ih false p true q = ih rows inside
      go ih false p false q = ih rows inside
      go ih true p true q =
          ih next (omega (arith, push-length rows (to g m) x))
          ∙ push-here rows (to g m) v x ys inside (eqb-true (to g m) v q)
          ∙ ap (λ (u : ℕ). row rows v ++ record { to = u; edge = m } ∷ ys) (sym (reverse-to g m ∙ eqb-true (from g m) w p))
      go ih true p false q =
          ih next (omega (arith, push-length rows (to g m) x)) ∙ ap (λ (r : List Target). r ++ ys) (push-there rows (to g m) v x (eqb-false (to g m) v q))

  reverse-leaving : (v w : ℕ) (xs : List Target) (rows : List (List Target)) → v < length rows → xs ≡ map (target_of g) (leaving g w)
      → row (reverse_row w xs rows) v ≡ row rows v ++ map (target_of (reversed g)) (between (reversed g) v w)
  unfolding leaving between
  reverse-leaving v w xs rows inside e =
      ap (λ (ys : List Target). row (reverse_row w ys rows) v) e
      ∙ reverse-row-row v w (edges_in_use g) rows inside
      ∙ ap (λ (k : ℕ). row rows v ++ map (target_of (reversed g)) (turned v w (numbers k))) (sym (reverse-count g))

  -- over the forward table's rows, from the vertex n on
  reverse-rows-row : (v : ℕ) (table : List (List Target)) (n : ℕ) (rows : List (List Target)) → v < length rows
      → ((i : ℕ) → i < length table → row table i ≡ map (target_of g) (leaving g (n + i)))
      → row (reverse_rows n table rows) v ≡ row rows v ++ map (target_of (reversed g)) (joined (between (reversed g) v) (up_from (length table) n))
  unfolding reverse_rows joined
  reverse-rows-row v [] n rows inside are = sym (append-nil (row rows v))
  reverse-rows-row v (xs ∷ more) n rows inside are =
      let here : xs ≡ map (target_of g) (leaving g n) = are 0 (omega arith) ∙ ap (λ (k : ℕ). map (target_of g) (leaving g k)) (add-zero n) in
      reverse-rows-row v more (suc n) (reverse_row n xs rows) (omega (arith, reverse-row-length n xs rows))
      (λ i h. are (suc i) (omega arith) ∙ ap (λ (k : ℕ). map (target_of g) (leaving g k)) (omega arith))
      ∙ ap (λ (r : List Target). r ++ map (target_of (reversed g)) rest) (reverse-leaving v n xs rows inside here)
      ∙ append_assoc (row rows v) (map (target_of (reversed g)) (between (reversed g) v n)) (map (target_of (reversed g)) rest)
      ∙ ap (λ (r : List Target). row rows v ++ r) (sym (map-append (target_of (reversed g)) (between (reversed g) v n) rest))
    where
      rest : List ℕ
      rest = joined (between (reversed g) v) (up_from (length more) (suc n))

  reversed-rows-row : (v : ℕ) → v < vertex_count g
      → row (reversed_rows g) v ≡ map (target_of (reversed g)) (joined (between (reversed g) v) (numbers (vertex_count (reversed g))))
  unfolding reversed_rows
  reversed-rows-row v inside =
      reverse-rows-row v (edge_rows g) 0 (empty_rows g) (omega (arith, length-replicate (vertex_count g) no_targets))
      (λ i h. edge-rows-row i (omega (arith, edge-rows-length)) ∙ ap (λ (k : ℕ). map (target_of g) (leaving g k)) (omega arith))
      ∙ ap₂ (λ (r : List Target) (k : ℕ). r ++ map (target_of (reversed g)) (joined (between (reversed g) v) (numbers k)))
      (empty-row v inside) (edge-rows-length ∙ sym (reverse-vertices g))

-- `edges_from_vertex` walks the edges in the order in which they are queued
pub rows_are : (dir : Direction) (g : Graph) (v : ℕ) → v < vertex_count g
    → edges_from_vertex dir g v ≡ map (target_of (domain dir g).graph) (choices (domain dir g) v)
unfolding edges_from_vertex domain choices
rows_are forward g v inside = edge-rows-row g v inside
rows_are backward g v inside = reversed-rows-row g v inside

-- the text's graph, found again from the graph that a cache holds
pub text-graph : (dir : Direction) (g : Graph) → text_graph (domain dir g) ≡ g
unfolding domain
text-graph forward g = refl
text-graph backward g = ap (λ (d : Domain). d.graph) (domain-twice backward g)

-- so of every domain
pub rows-held : (d : Domain) (v : ℕ) → v < vertex_count d.graph → edges_from_vertex d.direction (text_graph d) v ≡ map (target_of d.graph) (choices d v)
rows-held d v inside =
    rows_are d.direction (text_graph d) v (omega (arith, domain-counts d.direction d.graph))
    ∙ ap (λ (e : Domain). map (target_of e.graph) (choices e v)) (domain-twice d.direction d.graph)
