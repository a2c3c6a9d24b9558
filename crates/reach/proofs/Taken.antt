-- Each listed vertex is taken once, and the ends of its edges are marked.
-- Assumes nothing.
use mathlib.Core.Path.{◌≡◌, sym, ap, ◌∙◌, subst}
use mathlib.Core.Bool.{Bool, true, false, true≢false}
use mathlib.Core.List.{List}
use Prim.Native.Nat.{ℕ, ◌+◌, ◌<◌, ◌≤◌}
use native.Mathlib.Decide.{dec_lt, ℕ_discrete}
use native.Mathlib.Omega.{arith}
use lib.ListN.{length, get_or, get_or-eq_default}
use Rattle.model.specs.Graph.{Graph, Accepted, Usable, vertex_count, from, to}
use Rattle.model.proofs.InTurn.{same_tests}
use Rattle.layout.specs.Layout.{vertices_in, edges_in}
use Rattle.layout.specs.Read.{graph_in, read_cache}
use Rattle.layout.specs.Held.{Held}
use Rattle.reach.specs.Reach.{reach_marks, ReachedIs}
use Rattle.reach.specs.Walk.{Explored, Begun, MarksEnds}
use Rattle.reach.proofs.Exactly.{are-marks, reached-exactly, reach-marked}

-- the first n listed vertices are taken
pub record Taking (vs es : ℕ) (ws : List ℕ) (m : List Bool) (l : List ℕ) (n : ℕ) : Type 0 where
  pub held : Held vs es ws
  pub begun : Begun (graph_in vs es ws) m l
  pub within : n ≤ length l
  pub done : (i : ℕ) → i < n → (e : ℕ) → Usable (graph_in vs es ws) e → from (graph_in vs es ws) e ≡ get_or l i 0 → get_or m (to (graph_in vs es ws) e) false ≡ true

module _ {vs es : ℕ} {ws : List ℕ} {m : List Bool} {l : List ℕ} {n : ℕ} (t : Taking vs es ws m l n) where
  abbrev g : Graph
  g = graph_in vs es ws

  abbrev x : Explored g m l
  x = t.begun.explored

  -- v: the next listed vertex
  module _ (b : n < length l) {v : ℕ} (e : v ≡ get_or l n 0) where
    pub taking-one : {m' : List Bool} {l' : List ℕ} → MarksEnds g v m l m' l' → Taking vs es ws m' l' (n + 1)
    taking-one r = record {
      held = t.held;
      begun = record { explored = r.explored; starts = λ v k s. r.stay v (t.begun.starts v k s) };
      within = omega (arith, r.more);
      done = λ i k y u f. elim (ℕ_discrete i n) [
        | yes q ↦ r.ends y u (f ∙ r.keeps i (omega arith) ∙ ap (λ (j : ℕ). get_or l j 0) q ∙ sym e)
        | no q ↦ r.stay (to g y) (t.done i (omega arith) y u (f ∙ r.keeps i (omega arith)))
      ];
    }

  -- all are taken
  module _ (end : length l ≤ n) where
    ok : Accepted g
    ok = t.held.accepted

    closed : (e : ℕ) → Usable g e → get_or m (from g e) false ≡ true → get_or m (to g e) false ≡ true
    closed e u o = let p = x.listed.place (from g e) o in t.done p.0 (omega (arith, p.1)) e u (sym p.2)

    mark_of : (v : ℕ) → get_or m v false ≡ true → get_or (reach_marks g) v false ≡ true
    mark_of v o = (reached-exactly g ok v (x.inside v o)).1 (x.reached v o)

    of-mark : (v : ℕ) → get_or (reach_marks g) v false ≡ true → get_or m v false ≡ true
    of-mark v o = elim (dec_lt v (vertex_count g)) [
      | yes h ↦ reach-marked g m t.begun.starts closed v ((reached-exactly g ok v h).0 o)
      | no h ↦ absurd (true≢false (sym o ∙ get_or-eq_default (reach_marks g) false {n = v} (omega (arith, are-marks g))))
    ]

    same : (v : ℕ) → get_or m v false ≡ get_or (reach_marks g) v false
    same v = same_tests (get_or m v false) (get_or (reach_marks g) v false) (mark_of v) (of-mark v)

    pub taking-all : vs ≡ vertices_in ws → es ≡ edges_in ws → ReachedIs (read_cache ws).domain.graph m
    unfolding read_cache
    taking-all v e = subst (λ (h : Graph). ReachedIs h m) (λ i. graph_in (v i) (e i) ws) (record { len = x.listed.marks; mark = same })
