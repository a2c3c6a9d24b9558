-- The vertices that have an initial cost, marked one by one.
-- Assumes nothing.
use mathlib.Core.Path.{◌≡◌, refl, sym, ap, ◌∙◌}
use mathlib.Core.Bool.{Bool, true, false, true≢false}
use mathlib.Core.List.{List, []}
use Prim.Native.Nat.{ℕ, zero, suc, ◌+◌, ◌<◌, ◌≤◌}
use native.Mathlib.Decide.{ℕ_discrete}
use native.Mathlib.Omega.{arith}
use lib.ListN.{length, get_or, replicate, length-replicate}
use Rattle.std.specs.Option.{is_some}
use Rattle.std.specs.declared.option.Option.{Option}
use Rattle.model.specs.Limits.{vertex_limit}
use Rattle.model.specs.Graph.{Graph, forward, MayStart, absent, vertex_count}
use Rattle.layout.specs.Layout.{initial_in}
use Rattle.layout.specs.Read.{graph_in, cost_if}
use Rattle.layout.specs.Held.{Held}
use Rattle.arrayvec.specs.ArrayVec.{ArrayVec}
use Rattle.layout.proofs.StartCosts.{cost-none, cost-some}
use Rattle.layout.proofs.Edges.{initial-word, vertex-count-in}
use Rattle.reach.specs.Walk.{mark_count, Listed, MarksOne, Explored, Begun}
use Rattle.reach.proofs.Listing.{one-stays, one-marked, one-explored}
use Rattle.reach.proofs.Exactly.{reach-start}

-- before vertex v
pub record Starting (vs es : ℕ) (ws : List ℕ) (m : List Bool) (l : ArrayVec ℕ) (v : ℕ) : Type 0 where
  pub held : Held vs es ws
  pub explored : Explored (graph_in vs es ws) m l.items
  pub starts : (x : ℕ) → x < v → MayStart forward (graph_in vs es ws) x → get_or m x false ≡ true

-- ---- none is marked

none-at : (n v : ℕ) → get_or (replicate n false) v false ≡ false
none-at zero v = refl
none-at (suc n) zero = refl
none-at (suc n) (suc v) = none-at n v

none-counts : (n : ℕ) → mark_count (replicate n false) ≡ 0
none-counts zero = refl
none-counts (suc n) = none-counts n

module _ {m : List Bool} (e : m ≡ replicate vertex_limit false) where
  unmarked : (v : ℕ) → get_or m v false ≡ true → ⊥
  unmarked v o = true≢false (sym o ∙ ap (λ (n : List Bool). get_or n v false) e ∙ none-at vertex_limit v)

  pub starting-none : {vs es : ℕ} {ws : List ℕ} {l : ArrayVec ℕ} → Held vs es ws → l.items ≡ [] → Starting vs es ws m l 0
  starting-none held f = record {
    held = held;
    explored = record {
      listed = record {
        marks = ap length e ∙ length-replicate vertex_limit false;
        count = ap length f ∙ sym (ap mark_count e ∙ none-counts vertex_limit);
        marked = λ i b. absurd (omega (arith, ap length f));
        place = λ v o. absurd (unmarked v o);
      };
      inside = λ v o. absurd (unmarked v o);
      reached = λ v o. absurd (unmarked v o);
    };
    starts = λ x b s. absurd (omega arith);
  }

-- ---- one more

module _ {vs es : ℕ} {ws : List ℕ} {m : List Bool} {l : ArrayVec ℕ} {v : ℕ} (s : Starting vs es ws m l v) where
  abbrev g : Graph
  g = graph_in vs es ws

  vertices : vertex_count g ≡ vs
  vertices = vertex-count-in vs es ws (omega (arith, s.held.fits))

  module _ (b : v < vs) where
    pub can-mark : Listed m l.items × (v < vertex_limit)
    can-mark = (s.explored.listed, omega (arith, s.held.sized.vertices))

    -- o: the cost that its word says, k: whether there is one
    module _ {o : Option ℕ} (said : o ≡ cost_if (initial_in ws v)) {k : Bool} (told : k ≡ is_some o) where
      word : get_or g.initial v absent ≡ initial_in ws v
      word = initial-word vs es ws v absent b (omega (arith, s.held.fits))

      -- m', l': what is left where the vertex is passed over, and where it is marked
      module _ {m' : List Bool} {l' : ArrayVec ℕ} where
        pub starting-skip : k ≡ false → m' ≡ m → l' ≡ l → Starting vs es ws m' l' (v + 1)
        starting-skip none em el = rw (em, el) (record {
          held = s.held;
          explored = s.explored;
          starts = λ y h t. elim (ℕ_discrete y v) [
            | yes e ↦ absurd (t (ap (λ (n : ℕ). get_or g.initial n absent) e ∙ word ∙ cost-none said (sym told ∙ none)))
            | no n ↦ s.starts y (omega arith) t
          ];
        })

        pub starting-one : {m'' : List Bool} {l'' : ArrayVec ℕ} → k ≡ true → MarksOne m l.items v m'' l''.items → m' ≡ m'' → l' ≡ l'' → Starting vs es ws m' l' (v + 1)
        starting-one {m''} some one em el = rw (em, el) (record {
          held = s.held;
          explored = one-explored s.explored one (omega (arith, vertices)) (reach-start g v (omega (arith, vertices)) (λ e. cost-some said (sym told ∙ some) (sym word ∙ e)));
          starts = λ y h t. elim (ℕ_discrete y v) [
            | yes e ↦ ap (λ (n : ℕ). get_or m'' n false) e ∙ one-marked s.explored one can-mark.1
            | no n ↦ one-stays s.explored one y (s.starts y (omega arith) t)
          ];
        })

  pub starting-all : vs ≤ v → Begun g m l.items
  starting-all e = record { explored = s.explored; starts = λ x b t. s.starts x (omega (arith, vertices)) t }
