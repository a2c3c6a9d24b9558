-- What growing does to a tree, one ticket at a time and at most ten: it stays sound, what was there stays, and what the find says. A node's path
-- stays, and how many nodes, tickets and costs there can be.
-- Assumes nothing.
use mathlib.Core.Path.{◌≡◌, refl, sym, ap, ◌∙◌, subst}
use Rattle.std.specs.declared.option.Option.{Option}
use mathlib.Core.Logic.{◌⊎◌, inl, inr}
use mathlib.Core.Bool.{Bool, true, false, not, true≢false}
use mathlib.Core.List.{List, [], ◌∷◌, Memᴰ}
use Prim.Native.Nat.{ℕ, zero, suc, ◌+◌, ◌<◌, ◌≤◌}
use native.Mathlib.Omega.{arith}
use borrow.Author.Tests.{eqb-false}
use lib.Dec.{eqb, eqb-suc-zero}
use lib.ListN.{length, set, length-append}
use Rattle.model.specs.Lists.{mem}
use Rattle.model.specs.Graph.{Domain, Accepted}
use Rattle.model.specs.Tree.{Tree, Node, node, closed_at, evaluation, least, least_of, popped, expanded, Going, on, found, over, Growth, above, going_on, taken, ticket_of, ticket, grow}
use Rattle.model.specs.Sound.{Sound, Hangs}
use Rattle.model.specs.Search.{closed_count, count_if}
use Rattle.model.specs.Path.{snoc_if, path_in, path}
use Rattle.model.proofs.Lists.{before-cost, Least, least-is, without-length}
use Rattle.model.proofs.Grow.{popped-sound, expanded-sound, expanded-ticket, expanded-is, old, still, closed-cases, now, in-closed, cl', new, closing}

pub record Later (t t' : Tree) : Type 0 where
  pub start : t'.start ≡ t.start
  pub longer : length t.nodes ≤ length t'.nodes
  pub keeps : (i : ℕ) → i < length t.nodes → node t'.nodes i ≡ node t.nodes i
  pub shut : (x i : ℕ) → closed_at t.closed x ≡ suc i → closed_at t'.closed x ≡ suc i
  pub more : closed_count t.closed ≤ closed_count t'.closed
  pub same : closed_count t'.closed ≡ closed_count t.closed → t'.closed ≡ t.closed
  pub taken : length t.nodes + length t'.waiting ≤ length t'.nodes + length t.waiting

pub later_refl : (t : Tree) → Later t t
later_refl t =
    record { start = refl; longer = omega arith; keeps = λ i h. refl; shut = λ x i e. e; more = omega arith; same = λ e. refl; taken = omega arith }

pub later_trans : (t u v : Tree) → Later t u → Later u v → Later t v
later_trans t u v a b =
    record {
      start = b.start ∙ a.start;
      longer = omega arith;
      keeps = λ i h. b.keeps i (omega arith) ∙ a.keeps i h;
      shut = λ x i e. b.shut x i (a.shut x i e);
      more = omega arith;
      same = λ e. b.same (omega arith) ∙ a.same (omega arith);
      taken = omega arith;
    }

count_set : (cl : List ℕ) (v n : ℕ) → v < length cl → closed_at cl v ≡ 0 → closed_count (set cl v (suc n)) ≡ suc (closed_count cl)
unfolding closed_count
count_set [] v n h e = absurd (omega arith)
count_set (x ∷ xs) zero n h e = rw (e, eqb-suc-zero n)
count_set (x ∷ xs) (suc v) n h e = go (count_set xs v n (omega arith) e) (eqb x 0)
  where
    go : closed_count (set xs v (suc n)) ≡ suc (closed_count xs) → (b : Bool) → count_if b (closed_count (set xs v (suc n))) ≡ suc (count_if b (closed_count xs))
    go ih true = ih
    go ih false = ap suc ih

-- what a ticket taken from t can come to
module _ (d : Domain) (acc : Accepted d.graph) (goals : List ℕ) (b : Option ℕ) (t : Tree) (ok : Sound d t) where
  abbrev Firsts : ℕ → Type 0
  Firsts n = (j : ℕ) → Memᴰ j t.waiting → evaluation t.nodes n ≤ evaluation t.nodes j

  pub ticket-cases : (k : ℕ) (P : Growth → Type 0)
      → (t.waiting ≡ [] → P (record { tree = t; tickets = k; going = over }))
      → ((n i : ℕ) → Memᴰ n t.waiting → closed_at t.closed (node t.nodes n).vertex ≡ suc i → P (record { tree = popped t n; tickets = suc k; going = on }))
      → ((n : ℕ) → Memᴰ n t.waiting → closed_at t.closed (node t.nodes n).vertex ≡ 0 → Firsts n
      → P (record { tree = expanded d (popped t n) n; tickets = suc k; going = going_on (mem (node t.nodes n).vertex goals) (above (evaluation t.nodes n) b) n }))
      → P (ticket d goals b t k on)
  unfolding ticket least
  ticket-cases k P dry skip close = go t.waiting refl
    where
      at : (n : ℕ) → Memᴰ n t.waiting → Firsts n → (z : ℕ) → closed_at t.closed (node t.nodes n).vertex ≡ z → P (taken d goals b t k n (not (eqb z 0)))
      at n m f zero e = close n m e f
      at n m f (suc i) e = rw (eqb-suc-zero i) (skip n i m e)

      go : (q : List ℕ) → t.waiting ≡ q → P (ticket_of d goals b t k (least t.nodes q))
      go [] e = dry e
      go (x ∷ xs) e =
          let n : ℕ = least_of t.nodes x xs in
          let r : Least t.nodes x xs n = least-is t.nodes x xs in
          let m : Memᴰ n (x ∷ xs) = elim r.among [ inl z ↦ mathlib.Core.List.Memᴰ.head z | inr z ↦ mathlib.Core.List.Memᴰ.tail z ] in
          at n (rw e m)
          (λ j h. elim (mathlib.Core.List.Memᴰ.cases_cons (subst (Memᴰ j) e h)) [ inl z ↦ rw z (before-cost t.nodes n x r.first) | inr z ↦ before-cost t.nodes n j (r.firsts j z) ])
          (closed_at t.closed (node t.nodes n).vertex) refl

  popped-later : (n : ℕ) → Memᴰ n t.waiting → Later t (popped t n)
  unfolding popped
  popped-later n m =
      record {
        start = refl;
        longer = omega arith;
        keeps = λ j h. refl;
        shut = λ x j e. e;
        more = omega arith;
        same = λ e. refl;
        taken = omega (arith, without-length n 0 t.waiting ok.ascends m);
      }

  module _ (n : ℕ) (m : Memᴰ n t.waiting) (free : closed_at t.closed (node t.nodes n).vertex ≡ 0) (first : Firsts n) where
    counts : closed_count (cl' d acc t ok n m free first) ≡ suc (closed_count t.closed)
    counts = count_set t.closed (node t.nodes n).vertex n (in-closed d acc t ok n m free first) free

    closing-later : Later t (closing d acc t ok n m free first)
    closing-later =
        record {
          start = refl;
          longer = omega (arith, length-append t.nodes (new d acc t ok n m free first));
          keeps = old d acc t ok n m free first;
          shut = still d acc t ok n m free first;
          more = omega (arith, counts);
          same = λ e. absurd (omega (arith, counts));
          taken = omega (arith, expanded-ticket d acc t ok n m free first);
        }

-- ---- what is known of a growth that began at t₀ with no ticket taken

-- no goal was closed since
abbrev pub OnlyOld : List ℕ → List ℕ → List ℕ → Type 0
OnlyOld goals cl₀ cl = (x i : ℕ) → mem x goals ≡ true → closed_at cl x ≡ suc i → closed_at cl₀ x ≡ suc i

-- node n was found: the one goal closed since
pub record Found (goals : List ℕ) (ns : List Node) (cl₀ cl : List ℕ) (n : ℕ) : Type 0 where
  pub goal : mem (node ns n).vertex goals ≡ true
  pub closes : closed_at cl (node ns n).vertex ≡ suc n
  pub only : (x i : ℕ) → mem x goals ≡ true → closed_at cl x ≡ suc i → (closed_at cl₀ x ≡ suc i) ⊎ (i ≡ n)

abbrev pub Gone : List ℕ → List Node → List ℕ → List ℕ → Going → Type 0
Gone goals ns cl₀ cl on = OnlyOld goals cl₀ cl
Gone goals ns cl₀ cl (found n) = Found goals ns cl₀ cl n
Gone goals ns cl₀ cl over = OnlyOld goals cl₀ cl

pub record Grew (d : Domain) (goals : List ℕ) (t₀ : Tree) (g : Growth) : Type 0 where
  pub sound : Sound d g.tree
  pub later : Later t₀ g.tree
  pub tickets : length g.tree.nodes + length t₀.waiting ≡ g.tickets + (length t₀.nodes + length g.tree.waiting)
  pub gone : Gone goals g.tree.nodes t₀.closed g.tree.closed g.going

-- a ticket was taken, or there was none
abbrev pub Moved : Growth → Type 0
Moved g = (1 ≤ g.tickets) ⊎ (g.tree.waiting ≡ [])

module _ (d : Domain) (acc : Accepted d.graph) (goals : List ℕ) (b : Option ℕ) (t₀ : Tree) where
  module _ (t : Tree) (k : ℕ) (r : Grew d goals t₀ (record { tree = t; tickets = k; going = on })) where
    grew-dry : t.waiting ≡ [] → Grew d goals t₀ (record { tree = t; tickets = k; going = over })
    grew-dry e = record { sound = r.sound; later = r.later; tickets = r.tickets; gone = r.gone }

    grew-skip : (n i : ℕ) → Memᴰ n t.waiting → closed_at t.closed (node t.nodes n).vertex ≡ suc i
        → Grew d goals t₀ (record { tree = popped t n; tickets = suc k; going = on })
    unfolding popped
    grew-skip n i m e =
        record {
          sound = popped-sound d t r.sound n i m e;
          later = later_trans t₀ t (popped t n) r.later (popped-later d acc goals b t r.sound n m);
          tickets = omega (arith, r.tickets, without-length n 0 t.waiting r.sound.ascends m);
          gone = r.gone;
        }

    module _ (n : ℕ) (m : Memᴰ n t.waiting) (free : closed_at t.closed (node t.nodes n).vertex ≡ 0)
        (first : (j : ℕ) → Memᴰ j t.waiting → evaluation t.nodes n ≤ evaluation t.nodes j) where
      abbrev after : Tree
      after = closing d acc t r.sound n m free first

      close-old : mem (node t.nodes n).vertex goals ≡ false → OnlyOld goals t₀.closed after.closed
      close-old e x i p h = elim (closed-cases d acc t r.sound n m free first x i h) [
        | inl z ↦ absurd (true≢false (sym p ∙ ap (λ (v : ℕ). mem v goals) z.0 ∙ e))
        | inr z ↦ r.gone x i p z
      ]

      close-gone : (x y : Bool) → mem (node t.nodes n).vertex goals ≡ x
          → Gone goals after.nodes t₀.closed after.closed (going_on x y n)
      close-gone true y e =
          let same : node after.nodes n ≡ node t.nodes n = old d acc t r.sound n m free first n (r.sound.queue n m) in
          record {
            goal = rw same e;
            closes = rw same (now d acc t r.sound n m free first);
            only = λ x i p h. elim (closed-cases d acc t r.sound n m free first x i h) [ inl z ↦ inr z.1 | inr z ↦ inl (r.gone x i p z) ];
          }
      close-gone false true e = close-old e
      close-gone false false e = close-old e

      abbrev going' : Going
      going' = going_on (mem (node t.nodes n).vertex goals) (above (evaluation t.nodes n) b) n

      grew-closing : Sound d after → Later t after → Grew d goals t₀ (record { tree = after; tickets = suc k; going = going' })
      grew-closing s l =
          record {
            sound = s;
            later = later_trans t₀ t after r.later l;
            tickets = omega (arith, r.tickets, expanded-ticket d acc t r.sound n m free first);
            gone = close-gone (mem (node t.nodes n).vertex goals) (above (evaluation t.nodes n) b) refl;
          }

      grew-close : Grew d goals t₀ (record { tree = expanded d (popped t n) n; tickets = suc k; going = going' })
      grew-close =
          let e : expanded d (popped t n) n ≡ after = expanded-is d acc t r.sound n m free first in
          let s : Sound d after = subst (Sound d) e (expanded-sound d acc t r.sound n m free first) in
          subst (λ (u : Tree). Grew d goals t₀ (record { tree = u; tickets = suc k; going = going' })) (sym e)
          (grew-closing s (closing-later d acc goals b t r.sound n m free first))

  ticket-grew : (t : Tree) (k : ℕ) (g : Going) → Grew d goals t₀ (record { tree = t; tickets = k; going = g }) → Grew d goals t₀ (ticket d goals b t k g)
  unfolding ticket
  ticket-grew t k on r = ticket-cases d acc goals b t r.sound k (Grew d goals t₀) (grew-dry t k r) (grew-skip t k r) (grew-close t k r)
  ticket-grew t k (found i) r = r
  ticket-grew t k over r = r

  pub grow-grew : (j : ℕ) (g : Growth) → Grew d goals t₀ g → Grew d goals t₀ (grow d goals b j g)
  unfolding grow
  grow-grew zero g r = r
  grow-grew (suc j) g r = grow-grew j (ticket d goals b g.tree g.tickets g.going) (ticket-grew g.tree g.tickets g.going r)

  pub begins : Sound d t₀ → Grew d goals t₀ (record { tree = t₀; tickets = 0; going = on })
  begins ok = record { sound = ok; later = later_refl t₀; tickets = omega arith; gone = λ x i e h. h }

  pub grown : Sound d t₀ → (j : ℕ) → Grew d goals t₀ (grow d goals b j (record { tree = t₀; tickets = 0; going = on }))
  grown ok j = grow-grew j (record { tree = t₀; tickets = 0; going = on }) (begins ok)

  on-moved : (t : Tree) (k : ℕ) → Sound d t → Moved (ticket d goals b t k on)
  on-moved t k ok = ticket-cases d acc goals b t ok k Moved (λ e. inr e) (λ n i m e. inl (omega arith)) (λ n m e f. inl (omega arith))

  ticket-moved : (t : Tree) (k : ℕ) (g : Going) → Sound d t → Moved (record { tree = t; tickets = k; going = g }) → Moved (ticket d goals b t k g)
  unfolding ticket
  ticket-moved t k on ok h = on-moved t k ok
  ticket-moved t k (found i) ok h = h
  ticket-moved t k over ok h = h

  grow-moved : (j : ℕ) (g : Growth) → Grew d goals t₀ g → Moved g → Moved (grow d goals b j g)
  unfolding grow
  grow-moved zero g r h = h
  grow-moved (suc j) g r h =
      grow-moved j (ticket d goals b g.tree g.tickets g.going) (ticket-grew g.tree g.tickets g.going r) (ticket-moved g.tree g.tickets g.going r.sound h)

  pub moved : Sound d t₀ → (j : ℕ) → Moved (grow d goals b (suc j) (record { tree = t₀; tickets = 0; going = on }))
  unfolding grow
  moved ok j = grow-moved j (ticket d goals b t₀ 0 on) (ticket-grew t₀ 0 on (begins ok)) (on-moved t₀ 0 ok)

-- ---- a node's path stays

module _ (d : Domain) (t t' : Tree) (ok : Sound d t) (l : Later t t') where
  path-in : (b n : ℕ) → n < length t.nodes → path_in t'.nodes b n ≡ path_in t.nodes b n
  unfolding path_in
  path-in zero n h = refl
  path-in (suc b) n h = go (λ p. path-in b p) (eqb n 0) refl
    where
      go : ((p : ℕ) → p < length t.nodes → path_in t'.nodes b p ≡ path_in t.nodes b p) → (x : Bool) → eqb n 0 ≡ x
          → snoc_if x (path_in t'.nodes b (node t'.nodes n).parent) (node t'.nodes n).edge
          ≡ snoc_if x (path_in t.nodes b (node t.nodes n).parent) (node t.nodes n).edge
      go ih true e = refl
      go ih false e =
          let g : Hangs d t.nodes t.closed n = ok.hangs n (eqb-false n 0 e) h in
          rw (l.keeps n h, ih (node t.nodes n).parent (omega (arith, g.lower)))

  pub path-later : (n : ℕ) → n < length t.nodes → path t'.nodes n ≡ path t.nodes n
  unfolding path
  path-later n h = path-in n n h
