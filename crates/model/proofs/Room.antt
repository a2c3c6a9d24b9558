-- Room: node numbers, nodes and 32-bit costs never run out, a closed node's path has fewer moves than there are vertices, and "A total is thus
-- at most 1,023,998,976".
-- Assumes nothing.
use mathlib.Core.Path.{◌≡◌, refl, sym, ap, ◌∙◌, subst}
use mathlib.Core.Logic.{inl, inr, ◌≢◌}
use mathlib.Core.Bool.{Bool, true, false}
use mathlib.Core.List.Memᴰ
use mathlib.Core.List.{List, [], ◌∷◌, ◌++◌, Memᴰ}
use Prim.Native.Nat.{ℕ, zero, suc, ◌+◌, ◌-◌, ◌*◌, ◌<◌, ◌≤◌}
use native.Mathlib.Decide.{ℕ_discrete}
use native.Mathlib.Omega.{arith}
use borrow.Author.Tests.{eqb-false}
use lib.Dec.{eqb}
use lib.ListN.{length, get_or, length-append}
use Rattle.model.specs.Lists.{Ascends}
use Rattle.model.specs.Graph.{Domain, Direction, forward, backward, Accepted, absent, edge_count, vertex_count, root_cost, initial_cost}
use Rattle.model.specs.Tree.{Tree, Node, node, closed_at, without}
use Rattle.model.specs.Path.{snoc_if, path_in, path, moves_of}
use Rattle.model.specs.Sound.{Sound, Hangs}
use Rattle.model.proofs.Paths.{total-le}
use Rattle.model.proofs.Lists.{ascends-length, append-ascends, without-mem, without-ascends, without_not, without-longer}
use Rattle.model.proofs.Choices.{closed-few}
use Rattle.model.proofs.Least.{path-of}

module _ (d : Domain) (t : Tree) (ok : Sound d t) where
  pub nodes-le : length t.nodes ≤ 1 + edge_count d.graph
  nodes-le = omega (arith, ok.few, closed-few d.graph t.closed)

  pub queue-le : length t.waiting ≤ length t.nodes
  queue-le = omega (arith, ascends-length 0 (length t.nodes) t.waiting ok.ascends ok.queue (omega arith))

pub initial-bound : (d : Domain) → Accepted d.graph → (v : ℕ) → initial_cost d v ≢ absent → initial_cost d v ≤ 999999
unfolding initial_cost
initial-bound d acc v h = go d.direction h
  where
    go : (dir : Direction) → root_cost dir (get_or d.graph.initial v absent) ≢ absent → root_cost dir (get_or d.graph.initial v absent) ≤ 999999
    go forward h = elim (acc.starts v) [ inl e ↦ absurd (h e) | inr k ↦ k ]
    go backward h = omega arith

-- a root that costs little, and all other nodes hang
module _ (d : Domain) (acc : Accepted d.graph) (ns : List Node) (cl : List ℕ) (root : (node ns 0).cost ≤ 999999)
    (hangs : (i : ℕ) → i ≢ 0 → i < length ns → Hangs d ns cl i) where
  -- b bounds the node's number
  cost-in : (b n : ℕ) → n ≤ b → n < length ns → (node ns n).cost ≤ 999999 * (1 + n)
  cost-in zero n le h = let e : n ≡ 0 = omega arith in rw e (omega (arith, root))
  cost-in (suc b) n le h = go (cost-in b) (ℕ_discrete n 0)
    where
      go : ((p : ℕ) → p ≤ b → p < length ns → (node ns p).cost ≤ 999999 * (1 + p)) → Dec (n ≡ 0) → (node ns n).cost ≤ 999999 * (1 + n)
      go ih (yes e) = rw e (omega (arith, root))
      go ih (no z) =
          let g : Hangs d ns cl n = hangs n z h in
          omega (arith, g.lower, g.costs, ih (node ns n).parent (omega (arith, g.lower)) (omega (arith, g.lower)), acc.costs (node ns n).edge g.real)

  pub hung-cost : (n : ℕ) → n < length ns → (node ns n).cost ≤ 999999 * (1 + n)
  hung-cost n h = cost-in n n (omega arith) h

module _ (d : Domain) (acc : Accepted d.graph) (t : Tree) (ok : Sound d t) where
  pub cost-bound : (n : ℕ) → n < length t.nodes → (node t.nodes n).cost ≤ 999999 * (1 + n)
  cost-bound =
      hung-cost d acc t.nodes t.closed (omega (arith, ok.root-cost, initial-bound d acc t.start ok.allowed)) ok.hangs

  -- so a cost and a node's number are words, and neither is the word `absent`
  pub cost-fits : (n : ℕ) → n < length t.nodes → (node t.nodes n).cost < 4294967295
  cost-fits n h = omega (arith, cost-bound n h, nodes-le d t ok, acc.edges)

  pub number_fits : (n : ℕ) → n < length t.nodes → n < 4294967295
  number_fits n h = omega (arith, nodes-le d t ok, acc.edges)

-- ---- moves

-- a list that ascends and whose numbers are all named by words: no longer than the words
named : (cl q : List ℕ) (b : ℕ) → Ascends b q → ((n : ℕ) → Memᴰ n q → Memᴰ (suc n) cl) → length q ≤ length cl
named [] [] b a f = omega arith
named [] (x ∷ xs) b a f = absurd (Memᴰ.not-nil (f x (Memᴰ.head refl)))
named (w ∷ ws) q b a f =
    omega (
      arith,
      without-longer (w - 1) b q a,
      named ws (without (w - 1) q) b (without-ascends (w - 1) b q a) (λ n m. elim (Memᴰ.cases_cons (f n (without-mem (w - 1) q n m))) [
        | inl z ↦ absurd (without_not n q (let e : w - 1 ≡ n = omega (arith, z) in subst (λ (x : ℕ). Memᴰ n (without x q)) e m))
        | inr z ↦ z
      ]),
    )

-- the nodes from the root to node n
abbrev snoc_node : Bool → List ℕ → ℕ → List ℕ
snoc_node true r n = n ∷ []
snoc_node false r n = r ++ (n ∷ [])

unfoldable ancestors_in : List Node → ℕ → ℕ → List ℕ
ancestors_in ns zero n = n ∷ []
ancestors_in ns (suc b) n = snoc_node (eqb n 0) (ancestors_in ns b (node ns n).parent) n

-- a word that is not the default stands in the list
word_in : (cl : List ℕ) (v k : ℕ) → closed_at cl v ≡ suc k → Memᴰ (suc k) cl
word_in [] v k e = absurd (omega (arith, e))
word_in (x ∷ xs) zero k e = Memᴰ.head (sym e)
word_in (x ∷ xs) (suc v) k e = Memᴰ.tail (word_in xs v k e)

module _ (d : Domain) (t : Tree) (ok : Sound d t) where
  abbrev ns : List Node
  ns = t.nodes

  -- node n closed its vertex
  abbrev Closes : ℕ → Type 0
  Closes n = closed_at t.closed (node t.nodes n).vertex ≡ suc n

  record Line (b n : ℕ) (q : List ℕ) : Type 0 where
    ascends : Ascends 0 q
    below : (i : ℕ) → Memᴰ i q → i < suc n
    closes : (i : ℕ) → Memᴰ i q → Closes i
    long : length q ≡ suc (length (path_in ns b n))

  single : (b n : ℕ) → Closes n → path_in ns b n ≡ [] → Line b n (n ∷ [])
  single b n c e =
      record {
        ascends = (omega arith, tt);
        below = λ i m. elim (Memᴰ.cases_cons m) [ inl z ↦ omega (arith, z) | inr z ↦ absurd (Memᴰ.not-nil z) ];
        closes = λ i m. elim (Memᴰ.cases_cons m) [ inl z ↦ rw z c | inr z ↦ absurd (Memᴰ.not-nil z) ];
        long = rw e;
      }

  line : (b n : ℕ) → n ≤ b → n < length ns → Closes n → Line b n (ancestors_in ns b n)
  unfolding ancestors_in path_in
  line zero n le h c = single zero n c (unfold path_in in refl)
  line (suc b) n le h c = go (line b) (eqb n 0) refl
    where
      p : ℕ
      p = (node ns n).parent

      go : ((m : ℕ) → m ≤ b → m < length ns → Closes m → Line b m (ancestors_in ns b m)) → (x : Bool) → eqb n 0 ≡ x → Line (suc b) n (snoc_node x (ancestors_in ns b p) n)
      go ih true e = single (suc b) n c (unfold path_in in (ap (λ (x : Bool). snoc_if x (path_in ns b p) (node ns n).edge) e))
      go ih false e =
          let g : Hangs d ns t.closed n = ok.hangs n (eqb-false n 0 e) h in
          let r = ih p (omega (arith, g.lower)) (omega (arith, g.lower)) g.closer in
          let step : path_in ns (suc b) n ≡ path_in ns b p ++ ((node ns n).edge ∷ []) = unfold path_in in (ap (λ (x : Bool). snoc_if x (path_in ns b p) (node ns n).edge) e) in
          record {
            ascends = append-ascends 0 n (ancestors_in ns b p) (n ∷ []) (omega arith) r.ascends (λ i m. omega (arith, r.below i m, g.lower)) (omega arith, tt);
            below = λ i m. elim (Memᴰ.append_cases (ancestors_in ns b p) m) [
              | inl z ↦ omega (arith, r.below i z, g.lower)
              | inr z ↦ elim (Memᴰ.cases_cons z) [ inl y ↦ omega (arith, y) | inr y ↦ absurd (Memᴰ.not-nil y) ]
            ];
            closes = λ i m. elim (Memᴰ.append_cases (ancestors_in ns b p) m) [
              | inl z ↦ r.closes i z
              | inr z ↦ elim (Memᴰ.cases_cons z) [ inl y ↦ rw y c | inr y ↦ absurd (Memᴰ.not-nil y) ]
            ];
            long = omega (arith, r.long, length-append (ancestors_in ns b p) (n ∷ []), ap length step, length-append (path_in ns b p) ((node ns n).edge ∷ []));
          }

  -- a closed node's path has fewer moves than there are vertices
  pub moves-fit : (n : ℕ) → n < length t.nodes → Closes n → moves_of t.nodes n < vertex_count d.graph
  unfolding path
  moves-fit n h c =
      let r = line n n (omega arith) h c in
      omega (arith, r.long, ok.sized, named t.closed (ancestors_in ns n n) 0 r.ascends (λ i m. word_in t.closed _ i (r.closes i m)))

-- ---- totals

module _ (d : Domain) (acc : Accepted d.graph) (t : Tree) (ok : Sound d t) where
  pub cost-moves : (n : ℕ) → n < length t.nodes → (node t.nodes n).cost ≤ 999999 * (1 + moves_of t.nodes n)
  cost-moves n h =
      let p = path-of d t ok n h in
      omega (arith, p.1, total-le d.graph acc (path t.nodes n) _ _ p.0, initial-bound d acc t.start ok.allowed)

  -- "A total is thus at most 1,023,998,976"
  pub total-fits : (v i : ℕ) → closed_at t.closed v ≡ suc i → (node t.nodes i).cost ≤ 1023998976
  total-fits v i e =
      let k = ok.closer v i e in
      omega (arith, cost-moves i k.0, moves-fit d t ok i k.0 (ap (closed_at t.closed) k.1 ∙ e), acc.vertices)
