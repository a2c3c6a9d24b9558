-- In a sound tree a closed vertex costs at most the total of every path from the tree's start to it, and the path of its node is one with that total.
-- Assumes nothing.
use mathlib.Core.Path.{◌≡◌, refl, sym, ◌∙◌}
use mathlib.Core.Logic.{◌⊎◌, inl, inr, ◌≢◌}
use mathlib.Core.Bool.{Bool, true, false}
use mathlib.Core.List.Memᴰ
use mathlib.Core.List.{List, [], ◌∷◌, ◌++◌, Memᴰ}
use Prim.Native.Nat.{ℕ, zero, suc, ◌+◌, ◌<◌, ◌≤◌}
use native.Mathlib.Nat.{add-zero, add_assoc, le_trans}
use native.Mathlib.Decide.{ℕ_discrete}
use native.Mathlib.Omega.{arith}
use borrow.Author.Tests.{eqb-true, eqb-false}
use lib.Dec.{eqb}
use lib.ListN.{length}
use Rattle.model.specs.Graph.{Domain, Accepted, Usable, Leads, total, from, to, vertex_count, initial_cost}
use Rattle.model.specs.Tree.{Tree, Node, node, closed_at, evaluation, weight}
use Rattle.model.specs.Sound.{Sound, Hangs, Reached, shut, waits}
use Rattle.model.specs.Path.{snoc_if, path_in, path}
use Rattle.model.proofs.Paths.{leads-snoc, total-snoc}
use Rattle.model.proofs.Worth.{root_weight, root-evaluation, weights, path_weight, least-cost}

-- ---- the root, and where the nodes are

module _ (d : Domain) (t : Tree) (ok : Sound d t) where
  -- if there is another node, the root closed its vertex: b bounds the node's number
  root-first : (b n : ℕ) → n ≤ b → n ≢ 0 → n < length t.nodes → closed_at t.closed (node t.nodes 0).vertex ≡ 1
  root-first zero n le z h = absurd (omega arith)
  root-first (suc b) n le z h = go (root-first b) (ℕ_discrete (node t.nodes n).parent 0)
    where
      g : Hangs d t.nodes t.closed n
      g = ok.hangs n z h

      go : ((p : ℕ) → p ≤ b → p ≢ 0 → p < length t.nodes → closed_at t.closed (node t.nodes 0).vertex ≡ 1)
          → Dec ((node t.nodes n).parent ≡ 0) → closed_at t.closed (node t.nodes 0).vertex ≡ 1
      go ih (yes e) = rw e at g.closer
      go ih (no e) = ih (node t.nodes n).parent (omega (arith, g.lower)) e (omega (arith, g.lower))

  -- a closed start is closed by the root
  pub root-closes : (i : ℕ) → closed_at t.closed t.start ≡ suc i → i ≡ 0
  root-closes i e = elim (ℕ_discrete i 0) [
    | yes z ↦ z
    | no z ↦
        let one : closed_at t.closed t.start ≡ 1 = rw ok.root_vertex at (root-first i i (omega arith) z (ok.closer t.start i e).0) in
        omega (arith, sym e ∙ one)
  ]

  pub start-reached : Reached t.nodes t.waiting t.closed t.start (root_weight d t.start)
  start-reached = go ok.begun (closed_at t.closed t.start) refl
    where
      Goal : Type 0
      Goal = Reached t.nodes t.waiting t.closed t.start (root_weight d t.start)

      go : (closed_at t.closed t.start ≢ 0) ⊎ Memᴰ 0 t.waiting → (x : ℕ) → closed_at t.closed t.start ≡ x → Goal
      go (inl h) zero e = absurd (h e)
      go (inr h) zero e = waits 0 h ok.root_vertex (omega (arith, root-evaluation d t ok))
      go h (suc i) e = shut i e (rw (root-closes i e) (omega (arith, root-evaluation d t ok)))

-- a root of a vertex, and all other nodes hang
pub hung-inside : (d : Domain) → Accepted d.graph → (ns : List Node) (cl : List ℕ) → (node ns 0).vertex < vertex_count d.graph
    → ((i : ℕ) → i ≢ 0 → i < length ns → Hangs d ns cl i) → (i : ℕ) → i < length ns → (node ns i).vertex < vertex_count d.graph
hung-inside d acc ns cl root hangs i h = elim (ℕ_discrete i 0) [
  | yes z ↦ rw z root
  | no z ↦ let g : Hangs d ns cl i = hangs i z h in rw g.enters at (acc.enters (node ns i).edge g.real)
]

module _ (d : Domain) (acc : Accepted d.graph) (t : Tree) (ok : Sound d t) where
  pub node-inside : (i : ℕ) → i < length t.nodes → (node t.nodes i).vertex < vertex_count d.graph
  node-inside = hung-inside d acc t.nodes t.closed (rw ok.root_vertex ok.inside) ok.hangs

-- ---- a closed vertex costs at most the total of every path to it

-- v is closed at no more than k, or something waits at no more than k
pub data Front (t : Tree) (v k : ℕ) : Type 0 where
  done : (i : ℕ) → closed_at t.closed v ≡ suc i → evaluation t.nodes i ≤ k → Front t v k
  later : (i : ℕ) → Memᴰ i t.waiting → evaluation t.nodes i ≤ k → Front t v k

front : (t : Tree) (v k : ℕ) → Reached t.nodes t.waiting t.closed v k → (j : ℕ) → k ≤ j → Front t v j
front t v k (shut i e h) j le = done i e (omega arith)
front t v k (waits i w e h) j le = later i w (omega arith)

module _ (d : Domain) (t : Tree) (ok : Sound d t) where
  front-edge : (a k l : ℕ) → Usable d.graph l → from d.graph l ≡ a → Front t a k → Front t (to d.graph l) (k + weight d l)
  front-edge a k l h e (done i q le) = front t _ _ (ok.onward a i l q h e) (k + weight d l) (omega arith)
  front-edge a k l h e (later i w le) = later i w (omega arith)

  front-path : (ls : List ℕ) (a k v : ℕ) → Leads d.graph a ls v → Front t a k → Front t v (k + weights d ls)
  front-path [] a k v r f = rw (← r, add-zero) f
  front-path (l ∷ ls) a k v r f =
      rw (← add_assoc k (weight d l) (weights d ls))
      (front-path ls (to d.graph l) (k + weight d l) v r.2 (front-edge a k l r.0 r.1 f))

  at_most : (v i k : ℕ) → closed_at t.closed v ≡ suc i → Front t v k → evaluation t.nodes i ≤ k
  at_most v i k e (done j q le) = let same : i ≡ j = cc in rw same le
  at_most v i k e (later j w le) = le_trans (ok.cheapest v i j e w) le

  -- where a path leads to
  pub front-start : (v : ℕ) (ls : List ℕ) → Leads d.graph t.start ls v → Front t v (path_weight d t.start ls)
  front-start v ls r = front-path ls t.start (root_weight d t.start) v r (front t _ _ (start-reached d t ok) (root_weight d t.start) (omega arith))

  pub closed-least : Accepted d.graph → (v i : ℕ) (ls : List ℕ) → closed_at t.closed v ≡ suc i → Leads d.graph t.start ls v
      → (node t.nodes i).cost ≤ initial_cost d t.start + total d.graph ls
  closed-least acc v i ls e r = least-cost d acc (node t.nodes i) t.start v (λ ms q. at_most v i _ e (front-start v ms q)) ls r

-- ---- the path of a node

-- the edges ls lead from the start to the vertex of node n, at its cost
abbrev pub PathTo : Domain → Tree → List ℕ → ℕ → Type 0
PathTo d t ls n = Leads d.graph t.start ls (node t.nodes n).vertex × (initial_cost d t.start + total d.graph ls ≡ (node t.nodes n).cost)

module _ (d : Domain) (t : Tree) (ok : Sound d t) where
  root-path : (n : ℕ) → n ≡ 0 → PathTo d t [] n
  root-path n e = rw e (sym ok.root_vertex, add-zero (initial_cost d t.start) ∙ sym ok.root-cost)

  step-path : (n : ℕ) (ls : List ℕ) → Hangs d t.nodes t.closed n → PathTo d t ls (node t.nodes n).parent → PathTo d t (ls ++ ((node t.nodes n).edge ∷ [])) n
  step-path n ls h r = (
    rw h.enters at (leads-snoc d.graph t.start (node t.nodes (node t.nodes n).parent).vertex (node t.nodes n).edge ls r.0 h.real h.leaves),
    omega (arith, total-snoc d.graph (node t.nodes n).edge ls, r.1, h.costs),
  )

  path-in : (b n : ℕ) → n ≤ b → n < length t.nodes → PathTo d t (path_in t.nodes b n) n
  unfolding path_in
  path-in zero n le h = root-path n (omega arith)
  path-in (suc b) n le h = go (λ p. path-in b p) (eqb n 0) refl
    where
      go : ((p : ℕ) → p ≤ b → p < length t.nodes → PathTo d t (path_in t.nodes b p) p)
          → (x : Bool) → eqb n 0 ≡ x → PathTo d t (snoc_if x (path_in t.nodes b (node t.nodes n).parent) (node t.nodes n).edge) n
      go ih true e = root-path n (eqb-true n 0 e)
      go ih false e =
          let g : Hangs d t.nodes t.closed n = ok.hangs n (eqb-false n 0 e) h in
          step-path n (path_in t.nodes b (node t.nodes n).parent) g (ih (node t.nodes n).parent (omega arith) (omega arith))

  pub path-of : (n : ℕ) → n < length t.nodes → PathTo d t (path t.nodes n) n
  unfolding path
  path-of n h = path-in n n (omega arith) h

  pub closed-path : (v i : ℕ) → closed_at t.closed v ≡ suc i
      → Leads d.graph t.start (path t.nodes i) v × (initial_cost d t.start + total d.graph (path t.nodes i) ≡ (node t.nodes i).cost)
  closed-path v i e = let r = path-of i (ok.closer v i e).0 in (rw (ok.closer v i e).1 at r.0, r.1)

  -- with no ticket left, every vertex that a path leads to is closed
  pub no_more : t.waiting ≡ [] → (v : ℕ) (ls : List ℕ) → Leads d.graph t.start ls v → (i : ℕ) × (closed_at t.closed v ≡ suc i)
  no_more w v ls r = go (front-start d t ok v ls r)
    where
      go : Front t v (path_weight d t.start ls) → (i : ℕ) × (closed_at t.closed v ≡ suc i)
      go (done i e h) = (i, e)
      go (later i q h) = absurd (Memᴰ.not-nil (rw w at q))
