-- In a sound tree the reference's path of a node, and that path read backward, are the words, moves and cost of the node.
-- Assumes nothing.
use mathlib.Core.Path.{◌≡◌, refl, sym, ap, ◌∙◌}
use mathlib.Core.Logic.{◌≢◌}
use mathlib.Core.Bool.{Bool, true, false}
use mathlib.Core.List.{List, [], ◌∷◌, ◌++◌, append-nil, append_assoc}
use Prim.Native.Nat.{ℕ, zero, suc, ◌+◌, ◌<◌, ◌≤◌}
use native.Mathlib.Omega.{arith}
use borrow.Author.Tests.{eqb-true, eqb-false, eq-eqb, ne_eqb}
use lib.Dec.{eqb}
use lib.ListN.{length, length-append}
use Rattle.model.specs.Graph.{Domain, Accepted, absent, Direction, forward, backward}
use Rattle.model.specs.Tree.{Tree, Node, node}
use Rattle.model.specs.Path.{snoc_if, path_in, path, moves_of, words_if, words_in, words}
use Rattle.model.specs.Sound.{Sound, Hangs}
use Rattle.model.specs.Reference.{Move, Path, backtrack_from, backtrack, retrace_from, retrace_node, move_words, path_words, in_chart}
use Rattle.model.proofs.Later.{Later}
use Rattle.model.proofs.Room.{nodes-le}

-- ---- lists of moves

move_words-snoc : (ms : List Move) (m : Move) → move_words (ms ++ (m ∷ [])) ≡ move_words ms ++ (m.action ∷ m.state ∷ [])
move_words-snoc [] m = refl
move_words-snoc (x ∷ xs) m = ap (λ (r : List ℕ). x.action ∷ x.state ∷ r) (move_words-snoc xs m)

-- the last move is the first backward
back-words : (a : ℕ) (seq ms : List Move) (m : Move) (k : ℕ)
    → path_words (backtrack_from a seq (ms ++ (m ∷ [])) k) ≡ m.state ∷ m.action ∷ path_words (backtrack_from a seq ms k)
unfolding backtrack_from
back-words a seq [] m k = refl
back-words a seq (x ∷ xs) m k = back-words x.state (record { action = x.action; state = a } ∷ seq) xs m k

back-length : (a : ℕ) (seq ms : List Move) (k : ℕ) → length (backtrack_from a seq ms k).sequence ≡ length ms + length seq
unfolding backtrack_from
back-length a seq [] k = omega arith
back-length a seq (x ∷ xs) k = omega (arith, back-length x.state (record { action = x.action; state = a } ∷ seq) xs k)

back-cost : (a : ℕ) (seq ms : List Move) (k : ℕ) → (backtrack_from a seq ms k).total_cost ≡ k
unfolding backtrack_from
back-cost a seq [] k = refl
back-cost a seq (x ∷ xs) k = back-cost x.state (record { action = x.action; state = a } ∷ seq) xs k

-- ---- of any nodes: a step of the way back, and that a path costs what its node costs

abbrev move_to : List Node → ℕ → Move
move_to ns n = record { action = (node ns n).edge; state = (node ns n).vertex }

-- the word of the parent says whether the way goes on
abbrev path_from : List Node → ℕ → ℕ → List Move → ℕ → Bool → Path
path_from ns b n seq k true = record { initial_state = (node ns n).vertex; sequence = seq; total_cost = k }
path_from ns b n seq k false = retrace_from ns b (node ns n).parent (move_to ns n ∷ seq) k

from_suc : (ns : List Node) (b n : ℕ) (seq : List Move) (k : ℕ) (q : Bool) → eqb (node ns n).parent absent ≡ q
    → retrace_from ns (suc b) n seq k ≡ path_from ns b n seq k q
unfolding retrace_from
from_suc ns b n seq k true e = rw (e, retrace_from)
from_suc ns b n seq k false e = rw (e, retrace_from)

cost-in : (ns : List Node) (b n : ℕ) (seq : List Move) (k : ℕ) → (retrace_from ns b n seq k).total_cost ≡ k
unfolding retrace_from
cost-in ns zero n seq k = refl
cost-in ns (suc b) n seq k = rw (from_suc ns b n seq k (eqb (node ns n).parent absent) refl) (go (cost-in ns b (node ns n).parent (move_to ns n ∷ seq) k) (eqb (node ns n).parent absent))
  where
    go : (retrace_from ns b (node ns n).parent (move_to ns n ∷ seq) k).total_cost ≡ k → (q : Bool) → (path_from ns b n seq k q).total_cost ≡ k
    go ih true = refl
    go ih false = ih

pub retrace-cost : (ns : List Node) (n : ℕ) → (retrace_node ns n).total_cost ≡ (node ns n).cost
unfolding retrace_node
retrace-cost ns n = cost-in ns n n [] (node ns n).cost

-- ---- the moves from the root to a node, as Path.antt has the edges

abbrev snoc_move_if : Bool → List Move → Move → List Move
snoc_move_if true r m = []
snoc_move_if false r m = r ++ (m ∷ [])

unfoldable moves_in : List Node → ℕ → ℕ → List Move
moves_in ns zero n = []
moves_in ns (suc b) n = snoc_move_if (eqb n 0) (moves_in ns b (node ns n).parent) (move_to ns n)

moves-length : (ns : List Node) (b n : ℕ) → length (moves_in ns b n) ≡ length (path_in ns b n)
unfolding moves_in path_in
moves-length ns zero n = refl
moves-length ns (suc b) n = go (moves-length ns b (node ns n).parent) (eqb n 0)
  where
    go : length (moves_in ns b (node ns n).parent) ≡ length (path_in ns b (node ns n).parent) → (q : Bool)
        → length (snoc_move_if q (moves_in ns b (node ns n).parent) (move_to ns n)) ≡ length (snoc_if q (path_in ns b (node ns n).parent) (node ns n).edge)
    go ih true = refl
    go ih false =
        omega (arith, length-append (moves_in ns b (node ns n).parent) (move_to ns n ∷ []), length-append (path_in ns b (node ns n).parent) ((node ns n).edge ∷ []))

module _ (d : Domain) (acc : Accepted d.graph) (t : Tree) (ok : Sound d t) where
  abbrev ns : List Node
  ns = t.nodes

  pub few-nodes : length t.nodes ≤ 2049
  few-nodes = omega (arith, nodes-le d t ok, acc.edges)

  pub parent-present : (n : ℕ) → n ≢ 0 → n < length t.nodes → eqb (node t.nodes n).parent absent ≡ false
  parent-present n z h = let g : Hangs d t.nodes t.closed n = ok.hangs n z h in ne_eqb (node t.nodes n).parent absent (λ e. omega (arith, few-nodes))

  abbrev rooted : List Move → ℕ → Path
  rooted ms k = record { initial_state = t.start; sequence = ms; total_cost = k }

  root_vertex : (n : ℕ) → n ≡ 0 → (node ns n).vertex ≡ t.start
  root_vertex n e = rw e ok.root_vertex

  retrace-in : (b n : ℕ) → n ≤ b → n < length ns → (seq : List Move) (k : ℕ) → retrace_from ns b n seq k ≡ rooted (moves_in ns b n ++ seq) k
  unfolding retrace_from moves_in
  retrace-in zero n le h seq k = rw (root_vertex n (omega arith))
  retrace-in (suc b) n le h seq k = go (λ p. retrace-in b p) (eqb n 0) refl
    where
      go : ((p : ℕ) → p ≤ b → p < length ns → (seq : List Move) (k : ℕ) → retrace_from ns b p seq k ≡ rooted (moves_in ns b p ++ seq) k)
          → (q : Bool) → eqb n 0 ≡ q
          → retrace_from ns (suc b) n seq k ≡ rooted (snoc_move_if q (moves_in ns b (node ns n).parent) (move_to ns n) ++ seq) k
      go ih true e =
          let z : n ≡ 0 = eqb-true n 0 e in
          from_suc ns b n seq k true (rw z (eq-eqb _ _ ok.root_parent)) ∙ ap (λ (v : ℕ). record { initial_state = v; sequence = seq; total_cost = k }) (root_vertex n z)
      go ih false e =
          let z : n ≢ 0 = eqb-false n 0 e in
          let g : Hangs d t.nodes t.closed n = ok.hangs n z h in
          from_suc ns b n seq k false (parent-present n z h)
          ∙ ih (node ns n).parent (omega arith) (omega arith) (move_to ns n ∷ seq) k
          ∙ ap (λ (r : List Move). rooted r k) (sym (append_assoc (moves_in ns b (node ns n).parent) (move_to ns n ∷ []) seq))

  retraced : (n : ℕ) → n < length ns → retrace_node ns n ≡ rooted (moves_in ns n n) (node ns n).cost
  unfolding retrace_node
  retraced n h = retrace-in n n (omega arith) h [] (node ns n).cost ∙ ap (λ (r : List Move). rooted r (node ns n).cost) (append-nil (moves_in ns n n))

  abbrev walked : Direction → ℕ → ℕ → ℕ → List ℕ
  walked dir b n k = path_words (in_chart dir (rooted (moves_in ns b n) k))

  words-in : (dir : Direction) (b n : ℕ) → n ≤ b → n < length ns → (k : ℕ) → walked dir b n k ≡ words_in dir ns b n
  unfolding moves_in words_in backtrack backtrack_from
  words-in forward zero n le h k = ap (λ (v : ℕ). v ∷ []) (sym (root_vertex n (omega arith)))
  words-in backward zero n le h k = ap (λ (v : ℕ). v ∷ []) (sym (root_vertex n (omega arith)))
  words-in forward (suc b) n le h k = go (λ p. words-in forward b p) (eqb n 0) refl
    where
      go : ((p : ℕ) → p ≤ b → p < length ns → (k : ℕ) → walked forward b p k ≡ words_in forward ns b p) → (q : Bool) → eqb n 0 ≡ q
          → t.start ∷ move_words (snoc_move_if q (moves_in ns b (node ns n).parent) (move_to ns n))
          ≡ words_if q forward (words_in forward ns b (node ns n).parent) (node ns n).edge (node ns n).vertex
      go ih true e = ap (λ (v : ℕ). v ∷ []) (sym (root_vertex n (eqb-true n 0 e)))
      go ih false e =
          let g : Hangs d t.nodes t.closed n = ok.hangs n (eqb-false n 0 e) h in
          ap (λ (r : List ℕ). t.start ∷ r) (move_words-snoc (moves_in ns b (node ns n).parent) (move_to ns n))
          ∙ ap (λ (r : List ℕ). r ++ ((node ns n).edge ∷ (node ns n).vertex ∷ [])) (ih (node ns n).parent (omega arith) (omega arith) k)
  words-in backward (suc b) n le h k = go (λ p. words-in backward b p) (eqb n 0) refl
    where
      go : ((p : ℕ) → p ≤ b → p < length ns → (k : ℕ) → walked backward b p k ≡ words_in backward ns b p) → (q : Bool) → eqb n 0 ≡ q
          → path_words (backtrack (rooted (snoc_move_if q (moves_in ns b (node ns n).parent) (move_to ns n)) k))
          ≡ words_if q backward (words_in backward ns b (node ns n).parent) (node ns n).edge (node ns n).vertex
      go ih true e = ap (λ (v : ℕ). v ∷ []) (sym (root_vertex n (eqb-true n 0 e)))
      go ih false e =
          let g : Hangs d t.nodes t.closed n = ok.hangs n (eqb-false n 0 e) h in
          back-words t.start [] (moves_in ns b (node ns n).parent) (move_to ns n) k
          ∙ ap (λ (r : List ℕ). (node ns n).vertex ∷ (node ns n).edge ∷ r) (ih (node ns n).parent (omega arith) (omega arith) k)

  moves-in : (dir : Direction) (ms : List Move) (k : ℕ) → length (in_chart dir (rooted ms k)).sequence ≡ length ms
  unfolding backtrack
  moves-in forward ms k = refl
  moves-in backward ms k = omega (arith, back-length t.start [] ms k)

  cost-of : (dir : Direction) (ms : List Move) (k : ℕ) → (in_chart dir (rooted ms k)).total_cost ≡ k
  unfolding backtrack
  cost-of forward ms k = refl
  cost-of backward ms k = back-cost t.start [] ms k

  -- ---- node n of the tree

  module _ (n : ℕ) (h : n < length t.nodes) where
    -- in the direction of the graph's edges
    pub retrace-words : (dir : Direction) → path_words (in_chart dir (retrace_node t.nodes n)) ≡ words dir t.nodes n
    unfolding words
    retrace-words dir = ap (λ (p : Path). path_words (in_chart dir p)) (retraced n h) ∙ words-in dir n n (omega arith) h (node t.nodes n).cost

    pub retrace-moves : (dir : Direction) → length (in_chart dir (retrace_node t.nodes n)).sequence ≡ moves_of t.nodes n
    unfolding path
    retrace-moves dir =
        ap (λ (p : Path). length (in_chart dir p).sequence) (retraced n h) ∙ moves-in dir (moves_in t.nodes n n) (node t.nodes n).cost ∙ moves-length t.nodes n n

    pub retrace-total : (dir : Direction) → (in_chart dir (retrace_node t.nodes n)).total_cost ≡ (node t.nodes n).cost
    retrace-total dir = ap (λ (p : Path). (in_chart dir p).total_cost) (retraced n h) ∙ cost-of dir (moves_in t.nodes n n) (node t.nodes n).cost

-- ---- a node's path stays

module _ (d : Domain) (t t' : Tree) (ok : Sound d t) (l : Later t t') where
  later-in : (b n : ℕ) → n < length t.nodes → (seq : List Move) (k : ℕ) → retrace_from t'.nodes b n seq k ≡ retrace_from t.nodes b n seq k
  unfolding retrace_from
  later-in zero n h seq k = rw (l.keeps n h)
  later-in (suc b) n h seq k = go (λ p. later-in b p) (eqb (node t.nodes n).parent absent) refl
    where
      go : ((p : ℕ) → p < length t.nodes → (seq : List Move) (k : ℕ) → retrace_from t'.nodes b p seq k ≡ retrace_from t.nodes b p seq k)
          → (q : Bool) → eqb (node t.nodes n).parent absent ≡ q → retrace_from t'.nodes (suc b) n seq k ≡ retrace_from t.nodes (suc b) n seq k
      go ih true e =
          from_suc t'.nodes b n seq k true (rw (l.keeps n h) e)
          ∙ ap (λ (x : Node). record { initial_state = x.vertex; sequence = seq; total_cost = k }) (l.keeps n h)
          ∙ sym (from_suc t.nodes b n seq k true e)
      go ih false e =
          let z : n ≢ 0 = λ (q : n ≡ 0). eqb-false (node t.nodes n).parent absent e (rw q ok.root_parent) in
          let g : Hangs d t.nodes t.closed n = ok.hangs n z h in
          from_suc t'.nodes b n seq k false (rw (l.keeps n h) e)
          ∙ ap (λ (x : Node). retrace_from t'.nodes b x.parent (record { action = x.edge; state = x.vertex } ∷ seq) k) (l.keeps n h)
          ∙ ih (node t.nodes n).parent (omega arith) (move_to t.nodes n ∷ seq) k
          ∙ sym (from_suc t.nodes b n seq k false e)

  pub retrace-later : (n : ℕ) → n < length t.nodes → retrace_node t'.nodes n ≡ retrace_node t.nodes n
  unfolding retrace_node
  retrace-later n h = later-in n n h [] (node t'.nodes n).cost ∙ ap (λ (x : Node). retrace_from t.nodes n n [] x.cost) (l.keeps n h)
