-- Each clause of soundness shuts something out: a sound tree, computed, and with one thing altered.
-- Assumes nothing.
use mathlib.Core.Path.{◌≡◌, refl}
use mathlib.Core.Bool.{Bool, true, false}
use mathlib.Core.List.{List, [], ◌∷◌, ◌++◌}
use Prim.Native.Nat.{ℕ}
use Rattle.model.specs.Graph.{forward, absent, domain}
use Rattle.model.specs.Worth.{evaluation_of, weight}
use Rattle.model.specs.Tree.{Tree, Node, new_tree}
use Rattle.model.specs.Sound.{soundb, sound_treesb}
use Rattle.model.proofs.Examples.{little}

-- ---- each clause of soundness shuts a tree out: the tree of 0 after two tickets, and that tree with one thing altered

abbrev pub root : Node
root = record { vertex = 0; cost = 0; parent = absent; edge = absent }

abbrev pub three_nodes : List Node
three_nodes = record { vertex = 1; cost = 4; parent = 0; edge = 0 } ∷ record { vertex = 2; cost = 9; parent = 0; edge = 2 } ∷ record { vertex = 2; cost = 7; parent = 1; edge = 1 } ∷ []

abbrev pub tree_of : List Node → List ℕ → List ℕ → Tree
tree_of ns q cl = record { start = 0; nodes = ns; waiting = q; closed = cl }

abbrev pub closed_two : List ℕ
closed_two = 1 ∷ 2 ∷ 0 ∷ 0 ∷ []

unfoldable pub is_sound : Tree → Bool
unfolding soundb domain little evaluation_of weight
is_sound t = soundb (domain forward little) t

half-grown : is_sound (tree_of (root ∷ three_nodes) (2 ∷ 3 ∷ []) closed_two) ≡ true
unfolding is_sound
half-grown = refl

-- the root has a parent; another cost than its start's
root-with-parent : is_sound (tree_of (record { vertex = 0; cost = 0; parent = 0; edge = absent } ∷ three_nodes) (2 ∷ 3 ∷ []) closed_two) ≡ false
unfolding is_sound
root-with-parent = refl

root-too-dear : is_sound (tree_of (record { vertex = 0; cost = 1; parent = absent; edge = absent } ∷ []) (0 ∷ []) (0 ∷ 0 ∷ 0 ∷ 0 ∷ [])) ≡ false
unfolding is_sound
root-too-dear = refl

-- a tree of vertex 2, which has no initial cost
no-initial-cost : is_sound (new_tree (domain forward little) 2) ≡ false
unfolding is_sound new_tree
no-initial-cost = refl

-- node 3 costs 6, and not 4 + 3
cost-altered : is_sound (tree_of (root ∷ record { vertex = 1; cost = 4; parent = 0; edge = 0 } ∷ record { vertex = 2; cost = 9; parent = 0; edge = 2 } ∷ record { vertex = 2; cost = 6; parent = 1; edge = 1 } ∷ []) (2 ∷ 3 ∷ []) closed_two) ≡ false
unfolding is_sound
cost-altered = refl

-- node 3 hangs on node 1, whose vertex is open
parent-open : is_sound (tree_of (root ∷ three_nodes) (1 ∷ 2 ∷ 3 ∷ []) (1 ∷ 0 ∷ 0 ∷ 0 ∷ [])) ≡ false
unfolding is_sound
parent-open = refl

-- a ticket of no node; one node twice
queue-past-nodes : is_sound (tree_of (root ∷ three_nodes) (2 ∷ 3 ∷ 4 ∷ []) closed_two) ≡ false
unfolding is_sound
queue-past-nodes = refl

queued-twice : is_sound (tree_of (root ∷ three_nodes) (2 ∷ 3 ∷ 3 ∷ []) closed_two) ≡ false
unfolding is_sound
queued-twice = refl

-- vertex 3 is closed by a node of vertex 2; vertex 2 is closed at 9 while 7 waits
closed-by-another : is_sound (tree_of (root ∷ three_nodes) [] (1 ∷ 2 ∷ 4 ∷ 3 ∷ [])) ≡ false
unfolding is_sound
closed-by-another = refl

closed-too-dear : is_sound (tree_of (root ∷ three_nodes) (3 ∷ []) (1 ∷ 2 ∷ 3 ∷ 0 ∷ [])) ≡ false
unfolding is_sound
closed-too-dear = refl

-- the edge 1 gave two nodes
too-many-nodes : is_sound (tree_of (root ∷ three_nodes ++ (record { vertex = 2; cost = 7; parent = 1; edge = 1 } ∷ [])) (2 ∷ 3 ∷ 4 ∷ []) closed_two) ≡ false
unfolding is_sound
too-many-nodes = refl

-- the root neither waits nor is its vertex closed
not-begun : is_sound (tree_of (root ∷ []) [] (0 ∷ 0 ∷ 0 ∷ 0 ∷ [])) ≡ false
unfolding is_sound
not-begun = refl

-- from vertex 1, closed at 4, the edge of cost 3 leads to vertex 2, which waits at 9 only
not-reached : is_sound (tree_of (root ∷ three_nodes) (2 ∷ []) closed_two) ≡ false
unfolding is_sound
not-reached = refl

-- two trees of one start
same_start : sound_treesb (domain forward little) (new_tree (domain forward little) 0 ∷ new_tree (domain forward little) 0 ∷ []) ≡ false
unfolding sound_treesb new_tree domain little
same_start = refl
