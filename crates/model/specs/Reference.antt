-- The reference: the Rust's `initialize`, `push_node`, `step`, `retrace` and `backtrack`, statement by statement, on the same trees. Edges
-- are walked in the rows of simple.rs (SimpleGraph.antt). A `HashMap` of trees is found by its key, the start vertex; a closed set is the
-- map from a vertex to its node; the heap gives the least ticket by evaluation, then `node_id` (the reference build's tie rule). Nothing
-- connects, so `connect` and `decisive` are left out, and no lock is poisoned. A path is kept whole, and the best solution as its entry
-- and its cost.
-- Ported from open-rmf/mapf (mapf/src: algorithm/dijkstra/forward.rs, algorithm/dijkstra/backward.rs, algorithm/tree.rs, algorithm/path.rs)
-- and changed; Apache License 2.0, see NOTICE.
-- Assumes nothing.
use Rattle.std.specs.Prelude.{◌≡◌, Bool, true, false, List, [], ◌∷◌, ◌++◌, map, ℕ, zero, suc, ◌+◌, ◌*◌, eqb, leb, ltb, length, get_or, set, replicate, None, Some}
use Rattle.std.specs.declared.option.Option.{Option}
use Rattle.model.specs.declared.BestSolution.{BestSolution}
use Rattle.model.specs.declared.TreeMemory.{TreeMemory}
use Rattle.model.specs.declared.Search.{Search}
use Rattle.model.specs.Lists.{mem}
use Rattle.model.specs.Answers.{Reply, answered, refused, Status, waiting, solved, no_path}
use Rattle.model.specs.Graph.{Graph, Accepted, Domain, Direction, forward, backward, cost, absent, vertex_count, domain, initial_cost}
use Rattle.model.specs.SimpleGraph.{Target, edges_from_vertex}
use Rattle.model.specs.Tree.{Tree, Node, node, closed_at, evaluation, popped, root_node}
use Rattle.model.specs.Sound.{no_tree, tree}
use Rattle.model.specs.Search.{closed_count, entries, goals, entry, solution_cost}
use Rattle.model.specs.Calls.{Cache, opened, with_trees, first_fault, initialize_faults, step_faults, AfterRetrace, written}
use Rattle.model.specs.Demands.{Call, initializing, stepping, retracing, reading, both, Act, own_step, own_retrace, other, Event, stepped, retraced}
use Rattle.model.specs.Calls as ours
use Rattle.model.specs.Demands as demands

-- the Rust's `Cost` of a node: `node.cost()`
abbrev pub cost_of : Node → ℕ
cost_of x = x.cost

-- ---- path.rs: `Path`

pub record Move : Type 0 where
  pub action : ℕ
  pub state : ℕ

pub record Path : Type 0 where
  pub initial_state : ℕ
  pub sequence : List Move
  pub total_cost : ℕ

-- the loop of `backtrack`; what is pushed last stands first after `sequence.reverse()`. `flip_endpoints` gives the initial state, and the
-- domain's `backtrack` the same action and the child's state
unfoldable pub backtrack_from : ℕ → List Move → List Move → ℕ → Path
backtrack_from parent seq [] k = record { initial_state = parent; sequence = seq; total_cost = k }
backtrack_from parent seq (m ∷ ms) k = backtrack_from m.state (record { action = m.action; state = parent } ∷ seq) ms k

unfoldable pub backtrack : Path → Path
unfolding backtrack_from
backtrack p = backtrack_from p.initial_state [] p.sequence p.total_cost

-- ---- tree.rs: `retrace` and `push_node`

-- `while let Some(current_node_id) = next_node_id`: a parent's number is smaller, so the count b falls
unfoldable pub retrace_from : List Node → ℕ → ℕ → List Move → ℕ → Path
retrace_from ns zero n seq k = record { initial_state = (node ns n).vertex; sequence = seq; total_cost = k }
retrace_from ns (suc b) n seq k = elim (eqb (node ns n).parent absent) [
  | true ↦ record { initial_state = (node ns n).vertex; sequence = seq; total_cost = k }
  | false ↦ retrace_from ns b (node ns n).parent (record { action = (node ns n).edge; state = (node ns n).vertex } ∷ seq) k
]

unfoldable pub retrace_node : List Node → ℕ → Path
unfolding retrace_from
retrace_node ns n = retrace_from ns n n [] (cost_of (node ns n))

-- `ClosedStatus`: `Open`, or `Closed` by a node
abbrev pub status_of_word : ℕ → Option ℕ
status_of_word zero = None
status_of_word (suc i) = Some i

abbrev pub status_for_key : Tree → ℕ → Option ℕ
status_for_key t v = status_of_word (closed_at t.closed v)

-- `if prior.cost() <= node.cost() { return Ok(()) }`
abbrev pub rejects : List Node → Node → Option ℕ → Bool
rejects ns x None = false
rejects ns x (Some prior) = leb (cost_of (node ns prior)) (cost_of x)

abbrev pub push_unless : Bool → Tree → Node → Tree
push_unless true t x = t
push_unless false t x =
    record { start = t.start; nodes = t.nodes ++ (x ∷ []); waiting = t.waiting ++ (length t.nodes ∷ []); closed = t.closed }

unfoldable pub push_node : Tree → Node → Tree
push_node t x = push_unless (rejects t.nodes x (status_for_key t x.vertex)) t x

-- ---- tree.rs: `TreeQueueTicket`, compared by evaluation, then by `node_id` (the line that the reference build adds to both comparisons)

pub data Ordering : Type 0 where
  Less : Ordering
  Equal : Ordering
  Greater : Ordering

abbrev pub ordering_of : Bool → Bool → Ordering
ordering_of true same = Less
ordering_of false true = Equal
ordering_of false false = Greater

abbrev pub compare : ℕ → ℕ → Ordering
compare a b = ordering_of (ltb a b) (eqb a b)

abbrev pub or_compare : Ordering → Ordering → Ordering
or_compare Less o = Less
or_compare Equal o = o
or_compare Greater o = Greater

abbrev pub ticket_cmp : List Node → ℕ → ℕ → Ordering
ticket_cmp ns a b = or_compare (compare (evaluation ns a) (evaluation ns b)) (compare a b)

-- `BinaryHeap<Reverse<TreeQueueTicket<Cost>>>`: on top is the least ticket
abbrev pub top_when : Ordering → ℕ → ℕ → ℕ
top_when Less i b = i
top_when Equal i b = b
top_when Greater i b = b

unfoldable pub top_of : List Node → ℕ → List ℕ → ℕ
top_of ns b [] = b
top_of ns b (i ∷ is) = top_of ns (top_when (ticket_cmp ns i b) i b) is

unfoldable pub top : List Node → List ℕ → Option ℕ
unfolding top_of
top ns [] = None
top ns (i ∷ is) = Some (top_of ns i is)

-- ---- forward.rs: `Memory`, `TreeMemory`

pub record TreeEntry : Type 0 where
  pub key : ℕ
  pub last_known_closed_len : Option ℕ
  pub solution : Option Path

abbrev pub no_entry : TreeEntry
no_entry = record { key = 0; last_known_closed_len = None; solution = None }

pub record BestCost : Type 0 where
  pub entry : ℕ
  pub cost : ℕ

pub record Memory : Type 0 where
  pub trees : List TreeEntry
  pub goal_keys : List ℕ
  pub best_solution : Option BestCost
  pub exhausted : Bool

-- `Cache { trees: HashMap<D::Key, SharedCachedTree<D>> }`
unfoldable pub get : List Tree → ℕ → Option Tree
get [] key = None
get (t ∷ ts) key = elim (eqb t.start key) [ true ↦ Some t | false ↦ get ts key ]

unfoldable pub put : List Tree → ℕ → Tree → List Tree
put [] key u = []
put (t ∷ ts) key u = elim (eqb t.start key) [ true ↦ u ∷ ts | false ↦ t ∷ put ts key u ]

abbrev pub or_no_tree : Option Tree → Tree
or_no_tree None = no_tree
or_no_tree (Some t) = t

-- ---- forward.rs: `initialize`

pub record Opening : Type 0 where
  pub trees : List Tree
  pub entries : List TreeEntry

abbrev pub entry_at : ℕ → TreeEntry
entry_at key = record { key = key; last_known_closed_len = None; solution = None }

-- `CachedTree::new(..)`, then `push_node` of the root
unfoldable pub planted_tree : Domain → ℕ → Tree
unfolding push_node
planted_tree d v = push_node (record { start = v; nodes = []; waiting = []; closed = replicate (vertex_count d.graph) 0 }) (root_node d v)

-- `Entry::Occupied`: the tree is shared; `Entry::Vacant`: `initial_cost` is `None`, `continue`; else a new tree is inserted
unfoldable pub opening : Domain → List Tree → ℕ → Option Tree → Bool → Opening
unfolding planted_tree
opening d ts v (Some t) b = record { trees = ts; entries = entry_at v ∷ [] }
opening d ts v None true = record { trees = ts; entries = [] }
opening d ts v None false = record { trees = ts ++ (planted_tree d v ∷ []); entries = entry_at v ∷ [] }

unfoldable pub openings : Domain → List Tree → List ℕ → Opening
unfolding opening get initial_cost
openings d ts [] = record { trees = ts; entries = [] }
openings d ts (v ∷ vs) =
    let o = opening d ts v (get ts v) (eqb (initial_cost d v) absent) in
    let r = openings d o.trees vs in
    record { trees = r.trees; entries = o.entries ++ r.entries }

pub record Opened : Type 0 where
  pub trees : List Tree
  pub memory : Memory

unfoldable pub forward_initialize : Domain → List Tree → List ℕ → List ℕ → Opened
unfolding openings
forward_initialize d ts start goal =
    let o = openings d ts start in
    record { trees = o.trees; memory = record { trees = o.entries; goal_keys = goal; best_solution = None; exhausted = false } }

-- backward.rs: `self.backward.initialize(goal.clone(), &start)`
abbrev pub initialize_in : Direction → Domain → List Tree → List ℕ → List ℕ → Opened
initialize_in forward d ts start goal = forward_initialize d ts start goal
initialize_in backward d ts start goal = forward_initialize d ts goal start

unfoldable pub initialize : Domain → List Tree → List ℕ → List ℕ → Opened
unfolding forward_initialize
initialize d ts start goal = initialize_in d.direction d ts start goal

-- ---- forward.rs: `step`, the lookup

-- `if best_solution.total_cost <= node.cost { continue; }`
abbrev pub not_better : Option Path → ℕ → Bool
not_better None k = false
not_better (Some p) k = leb p.total_cost k

abbrev pub path_if : Bool → Option Path → Path → Option Path
path_if true o p = o
path_if false o p = Some p

abbrev pub look_at : List Node → Option Path → Option ℕ → Option Path
look_at ns o None = o
look_at ns o (Some n) = path_if (not_better o (cost_of (node ns n))) o (retrace_node ns n)

unfoldable pub look_goals : Tree → List ℕ → Option Path → Option Path
unfolding retrace_node
look_goals t [] o = o
look_goals t (key ∷ keys) o = look_goals t keys (look_at t.nodes o (status_for_key t key))

-- `if Some(closed_set_len) != mt.last_known_closed_len`
abbrev pub same_len : Option ℕ → ℕ → Bool
same_len None n = false
same_len (Some k) n = eqb n k

abbrev pub look_unless : Bool → Tree → List ℕ → Option Path
look_unless true t keys = None
look_unless false t keys = look_goals t keys None

-- ---- forward.rs: `step`, the growing: `'grow: for _ in 0..memory.iterations_per_step`

-- tree, `tree_solution`, and whether the loop was left by a `break`
pub record Growing : Type 0 where
  pub tree : Tree
  pub solution : Option Path
  pub broken : Bool

-- the graph of the text, of which simple.rs makes its table: a backward cache holds it turned round, and turned round again it is the text's
abbrev pub text_graph : Domain → Graph
text_graph d = (domain d.direction d.graph).graph

-- `for next in self.domain.choices(top.state.clone())`: a row of the edge table, target by target
unfoldable pub push_choices : Domain → ℕ → Node → Tree → List Target → Tree
unfolding push_node domain
push_choices d top p t [] = t
push_choices d top p t (x ∷ xs) =
    push_choices d top p (push_node t (record { vertex = x.to; cost = p.cost + cost (text_graph d) x.edge; parent = top; edge = x.edge })) xs

-- `container.insert`, and `*prior = top_id`
abbrev pub closing : Tree → ℕ → ℕ → Tree
closing t v top = record { start = t.start; nodes = t.nodes; waiting = t.waiting; closed = set t.closed v (suc top) }

-- `if *cost_bound < top.cost { break 'grow; }`
abbrev pub past_bound : Option ℕ → ℕ → Bool
past_bound None k = false
past_bound (Some b) k = ltb b k

-- `if *top_key == *goal_key { .. break 'grow; }`, then the bound
abbrev pub end_ticket : Bool → Bool → Tree → ℕ → Growing
end_ticket true past t top = record { tree = t; solution = Some (retrace_node t.nodes top); broken = true }
end_ticket false past t top = record { tree = t; solution = None; broken = past }

unfoldable pub expand_top : Domain → List ℕ → Option ℕ → Tree → ℕ → Growing
unfolding push_choices retrace_node edges_from_vertex domain mem
expand_top d keys bound t top =
    let x = node t.nodes top in
    end_ticket (mem x.vertex keys) (past_bound bound (cost_of x))
    (push_choices d top x (closing t x.vertex top) (edges_from_vertex d.direction (text_graph d) x.vertex)) top

-- `CloseResult::Rejected { prior, .. }`: `if prior_node.cost <= top.cost { continue; }`, else `*prior = top_id`
unfoldable pub close_top : Domain → List ℕ → Option ℕ → Tree → ℕ → Bool → Growing
unfolding expand_top
close_top d keys bound t top true = record { tree = t; solution = None; broken = false }
close_top d keys bound t top false = expand_top d keys bound t top

-- `let top_id = match cache.tree.queue.pop() { .. None => break }`
unfoldable pub pop_top : Domain → List ℕ → Option ℕ → Tree → Option ℕ → Growing
unfolding close_top popped
pop_top d keys bound t None = record { tree = t; solution = None; broken = true }
pop_top d keys bound t (Some top) =
    close_top d keys bound (popped t top) top (rejects t.nodes (node t.nodes top) (status_for_key t (node t.nodes top).vertex))

abbrev pub iterate : Domain → List ℕ → Option ℕ → Growing → Bool → Growing
iterate d keys bound g true = g
iterate d keys bound g false = pop_top d keys bound g.tree (top g.tree.nodes g.tree.waiting)

unfoldable pub grow_tree : Domain → List ℕ → Option ℕ → ℕ → Growing → Growing
unfolding pop_top top
grow_tree d keys bound zero g = g
grow_tree d keys bound (suc j) g = grow_tree d keys bound j (iterate d keys bound g g.broken)

-- ---- forward.rs: `step`, an entry's turn

pub record Stepping : Type 0 where
  pub trees : List Tree
  pub memory : Memory

abbrev pub cost_bound : Option BestCost → Option ℕ
cost_bound None = None
cost_bound (Some b) = Some b.cost

-- `queue.peek().filter(|t| t.0.evaluation < *cost_bound)`
abbrev pub peeks : List Node → Option ℕ → Option ℕ → Bool
peeks ns None bound = false
peeks ns (Some n) None = true
peeks ns (Some n) (Some b) = ltb (evaluation ns n) b

-- what the turn leaves before the solution is looked at
pub record TurnEnd : Type 0 where
  pub tree : Tree
  pub known : Option ℕ
  pub solution : Option Path
  pub exhausted : Bool

abbrev pub exhausted_unless : Bool → Bool → Bool
exhausted_unless true x = false
exhausted_unless false x = x

unfoldable pub grown_end : Growing → Option ℕ → Bool → TurnEnd
unfolding closed_count top
grown_end g bound x =
    record {
      tree = g.tree;
      known = Some (closed_count g.tree.closed);
      solution = g.solution;
      exhausted = exhausted_unless (peeks g.tree.nodes (top g.tree.nodes g.tree.waiting) bound) x;
    }

-- `if tree_solution.is_none() { .. }`
unfoldable pub turn_end : Domain → List ℕ → Option ℕ → Tree → Option ℕ → Bool → Option Path → TurnEnd
unfolding grow_tree grown_end
turn_end d keys bound t known x (Some p) = record { tree = t; known = known; solution = Some p; exhausted = x }
turn_end d keys bound t known x None = grown_end (grow_tree d keys bound 10 (record { tree = t; solution = None; broken = false })) bound x

-- `mt.solution.filter(|prior_solution| prior_solution.total_cost < solution.total_cost).is_none()`
abbrev pub prior_cheaper : Option Path → Path → Bool
prior_cheaper None p = false
prior_cheaper (Some q) p = ltb q.total_cost p.total_cost

abbrev pub best_when : Bool → ℕ → ℕ → BestCost → Option BestCost
best_when true i k b = Some (record { entry = i; cost = k })
best_when false i k b = Some b

abbrev pub best_after : Option BestCost → ℕ → ℕ → Option BestCost
best_after None i k = Some (record { entry = i; cost = k })
best_after (Some b) i k = best_when (ltb k b.cost) i k b

abbrev pub best_unless : Bool → Option BestCost → ℕ → Path → Option BestCost
best_unless true b i p = b
best_unless false b i p = best_after b i p.total_cost

abbrev pub best_turn : Option Path → Option Path → Option BestCost → ℕ → Option BestCost
best_turn prior None b i = b
best_turn prior (Some p) b i = best_unless (prior_cheaper prior p) b i p

abbrev pub solution_unless : Bool → Option Path → Path → Option Path
solution_unless true prior p = prior
solution_unless false prior p = Some p

abbrev pub solution_turn : Option Path → Option Path → Option Path
solution_turn prior None = prior
solution_turn prior (Some p) = solution_unless (prior_cheaper prior p) prior p

-- one turn of `for (tree_i, mt) in memory.trees.iter_mut().enumerate()`
unfoldable pub turn_of : Domain → ℕ → Stepping → Stepping
unfolding turn_end look_goals closed_count get put
turn_of d i r =
    let m = r.memory in
    let mt = get_or m.trees i no_entry in
    let bound = cost_bound m.best_solution in
    let t = or_no_tree (get r.trees mt.key) in
    let found = look_unless (same_len mt.last_known_closed_len (closed_count t.closed)) t m.goal_keys in
    let e = turn_end d m.goal_keys bound t mt.last_known_closed_len m.exhausted found in
    record {
      trees = put r.trees mt.key e.tree;
      memory = record {
        trees = set m.trees i (record { key = mt.key; last_known_closed_len = e.known; solution = solution_turn mt.solution e.solution });
        goal_keys = m.goal_keys;
        best_solution = best_turn mt.solution e.solution m.best_solution i;
        exhausted = e.exhausted;
      };
    }

unfoldable pub turns_of : Domain → ℕ → ℕ → Stepping → Stepping
unfolding turn_of
turns_of d zero i r = r
turns_of d (suc k) i r = turns_of d k (suc i) (turn_of d i r)

-- ---- forward.rs: `step`; backward.rs: `path.backtrack(..)`

pub data SearchStatus : Type 0 where
  Incomplete : SearchStatus
  Solved : Path → SearchStatus
  Impossible : SearchStatus
  MissingSolutionReference : SearchStatus

abbrev pub in_chart : Direction → Path → Path
in_chart forward p = p
in_chart backward p = backtrack p

abbrev pub solved_by : Direction → Option Path → SearchStatus
solved_by dir None = MissingSolutionReference
solved_by dir (Some p) = Solved (in_chart dir p)

abbrev pub finished : Direction → Memory → Option BestCost → SearchStatus
finished dir m None = Impossible
finished dir m (Some b) = solved_by dir (get_or m.trees b.entry no_entry).solution

pub record Answered : Type 0 where
  pub trees : List Tree
  pub memory : Memory
  pub status : SearchStatus

-- `memory.exhausted = true;` stands before the turns
abbrev pub step_when : Bool → Domain → List Tree → Memory → Answered
step_when true d ts m = record { trees = ts; memory = m; status = finished d.direction m m.best_solution }
step_when false d ts m =
    let r = turns_of d (length m.trees) 0 (record { trees = ts; memory = record { trees = m.trees; goal_keys = m.goal_keys; best_solution = m.best_solution; exhausted = true } }) in
    record { trees = r.trees; memory = r.memory; status = Incomplete }

unfoldable pub step : Domain → List Tree → Memory → Answered
unfolding turns_of backtrack
step d ts m = step_when m.exhausted d ts m

-- ---- our record read as the Rust's, its nodes as their paths

abbrev pub read_solution : List Node → Option ℕ → Option Path
read_solution ns None = None
read_solution ns (Some n) = Some (retrace_node ns n)

unfoldable pub read_entry : List Tree → TreeMemory → TreeEntry
unfolding retrace_node
read_entry ts e =
    let t = tree ts e.tree in
    record { key = t.start; last_known_closed_len = e.last_known_closed_len; solution = read_solution t.nodes e.solution }

abbrev pub read_best : Domain → List Tree → Search → Option BestSolution → Option BestCost
read_best d ts s None = None
read_best d ts s (Some b) = Some (record { entry = b.entry; cost = solution_cost d (tree ts (entry s b.entry).tree).nodes b.node })

unfoldable pub read_memory : Domain → List Tree → Search → Memory
unfolding read_entry
read_memory d ts s =
    record { trees = map (read_entry ts) (entries s); goal_keys = goals s; best_solution = read_best d ts s s.best_solution; exhausted = s.exhausted }

-- ---- lists of calls, made to the reference: a call that is refused is not made, one that only reads has no part in it, and of one that is
-- made of two both are made

abbrev pub trees_when : Option ℕ → List Tree → List Tree → List Tree
trees_when None us ts = us
trees_when (Some n) us ts = ts

unfoldable pub after : Cache → Call → Cache
unfolding initialize step read_memory
after c (initializing ss gs) = with_trees c (trees_when (first_fault (initialize_faults c ss gs)) (initialize c.domain c.trees ss gs).trees c.trees)
after c (stepping s) = with_trees c (trees_when (first_fault (step_faults c s)) (step c.domain c.trees (read_memory c.domain c.trees s)).trees c.trees)
after c (retracing s p) = c
after c reading = c
after c (both x y) = after (after c x) y

unfoldable pub after_all : Cache → List Call → Cache
unfolding after
after_all c [] = c
after_all c (x ∷ xs) = after_all (after c x) xs

-- "every status, total and run": what the Rust's answer is in 01's words
abbrev pub reply_of : SearchStatus → Reply Status
reply_of Incomplete = answered waiting
reply_of (Solved p) = answered (solved p.total_cost (length p.sequence))
reply_of Impossible = answered no_path
reply_of MissingSolutionReference = refused 8 0

abbrev pub move_words : List Move → List ℕ
move_words [] = []
move_words (m ∷ ms) = m.action ∷ m.state ∷ move_words ms

abbrev pub path_words : Path → List ℕ
path_words p = p.initial_state ∷ move_words p.sequence

abbrev pub shown_if : Bool → Path → List ℕ → AfterRetrace
shown_if true p slice = record { reply = refused 10 0; path = slice }
shown_if false p slice = record { reply = answered (length p.sequence); path = written (path_words p) slice }

-- the path of a `Solved` answer, written into a slice; 9 for any other
abbrev pub shown_of : SearchStatus → List ℕ → AfterRetrace
shown_of (Solved p) slice = shown_if (ltb (length slice) (1 + 2 * length p.sequence)) p slice
shown_of Incomplete slice = record { reply = refused 9 0; path = slice }
shown_of Impossible slice = record { reply = refused 9 0; path = slice }
shown_of MissingSolutionReference slice = record { reply = refused 8 0; path = slice }

-- the Rust answers with the path itself, once `exhausted`
abbrev pub path_status : Bool → Direction → Memory → SearchStatus
path_status true dir m = finished dir m m.best_solution
path_status false dir m = Incomplete

unfoldable pub events : Cache → Memory → List Act → List Event
unfolding after step backtrack
events c m [] = []
events c m (own_step ∷ acts) =
    let r = step c.domain c.trees m in
    stepped (reply_of r.status) ∷ events (with_trees c r.trees) r.memory acts
events c m (own_retrace p ∷ acts) = retraced p (shown_of (path_status m.exhausted c.domain.direction m) p) ∷ events c m acts
events c m (other x ∷ acts) = events (after c x) m acts

-- the events of a search that the reference opens on c
abbrev pub events_from : Cache → List ℕ → List ℕ → List Act → List Event
events_from c ss gs acts = let o = initialize c.domain c.trees ss gs in events (with_trees c o.trees) o.memory acts

-- Demand 2: the reference, made the same calls from the same opening on, gives the same events
abbrev pub Demand2 : Type 0
Demand2 =
    (dir : Direction) (g : Graph) → Accepted g → (slots : ℕ) (before : List Call) (ss gs : List ℕ)
    → let r = ours.initialize (demands.after_all (opened dir g slots) before) ss gs in
    r.reply ≡ answered tt → (acts : List Act) → events_from (after_all (opened dir g slots) before) ss gs acts ≡ demands.events r.cache r.search acts
