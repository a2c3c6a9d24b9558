-- Orders on small graphs, computed: answer, total and moves, waits, tickets and path words of each. Those of 01's sheet are made to the
-- reference too. 01's table, from the text to the bytes, is run_sheet's.
-- Assumes nothing.
use mathlib.Core.Path.{◌≡◌, refl}
use Rattle.std.specs.declared.option.Option.{Option}
use Rattle.std.specs.Prelude.{None, Some}
use mathlib.Core.Bool.{true, false}
use mathlib.Core.List.{List, [], ◌∷◌, map}
use Prim.Native.Nat.{ℕ, zero, suc, ◌+◌, ◌-◌, ◌*◌}
use lib.ListN.{length, replicate, take}
use Rattle.model.specs.Answers.{Reply, answered, refused, Status, waiting, solved, no_path}
use Rattle.model.specs.Graph.{Edge, Graph, Direction, forward, backward, absent, domain, edge_numbers}
use Rattle.model.specs.Worth.{evaluation_of, weight, solution_cost_of}
use Rattle.model.specs.Tree.{Tree}
use Rattle.model.specs.Path.{path, words}
use Rattle.model.specs.Sound.{sound_treesb, starts}
use Rattle.model.specs.Search.{blank, entry_of}
use Rattle.model.specs.Calls.{Cache, opened, with_trees, first_fault, initialize_faults, initialize, retrace}
use Rattle.model.specs.Solve.{is_waiting, AfterSteps, solve}
use Rattle.model.specs.Demands.{Call, initializing, reading, both as bothCalls, after, wait_limit}
use Rattle.model.specs.Reference as reference

-- ---- an order: a search is opened, stepped until it answers, and its path is shown

-- reply: of the last step, or the refusal of the opening
pub record Told : Type 0 where
  pub cache : Cache
  pub reply : Reply Status
  pub waits : ℕ
  pub tickets : ℕ
  pub path : List ℕ

-- the words written, without those past them
abbrev pub shown_words : List ℕ → Reply ℕ → List ℕ
shown_words p (answered n) = take (1 + 2 * n) p
shown_words p (refused n line) = []

-- a slice long enough for every path below
abbrev pub slice : List ℕ
slice = replicate 64 7

-- what the steps came to, and the path shown then
unfoldable pub told : AfterSteps → Told
unfolding retrace path words
told d =
    let shown = retrace d.cache d.search slice in
    record { cache = d.cache; reply = d.reply; waits = d.waits; tickets = d.tickets; path = shown_words shown.path shown.reply }

-- refused n: nothing is changed
abbrev pub turned_away : Cache → ℕ → Told
turned_away c n = record { cache = c; reply = refused n 0; waits = 0; tickets = 0; path = [] }

-- eight steps are enough for each order below
unfoldable pub order : Cache → List ℕ → List ℕ → Told
unfolding told solve initialize solution_cost_of
order c ss gs =
    let r = initialize c ss gs in
    elim r.reply [
      | answered u ↦ told (solve 8 r.cache r.search)
      | refused n line ↦ record { cache = r.cache; reply = refused n line; waits = 0; tickets = 0; path = [] }
    ]

pub record Row : Type 0 where
  pub reply : Reply Status
  pub waits : ℕ
  pub tickets : ℕ
  pub path : List ℕ

unfoldable pub row : Told → Row
row t = record { reply = t.reply; waits = t.waits; tickets = t.tickets; path = t.path }

-- ---- the same order made to the reference, which counts no tickets: "the growth of nodes used less queue length, summed over trees"

unfoldable pub spent : List Tree → ℕ
spent [] = 0
spent (t ∷ ts) = (length t.nodes - length t.waiting) + spent ts

unfoldable pub reference_drive : ℕ → ℕ → ℕ → Cache → reference.Memory → Told
unfolding reference.step spent evaluation_of
reference_drive zero w k c m = record { cache = c; reply = answered waiting; waits = w; tickets = spent c.trees - k; path = [] }
reference_drive (suc f) w k c m =
    let r = reference.step c.domain c.trees m in
    let shown = reference.shown_of r.status slice in
    elim (is_waiting (reference.reply_of r.status)) [
      | true ↦ reference_drive f (suc w) k (with_trees c r.trees) r.memory
      | false ↦ record {
        cache = with_trees c r.trees;
        reply = reference.reply_of r.status;
        waits = w;
        tickets = spent r.trees - k;
        path = shown_words shown.path shown.reply;
      }
    ]

abbrev pub reference_order_by : Option ℕ → Cache → reference.Opened → Told
reference_order_by (Some n) c o = turned_away c n
reference_order_by None c o = reference_drive 8 0 (spent o.trees) (with_trees c o.trees) o.memory

unfoldable pub reference_order : Cache → List ℕ → List ℕ → Told
unfolding reference_drive reference.initialize initialize
reference_order c ss gs = reference_order_by (first_fault (initialize_faults c ss gs)) c (reference.initialize c.domain c.trees ss gs)

-- ---- 01's little graph, and one sheet of five orders on it, each direction with its own cache

unfoldable pub little : Graph
little =
    record {
      initial = 0 ∷ 5 ∷ absent ∷ absent ∷ [];
      edges = record { from = 0; to = 1; cost = 4 } ∷ record { from = 1; to = 2; cost = 3 } ∷ record { from = 0; to = 2; cost = 9 } ∷ [];
    }

unfoldable pub fresh : Direction → Cache
unfolding little opened
fresh dir = opened dir little 16

unfoldable pub order0 : Told
unfolding order fresh
order0 = order (fresh forward) (0 ∷ []) (2 ∷ [])

unfoldable pub order1 : Told
unfolding order0
order1 = order order0.cache (0 ∷ []) (2 ∷ [])

unfoldable pub order2 : Told
unfolding order1
order2 = order order1.cache (1 ∷ []) (3 ∷ [])

unfoldable pub order3 : Told
unfolding order2
order3 = order order2.cache (2 ∷ []) (0 ∷ [])

unfoldable pub order4 : Told
unfolding order fresh
order4 = order (fresh backward) (0 ∷ []) (2 ∷ [])

-- F,0,2; F,0,2; F,1,3; F,2,0; B,0,2
abbrev pub sheet_rows : List Row
sheet_rows =
    record { reply = answered (solved 7 2); waits = 2; tickets = 4; path = 0 ∷ 0 ∷ 1 ∷ 1 ∷ 2 ∷ [] }
    ∷ record { reply = answered (solved 7 2); waits = 1; tickets = 0; path = 0 ∷ 0 ∷ 1 ∷ 1 ∷ 2 ∷ [] }
    ∷ record { reply = answered no_path; waits = 1; tickets = 2; path = [] }
    ∷ record { reply = answered no_path; waits = 1; tickets = 0; path = [] }
    ∷ record { reply = answered (solved 7 2); waits = 2; tickets = 4; path = 0 ∷ 0 ∷ 1 ∷ 1 ∷ 2 ∷ [] }
    ∷ []

rows : map row (order0 ∷ order1 ∷ order2 ∷ order3 ∷ order4 ∷ []) ≡ sheet_rows
unfolding row order3 order4
rows = refl

-- the same sheet made to the reference
unfoldable pub reference0 : Told
unfolding reference_order fresh
reference0 = reference_order (fresh forward) (0 ∷ []) (2 ∷ [])

unfoldable pub reference1 : Told
unfolding reference0
reference1 = reference_order reference0.cache (0 ∷ []) (2 ∷ [])

unfoldable pub reference2 : Told
unfolding reference1
reference2 = reference_order reference1.cache (1 ∷ []) (3 ∷ [])

unfoldable pub reference3 : Told
unfolding reference2
reference3 = reference_order reference2.cache (2 ∷ []) (0 ∷ [])

unfoldable pub reference4 : Told
unfolding reference_order fresh
reference4 = reference_order (fresh backward) (0 ∷ []) (2 ∷ [])

reference-rows : map row (reference0 ∷ reference1 ∷ reference2 ∷ reference3 ∷ reference4 ∷ []) ≡ sheet_rows
unfolding row reference3 reference4
reference-rows = refl

-- the trees that the sheet leaves, with either
abbrev pub left_forward : List Tree
left_forward =
    record {
      start = 0;
      nodes = record { vertex = 0; cost = 0; parent = absent; edge = absent }
          ∷ record { vertex = 1; cost = 4; parent = 0; edge = 0 }
          ∷ record { vertex = 2; cost = 9; parent = 0; edge = 2 }
          ∷ record { vertex = 2; cost = 7; parent = 1; edge = 1 }
          ∷ [];
      waiting = [];
      closed = 1 ∷ 2 ∷ 4 ∷ 0 ∷ [];
    }
    ∷ record {
      start = 1;
      nodes = record { vertex = 1; cost = 5; parent = absent; edge = absent } ∷ record { vertex = 2; cost = 8; parent = 0; edge = 1 } ∷ [];
      waiting = [];
      closed = 0 ∷ 1 ∷ 2 ∷ 0 ∷ [];
    }
    ∷ []

abbrev pub left_backward : List Tree
left_backward =
    record {
      start = 2;
      nodes = record { vertex = 2; cost = 0; parent = absent; edge = absent }
          ∷ record { vertex = 0; cost = 9; parent = 0; edge = 2 }
          ∷ record { vertex = 1; cost = 3; parent = 0; edge = 1 }
          ∷ record { vertex = 0; cost = 7; parent = 2; edge = 0 }
          ∷ [];
      waiting = [];
      closed = 4 ∷ 3 ∷ 1 ∷ 0 ∷ [];
    }
    ∷ []

left-forward : order3.cache.trees ≡ left_forward
unfolding order3
left-forward = refl

left-backward : order4.cache.trees ≡ left_backward
unfolding order4
left-backward = refl

reference-left-forward : reference3.cache.trees ≡ left_forward
unfolding reference3
reference-left-forward = refl

reference-left-backward : reference4.cache.trees ≡ left_backward
unfolding reference4
reference-left-backward = refl

-- they are sound
sound-forward : sound_treesb order3.cache.domain order3.cache.trees ≡ true
unfolding sound_treesb order3 weight
sound-forward = refl

sound-backward : sound_treesb order4.cache.domain order4.cache.trees ≡ true
unfolding sound_treesb order4 weight
sound-backward = refl

-- the edges by the vertex left: forward 0, 2 leave 0 and 1 leaves 1; backward 0 enters 1, and 2 and 1 enter 2, from 0 and from 1
numbers-forward : edge_numbers (domain forward little) ≡ 0 ∷ 2 ∷ 1 ∷ []
unfolding edge_numbers domain little
numbers-forward = refl

numbers-backward : edge_numbers (domain backward little) ≡ 0 ∷ 2 ∷ 1 ∷ []
unfolding edge_numbers domain little
numbers-backward = refl

-- the record that F,0 3 1 0,2 opens: 3 is skipped, 0 has two entries and one tree
opened-record : (initialize (fresh forward) (0 ∷ 3 ∷ 1 ∷ 0 ∷ []) (2 ∷ [])).search ≡ record {
  trees = entry_of 0 ∷ entry_of 1 ∷ entry_of 0 ∷ replicate 61 blank;
  tree_count = 3;
  goal_keys = 2 ∷ replicate 63 0;
  goal_count = 1;
  best_solution = None;
  exhausted = false;
}
unfolding initialize fresh
opened-record = refl

-- ---- on a fresh cache

-- F,0 1,2
both : row (order (fresh forward) (0 ∷ 1 ∷ []) (2 ∷ [])) ≡ record { reply = answered (solved 7 2); waits = 2; tickets = 6; path = 0 ∷ 0 ∷ 1 ∷ 1 ∷ 2 ∷ [] }
unfolding row order fresh
both = refl

reference-both : row (reference_order (fresh forward) (0 ∷ 1 ∷ []) (2 ∷ [])) ≡ record { reply = answered (solved 7 2); waits = 2; tickets = 6; path = 0 ∷ 0 ∷ 1 ∷ 1 ∷ 2 ∷ [] }
unfolding row reference_order fresh
reference-both = refl

-- F,0,0: the goal equals the start
self : row (order (fresh forward) (0 ∷ []) (0 ∷ [])) ≡ record { reply = answered (solved 0 0); waits = 2; tickets = 2; path = 0 ∷ [] }
unfolding row order fresh
self = refl

reference-self : row (reference_order (fresh forward) (0 ∷ []) (0 ∷ [])) ≡ record { reply = answered (solved 0 0); waits = 2; tickets = 2; path = 0 ∷ [] }
unfolding row reference_order fresh
reference-self = refl

-- ---- refused orders leave the cache as it was

-- F,0,4: vertex 4 is none of the four
no-such-vertex : order (fresh forward) (0 ∷ []) (4 ∷ []) ≡ turned_away (fresh forward) 3
unfolding order fresh
no-such-vertex = refl

-- 65 starts; 65 goals; of these one is no vertex too; and 64 of each pass
over-limit : order (fresh forward) (replicate 65 0) (2 ∷ []) ≡ turned_away (fresh forward) 4
unfolding order fresh
over-limit = refl

over-limit-goals : order (fresh forward) (0 ∷ []) (4 ∷ replicate 64 2) ≡ turned_away (fresh forward) 4
unfolding order fresh
over-limit-goals = refl

within-limit : row (order (fresh forward) (replicate 64 0) (replicate 64 2)) ≡ record { reply = answered (solved 7 2); waits = 2; tickets = 4; path = 0 ∷ 0 ∷ 1 ∷ 1 ∷ 2 ∷ [] }
unfolding row order fresh
within-limit = refl

-- one slot: two starts with an initial cost outnumber it, a start twice and one without an initial cost do not
trees-full : order (opened forward little 1) (0 ∷ 1 ∷ []) (2 ∷ []) ≡ turned_away (opened forward little 1) 6
unfolding order opened little
trees-full = refl

trees-fit : row (order (opened forward little 1) (0 ∷ 0 ∷ 3 ∷ []) (2 ∷ [])) ≡ record { reply = answered (solved 7 2); waits = 2; tickets = 4; path = 0 ∷ 0 ∷ 1 ∷ 1 ∷ 2 ∷ [] }
unfolding row order opened little
trees-fit = refl

-- ---- equal costs: the ticket of the lower node number is taken first

unfoldable pub double : Graph
double =
    record {
      initial = 0 ∷ absent ∷ absent ∷ [];
      edges = record { from = 0; to = 1; cost = 1 } ∷ record { from = 0; to = 1; cost = 1 } ∷ record { from = 0; to = 2; cost = 0 } ∷ [];
    }

ties : row (order (opened forward double 16) (0 ∷ []) (1 ∷ [])) ≡ record { reply = answered (solved 1 1); waits = 2; tickets = 4; path = 0 ∷ 0 ∷ 1 ∷ [] }
unfolding row order opened double
ties = refl

-- ---- where a port goes astray

-- two goals at equal cost: the second find replaces the first entry's solution, and is not strictly cheaper than the best
unfoldable pub fork : Graph
fork = record { initial = 0 ∷ absent ∷ absent ∷ []; edges = record { from = 0; to = 1; cost = 1 } ∷ record { from = 0; to = 2; cost = 1 } ∷ [] }

equal-finds : row (order (opened forward fork 16) (0 ∷ []) (1 ∷ 2 ∷ [])) ≡ record { reply = answered (solved 1 1); waits = 2; tickets = 3; path = 0 ∷ 1 ∷ 2 ∷ [] }
unfolding row order opened fork
equal-finds = refl

-- n edges of cost 1, from i on to the next
abbrev pub edges_from : ℕ → ℕ → List Edge
edges_from zero i = []
edges_from (suc n) i = record { from = i; to = suc i; cost = 1 } ∷ edges_from n (suc i)

-- from 0 straight to 13 at cost 50 and to 14 at cost 60, from 1 to 13 by twelve edges of cost 1
unfoldable pub detour : Graph
detour = record { initial = replicate 15 0; edges = record { from = 0; to = 13; cost = 50 } ∷ record { from = 0; to = 14; cost = 60 } ∷ edges_from 12 1 }

abbrev pub detour_path : List ℕ
detour_path = 1 ∷ 2 ∷ 2 ∷ 3 ∷ 3 ∷ 4 ∷ 4 ∷ 5 ∷ 5 ∷ 6 ∷ 6 ∷ 7 ∷ 7 ∷ 8 ∷ 8 ∷ 9 ∷ 9 ∷ 10 ∷ 10 ∷ 11 ∷ 11 ∷ 12 ∷ 12 ∷ 13 ∷ 13 ∷ []

-- F,0 1,13: the first find is not the best
cheaper-later : row (order (opened forward detour 16) (0 ∷ 1 ∷ []) (13 ∷ [])) ≡ record { reply = answered (solved 12 12); waits = 2; tickets = 16; path = detour_path }
unfolding row order opened detour
cheaper-later = refl

-- F,0,0 closes 0 and 13; then F,0 1,13: entry 0 finds by lookup in both steps, remembers nothing, and does not grow
unfoldable pub detour0 : Told
unfolding order opened detour
detour0 = order (opened forward detour 16) (0 ∷ []) (0 ∷ [])

looked-up-twice : row (order detour0.cache (0 ∷ 1 ∷ []) (13 ∷ [])) ≡ record { reply = answered (solved 12 12); waits = 2; tickets = 13; path = detour_path }
unfolding row order detour0
looked-up-twice = refl

-- from 0 to 4 at cost 1; from 1 to 2 at 3 and at 4, to 3 at 5, and on to 5
unfoldable pub dear : Graph
dear =
    record {
      initial = replicate 6 0;
      edges = record { from = 0; to = 4; cost = 1 }
          ∷ record { from = 1; to = 2; cost = 3 }
          ∷ record { from = 1; to = 2; cost = 4 }
          ∷ record { from = 1; to = 3; cost = 5 }
          ∷ record { from = 3; to = 5; cost = 1 }
          ∷ [];
    }

-- F,1,1 closes 1 and 2, and leaves a ticket of vertex 2 and one of vertex 3
unfoldable pub dear0 : Told
unfolding order opened dear
dear0 = order (opened forward dear 16) (1 ∷ []) (1 ∷ [])

-- F,0 1,4: of entry 1 the ticket of vertex 2 is skipped, above the bound as it is; then vertex 3 is closed, its edges are queued, and the
-- bound stops the growing
unfoldable pub dear1 : Told
unfolding dear0
dear1 = order dear0.cache (0 ∷ 1 ∷ []) (4 ∷ [])

skipped-above-bound : row dear1 ≡ record { reply = answered (solved 1 1); waits = 1; tickets = 4; path = 0 ∷ 0 ∷ 4 ∷ [] }
unfolding row dear1
skipped-above-bound = refl

-- F,1,5: so the edge to 5 waits
queued-above-bound : row (order dear1.cache (1 ∷ []) (5 ∷ [])) ≡ record { reply = answered (solved 6 2); waits = 1; tickets = 1; path = 1 ∷ 3 ∷ 3 ∷ 4 ∷ 5 ∷ [] }
unfolding row dear1
queued-above-bound = refl

-- the wait limit is met: of the empty graph, no tree, and one wait
abbrev pub nothing : Graph
nothing = record { initial = []; edges = [] }

limit-met : wait_limit forward nothing [] [] ≡ 1
unfolding wait_limit
limit-met = refl

-- ---- a call made of others makes them in their order: the trees of 0 and of 1 are planted one after the other, a call between them only reads

abbrev pub openings : Call
openings = bothCalls (bothCalls (initializing (0 ∷ []) []) reading) (initializing (1 ∷ []) [])

in_order : starts (after (fresh forward) openings).trees ≡ 0 ∷ 1 ∷ []
unfolding after fresh
in_order = refl

reference-in-order : starts (reference.after (fresh forward) openings).trees ≡ 0 ∷ 1 ∷ []
unfolding reference.after initialize fresh
reference-in-order = refl

only-reads : (c : Cache) → (after c reading ≡ c) × (reference.after c reading ≡ c)
unfolding after reference.after
only-reads c = (refl, refl)
