-- Refusal 8, "strange search", clause by clause: the tests that a record passes exactly if it is not refused so.
-- Assumes nothing.
use Rattle.std.specs.Prelude.{Bool, true, false, not, ◌&&◌, ◌||◌, List, [], ◌∷◌, ◌++◌, ℕ, suc, eqb, leb, ltb, length, None, Some}
use Rattle.std.specs.declared.option.Option.{Option}
use Rattle.model.specs.Limits.{list_limit}
use Rattle.model.specs.declared.BestSolution.{BestSolution}
use Rattle.model.specs.declared.TreeMemory.{TreeMemory}
use Rattle.model.specs.declared.Search.{Search}
use Rattle.model.specs.Lists.{mem, allb, all_below}
use Rattle.model.specs.Graph.{Domain, vertex_count}
use Rattle.model.specs.Tree.{Tree, node, closed_at}
use Rattle.model.specs.Sound.{tree}
use Rattle.model.specs.Search.{entry, entries, goals, solution_cost, bound}

-- "or a list 64": at most 64 entries and 64 goals. That the arrays have 64 elements is so of every struct
abbrev pub list_tests : Search → List Bool
list_tests s = eqb (length s.trees) list_limit ∷ leb s.tree_count list_limit ∷ eqb (length s.goal_keys) list_limit ∷ leb s.goal_count list_limit ∷ []

-- "a remembered count passes M"
abbrev pub known_within : Domain → Option ℕ → Bool
known_within d None = true
known_within d (Some n) = leb n (vertex_count d.graph)

-- node n of t is "the closed node of a wanted motif"
unfoldable pub closes_goal : List ℕ → Tree → ℕ → Bool
unfolding mem
closes_goal gs t n = mem (node t.nodes n).vertex gs && eqb (closed_at t.closed (node t.nodes n).vertex) (suc n)

abbrev pub solution_closes : List ℕ → Tree → Option ℕ → Bool
solution_closes gs t None = true
solution_closes gs t (Some n) = closes_goal gs t n

-- "an entry's tree is not in use, a remembered count passes M .. an entry's run, .. is not the closed node of a wanted motif"
abbrev pub entry_tests : Domain → List Tree → List ℕ → TreeMemory → List Bool
entry_tests d ts gs e = ltb e.tree (length ts) ∷ known_within d e.last_known_closed_len ∷ solution_closes gs (tree ts e.tree) e.solution ∷ []

unfoldable pub everyb : (TreeMemory → Bool) → List TreeMemory → Bool
everyb p [] = true
everyb p (e ∷ es) = p e && everyb p es

-- "or the best in its entry's tree"; its entry is one of the entries
abbrev pub best_tests : List Tree → Search → ℕ → ℕ → List Bool
best_tests ts s i n = ltb i s.tree_count ∷ closes_goal (goals s) (tree ts (entry s i).tree) n ∷ []

abbrev pub best_closes : List Tree → Search → Option BestSolution → Bool
best_closes ts s None = true
best_closes ts s (Some b) = allb (best_tests ts s b.entry b.node)

-- what the solution held costs; the lesser of two costs, where there may be none
abbrev pub held_cost : Domain → Tree → Option ℕ → Option ℕ
held_cost d t None = None
held_cost d t (Some n) = Some (solution_cost d t.nodes n)

abbrev pub pick_cost : Bool → ℕ → ℕ → Option ℕ
pick_cost true a b = Some a
pick_cost false a b = Some b

abbrev pub lesser : Option ℕ → Option ℕ → Option ℕ
lesser None o = o
lesser (Some a) None = Some a
lesser (Some a) (Some b) = pick_cost (leb a b) a b

unfoldable pub least_held : Domain → List Tree → List TreeMemory → Option ℕ
least_held d ts [] = None
least_held d ts (e ∷ es) = lesser (held_cost d (tree ts e.tree) e.solution) (least_held d ts es)

abbrev pub same_cost : Option ℕ → Option ℕ → Bool
same_cost None None = true
same_cost None (Some b) = false
same_cost (Some a) None = false
same_cost (Some a) (Some b) = eqb a b

-- "or a search finished as solved holds no run": the solution held by the best's entry is the one answered
abbrev pub is_held : Option ℕ → Bool
is_held None = false
is_held (Some n) = true

abbrev pub best_held : Search → Option BestSolution → Bool
best_held s None = true
best_held s (Some b) = is_held (entry s b.entry).solution

-- every clause but that one
abbrev pub almost_tests : Domain → List Tree → Search → List Bool
almost_tests d ts s =
    allb (list_tests s)
    ∷ all_below (vertex_count d.graph) (goals s)
    ∷ everyb (λ e. allb (entry_tests d ts (goals s) e)) (entries s)
    ∷ best_closes ts s s.best_solution
    ∷ same_cost (bound d ts s) (least_held d ts (entries s))
    ∷ []

unfoldable pub almost : Domain → List Tree → Search → Bool
unfolding everyb closes_goal least_held
almost d ts s = allb (almost_tests d ts s)

abbrev pub valid_tests : Domain → List Tree → Search → List Bool
valid_tests d ts s = almost_tests d ts s ++ ((not s.exhausted || best_held s s.best_solution) ∷ [])

unfoldable pub valid : Domain → List Tree → Search → Bool
unfolding everyb closes_goal least_held
valid d ts s = allb (valid_tests d ts s)
