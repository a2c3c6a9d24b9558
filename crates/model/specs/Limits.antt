-- 01's limits, beside its sentences. src/limits.rt has the same numbers for the code.
-- Assumes nothing.
use Rattle.std.specs.Prelude.{ℕ, ◌*◌}

-- "At most 1,024 motifs and 2,048 links; start cost and picks at most 999,999."
abbrev pub vertex_limit : ℕ
vertex_limit = 1024

abbrev pub edge_limit : ℕ
edge_limit = 2048

abbrev pub cost_limit : ℕ
cost_limit = 999999

-- "T tree slots, 1 to 64"
abbrev pub slot_limit : ℕ
slot_limit = 64

-- "Opening takes start and wanted lists, 0 to 64 motifs each.": so a search has at most as many entries, and goals
abbrev pub list_limit : ℕ
list_limit = 64

-- "the entry takes at most ten tickets": so many does a step take at most
abbrev pub step_tickets : ℕ
step_tickets = list_limit * 10
