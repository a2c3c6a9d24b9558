-- The arrays of a record are as long as its type says.
-- Assumes nothing.
use mathlib.Core.Path.{◌≡◌}
use mathlib.Core.List.{List}
use lib.ListN.{length}
use mir.Val.{Val}
use denote.Laws.{Is}
use denote.Struct.Declared.{row}
use Rattle.model.specs.declared.Search.{Search}
use Rattle.model.specs.contracts.Search as search-type

pub arrays-long : (s : Search) (vs : List Val) → Is (row search-type.the_type) s vs → (length s.trees ≡ 64) × (length s.goal_keys ≡ 64)
arrays-long s vs g =
    (g.1.1.0.1.0.1, g.1.1.1.1.0.1.0.1)
