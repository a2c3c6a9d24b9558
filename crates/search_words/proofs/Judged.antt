-- The tests of a record, one after the other, as the code makes them.
-- Assumes nothing.
use mathlib.Core.Path.{◌≡◌, refl, sym, ◌∙◌}
use mathlib.Core.Bool.{Bool, true, false, not}
use mathlib.Core.List.{List}
use Prim.Native.Nat.{ℕ, ◌+◌, ◌<◌, ◌≤◌}
use borrow.Author.Tests.{le-leb, lt-leb, not-true, not-false}
use lib.ListN.{length, get_or}
use Rattle.model.specs.Limits.{list_limit}
use Rattle.model.specs.Lists.{upto}
use Rattle.model.proofs.InTurn.{read-fails, read-last}
use Rattle.search_words.specs.Record.{best_at, record_words, bestb, entryb, record_tests, is_record}

pub too_few : (ws : List ℕ) → length ws < record_words → false ≡ is_record ws
unfolding is_record
too_few ws h = read-fails {cs = record_tests ws} refl 0 (lt-leb record_words (length ws) h)

pub no-mark : (ws : List ℕ) → 1 < get_or ws 0 0 → false ≡ is_record ws
unfolding is_record
no-mark ws h = read-fails {cs = record_tests ws} refl 1 (lt-leb (get_or ws 0 0) 1 h)

pub no-best : (ws : List ℕ) (b : Bool) → b ≡ bestb (get_or ws best_at 0) (get_or ws (best_at + 1) 0) (get_or ws (best_at + 2) 0) → not b ≡ true → false ≡ is_record ws
unfolding is_record
no-best ws b e h = read-fails {cs = record_tests ws} refl 2 (sym e ∙ not-true b h)

pub by_entries : (ws : List ℕ) (b x : Bool) → record_words ≤ length ws → get_or ws 0 0 ≤ 1 → b ≡ bestb (get_or ws best_at 0) (get_or ws (best_at + 1) 0) (get_or ws (best_at + 2) 0)
    → not b ≡ false → x ≡ upto (entryb ws) list_limit → x ≡ is_record ws
unfolding is_record
by_entries ws b x n m e h q = q ∙ read-last {cs = record_tests ws} refl 3 refl (le-leb record_words (length ws) n) (le-leb (get_or ws 0 0) 1 m) (sym e ∙ not-false b h)
