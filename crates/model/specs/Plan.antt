-- A whole search by one call: what `plan` means on a cache. It is `initialize`, steps to the end (`solve`) and `retrace`, one after the other.
-- Assumes nothing.
use Rattle.std.specs.Prelude.{Bool, false, List, ℕ}
use Rattle.model.specs.declared.Search.{Search}
use Rattle.model.specs.Answers.{Reply, answered, refused, is_answered, Status}
use Rattle.model.specs.Calls.{Cache, AfterInitialize, initialize, retrace}
use Rattle.model.specs.Solve.{solve, max_steps}

-- reply: the answer of the last step, or the opening's refusal; hasPath: whether the path was written; waits: how many steps waited;
-- tickets: those of all; path: what the path's slice holds then
pub record AfterPlan : Type 0 where
  pub cache : Cache
  pub search : Search
  pub reply : Reply Status
  pub has_path : Bool
  pub waits : ℕ
  pub tickets : ℕ
  pub path : List ℕ

-- after an opening, by its reply: one that is refused ends the search; else it is stepped to its end, and its path is written to the slice p
-- where `retrace` writes it
abbrev pub plan_from : Reply (Unit {0}) → AfterInitialize → List ℕ → AfterPlan
plan_from (refused n line) o p =
    record { cache = o.cache; search = o.search; reply = refused n line; has_path = false; waits = 0; tickets = 0; path = p }
plan_from (answered u) o p =
    let e = solve max_steps o.cache o.search in
    let t = retrace e.cache e.search p in
    record {
      cache = e.cache;
      search = e.search;
      reply = e.reply;
      has_path = is_answered t.reply;
      waits = e.waits;
      tickets = e.tickets;
      path = t.path;
    }

-- a search from the starts ss to the goals gs, opened and gone on with as its opening replies; p is the path's slice
abbrev pub plan : Cache → List ℕ → List ℕ → List ℕ → AfterPlan
plan c ss gs p = let o = initialize c ss gs in plan_from o.reply o p
