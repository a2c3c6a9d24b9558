-- The loop of `run_opened`: the steps so far all waited, the record is the search's own, and the tickets left in its trees grow fewer.
-- Assumes nothing.
use mathlib.Core.Path.{◌≡◌, refl, sym, ap, ◌∙◌, subst}
use Rattle.std.specs.declared.option.Option.{Option}
use Rattle.std.specs.Prelude.{Ok, None, Some}
use mathlib.Core.Bool.{true, false}
use mathlib.Core.List.{List, Memᴰ}
use Prim.Native.Nat.{ℕ, ◌+◌, ◌≤◌}
use native.Mathlib.Omega.{arith}
use lib.ListN.{length}
use Rattle.model.specs.declared.SearchStatus.{SearchStatus}
use Rattle.model.specs.declared.SearchStatus.TheVariants.{Incomplete}
use Rattle.model.specs.declared.Search.{Search}
use Rattle.model.specs.declared.Stepped.{Stepped}
use Rattle.model.specs.Answers.{answered, status, step_reply}
use Rattle.model.specs.Graph.{Accepted}
use Rattle.model.specs.Search.{walk}
use Rattle.model.specs.Valid.{valid}
use Rattle.model.specs.Calls.{Cache, step}
use Rattle.model.specs.Solve.{is_waiting, max_steps}
use Rattle.model.proofs.Solve.{told-answered}
use Rattle.model.proofs.Valid.{own-valid}
use Rattle.model.proofs.Chain.{State, lefts, state-walk, walk-less}
use Rattle.layout.specs.Read.{read_cache}
use Rattle.sound.proofs.Facts.{sound-accepted}
use Rattle.memory.proofs.Fits.{valid-fits}
use Rattle.entry_turns.specs.declared.Turned.{Turned}
use Rattle.entry_turns.specs.Turn.{CanStep, Steps}
use Rattle.memory.specs.declared.Shown.{Shown}
use Rattle.unchecked.specs.Step.{Advances}
use Rattle.unchecked.specs.Solve.{Solves}
use Rattle.model.specs.Steps.{Waited, at_first, once_more}
use Rattle.memory.specs.Standing.{shown_in, Shows}
use Rattle.unchecked.specs.Shown.{status_of}
use Rattle.unchecked.specs.Retrace.{retrace_shown}
use Rattle.unchecked.specs.Run.{ticket_limit, JustOpened, RunsToEnd}
use Rattle.unchecked.proofs.ShownNode.{shows, status-is}
use Rattle.unchecked.proofs.Advanced.{finished, walked}
use Rattle.unchecked.proofs.Waits.{Stays, waited-stays, waited-few}
use Rattle.unchecked.proofs.Solved.{ends-here}
use Rattle.unchecked.proofs.Retraced.{shown-retraced}
use Rattle.unchecked.proofs.JustOpened.{OwnSearch, own-search}

-- the tickets that are left in the trees with slots mine
abbrev left_in : List ℕ → List ℕ → ℕ
left_in words mine = lefts (read_cache words).domain (read_cache words).trees mine

-- w steps, with t tickets, led from ws and s to words and next
pub record Running (ws : List ℕ) (s : Search) (words : List ℕ) (next : Search) (w t : ℕ) : Type 0 where
  pub from : OwnSearch ws s
  pub waited : Waited Advances ws s w t words next
  pub state : State (read_cache words).domain from.vs from.gs from.mine (read_cache words).trees next
  pub left : next.exhausted ≡ false → w + left_in words from.mine ≤ ticket_limit
  pub within : w ≤ 1 + ticket_limit

pub running-first : {ws : List ℕ} {s : Search} → JustOpened ws s → Running ws s ws s 0 0
running-first j =
    let o = own-search j in
    record { from = o; waited = at_first; state = o.state; left = λ e. omega (arith, o.few); within = omega arith }

module _ {ws : List ℕ} {s : Search} {words : List ℕ} {next : Search} {w t : ℕ} (g : Running ws s words next w t) where
  abbrev c : Cache
  c = read_cache words

  abbrev vs : List ℕ
  vs = g.from.vs

  abbrev gs : List ℕ
  gs = g.from.gs

  abbrev mine : List ℕ
  mine = g.from.mine

  stays : Stays ws s w t words next
  stays = waited-stays g.from.sound g.waited

  pub running-length : length words ≡ length ws
  running-length = stays.apart.len

  -- the record is valid, by theorem
  fine : valid c.domain c.trees next ≡ true
  fine = own-valid (λ i. Memᴰ i mine) c.domain c.trees g.state.sound next g.state.ready

  pub running-can : CanStep words next
  running-can = record { sound = stays.sound; fits = valid-fits words next stays.sound fine }

  -- ---- one step more

  module _ (unfinished : next.exhausted ≡ false) {r : Turned} {left : List ℕ} (p : Steps words next r left) where
    abbrev stepped : Stepped
    stepped = record { answer = Ok Incomplete; tickets = r.tickets; search = r.search }

    pub running-advances : Advances words next stepped left
    running-advances = walked words next fine unfinished p

    acc : Accepted c.domain.graph
    acc = sound-accepted words stays.sound

    less : r.search.exhausted ≡ false → left_in left mine + 1 ≤ left_in words mine
    less e =
        let h = walk-less c.domain acc vs gs mine c.trees next g.state (ap (λ (x : Search). x.exhausted) (sym p.search) ∙ e) in
        omega (arith, h, ap (λ (x : Cache). lefts x.domain x.trees mine) p.cache)

    pub running_more : Running ws s left r.search (w + 1) (t + r.tickets)
    running_more = record {
      from = g.from;
      waited = once_more stepped g.waited running-advances refl;
      state = subst (λ (x : Cache). State x.domain vs gs mine x.trees r.search) (sym p.cache)
          (subst (State c.domain vs gs mine (walk c.domain c.trees next).trees) (sym p.search) (state-walk c.domain acc vs gs mine c.trees next g.state));
      left = λ e. omega (arith, less e, g.left unfinished);
      within = omega (arith, g.left unfinished);
    }

  -- ---- the end

  module _ (done : next.exhausted ≡ true) {x : Option Shown} (is : x ≡ shown_in next) where
    pub running-shows : Shows words x
    running-shows = rw is (shows running-can)

    module _ (a : SearchStatus) (e : status a ≡ status_of c.trees x) where
      stands : step_reply (Ok a) ≡ (step c next).reply
      stands = ap answered (e ∙ ap (status_of c.trees) is ∙ status-is c.trees next) ∙ sym (finished c next fine done)

      answers : (y : Option Shown) → is_waiting (answered (status_of c.trees y)) ≡ false
      answers None = refl
      answers (Some x) = refl

      last : is_waiting (step_reply (Ok a)) ≡ false
      last = ap (λ z. is_waiting (answered z)) e ∙ answers x

      solves : Solves ws s max_steps (record { answer = Ok a; waits = w; tickets = t; search = next }) words
      solves = ends-here ws s g.from.sound g.within g.waited (Ok a) stands last (sym (told-answered w (status a)))

      pub running-ends : RunsToEnd ws s (record { answer = Ok a; waits = w; tickets = t; shown = x; search = next }) words
      running-ends = record {
        solves = solves;
        waits = g.within;
        tickets = waited-few g.waited;
        shows = running-shows;
        answers = ap answered e;
        retraces = λ p. shown-retraced words next p fine done ∙ ap (λ (y : Option Shown). retrace_shown words y p) (sym is);
      }
