-- The loop of `solve`: the steps so far all waited, and the record passes all but the last test of refusal 8.
-- Assumes nothing.
use mathlib.Core.Path.{◌≡◌, refl, sym, ap, ◌∙◌, subst}
use Rattle.model.specs.declared.SearchStatus.{SearchStatus}
use Rattle.std.specs.declared.result.Result.{Result}
use Rattle.model.specs.declared.Refusal.{Refusal}
use Rattle.std.specs.Prelude.{Err, Ok}
use Rattle.std.specs.declared.option.Option.{Option}
use mathlib.Core.Logic.{◌⊎◌, inl, inr}
use mathlib.Core.Bool.{Bool, true, false, not, ◌||◌, true≢false}
use mathlib.Core.List.{List}
use Prim.Native.Nat.{ℕ, ◌+◌, ◌<◌, ◌≤◌}
use native.Mathlib.Omega.{arith}
use lib.ListN.{length}
use Rattle.model.specs.declared.Refusal.TheVariants.{InvalidSearch}
use Rattle.model.specs.declared.SearchStatus.TheVariants.{Incomplete}
use Rattle.model.specs.declared.BestSolution.{BestSolution}
use Rattle.model.specs.declared.Search.{Search}
use Rattle.model.specs.Answers.{Reply, answered, Status, waiting, step_reply}
use Rattle.model.specs.Search.{entry, walk}
use Rattle.model.specs.Valid.{is_held, best_held, almost, valid}
use Rattle.model.specs.Calls.{Cache, step, final_status}
use Rattle.model.specs.Solve.{is_waiting, last_reply}
use Rattle.model.proofs.Solve.{told-answered, told-refused}
use Rattle.model.proofs.StaysValid.{valid-almost, almost-valid, walk-almost}
use Rattle.layout.specs.Read.{read_cache}
use Rattle.sound.specs.Facts.{SoundWords}
use Rattle.sound.proofs.Facts.{sound-accepted, sound-cache}
use Rattle.memory.specs.declared.Shown.{Shown}
use Rattle.memory.specs.Standing.{shown_at, Shows}
use Rattle.memory.proofs.Fits.{almost-fits}
use Rattle.entry_turns.specs.declared.Turned.{Turned}
use Rattle.entry_turns.specs.Turn.{CanStep, Steps, best_entry}
use Rattle.unchecked.specs.Shown.{shown_of, status_of, last_status, last_answer}
use Rattle.unchecked.specs.Step.{Advances}
use Rattle.unchecked.specs.Solve.{Solves}
use Rattle.model.specs.Steps.{Waited, at_first, once_more, all_wait}
use Rattle.unchecked.proofs.ShownNode.{shown-cases, status-is, holder-is, shows}
use Rattle.unchecked.proofs.Advanced.{not_valid, finished, final-answers, waits-valid, waits-unfinished, walked}
use Rattle.unchecked.proofs.Waits.{unmoved, Stays, waited-stays}
use Rattle.unchecked.proofs.Solved.{made-solves, ends-here}

-- ---- a finished record that passes all but the last test: a step answers what is told, or it is refused and the search is told to wait

module _ (c : Cache) (s : Search) (fine : almost c.domain c.trees s ≡ true) (done : s.exhausted ≡ true) where
  abbrev told : Reply Status
  told = let b = s.best_solution in last_answer c.trees b (entry s (best_entry b))

  record Told (x : Status) : Type 0 where
    passes : valid c.domain c.trees s ≡ true
    is : told ≡ answered x

  record Refused : Type 0 where
    fails : valid c.domain c.trees s ≡ false
    is : told ≡ answered waiting

  held : valid c.domain c.trees s ≡ best_held s s.best_solution
  held = almost-valid c.domain c.trees s fine ∙ ap (λ (x : Bool). not x || best_held s s.best_solution) done

  by : {b : Option BestSolution} → s.best_solution ≡ b → told ≡ last_answer c.trees b (entry s (best_entry b))
  by e = ap (λ (b : Option BestSolution). last_answer c.trees b (entry s (best_entry b))) e

  at : (i : ℕ) {o : Option ℕ} → (entry s i).solution ≡ o
      → answered (last_status c.trees (shown_at (entry s i) (entry s i).solution)) ≡ answered (last_status c.trees (shown_at (entry s i) o))
  at i e = ap (λ (o : Option ℕ). answered (last_status c.trees (shown_at (entry s i) o))) e

  told-cases : Told (final_status c.trees s) ⊎ Refused
  told-cases = subst (λ (x : Status). Told x ⊎ Refused) (status-is c.trees s)
      (shown-cases s (λ (x : Option Shown). Told (status_of c.trees x) ⊎ Refused)
      (λ b. inl (record { passes = held ∙ ap (best_held s) b; is = by b }))
      (λ i n b e. inr (record { fails = held ∙ ap (best_held s) b ∙ ap is_held e; is = by b ∙ at i e }))
      (λ i n h b e. inl (record { passes = held ∙ ap (best_held s) b ∙ ap is_held e; is = by b ∙ at i e })))

-- ---- the loop

-- w steps of at most n, with t tickets, led from ws and s to words and next; the first one waits
pub record Underway (ws : List ℕ) (s : Search) (n : ℕ) (words : List ℕ) (next : Search) (w t : ℕ) : Type 0 where
  pub ok : SoundWords ws
  pub first : is_waiting (step (read_cache ws) s).reply ≡ true
  pub waited : Waited Advances ws s w t words next
  pub fine : almost (read_cache words).domain (read_cache words).trees next ≡ true
  pub within : w ≤ n

pub going-first : {ws : List ℕ} {s : Search} {n : ℕ} → SoundWords ws → (a : Result SearchStatus Refusal) → step_reply a ≡ (step (read_cache ws) s).reply → is_waiting (step_reply a) ≡ true
    → Underway ws s n ws s 0 0
going-first {ws} {s} ok a stands e =
    let first = ap is_waiting (sym stands) ∙ e in
    record { ok = ok; first = first; waited = at_first; fine = valid-almost _ _ s (waits-valid (read_cache ws) s first); within = omega arith }

module _ {ws : List ℕ} {s : Search} {n : ℕ} {words : List ℕ} {next : Search} {w t : ℕ} (g : Underway ws s n words next w t) where
  abbrev c : Cache
  c = read_cache words

  stays : Stays ws s w t words next
  stays = waited-stays g.ok g.waited

  pub going-length : length words ≡ length ws
  going-length = stays.apart.len

  pub going-can : CanStep words next
  going-can = record { sound = stays.sound; fits = almost-fits words next stays.sound g.fine }

  pub going-ends : n ≤ w → Solves ws s n (record { answer = Ok Incomplete; waits = n; tickets = t; search = next }) words
  going-ends h =
      let e : n ≡ w = omega (arith, h, g.within) in
      let all = made-solves ws s g.ok (all_wait g.waited (λ _. g.first)) in
      rw e all

  -- one step more
  module _ (unfinished : next.exhausted ≡ false) {r : Turned} {left : List ℕ} (p : Steps words next r left) where
    passes : valid c.domain c.trees next ≡ true
    passes = almost-valid c.domain c.trees next g.fine ∙ ap (λ (x : Bool). not x || best_held next next.best_solution) unfinished

    pub going-advances : Advances words next (record { answer = Ok Incomplete; tickets = r.tickets; search = r.search }) left
    going-advances = walked words next passes unfinished p

    fine-left : almost (read_cache left).domain (read_cache left).trees r.search ≡ true
    fine-left =
        subst (λ (x : Cache). almost x.domain x.trees r.search ≡ true) (sym p.cache)
        (subst (λ (x : Search). almost c.domain (walk c.domain c.trees next).trees x ≡ true) (sym p.search)
        (walk-almost c.domain (sound-accepted words stays.sound) c.trees (sound-cache words stays.sound).trees next g.fine))

    pub going_more : w < n → Underway ws s n left r.search (w + 1) (t + r.tickets)
    going_more h = record {
      ok = g.ok;
      first = g.first;
      waited = once_more (record { answer = Ok Incomplete; tickets = r.tickets; search = r.search }) g.waited going-advances refl;
      fine = fine-left;
      within = omega arith;
    }

  -- ---- the end, with the entry j that found the best

  module _ (done : next.exhausted ≡ true) {j : ℕ} (holder : j ≡ best_entry next.best_solution) where
    pub going-shows : Shows words (shown_of next.best_solution (entry next j))
    going-shows = rw (holder-is next holder) (shows going-can)

    -- no search is finished before its first step
    some : w ≡ 0 → ⊥
    some none = true≢false (sym done ∙ ap (λ (x : Search). x.exhausted) (unmoved g.waited none).search ∙ waits-unfinished (read_cache ws) s g.first)

    pub going-answers : w < n → {b : Result SearchStatus Refusal} → step_reply b ≡ last_answer c.trees next.best_solution (entry next j)
        → Solves ws s n (record { answer = b; waits = w; tickets = t; search = next }) words
    going-answers h {b} e = go (told-cases c next g.fine done)
      where
        says : step_reply b ≡ told c next g.fine done
        says = e ∙ ap (λ (k : ℕ). last_answer c.trees next.best_solution (entry next k)) holder

        final : Status
        final = final_status c.trees next

        go : Told c next g.fine done final ⊎ Refused c next g.fine done → Solves ws s n (record { answer = b; waits = w; tickets = t; search = next }) words
        go (inl x) =
            let is : step_reply b ≡ answered final = says ∙ x.is in
            ends-here ws s g.ok (omega arith) g.waited b (is ∙ sym (finished c next x.passes done)) (ap is_waiting is ∙ final-answers c next)
            (is ∙ sym (ap (last_reply w) is ∙ told-answered w final))
        go (inr x) =
            ends-here ws s g.ok (omega arith) g.waited (Err InvalidSearch) (sym (not_valid c next x.fails)) refl
            (says ∙ x.is ∙ sym (told-refused w 8 0 some))
