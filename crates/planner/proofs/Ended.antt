-- A search that was just opened on sound words is stepped to its end: it answers, and its path is written where the slice has room for it.
-- Assumes nothing.
use mathlib.Core.Path.{◌≡◌, refl, sym, ap, ap₂, ◌∙◌, subst}
use Rattle.std.specs.declared.result.Result.{Result}
use Rattle.model.specs.declared.Refusal.{Refusal}
use Rattle.std.specs.declared.option.Option.{Option}
use Rattle.std.specs.Prelude.{None, Some, Err, Ok}
use mathlib.Core.Bool.{Bool, true, false, ◌&&◌, true≢false}
use mathlib.Core.List.{List, Memᴰ}
use Prim.Native.Nat.{ℕ, zero, suc, ◌+◌, ◌*◌, ◌≤◌}
use native.Mathlib.Omega.{arith}
use borrow.Author.Tests.{ltb-true, ltb-false, le-ltb, le-leb, lt-leb}
use lib.Dec.{leb, ltb}
use lib.ListN.{length}
use Rattle.model.specs.declared.BestSolution.{BestSolution}
use Rattle.model.specs.declared.Planned.{Planned}
use Rattle.model.specs.declared.Search.{Search}
use Rattle.model.specs.declared.StepsTaken.{StepsTaken}
use Rattle.model.specs.Answers.{answered, is_answered, number, Status, solved, no_path, step_reply, retrace_reply}
use Rattle.model.specs.Graph.{Accepted, Domain, Direction}
use Rattle.model.specs.Tree.{Tree}
use Rattle.model.specs.Search.{walk}
use Rattle.model.specs.Valid.{valid}
use Rattle.model.specs.Calls.{Cache, or_else, AfterStep, step_if, step, AfterRetrace, retrace, final_status, status_at, is_best, shown, shown_by, shown_tree, solved_already, moves_at}
use Rattle.model.specs.Solve.{is_waiting, last_reply, AfterSteps, steps_from, solve, max_steps}
use Rattle.model.proofs.Replies.{answered-refused, answered-is}
use Rattle.model.proofs.Faults.{step-if, shown_as, retrace_as, retrace-as}
use Rattle.model.proofs.Turns.{unsolved-at}
use Rattle.model.proofs.Solve.{steps-wait, steps-end, solve-some}
use Rattle.model.proofs.Valid.{valid-at, own-valid}
use Rattle.model.proofs.Chain.{State, lefts, state-walk, walk-less}
use Rattle.layout.specs.Read.{read_cache}
use Rattle.sound.proofs.Facts.{sound-accepted, sound-words-at}
use Rattle.unchecked.specs.Run.{JustOpened}
use Rattle.unchecked.proofs.JustOpened.{OwnSearch, own-search}
use Rattle.dijkstra.specs.Calls.{Initializing, Retracing}
use Rattle.dijkstra.proofs.Demand1 as calls
use Rattle.dijkstra.proofs.Initialized as opening
use Rattle.planner.specs.Solve.{Solving}
use Rattle.planner.specs.Plan.{not_opened, to_the_end, CallsMade, Ends, HasPath, RetracesLater}
use Rattle.planner.proofs.Planned.{end, end_is, path-is, accepted-sound}

-- ---- a final answer

final-told : (t : Tree) (o : Option ℕ) → is_waiting (answered (status_at t o)) ≡ false
final-told t None = refl
final-told t (Some n) = refl

final-ends : (ts : List Tree) (s : Search) → is_waiting (answered (final_status ts s)) ≡ false
unfolding final_status
final-ends ts s = final-told (shown_tree ts s) (shown s)

no-path : (k m : ℕ) → no_path ≡ solved k m → ⊥
no-path k m e = let z : ◌≡◌ {A = ℕ} 0 1 = cc in omega arith

last-told : (w : ℕ) (x : Status) → last_reply w (answered x) ≡ answered x
last-told zero x = refl
last-told (suc w) x = refl

-- ---- the steps of a search's own record end, finished

pub record Ended (r : AfterSteps) : Type 0 where
  pub fine : valid r.cache.domain r.cache.trees r.search ≡ true
  pub done : r.search.exhausted ≡ true
  pub told : r.reply ≡ answered (final_status r.cache.trees r.search)

module _ (d : Domain) (acc : Accepted d.graph) (vs gs mine : List ℕ) (slots : ℕ) where
  abbrev at : List Tree → Cache
  at ts = record { domain = d; slots = slots; trees = ts }

  module _ (ts : List Tree) (s : Search) (st : State d vs gs mine ts s) where
    fine : valid d ts s ≡ true
    fine = own-valid (λ i. Memᴰ i mine) d ts st.sound s st.ready

    goes : {x : Bool} → s.exhausted ≡ x → step (at ts) s ≡ step_if x (at ts) s
    goes e = step-if (at ts) s fine ∙ ap (λ (x : Bool). step_if x (at ts) s) e

    ends_now : (n w t : ℕ) → s.exhausted ≡ true → Ended (steps_from (suc n) (at ts) s w t)
    ends_now n w t e =
        let last : is_waiting (step (at ts) s).reply ≡ false = ap (λ (r : AfterStep). is_waiting r.reply) (goes e) ∙ final-ends ts s in
        subst Ended (sym (steps-end (at ts) s w t n last))
        (subst (λ (r : AfterStep). Ended (record { cache = r.cache; search = r.search; reply = last_reply w r.reply; waits = w; tickets = t + r.tickets })) (sym (goes e))
        (record { fine = fine; done = e; told = last-told w (final_status ts s) }))

    waits-now : s.exhausted ≡ false → is_waiting (step (at ts) s).reply ≡ true
    waits-now e = ap (λ (r : AfterStep). is_waiting r.reply) (goes e)

  steps-ended : (n : ℕ) (ts : List Tree) (s : Search) (w t : ℕ) → State d vs gs mine ts s → (s.exhausted ≡ false → lefts d ts mine + 1 ≤ n)
      → Ended (steps_from (suc n) (at ts) s w t)
  steps-ended zero ts s w t st few = go s.exhausted refl
    where
      go : (x : Bool) → s.exhausted ≡ x → Ended (steps_from 1 (at ts) s w t)
      go true e = ends_now ts s st 0 w t e
      go false e = absurd (omega (arith, few e))
  steps-ended (suc n) ts s w t st few = go (λ k. steps-ended n (walk d ts s).trees (walk d ts s).search (w + 1) (t + (walk d ts s).tickets) (state-walk d acc vs gs mine ts s st) k) s.exhausted refl
    where
      go : (((walk d ts s).search.exhausted ≡ false → lefts d (walk d ts s).trees mine + 1 ≤ n)
          → Ended (steps_from (suc n) (at (walk d ts s).trees) (walk d ts s).search (w + 1) (t + (walk d ts s).tickets)))
          → (x : Bool) → s.exhausted ≡ x → Ended (steps_from (suc (suc n)) (at ts) s w t)
      go ih true e = ends_now ts s st (suc n) w t e
      go ih false e =
          subst Ended (sym (steps-wait (at ts) s w t (suc n) (waits-now ts s st e)))
          (subst (λ (r : AfterStep). Ended (steps_from (suc n) r.cache r.search (w + 1) (t + r.tickets))) (sym (goes ts s st e))
          (ih (λ f. omega (arith, walk-less d acc vs gs mine ts s st f, few e))))

-- ---- a search just opened has so few tickets left

own-ended : {ws : List ℕ} {s : Search} → OwnSearch ws s → Ended (solve max_steps (read_cache ws) s)
own-ended {ws} {s} o =
    let c : Cache = read_cache ws in
    subst Ended (sym (solve-some 131137 c s))
    (steps-ended c.domain (sound-accepted ws o.sound) o.vs o.gs o.mine c.slots 131137 c.trees s 0 0 o.state (λ e. omega (arith, o.few)))

module _ (ws ss gs p : List ℕ) {x : Search} {mid : List ℕ} (i : Initializing ws ss gs (Ok x) mid) {e : StepsTaken} {left : List ℕ}
    (s : Solving mid x max_steps e left) where
  just-opened : JustOpened mid x
  just-opened =
      let ok = accepted-sound ws ss gs p i in
      record { earlier = ws; ss = ss; gs = gs; sound = sound-words-at ws ok; opens = opening.as-sound ws ss gs ok (Ok x) mid i }

  pub end-ended : Ended (end ws ss gs p i s)
  end-ended = subst Ended (ap₂ (λ (c : Cache) (x : Search). solve max_steps c x) i.cache i.search) (own-ended (own-search just-opened))

  pub end-told : step_reply e.answer ≡ answered (final_status (end ws ss gs p i s).cache.trees (end ws ss gs p i s).search)
  end-told = s.answer ∙ ap (λ (y : AfterSteps). y.reply) (end_is ws ss gs p i s) ∙ end-ended.told

called-ends : {ws ss gs p : List ℕ} {r : Planned} {left q : List ℕ} → CallsMade ws ss gs p r left q → is_waiting (step_reply r.answer) ≡ false
called-ends (not_opened f i) = refl
called-ends {ws} {ss} {gs} {p} (to_the_end x e t i s k) = ap is_waiting (end-told ws ss gs p i s) ∙ final-ends _ _

pub ends : Ends
ends ws ss gs p r left q k = called-ends k.called

-- ---- the path

best-shown : (s : Search) (n : ℕ) (b : Option BestSolution) → shown_by s b ≡ Some n → is_best b ≡ true
best-shown s n None e = absurd (unsolved-at n e)
best-shown s n (Some b) e = refl

module _ (p : List ℕ) where
  has_room : (m : ℕ) (b : Bool) → ltb (length p) (1 + 2 * m) ≡ b → (dir : Direction) (t : Tree) (o : Option ℕ)
      → is_answered (shown_as (or_else b 10 None) dir t o p).reply ≡ leb (1 + 2 * m) (length p)
  has_room m true e dir t o = sym (lt-leb (1 + 2 * m) (length p) (ltb-true _ _ e))
  has_room m false e dir t o = sym (le-leb (1 + 2 * m) (length p) (ltb-false _ _ e))

  -- a finished search
  module _ (c : Cache) (s : Search) (fine : valid c.domain c.trees s ≡ true) (done : s.exhausted ≡ true) where
    abbrev t : Tree
    t = shown_tree c.trees s

    -- one that has no path has no best
    no-path-by : (b : Option BestSolution) → s.best_solution ≡ b → status_at t (shown s) ≡ no_path → is_answered (retrace c s p).reply ≡ false
    no-path-by None z e =
        ap (λ (r : AfterRetrace). is_answered r.reply)
        (retrace-as c s p ∙ ap₂ (λ (v x : Bool). retrace_as v x c.domain.direction t (shown s) p) fine (ap₂ (λ (x : Bool) (b : Option BestSolution). x && is_best b) done z))
    no-path-by (Some b) z e =
        let h = (valid-at c.domain c.trees s fine).held done b.entry b.node z in
        absurd (no-path _ _ (sym e ∙ ap (status_at t) (ap (shown_by s) z ∙ h.1)))

    not-shown : final_status c.trees s ≡ no_path → is_answered (retrace c s p).reply ≡ false
    unfolding final_status
    not-shown e = no-path-by s.best_solution refl e

    -- one that shows a node is refused by 10 alone
    shows-node : (n : ℕ) → shown s ≡ Some n → retrace c s p ≡ retrace_as true true c.domain.direction t (Some n) p
    shows-node n z =
        let best : solved_already s ≡ true = ap₂ (λ (x y : Bool). x && y) done (best-shown s n s.best_solution z) in
        retrace-as c s p
        ∙ ap₂ (λ (v x : Bool). retrace_as v x c.domain.direction t (shown s) p) fine best
        ∙ ap (λ (o : Option ℕ). retrace_as true true c.domain.direction t o p) z

    path-by : (k m : ℕ) (o : Option ℕ) → shown s ≡ o → status_at t o ≡ solved k m → is_answered (retrace c s p).reply ≡ leb (1 + 2 * m) (length p)
    path-by k m None z e = absurd (no-path k m e)
    path-by k m (Some n) z e =
        let same : moves_at t (Some n) ≡ m = cc in
        ap (λ (r : AfterRetrace). is_answered r.reply) (shows-node n z)
        ∙ has_room (moves_at t (Some n)) _ refl c.domain.direction t (Some n)
        ∙ ap (λ (j : ℕ). leb (1 + 2 * j) (length p)) same

    moves-by : (k m : ℕ) (o : Option ℕ) → shown s ≡ o → status_at t o ≡ solved k m → 1 + 2 * m ≤ length p → (retrace c s p).reply ≡ answered m
    moves-by k m None z e h = absurd (no-path k m e)
    moves-by k m (Some n) z e h =
        let same : moves_at t (Some n) ≡ m = cc in
        let fits : ltb (length p) (1 + 2 * moves_at t (Some n)) ≡ false = le-ltb (length p) _ (subst (λ (j : ℕ). 1 + 2 * j ≤ length p) (sym same) h) in
        ap (λ (r : AfterRetrace). r.reply) (shows-node n z ∙ ap (λ (b : Bool). shown_as (or_else b 10 None) c.domain.direction t (Some n) p) fits)
        ∙ ap answered same

    path-written : (k m : ℕ) → final_status c.trees s ≡ solved k m → is_answered (retrace c s p).reply ≡ leb (1 + 2 * m) (length p)
    unfolding final_status
    path-written k m e = path-by k m (shown s) refl e

    moves-told : (k m : ℕ) → final_status c.trees s ≡ solved k m → 1 + 2 * m ≤ length p → (retrace c s p).reply ≡ answered m
    unfolding final_status
    moves-told k m e = moves-by k m (shown s) refl e

-- a refused retrace leaves the slice
not_written : (left : List ℕ) (s : Search) (p : List ℕ) (t : Result ℕ Refusal) (q : List ℕ) → Retracing left s p t q → is_answered (retrace_reply t) ≡ false → q ≡ p
not_written left s p (Ok n) q k e = absurd (true≢false e)
not_written left s p (Err f) q k e = ((calls.demand-1).2 left s p (Err f) q k f refl).0

module _ {ws ss gs p : List ℕ} where
  room : {r : Planned} {left q : List ℕ} → CallsMade ws ss gs p r left q
      → (c m : ℕ) → step_reply r.answer ≡ answered (solved c m) → r.has_path ≡ leb (1 + 2 * m) (length p)
  room (not_opened f i) c m told = absurd (answered-refused (solved c m) (number f) 0 (sym told))
  room (to_the_end y e x i s k) c m told =
      let h = end-ended ws ss gs p i s in
      let y : AfterSteps = end ws ss gs p i s in
      ap (λ (z : AfterRetrace). is_answered z.reply) (k ∙ path-is ws ss gs p i s)
      ∙ path-written p y.cache y.search h.fine h.done c m (answered-is _ _ (sym (end-told ws ss gs p i s) ∙ told))

  none-shown : {r : Planned} {left q : List ℕ} → CallsMade ws ss gs p r left q → step_reply r.answer ≡ answered no_path → r.has_path ≡ false
  none-shown (not_opened f i) told = refl
  none-shown (to_the_end y e x i s k) told =
      let h = end-ended ws ss gs p i s in
      let y : AfterSteps = end ws ss gs p i s in
      ap (λ (z : AfterRetrace). is_answered z.reply) (k ∙ path-is ws ss gs p i s)
      ∙ not-shown p y.cache y.search h.fine h.done (answered-is _ _ (sym (end-told ws ss gs p i s) ∙ told))

  slice_kept : {r : Planned} {left q : List ℕ} → CallsMade ws ss gs p r left q → r.has_path ≡ false → q ≡ p
  slice_kept (not_opened f i) z = refl
  slice_kept (to_the_end {left = l} {q = q} y e x i s k) z = not_written l e.search p x q k z

pub has-path : HasPath
has-path ws ss gs p r left q k = (room k.called, none-shown k.called, slice_kept k.called)

-- ---- a later retrace

called-retraces : {ws ss gs p : List ℕ} {r : Planned} {left q : List ℕ} → CallsMade ws ss gs p r left q → (c m : ℕ) → step_reply r.answer ≡ answered (solved c m)
    → (p' : List ℕ) (t : Result ℕ Refusal) (q' : List ℕ) → Retracing left r.search p' t q' → 1 + 2 * m ≤ length p' → retrace_reply t ≡ answered m
called-retraces (not_opened f i) c m told p' u q' later fits = absurd (answered-refused (solved c m) (number f) 0 (sym told))
called-retraces {ws} {ss} {gs} (to_the_end y e x i s k) c m told p' u q' later fits =
    let h = end-ended ws ss gs p' i s in
    let y : AfterSteps = end ws ss gs p' i s in
    ap (λ (z : AfterRetrace). z.reply) (later ∙ path-is ws ss gs p' i s)
    ∙ moves-told p' y.cache y.search h.fine h.done c m (answered-is _ _ (sym (end-told ws ss gs p' i s) ∙ told)) fits

pub retraces-later : RetracesLater
retraces-later ws ss gs p r left q k = called-retraces k.called
