-- A chain of one search's own steps and retraces among other calls: what its events are, and the state in which it is finished.
-- Assumes nothing.
use mathlib.Core.Path.{◌≡◌, refl, sym, ap, ap₂, ◌∙◌, subst}
use Rattle.std.specs.declared.option.Option.{Option}
use Rattle.std.specs.Prelude.{None, Some}
use mathlib.Core.Logic.{◌⊎◌, inl, inr}
use mathlib.Core.Bool.{Bool, true, false, ◌&&◌}
use mathlib.Core.List.Memᴰ
use mathlib.Core.List.{List, [], ◌∷◌, ◌++◌, Memᴰ}
use Prim.Native.Nat.{ℕ, suc, ◌+◌, ◌-◌, ◌*◌, ◌<◌, ◌≤◌}
use native.Mathlib.Omega.{arith}
use lib.Dec.{ltb}
use lib.ListN.{length}
use Rattle.model.specs.declared.BestSolution.{BestSolution}
use Rattle.model.specs.declared.Search.{Search}
use Rattle.model.specs.Lists.{mem}
use Rattle.model.specs.Answers.{Reply, answered, Status, waiting, solved}
use Rattle.model.specs.Graph.{Graph, Domain, Direction, forward, backward, Accepted, Leads, path_words, edge_count}
use Rattle.model.specs.Tree.{Tree, node}
use Rattle.model.specs.Path.{path, words}
use Rattle.model.specs.Sound.{tree, Sound, SoundTrees}
use Rattle.model.specs.Search.{solution_cost, entry, goals, bound_of, bound, Walk, walk, as_best}
use Rattle.model.specs.Calls.{Cache, step_if, step, AfterStep, final_status, status_at, shown, shown_by, shown_tree, shown_tree_by, is_best, retrace, AfterRetrace}
use Rattle.model.specs.Demands.{Call, after, Act, own_step, own_retrace, other, Event, stepped, retraced, events, Outcome, unreachable, reached, status_of, not_solved, shown_if, shown_of, Early, Late, Every, steps}
use Rattle.model.proofs.Worth.{path_worth}
use Rattle.model.proofs.Later.{path-later}
use Rattle.model.proofs.Room.{nodes-le, queue-le}
use Rattle.model.proofs.Turns.{Holds, Under}
use Rattle.model.proofs.Faults.{step-if, shown_with, retrace_as, retrace-as, retrace-shown}
use Rattle.model.proofs.Keeps.{AllLater, Keeps, walk-length, KeptCache, after-keeps}
use Rattle.model.proofs.Rounds.{BestsOk, Ready, ready-later, Gave, Walked, walked}
use Rattle.model.proofs.Valid.{own-valid}
use Rattle.model.proofs.Opens.{Allowed, Own}
use Rattle.model.proofs.Reversed.{back, back-length}

-- ---- how many tickets are left in the search's trees

unfoldable pub left : Domain → Tree → ℕ
left d t = 1 + edge_count d.graph + length t.waiting - length t.nodes

unfoldable pub lefts : Domain → List Tree → List ℕ → ℕ
lefts d ts [] = 0
lefts d ts (i ∷ is) = left d (tree ts i) + lefts d ts is

module _ (d : Domain) (ts ts' : List Tree) (ok : SoundTrees d ts) (ok' : SoundTrees d ts') (l : AllLater ts ts') where
  left_le : (i : ℕ) → i < length ts → left d (tree ts' i) ≤ left d (tree ts i)
  unfolding left
  left_le i h = omega (arith, (l.each i h).taken, nodes-le d (tree ts' i) (ok'.each i (omega (arith, l.longer))))

  left_lt : (i : ℕ) → Gave ts ts' i → left d (tree ts' i) < left d (tree ts i)
  unfolding left
  left_lt i g = omega (arith, g.gave, nodes-le d (tree ts' i) (ok'.each i (omega (arith, g.inside, l.longer))), nodes-le d (tree ts i) (ok.each i g.inside))

  lefts-le : (is : List ℕ) → ((i : ℕ) → Memᴰ i is → i < length ts) → lefts d ts' is ≤ lefts d ts is
  unfolding lefts
  lefts-le [] f = omega arith
  lefts-le (i ∷ is) f = omega (arith, left_le i (f i (Memᴰ.head refl)), lefts-le is (λ j m. f j (Memᴰ.tail m)))

  lefts-lt : (is : List ℕ) → ((i : ℕ) → Memᴰ i is → i < length ts) → (j : ℕ) → Memᴰ j is → Gave ts ts' j → lefts d ts' is < lefts d ts is
  unfolding lefts
  lefts-lt [] f j m g = absurd (Memᴰ.not-nil m)
  lefts-lt (i ∷ is) f j m g = go (λ k. lefts-lt is (λ j m. f j (Memᴰ.tail m)) j k g) (Memᴰ.cases_cons m)
    where
      go : (Memᴰ j is → lefts d ts' is < lefts d ts is) → (j ≡ i) ⊎ Memᴰ j is → left d (tree ts' i) + lefts d ts' is < left d (tree ts i) + lefts d ts is
      go ih (inl e) = omega (arith, left_lt i (rw e at g), lefts-le is (λ j m. f j (Memᴰ.tail m)))
      go ih (inr k) = omega (arith, left_le i (f i (Memᴰ.head refl)), ih k)

pub lefts-most : (d : Domain) (ts : List Tree) → SoundTrees d ts → (is : List ℕ) → ((i : ℕ) → Memᴰ i is → i < length ts) → lefts d ts is ≤ length is * (1 + edge_count d.graph)
unfolding lefts left
lefts-most d ts ok [] f = omega arith
lefts-most d ts ok (i ∷ is) f =
    omega (arith, queue-le d (tree ts i) (ok.each i (f i (Memᴰ.head refl))), lefts-most d ts ok is (λ j m. f j (Memᴰ.tail m)))

-- ---- the state of a search, where vs are its roots, gs its goals and mine its slots

pub record State (d : Domain) (vs gs mine : List ℕ) (ts : List Tree) (s : Search) : Type 0 where
  pub sound : SoundTrees d ts
  pub ready : Ready (λ i. Memᴰ i mine) d ts s
  pub same : goals s ≡ gs
  pub owned : (i : ℕ) → Memᴰ i mine → Own d vs ts i
  pub rooted : (v : ℕ) → mem v vs ≡ true → Allowed d v → (j : ℕ) × (j < s.tree_count) × ((tree ts (entry s j).tree).start ≡ v)

-- every path from a root to a goal is worth at least b
abbrev pub Final : Domain → List ℕ → List ℕ → Option ℕ → Type 0
Final d vs gs b = (v x : ℕ) (ls : List ℕ) → mem v vs ≡ true → Allowed d v → mem x gs ≡ true → Leads d.graph v ls x → Under b (path_worth d v ls x)

abbrev pub outcome_at : Direction → Tree → Option ℕ → Outcome
outcome_at dir t None = unreachable
outcome_at forward t (Some n) = reached (node t.nodes n).cost t.start (path t.nodes n)
outcome_at backward t (Some n) = reached (node t.nodes n).cost (node t.nodes n).vertex (back (path t.nodes n))

abbrev pub outcome_of : Domain → List Tree → Search → Outcome
outcome_of d ts s = outcome_at d.direction (shown_tree ts s) (shown s)

status-is : (dir : Direction) (t : Tree) (o : Option ℕ) → status_at t o ≡ status_of (outcome_at dir t o)
status-is forward t None = refl
status-is backward t None = refl
status-is forward t (Some n) = refl
status-is backward t (Some n) = ap (solved (node t.nodes n).cost) (sym (back-length (path t.nodes n)))

outcome-at : (dir : Direction) (t t' : Tree) (n : ℕ) → t'.start ≡ t.start → node t'.nodes n ≡ node t.nodes n → path t'.nodes n ≡ path t.nodes n
    → outcome_at dir t' (Some n) ≡ outcome_at dir t (Some n)
outcome-at forward t t' n p q r = rw (p, q, r)
outcome-at backward t t' n p q r = rw (q, r)

-- the words of the path that an outcome shows
abbrev pub outcome_words : Graph → Outcome → List ℕ
outcome_words g unreachable = []
outcome_words g (reached k a ls) = path_words g a ls

shown-with : (q : Bool) (g : Graph) (a : ℕ) (ls p : List ℕ) → shown_if q g a ls p ≡ shown_with q (length ls) (path_words g a ls) p
shown-with true g a ls p = refl
shown-with false g a ls p = refl

shown-is : (dir : Direction) (g : Graph) (t : Tree) (n : ℕ) (p : List ℕ) → words dir t.nodes n ≡ outcome_words g (outcome_at dir t (Some n))
    → shown_of g (outcome_at dir t (Some n)) p ≡ retrace_as true true dir t (Some n) p
shown-is forward g t n p w =
    let ls : List ℕ = path t.nodes n in
    shown-with (ltb (length p) (1 + 2 * length ls)) g t.start ls p ∙ retrace-shown forward t n p (length ls) (path_words g t.start ls) refl (sym w)
shown-is backward g t n p w =
    let ls : List ℕ = back (path t.nodes n) in
    let a : ℕ = (node t.nodes n).vertex in
    shown-with (ltb (length p) (1 + 2 * length ls)) g a ls p ∙ retrace-shown backward t n p (length ls) (path_words g a ls) (back-length (path t.nodes n)) (sym w)

module _ (d : Domain) (acc : Accepted d.graph) (vs gs mine : List ℕ) where
  abbrev O : ℕ → Type 0
  O i = Memᴰ i mine

  abbrev St : List Tree → Search → Type 0
  St = State d vs gs mine

  -- the best, and the solution that its entry holds
  pub record Shows (ts : List Tree) (s : Search) : Type 0 where
    pub i : ℕ
    pub n : ℕ
    pub best : s.best_solution ≡ as_best i n
    pub slot : (entry s i).tree < length ts
    pub own : Memᴰ (entry s i).tree mine
    pub h : ℕ
    pub holds : (entry s i).solution ≡ Some h
    pub goal : Holds gs (tree ts (entry s i).tree) h
    pub inside : h < length (tree ts (entry s i).tree).nodes
    pub bounds : bound d ts s ≡ Some (solution_cost d (tree ts (entry s i).tree).nodes h)

  pub shows-cases : (ts : List Tree) (s : Search) → St ts s → (s.best_solution ≡ None) ⊎ Shows ts s
  shows-cases ts s st = go s.best_solution refl st.ready.best
    where
      go : (x : Option BestSolution) → s.best_solution ≡ x → BestsOk d (goals s) ts s x → (s.best_solution ≡ None) ⊎ Shows ts s
      go None z k = inl z
      go (Some b) z k =
          let e = st.ready.entries b.entry k.counted in
          let h = e.known.holds k.h k.held in
          inr (record {
            i = b.entry;
            n = b.node;
            best = z;
            slot = e.inside;
            own = e.own;
            h = k.h;
            holds = k.held;
            goal = rw st.same at h;
            inside = ((st.sound.each _ e.inside).closer _ k.h h.closes).0;
            bounds = ap (bound_of d ts s) z ∙ ap Some (sym k.level);
          })

  pub shown-none : (ts : List Tree) (s : Search) → s.best_solution ≡ None → outcome_of d ts s ≡ unreachable
  shown-none ts s z = ap (λ (x : Option BestSolution). outcome_at d.direction (shown_tree_by ts s x) (shown_by s x)) z

  pub shown-some : (ts : List Tree) (s : Search) (k : Shows ts s) → outcome_of d ts s ≡ outcome_at d.direction (tree ts (entry s k.i).tree) (Some k.h)
  shown-some ts s k =
      ap (λ (x : Option BestSolution). outcome_at d.direction (shown_tree_by ts s x) (shown_by s x)) k.best ∙ ap (outcome_at d.direction (tree ts (entry s k.i).tree)) k.holds

  -- ---- in later trees

  pub state-later : (ts ts' : List Tree) (s : Search) → Keeps d ts ts' → St ts s → St ts' s
  state-later ts ts' s k st =
      record {
        sound = k.0;
        ready = ready-later O d ts ts' st.sound k.1 s st.ready;
        same = st.same;
        owned = λ i m.
            let o = st.owned i m in
            let z : (tree ts' i).start ≡ (tree ts i).start = (k.1.each i o.inside).start in
            record { inside = omega (arith, o.inside, k.1.longer); root = rw z o.root; allowed = rw z o.allowed };
        rooted = λ v e a. let r = st.rooted v e a in (r.0, r.1, (k.1.each _ (st.ready.entries r.0 r.1).inside).start ∙ r.2);
      }

  outcome-later : (ts ts' : List Tree) (s : Search) → Keeps d ts ts' → St ts s → outcome_of d ts' s ≡ outcome_of d ts s
  outcome-later ts ts' s k st = elim (shows-cases ts s st) [ inl z ↦ shown-none ts' s z ∙ sym (shown-none ts s z) | inr x ↦ some-case x ]
    where
      some-case : Shows ts s → outcome_of d ts' s ≡ outcome_of d ts s
      some-case x =
          let t : Tree = tree ts (entry s x.i).tree in
          let t' : Tree = tree ts' (entry s x.i).tree in
          let l = k.1.each (entry s x.i).tree x.slot in
          ap (λ (y : Option BestSolution). outcome_at d.direction (shown_tree_by ts' s y) (shown_by s y)) x.best
          ∙ ap (outcome_at d.direction t') x.holds
          ∙ outcome-at d.direction t t' x.h l.start (l.keeps x.h x.inside) (path-later d t t' (st.sound.each _ x.slot) l x.h x.inside)
          ∙ sym (shown-some ts s x)

  -- ---- a step

  module _ (ts : List Tree) (s : Search) (st : St ts s) where
    W : Walked O d ts s s.tree_count (walk d ts s)
    W = walked O d acc ts s st.sound st.ready

    pub state-walk : St (walk d ts s).trees (walk d ts s).search
    state-walk =
        record {
          sound = W.sound;
          ready = W.ready;
          same = W.same ∙ st.same;
          owned = later.owned;
          rooted = λ v e a. let r = st.rooted v e a in (r.0, omega (arith, r.1, W.count), rw (W.slots r.0) ((W.later.each _ (st.ready.entries r.0 r.1).inside).start ∙ r.2));
        }
      where
        later : St (walk d ts s).trees s
        later = state-later ts (walk d ts s).trees s (W.sound, W.later) st

    pub walk-final : (walk d ts s).search.exhausted ≡ true → Final d vs gs (bound d (walk d ts s).trees (walk d ts s).search)
    walk-final x v y ls e a m l =
        let r = st.rooted v e a in
        subst (λ (z : ℕ). Under (bound d (walk d ts s).trees (walk d ts s).search) (path_worth d z ls y)) r.2
        (W.covers x r.0 r.1 y ls (rw st.same m) (subst (λ (z : ℕ). Leads d.graph z ls y) (sym r.2) l))

    pub walk-less : (walk d ts s).search.exhausted ≡ false → lefts d (walk d ts s).trees mine < lefts d ts mine
    walk-less x = let g = W.moves x in lefts-lt d ts (walk d ts s).trees st.sound W.sound W.later mine (λ i m. (st.owned i m).inside) g.0 g.1 g.2

  -- ---- own calls

  module _ (slots : ℕ) where
    abbrev pub at : List Tree → Cache
    at ts = record { domain = d; slots = slots; trees = ts }

    own-step : (ts : List Tree) (s : Search) → St ts s → step (at ts) s ≡ step_if s.exhausted (at ts) s
    own-step ts s st = step-if (at ts) s (own-valid O d ts st.sound s st.ready)

    abbrev showing : List Tree → Search → List ℕ → Bool → AfterRetrace
    showing ts s p x = retrace_as true x d.direction (shown_tree ts s) (shown s) p

    own-retrace : (ts : List Tree) (s : Search) (p : List ℕ) → St ts s → (x : Bool) → s.exhausted ≡ x → retrace (at ts) s p ≡ showing ts s p (x && is_best s.best_solution)
    own-retrace ts s p st x e =
        retrace-as (at ts) s p
        ∙ ap₂ (λ (v x : Bool). retrace_as v (x && is_best s.best_solution) d.direction (shown_tree ts s) (shown s) p) (own-valid O d ts st.sound s st.ready) e

    retrace-early : (ts : List Tree) (s : Search) (p : List ℕ) → St ts s → s.exhausted ≡ false → retrace (at ts) s p ≡ not_solved p
    retrace-early ts s p st x = own-retrace ts s p st false x

    module _ (g : Graph) (paths : (t : Tree) → Sound d t → (n : ℕ) → n < length t.nodes → words d.direction t.nodes n ≡ outcome_words g (outcome_at d.direction t (Some n))) where
      retrace-late : (ts : List Tree) (s : Search) (p : List ℕ) → St ts s → s.exhausted ≡ true → retrace (at ts) s p ≡ shown_of g (outcome_of d ts s) p
      retrace-late ts s p st x = own-retrace ts s p st true x ∙ elim (shows-cases ts s st) [ inl z ↦ none-case z | inr z ↦ some-case z ]
        where
          none-case : s.best_solution ≡ None → showing ts s p (is_best s.best_solution) ≡ shown_of g (outcome_of d ts s) p
          none-case z = ap (λ (y : Option BestSolution). showing ts s p (is_best y)) z ∙ ap (λ (o : Outcome). shown_of g o p) (sym (shown-none ts s z))

          some-case : Shows ts s → showing ts s p (is_best s.best_solution) ≡ shown_of g (outcome_of d ts s) p
          some-case z =
              let t : Tree = tree ts (entry s z.i).tree in
              ap (λ (y : Option BestSolution). retrace_as true (is_best y) d.direction (shown_tree_by ts s y) (shown_by s y) p) z.best
              ∙ ap (λ (o : Option ℕ). retrace_as true true d.direction t o p) z.holds
              ∙ sym (shown-is d.direction g t z.h p (paths t (st.sound.each _ z.slot) z.h z.inside))
              ∙ ap (λ (o : Outcome). shown_of g o p) (sym (shown-some ts s z))

      step-late : (ts : List Tree) (s : Search) → St ts s → s.exhausted ≡ true → step (at ts) s ≡ record { cache = at ts; search = s; reply = answered (status_of (outcome_of d ts s)); tickets = 0 }
      unfolding final_status
      step-late ts s st x =
          own-step ts s st ∙ ap (λ (b : Bool). step_if b (at ts) s) x
          ∙ ap (λ (y : Status). record { cache = at ts; search = s; reply = answered y; tickets = 0 }) (status-is d.direction (shown_tree ts s) (shown s))

      -- the cache after another call
      after_is : (ts : List Tree) (x : Call) → length ts ≤ slots → SoundTrees d ts → (ts' : List Tree) × (after (at ts) x ≡ at ts') × Keeps d ts ts' × (length ts' ≤ slots)
      after_is ts x h ok =
          let c : Cache = after (at ts) x in
          let k : KeptCache (at ts) c = after-keeps (at ts) acc (record { within = h; trees = ok }) x in
          (c.trees, (λ i. record { domain = k.domain i; slots = k.slots i; trees = c.trees }), k.keeps, omega (arith, k.within, k.slots))

      -- a finished search repeats its answer and shows its path
      finished : (acts : List Act) (ts : List Tree) (s : Search) → length ts ≤ slots → St ts s → s.exhausted ≡ true → Every (Late g (outcome_of d ts s)) (events (at ts) s acts)
      unfolding events
      finished [] ts s h st x = tt
      finished (own_step ∷ acts) ts s h st x =
          let e = step-late ts s st x in (
            ap (λ (r : AfterStep). r.reply) e,
            subst (λ (r : AfterStep). Every (Late g (outcome_of d ts s)) (events r.cache r.search acts)) (sym e) (finished acts ts s h st x),
          )
      finished (own_retrace p ∷ acts) ts s h st x = (retrace-late ts s p st x, finished acts ts s h st x)
      finished (other y ∷ acts) ts s h st x =
          let a = after_is ts y h st.sound in
          subst (λ (c : Cache). Every (Late g (outcome_of d ts s)) (events c s acts)) (sym a.1)
          (subst (λ (o : Outcome). Every (Late g o) (events (at a.0) s acts)) (outcome-later ts a.0 s a.2 st)
          (finished acts a.0 s a.3 (state-later ts a.0 s a.2 st) x))

      -- the state in which the search was finished
      pub record Closing (o : Outcome) : Type 0 where
        pub ts : List Tree
        pub s : Search
        pub state : St ts s
        pub final : Final d vs gs (bound d ts s)
        pub is : o ≡ outcome_of d ts s

      pub record Told (n : ℕ) (es : List Event) : Type 0 where
        pub first : List Event
        pub last : List Event
        pub outcome : Outcome
        pub split : es ≡ first ++ last
        pub early : Every Early first
        pub few : steps first ≤ n
        pub late : Every (Late g outcome) last
        pub closing : 0 < length last → Closing outcome

      told-retrace : (n : ℕ) (p : List ℕ) (r : AfterRetrace) (es : List Event) → r ≡ not_solved p → Told n es → Told n (retraced p r ∷ es)
      told-retrace n p r es e t =
          record {
            first = retraced p r ∷ t.first;
            last = t.last;
            outcome = t.outcome;
            split = ap (λ (l : List Event). retraced p r ∷ l) t.split;
            early = (e, t.early);
            few = t.few;
            late = t.late;
            closing = t.closing;
          }

      told-step : (n m : ℕ) (r : Reply Status) (es : List Event) → r ≡ answered waiting → suc n ≤ m → Told n es → Told m (stepped r ∷ es)
      told-step n m r es e h t =
          record {
            first = stepped r ∷ t.first;
            last = t.last;
            outcome = t.outcome;
            split = ap (λ (l : List Event). stepped r ∷ l) t.split;
            early = (e, t.early);
            few = omega (arith, t.few);
            late = t.late;
            closing = t.closing;
          }

      told_more : (n m : ℕ) (es : List Event) → n ≤ m → Told n es → Told m es
      told_more n m es h t =
          record { first = t.first; last = t.last; outcome = t.outcome; split = t.split; early = t.early; few = omega (arith, t.few); late = t.late; closing = t.closing }

      told-finished : (acts : List Act) (ts : List Tree) (s : Search) → length ts ≤ slots → St ts s → s.exhausted ≡ true → Final d vs gs (bound d ts s) → Told 0 (events (at ts) s acts)
      told-finished acts ts s h st x f =
          record {
            first = [];
            last = events (at ts) s acts;
            outcome = outcome_of d ts s;
            split = refl;
            early = tt;
            few = omega arith;
            late = finished acts ts s h st x;
            closing = λ _. record { ts = ts; s = s; state = st; final = f; is = refl };
          }

      pub tells : (acts : List Act) (ts : List Tree) (s : Search) → length ts ≤ slots → St ts s → s.exhausted ≡ false → Told (1 + lefts d ts mine) (events (at ts) s acts)
      unfolding events
      tells [] ts s h st x = record { first = []; last = []; outcome = unreachable; split = refl; early = tt; few = omega arith; late = tt; closing = λ z. absurd (omega arith) }
      tells (own_step ∷ acts) ts s h st x =
          subst (λ (r : AfterStep). Told (1 + lefts d ts mine) (stepped r.reply ∷ events r.cache r.search acts)) (sym (own-step ts s st ∙ ap (λ (b : Bool). step_if b (at ts) s) x))
          (go (λ us u. tells acts us u) w.search.exhausted refl)
        where
          w : Walk
          w = walk d ts s

          st' : St w.trees w.search
          st' = state-walk ts s st

          within : length w.trees ≤ slots
          within = omega (arith, h, walk-length d ts s)

          go : ((us : List Tree) (u : Search) → length us ≤ slots → St us u → u.exhausted ≡ false → Told (1 + lefts d us mine) (events (at us) u acts))
              → (b : Bool) → w.search.exhausted ≡ b → Told (1 + lefts d ts mine) (stepped (answered waiting) ∷ events (at w.trees) w.search acts)
          go ih true e = told-step 0 _ _ _ refl (omega arith) (told-finished acts w.trees w.search within st' e (walk-final ts s st e))
          go ih false e = told-step (1 + lefts d w.trees mine) _ _ _ refl (omega (arith, walk-less ts s st e)) (ih w.trees w.search within st' e)
      tells (own_retrace p ∷ acts) ts s h st x = told-retrace _ p _ _ (retrace-early ts s p st x) (tells acts ts s h st x)
      tells (other y ∷ acts) ts s h st x =
          let a = after_is ts y h st.sound in
          subst (λ (c : Cache). Told (1 + lefts d ts mine) (events c s acts)) (sym a.1)
          (told_more (1 + lefts d a.0 mine) _ _ (omega (arith, lefts-le d ts a.0 st.sound a.2.0 a.2.1 mine (λ i m. (st.owned i m).inside)))
          (tells acts a.0 s a.3 (state-later ts a.0 s a.2 st) x))
