-- A search that was just opened on sound words: its record is its own, and few tickets are left in its trees.
-- Assumes nothing.
use mathlib.Core.Path.{◌≡◌, refl, sym, ap, ◌∙◌, subst}
use Rattle.std.specs.declared.result.Result.{Result}
use Rattle.std.specs.declared.option.Option.{Option}
use Rattle.std.specs.Prelude.{None, Err, Ok}
use mathlib.Core.Bool.{Bool, true, false, not, ◌||◌}
use mathlib.Core.List.{List, [], ◌∷◌}
use Prim.Native.Nat.{ℕ, suc, ◌+◌, ◌*◌, ◌≤◌}
use native.Mathlib.Nat.{mul-le-mul_left, mul-le-mul_right}
use native.Mathlib.Omega.{arith}
use lib.ListN.{length}
use Rattle.model.specs.declared.Refusal.{Refusal}
use Rattle.model.specs.declared.Search.{Search}
use Rattle.model.specs.Lists.{keep, mem}
use Rattle.model.specs.Answers.{answered}
use Rattle.model.specs.Graph.{Accepted, Direction, forward, backward, edge_count}
use Rattle.model.specs.Tree.{Tree}
use Rattle.model.specs.Search.{roots_of, goals_of, empty_search}
use Rattle.model.specs.Calls.{Cache, AfterInitialize, planted_for, initialize_by, initialize}
use Rattle.model.specs.Demands.{distinct}
use Rattle.model.proofs.Faults.{MayInitialize, may-initialize, no-fault}
use Rattle.model.proofs.Opens.{allowedb, slots_of, slots_length}
use Rattle.model.proofs.Chain.{State, lefts, lefts-most}
use Rattle.model.proofs.Demand3.{opened-state}
use Rattle.layout.specs.Read.{read_cache}
use Rattle.sound.specs.Facts.{SoundWords}
use Rattle.sound.proofs.Facts.{sound-accepted, sound-cache}
use Rattle.opening.specs.Initialize.{Initializes}
use Rattle.unchecked.specs.declared.SearchRun.{SearchRun}
use Rattle.unchecked.specs.Run.{ticket_limit, RunsToEnd, RunsAfter, Runs, JustOpened}

-- the record is a search's own, with roots vs, goals gs and slots mine, and its trees have no more tickets left
pub record OwnSearch (ws : List ℕ) (s : Search) : Type 0 where
  pub sound : SoundWords ws
  pub vs : List ℕ
  pub gs : List ℕ
  pub mine : List ℕ
  pub state : State (read_cache ws).domain vs gs mine (read_cache ws).trees s
  pub few : lefts (read_cache ws).domain (read_cache ws).trees mine ≤ ticket_limit

pub distinct-few : (p : ℕ → Bool) (l : List ℕ) → length (distinct p l) ≤ length l
unfolding distinct
distinct-few p [] = omega arith
distinct-few p (v ∷ vs) = go (not (mem v vs || not (p v))) (distinct-few p vs)
  where
    go : (b : Bool) → length (distinct p vs) ≤ length vs → length (keep b v (distinct p vs)) ≤ suc (length vs)
    go true h = omega arith
    go false h = omega arith

module _ (c : Cache) (ss gs : List ℕ) (m : MayInitialize c ss gs) where
  abbrev vs : List ℕ
  vs = roots_of c.domain.direction ss gs

  abbrev us : List Tree
  us = (planted_for c ss gs).trees

  abbrev mine : List ℕ
  mine = slots_of c.domain us vs

  roots_few : (dir : Direction) → length (roots_of dir ss gs) ≤ 64
  roots_few forward = m.few_starts
  roots_few backward = m.few_goals

  slots-few : length mine ≤ 64
  slots-few = omega (arith, slots_length c.domain us vs, distinct-few (allowedb c.domain) vs, roots_few c.domain.direction)

  lefts-few : Accepted c.domain.graph → {s : Search} → State c.domain vs (goals_of c.domain.direction ss gs) mine us s → lefts c.domain us mine ≤ ticket_limit
  lefts-few acc st =
      let most = lefts-most c.domain us st.sound mine (λ i h. (st.owned i h).inside) in
      let a : length mine * (1 + edge_count c.domain.graph) ≤ length mine * 2049 = mul-le-mul_left (length mine) (omega (arith, acc.edges)) in
      let b : length mine * 2049 ≤ 64 * 2049 = mul-le-mul_right 2049 slots-few in
      omega (arith, most)

module _ {ws ss gs : List ℕ} (ok : SoundWords ws) {s : Search} {mid : List ℕ} (h : Initializes ws ss gs (Ok s) mid) where
  abbrev c' : Cache
  c' = read_cache ws

  reply : (initialize c' ss gs).reply ≡ answered tt
  reply = sym h.answer

  may : MayInitialize c' ss gs
  may = may-initialize c' ss gs (no-fault c' ss gs reply)

  accepted : initialize c' ss gs ≡ initialize_by None c' ss gs
  unfolding initialize
  accepted = ap (λ (o : Option ℕ). initialize_by o c' ss gs) (no-fault c' ss gs reply)

  opened-own : OwnSearch mid s
  opened-own =
      let st = opened-state c' ss gs (sound-cache ws ok).trees may in
      let cache = h.cache ∙ ap (λ (x : AfterInitialize). x.cache) accepted in
      let search = h.search ∙ ap (λ (x : AfterInitialize). x.search) accepted in
      let slots : List ℕ = mine c' ss gs may in
      record {
        sound = h.sound;
        vs = vs c' ss gs may;
        gs = goals_of c'.domain.direction ss gs;
        mine = slots;
        state = subst (λ (x : Cache). State x.domain (vs c' ss gs may) (goals_of c'.domain.direction ss gs) slots x.trees s) (sym cache)
            (subst (State c'.domain (vs c' ss gs may) (goals_of c'.domain.direction ss gs) slots (us c' ss gs may)) (sym search) st);
        few = subst (λ (x : Cache). lefts x.domain x.trees slots ≤ ticket_limit) (sym cache) (lefts-few c' ss gs may (sound-accepted ws ok) st);
      }

pub own-search : {ws : List ℕ} {s : Search} → JustOpened ws s → OwnSearch ws s
own-search j = opened-own j.sound j.opens

-- ---- by the answer of the opening

module _ {ws ss gs : List ℕ} {r : Result Search Refusal} {mid : List ℕ} (h : Initializes ws ss gs r mid) where
  pub not-run : {f : Refusal} → r ≡ Err f → Runs ws ss gs (record { answer = Err f; waits = 0; tickets = 0; shown = None; search = empty_search }) mid
  not-run {f} e = record {
    opened = r;
    mid = mid;
    opens = h;
    after = subst (λ (a : Result Search Refusal). RunsAfter a mid (record { answer = Err f; waits = 0; tickets = 0; shown = None; search = empty_search }) mid)
        (sym e) (refl, refl);
  }

  pub just-opened : SoundWords ws → {s : Search} → r ≡ Ok s → JustOpened mid s
  just-opened ok e = record { earlier = ws; ss = ss; gs = gs; sound = ok; opens = subst (λ (a : Result Search Refusal). Initializes ws ss gs a mid) e h }

  pub is-run : {s : Search} → r ≡ Ok s → {x : SearchRun} {left : List ℕ} → RunsToEnd mid s x left → Runs ws ss gs x left
  is-run e {x} {left} k = record { opened = r; mid = mid; opens = h; after = subst (λ (a : Result Search Refusal). RunsAfter a mid x left) (sym e) k }
