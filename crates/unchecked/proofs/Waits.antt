-- Steps that all waited, from sound words: the model's steps go on from there, the words outside of the entries' slots are as they were, and how many
-- tickets they took.
-- Assumes nothing.
use mathlib.Core.Path.{◌≡◌, refl, sym, ap, ap₂, ◌∙◌, subst}
use mathlib.Core.Bool.{true, false, true≢false}
use mathlib.Core.List.{List}
use Prim.Native.Nat.{ℕ, suc, ◌+◌, ◌*◌, ◌<◌, ◌≤◌}
use native.Mathlib.Numerals.{add-one}
use native.Mathlib.Omega.{arith}
use lib.ListN.{get_or}
use Rattle.model.specs.Limits.{step_tickets}
use Rattle.model.specs.declared.Search.{Search}
use Rattle.model.specs.declared.Stepped.{Stepped}
use Rattle.model.specs.Answers.{Reply, answered, refused, Status, waiting, solved, no_path, step_reply}
use Rattle.model.specs.Search.{entry}
use Rattle.model.specs.Calls.{Cache, AfterStep, step}
use Rattle.model.specs.Solve.{is_waiting, steps_from}
use Rattle.model.proofs.Solve.{is-waiting, steps-wait}
use Rattle.layout.specs.Read.{read_cache}
use Rattle.sound.specs.Facts.{SoundWords}
use Rattle.layout.specs.Leaves.{InSlot, Apart, Leaves, LeavesAfter}
use Rattle.unchecked.specs.Step.{Advances}
use Rattle.model.specs.Steps.{StepPromise, Waited, at_first, once_more}
use Rattle.unchecked.proofs.Records.{step-few, step-slots, step_count}

-- a step that does not wait leaves the words
pub leaves_all : (x : Reply Status) (ws : List ℕ) (s : Search) (left : List ℕ) → is_waiting x ≡ false → Leaves x ws s left → left ≡ ws
leaves_all (answered waiting) ws s left e h = absurd (true≢false e)
leaves_all (answered (solved k m)) ws s left e h = h
leaves_all (answered no_path) ws s left e h = h
leaves_all (refused n line) ws s left e h = h

-- ---- no step waited

pub record Unmoved (ws : List ℕ) (s : Search) (t : ℕ) (mid : List ℕ) (x : Search) : Type 0 where
  pub tickets : t ≡ 0
  pub words : mid ≡ ws
  pub search : x ≡ s

pub unmoved : {P : StepPromise} {ws : List ℕ} {s : Search} {w t : ℕ} {mid : List ℕ} {x : Search} → Waited P ws s w t mid x → w ≡ 0
    → Unmoved ws s t mid x
unmoved at_first e = record { tickets = refl; words = refl; search = refl }
unmoved (once_more r v p z) e = absurd (omega arith)

-- ---- one promise of a step by another: Q holds of a step on words of the kind G, as P does, and leaves words of that kind

pub waited-as : {P Q : StepPromise} {G : List ℕ → Type 0}
    → ((ws : List ℕ) (s : Search) (r : Stepped) (left : List ℕ) → G ws → P ws s r left → Q ws s r left × G left)
    → {ws : List ℕ} {s : Search} {w t : ℕ} {mid : List ℕ} {x : Search} → G ws → Waited P ws s w t mid x → Waited Q ws s w t mid x × G mid
waited-as kept g at_first = (at_first, g)
waited-as kept g (once_more {mid = mid} {left = left} {x = x} r v p e) =
    let h = waited-as kept g v in
    let k = kept mid x r left h.1 p in
    (once_more r h.0 k.0 e, k.1)

-- ---- from sound words

-- w steps that waited, with t tickets, led to the words mid and the record x
pub record Stays (ws : List ℕ) (s : Search) (w t : ℕ) (mid : List ℕ) (x : Search) : Type 0 where
  pub sound : SoundWords mid
  pub steps : (k : ℕ) → steps_from (w + k) (read_cache ws) s 0 0 ≡ steps_from k (read_cache mid) x w t
  pub words : LeavesAfter w ws s mid
  pub apart : Apart ws s mid
  pub count : x.tree_count ≡ s.tree_count
  pub slots : (j : ℕ) → (entry x j).tree ≡ (entry s j).tree

stays-first : (ws : List ℕ) (s : Search) → SoundWords ws → Stays ws s 0 0 ws s
stays-first ws s ok = record {
  sound = ok;
  steps = λ k. let at : 0 + k ≡ k = omega arith in ap (λ (n : ℕ). steps_from n (read_cache ws) s 0 0) at;
  words = refl;
  apart = record { len = refl; word = λ j out. refl };
  count = refl;
  slots = λ j. refl;
}

module _ {ws : List ℕ} {s : Search} {w t : ℕ} {mid : List ℕ} {x : Search} (h : Stays ws s w t mid x)
    (r : Stepped) (left : List ℕ) (p : Advances mid x r left) (e : is_waiting (step_reply r.answer) ≡ true) where
  abbrev after : AfterStep
  after = step (read_cache mid) x

  header : (j : ℕ) → j < 5 → get_or mid j 0 ≡ get_or ws j 0
  header j b = h.apart.word j (λ y. omega (arith, y.from))

  in-slot : (j : ℕ) → InSlot mid x j → InSlot ws s j
  in-slot j y = record {
    which = y.which;
    is_entry = omega (arith, y.is_entry, h.count);
    from = rw (header 1 (omega arith), header 2 (omega arith), h.slots y.which) at y.from;
    below = rw (header 1 (omega arith), header 2 (omega arith), h.slots y.which) at y.below;
  }

  apart-left : Apart mid x left
  apart-left = subst (λ (y : Reply Status). Leaves y mid x left) (sym p.answer ∙ is-waiting (step_reply r.answer) e) p.words

  stays-apart : Apart ws s left
  stays-apart = record {
    len = apart-left.len ∙ h.apart.len;
    word = λ j out. apart-left.word j (λ y. out (in-slot j y)) ∙ h.apart.word j out;
  }

  stays-steps : (k : ℕ) → steps_from (w + 1 + k) (read_cache ws) s 0 0 ≡ steps_from k (read_cache left) r.search (w + 1) (t + r.tickets)
  stays-steps k =
      let at : w + 1 + k ≡ w + suc k = omega arith in
      ap (λ (n : ℕ). steps_from n (read_cache ws) s 0 0) at
      ∙ h.steps (suc k)
      ∙ steps-wait (read_cache mid) x w t k (ap is_waiting (sym p.answer) ∙ e)
      ∙ ap (λ (n : ℕ). steps_from k after.cache after.search (w + 1) (t + n)) (sym p.tickets)
      ∙ ap₂ (λ (c : Cache) (y : Search). steps_from k c y (w + 1) (t + r.tickets)) (sym p.cache) (sym p.search)

  stays-more : Stays ws s (w + 1) (t + r.tickets) left r.search
  stays-more = record {
    sound = p.sound;
    steps = stays-steps;
    words = rw add-one stays-apart;
    apart = stays-apart;
    count = ap (λ (y : Search). y.tree_count) p.search ∙ step_count (read_cache mid) x ∙ h.count;
    slots = λ j. ap (λ (y : Search). (entry y j).tree) p.search ∙ step-slots (read_cache mid) x j ∙ h.slots j;
  }

pub waited-stays : {ws : List ℕ} {s : Search} {w t : ℕ} {mid : List ℕ} {x : Search} → SoundWords ws → Waited Advances ws s w t mid x
    → Stays ws s w t mid x
waited-stays {ws} {s} ok at_first = stays-first ws s ok
waited-stays {ws} {s} ok (once_more {left = left} r v p e) = stays-more (waited-stays ok v) r left p e

-- ---- tickets

pub advances-few : {ws : List ℕ} {s : Search} {r : Stepped} {left : List ℕ} → Advances ws s r left → r.tickets ≤ step_tickets
advances-few {ws} {s} p = omega (arith, p.tickets, step-few (read_cache ws) s)

pub waited-few : {ws : List ℕ} {s : Search} {w t : ℕ} {mid : List ℕ} {x : Search} → Waited Advances ws s w t mid x → t ≤ step_tickets * w
waited-few at_first = omega arith
waited-few (once_more r v p e) = omega (arith, waited-few v, advances-few p)
