-- `step` on sound words, refused, finished, and over the entries.
-- Assumes nothing.
use mathlib.Core.Path.{◌≡◌, refl, sym, ap, ◌∙◌, subst}
use Rattle.model.specs.declared.SearchStatus.{SearchStatus}
use Rattle.std.specs.declared.result.Result.{Result}
use Rattle.model.specs.declared.Refusal.{Refusal}
use Rattle.std.specs.declared.option.Option.{Option}
use Rattle.std.specs.Prelude.{None, Some, Ok}
use mathlib.Core.Bool.{Bool, true, false, not, true≢false}
use mathlib.Core.List.{List}
use Prim.Native.Nat.{ℕ}
use Rattle.model.specs.declared.SearchStatus.TheVariants.{Incomplete}
use Rattle.model.specs.declared.Search.{Search}
use Rattle.model.specs.Answers.{Reply, answered, refused, Status, waiting, solved, no_path, step_reply}
use Rattle.model.specs.Valid.{valid}
use Rattle.model.specs.Tree.{Tree}
use Rattle.model.specs.Calls.{Cache, AfterStep, or_else, shown, shown_tree, status_at, step_if, step_by, step, final_status}
use Rattle.model.specs.Solve.{is_waiting}
use Rattle.model.proofs.Faults.{step-if}
use Rattle.model.proofs.Solve.{step-rests}
use Rattle.layout.specs.Read.{read_cache}
use Rattle.sound.specs.Facts.{SoundWords}
use Rattle.entry_turns.specs.declared.Turned.{Turned}
use Rattle.entry_turns.specs.Turn.{Steps}
use Rattle.unchecked.specs.Step.{Advances}
use Rattle.layout.specs.Leaves.{Leaves}

-- words that stay
pub leaves-same : (r : Reply Status) (ws : List ℕ) (s : Search) → Leaves r ws s ws
leaves-same (answered waiting) ws s = record { len = refl; word = λ j out. refl }
leaves-same (answered (solved k m)) ws s = refl
leaves-same (answered no_path) ws s = refl
leaves-same (refused n line) ws s = refl

module _ (c : Cache) (s : Search) where
  -- ---- what a step answers: refused, finished, or waiting

  pub not_valid : valid c.domain c.trees s ≡ false → (step c s).reply ≡ refused 8 0
  unfolding step
  not_valid e = ap (λ (v : Bool). (step_by (or_else (not v) 8 None) c s).reply) e

  module _ (fine : valid c.domain c.trees s ≡ true) where
    goes : {x : Bool} → s.exhausted ≡ x → step c s ≡ step_if x c s
    goes e = step-if c s fine ∙ ap (λ (x : Bool). step_if x c s) e

    pub finished : s.exhausted ≡ true → (step c s).reply ≡ answered (final_status c.trees s)
    finished e = ap (λ (x : AfterStep). x.reply) (goes e)

    pub waits : s.exhausted ≡ false → (step c s).reply ≡ answered waiting
    waits e = ap (λ (x : AfterStep). x.reply) (goes e)

  -- ---- and back: one that waits is valid and not finished

  never-waits : (o : Option ℕ) (t : Tree) → is_waiting (answered (status_at t o)) ≡ false
  never-waits None t = refl
  never-waits (Some n) t = refl

  pub final-answers : is_waiting (answered (final_status c.trees s)) ≡ false
  unfolding final_status
  final-answers = never-waits (shown s) (shown_tree c.trees s)

  pub waits-valid : is_waiting (step c s).reply ≡ true → valid c.domain c.trees s ≡ true
  waits-valid w = go (valid c.domain c.trees s) refl
    where
      go : (v : Bool) → valid c.domain c.trees s ≡ v → v ≡ true
      go true e = refl
      go false e = absurd (true≢false (sym w ∙ ap is_waiting (not_valid e)))

  pub waits-unfinished : is_waiting (step c s).reply ≡ true → s.exhausted ≡ false
  waits-unfinished w = go s.exhausted refl
    where
      go : (x : Bool) → s.exhausted ≡ x → x ≡ false
      go true e = absurd (true≢false (sym w ∙ ap is_waiting (finished (waits-valid w) e) ∙ final-answers))
      go false e = refl

module _ (ws : List ℕ) (s : Search) where
  abbrev c' : Cache
  c' = read_cache ws

  -- a step that does not wait leaves words and record
  pub rests : SoundWords ws → (a : Result SearchStatus Refusal) → step_reply a ≡ (step c' s).reply → is_waiting (step_reply a) ≡ false
      → Advances ws s (record { answer = a; tickets = 0; search = s }) ws
  rests ok a e w =
      let r = step-rests c' s (ap is_waiting (sym e) ∙ w) in
      record {
        answer = e;
        tickets = sym r.tickets;
        search = sym r.search;
        cache = sym r.cache;
        sound = ok;
        words = leaves-same (step c' s).reply ws s;
      }

  -- one of a valid record that is not finished is the walk over its entries
  pub walked : valid c'.domain c'.trees s ≡ true → s.exhausted ≡ false → {t : Turned} {left : List ℕ} → Steps ws s t left
      → Advances ws s (record { answer = Ok Incomplete; tickets = t.tickets; search = t.search }) left
  walked fine unfinished {t} {left} h =
      let is = goes c' s fine unfinished in
      record {
        answer = sym (waits c' s fine unfinished);
        tickets = h.tickets ∙ sym (ap (λ (x : AfterStep). x.tickets) is);
        search = h.search ∙ sym (ap (λ (x : AfterStep). x.search) is);
        cache = h.cache ∙ sym (ap (λ (x : AfterStep). x.cache) is);
        sound = h.sound;
        words = subst (λ (r : Reply Status). Leaves r ws s left) (sym (waits c' s fine unfinished)) h.apart;
      }
