-- Demand 1 on the calls by their promises: a refused call leaves words, record and slice as they were.
-- Assumes nothing.
use mathlib.Core.Path.{◌≡◌, refl, sym, ap, ◌∙◌, subst}
use Rattle.std.specs.declared.result.Result.{Result}
use Rattle.std.specs.Prelude.{Err}
use mathlib.Core.Bool.{Bool, true, false}
use mathlib.Core.List.{List}
use Prim.Native.Nat.{ℕ}
use Rattle.model.specs.declared.Refusal.{Refusal}
use Rattle.model.specs.declared.Search.{Search}
use Rattle.model.specs.declared.Stepped.{Stepped}
use Rattle.model.specs.Answers.{number, Reply, refused, Status, initialize_reply, step_reply, retrace_reply}
use Rattle.model.specs.Search.{empty_search, roots_of}
use Rattle.model.specs.Calls.{Cache, AfterRetrace, opened_search}
use Rattle.model.specs.Demands.{RefusedStep, RefusedRetrace}
use Rattle.model.proofs.Demand1.{demand-1 as model-demand-1}
use Rattle.layout.specs.Read.{direction_of, read_cache}
use Rattle.layout.specs.Sound.{sound_wordsb}
use Rattle.layout.specs.Leaves.{Leaves}
use Rattle.dijkstra.specs.Calls.{initialized_words, Initializing, step_sound_if, step_words, Stepping, retrace_if, retrace_words, Retracing}
use Rattle.dijkstra.specs.Demands.{Demand1}
use Rattle.layout.specs.Layout.{direction_in}

-- ---- the model's law, with refusal 7 before it

step-refused : (b : Bool) (c : Cache) (s : Search) (n line : ℕ) → (step_sound_if b c s).reply ≡ refused n line → RefusedStep c s line (step_sound_if b c s)
step-refused true c s n line e = model-demand-1.1 c s n line e
step-refused false c s n line e = record { cache = refl; search = refl; tickets = refl; lines = cc }

retrace-refused : (b : Bool) (c : Cache) (s : Search) (p : List ℕ) (n line : ℕ) → (retrace_if b c s p).reply ≡ refused n line → RefusedRetrace p line (retrace_if b c s p)
retrace-refused true c s p n line e = model-demand-1.2 c s p n line e
retrace-refused false c s p n line e = record { path = refl; lines = cc }

-- ---- each call, by its promise

initialize-leaves : (ws ss gs : List ℕ) (r : Result Search Refusal) (left : List ℕ) → Initializing ws ss gs r left
    → (f : Refusal) → r ≡ Err f → (left ≡ ws) × ((opened_search r ≡ empty_search) × (initialize_reply r ≡ refused (number f) 0))
initialize-leaves ws ss gs r left p f e =
    let told : initialize_reply r ≡ refused (number f) 0 = ap initialize_reply e in
    (p.words ∙ ap (λ (x : Reply (Unit {0})). initialized_words x ws (roots_of (direction_of (direction_in ws)) ss gs)) (sym p.answer ∙ told), (ap opened_search e, told))

step-leaves : (ws : List ℕ) (s : Search) (r : Stepped) (left : List ℕ) → Stepping ws s r left
    → (f : Refusal) → r.answer ≡ Err f → (left ≡ ws) × ((r.search ≡ s) × ((r.tickets ≡ 0) × (step_reply r.answer ≡ refused (number f) 0)))
step-leaves ws s r left p f e =
    let told : step_reply r.answer ≡ refused (number f) 0 = ap step_reply e in
    let reply : (step_words ws s).reply ≡ refused (number f) 0 = sym p.answer ∙ told in
    let kept = step-refused (sound_wordsb ws) (read_cache ws) s (number f) 0 reply in
    (subst (λ (x : Reply Status). Leaves x ws s left) reply p.words, (p.search ∙ kept.search, (p.tickets ∙ kept.tickets, told)))

retrace-leaves : (ws : List ℕ) (s : Search) (p : List ℕ) (r : Result ℕ Refusal) (q : List ℕ) → Retracing ws s p r q
    → (f : Refusal) → r ≡ Err f → (q ≡ p) × (retrace_reply r ≡ refused (number f) 0)
retrace-leaves ws s p r q k f e =
    let told : retrace_reply r ≡ refused (number f) 0 = ap retrace_reply e in
    let reply : (retrace_words ws s p).reply ≡ refused (number f) 0 = sym (ap (λ (x : AfterRetrace). x.reply) k) ∙ told in
    (ap (λ (x : AfterRetrace). x.path) k ∙ (retrace-refused (sound_wordsb ws) (read_cache ws) s p (number f) 0 reply).path, told)

pub demand-1 : Demand1
demand-1 = (initialize-leaves, step-leaves, retrace-leaves)
