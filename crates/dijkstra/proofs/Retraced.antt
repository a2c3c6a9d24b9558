-- `retrace`: refused where the words are not sound, and on sound words what it promises there.
-- Assumes nothing.
use mathlib.Core.Path.{◌≡◌, sym, ap, ◌∙◌}
use Rattle.std.specs.declared.result.Result.{Result}
use Rattle.model.specs.declared.Refusal.{Refusal}
use Rattle.std.specs.Prelude.{Err}
use mathlib.Core.Bool.{Bool, true, false}
use mathlib.Core.List.{List}
use Prim.Native.Nat.{ℕ}
use Rattle.model.specs.declared.Refusal.TheVariants.{Unsound}
use Rattle.model.specs.declared.Search.{Search}
use Rattle.layout.specs.Read.{read_cache}
use Rattle.layout.specs.Sound.{sound_wordsb}
use Rattle.unchecked.specs.Retrace.{Retraces}
use Rattle.dijkstra.specs.Calls.{retrace_if, Retracing}
use Rattle.dijkstra.proofs.Histories.{retrace-is}

module _ (ws : List ℕ) (s : Search) (p : List ℕ) where
  pub not_sound : sound_wordsb ws ≡ false → Retracing ws s p (Err Unsound) p
  not_sound e = sym (ap (λ (b : Bool). retrace_if b (read_cache ws) s p) e)

  pub on-sound : sound_wordsb ws ≡ true → (r : Result ℕ Refusal) (q : List ℕ) → Retraces ws s p r q → Retracing ws s p r q
  on-sound ok r q h = h ∙ sym (retrace-is ws ok s p)
