-- What two calls of `plan` from the same words, lists and slice answer and leave is the same, but for the arrangement of the queue words of the
-- trees that the search opened.
-- Assumes nothing.
use mathlib.Core.Path.{◌≡◌, sym, ap, ◌∙◌, subst}
use mathlib.Core.List.{List}
use Prim.Native.Nat.{ℕ}
use lib.ListN.{length, get_or}
use Rattle.model.specs.declared.Planned.{Planned}
use Rattle.model.specs.declared.Search.{Search}
use Rattle.model.specs.declared.StepsTaken.{StepsTaken}
use Rattle.model.specs.Answers.{answered, refused, number}
use Rattle.model.specs.Solve.{max_steps}
use Rattle.model.proofs.Replies.{step-told, answered-refused}
use Rattle.layout.specs.Read.{read_cache}
use Rattle.dijkstra.specs.Calls.{initialize_words}
use Rattle.dijkstra.specs.Demands.{SameBut}
use Rattle.planner.specs.Solve.{Solving}
use Rattle.planner.specs.Plan.{CallsMade, not_opened, to_the_end, opened_words, Determined}
use Rattle.planner.proofs.Planned.{refused-is, accepted-is}
use Rattle.planner.proofs.Determined as steps

module _ (ws ss gs p : List ℕ) where
  abbrev mid : List ℕ
  mid = opened_words ws ss gs

  abbrev s : Search
  s = (initialize_words ws ss gs).search

  -- the words left, from those that the opening left: none is written, or they are those of the steps
  pub data Left (left : List ℕ) : Type 0 where
    as_opened : (n line : ℕ) → (initialize_words ws ss gs).reply ≡ refused n line → left ≡ mid → Left left
    as_stepped : (e : StepsTaken) → (initialize_words ws ss gs).reply ≡ answered tt → Solving mid s max_steps e left → Left left

  words_left : {r : Planned} {left q : List ℕ} → CallsMade ws ss gs p r left q → Left left
  words_left (not_opened f i) = as_opened (number f) 0 (refused-is ws ss gs p i) i.words
  words_left (to_the_end {left = left} y e t i x k) =
      as_stepped e (accepted-is ws ss gs p i)
      (subst (λ (z : Search). Solving mid z max_steps e left) i.search (subst (λ (l : List ℕ). Solving l y max_steps e left) i.words x))

  same-but : {left left' : List ℕ} → Left left → Left left' → SameBut mid s left left'
  same-but (as_opened n line e x) (as_opened m l f y) = record {
    len = ap length (x ∙ sym y);
    word = λ j other. ap (λ (z : List ℕ). get_or z j 0) (x ∙ sym y);
    cache = ap read_cache (x ∙ sym y);
  }
  same-but (as_opened n line e x) (as_stepped b f y) = absurd (answered-refused tt n line (sym f ∙ e))
  same-but (as_stepped a e x) (as_opened n line f y) = absurd (answered-refused tt n line (sym e ∙ f))
  same-but {left} {left'} (as_stepped a e x) (as_stepped b f y) = (steps.determined mid s max_steps a b left left' x y).1

planned-is : (r r' : Planned) → r.answer ≡ r'.answer → r.has_path ≡ r'.has_path → r.waits ≡ r'.waits → r.tickets ≡ r'.tickets
    → r.search ≡ r'.search → r ≡ r'
planned-is r r' a h w t s i = record { answer = a i; has_path = h i; waits = w i; tickets = t i; search = s i }

pub determined : Determined
determined ws ss gs p r r' left left' q q' x y = (
  planned-is r r' (step-told _ _ (x.answer ∙ sym y.answer)) (x.has-path ∙ sym y.has-path) (x.waits ∙ sym y.waits) (x.tickets ∙ sym y.tickets)
      (x.search ∙ sym y.search),
  (x.path ∙ sym y.path, same-but ws ss gs p (words_left ws ss gs p x.called) (words_left ws ss gs p y.called)),
)
