-- Demand 1 of opening.
-- Assumes nothing.
use mathlib.Core.Path.{◌≡◌, refl, sym, ap, ◌∙◌, subst}
use Rattle.std.specs.declared.result.Result.{Result}
use Rattle.model.specs.declared.Refused.{Refused}
use Rattle.std.specs.declared.option.Option.{Option}
use Rattle.std.specs.Prelude.{None, Some}
use mathlib.Core.Bool.{Bool, true, false}
use mathlib.Core.List.{List}
use Prim.Native.Nat.{ℕ, ◌≤◌}
use native.Mathlib.Omega.{arith}
use lib.Dec.{leb, ltb}
use lib.ListN.{length}
use borrow.Author.Tests.{ltb-false, leb-true, not-false}
use Rattle.model.specs.Answers.{number, Reply, answered, refused, open_reply}
use Rattle.model.specs.Graph.{Graph, Accepted, vertex_count, edge_count}
use Rattle.model.specs.Calls.{first_fault}
use Rattle.model.proofs.Bools.{and-true}
use Rattle.model.proofs.Faults.{or-none}
use Rattle.model.proofs.Replies.{answered-refused}
use Rattle.model.proofs.Demand1.{written-length, written-past}
use Rattle.text.specs.declared.counts.Counts.{Counts}
use Rattle.text.specs.Read.{judge_text, graph_of, graph_by, read_graph}
use Rattle.text.proofs.Accepted.{judged-accepted, read_is}
use Rattle.layout.specs.Layout.{needed}
use Rattle.layout.specs.Words.{opened_words}
use Rattle.layout.specs.Read.{direction_of}
use Rattle.cache.specs.Open.{AfterOpen, measure_faults, open_if, open_read, open_by, open_cache}
use Rattle.cache.specs.Demand1.{Opens, Demand1OfOpen}
use Rattle.cache.proofs.Opened.{opened-length, read_opened_lem}

-- ---- refused

refused-read : (r : Reply Graph) (ws : List ℕ) (d t n line : ℕ) → (open_read r ws d t).reply ≡ refused n line → (open_read r ws d t).words ≡ ws
refused-read (refused k m) ws d t n line e = refl
refused-read (answered g) ws d t n line e = go (ltb (length ws) (needed (vertex_count g) (edge_count g) t)) e
  where
    go : (short : Bool) → (open_if short g ws d t).reply ≡ refused n line → (open_if short g ws d t).words ≡ ws
    go true q = refl
    go false q = absurd (answered-refused tt n line q)

refused-by : (f : Option ℕ) (ws text : List ℕ) (d t n line : ℕ) → (open_by f ws text d t).reply ≡ refused n line → (open_by f ws text d t).words ≡ ws
refused-by (Some k) ws text d t n line e = refl
refused-by None ws text d t n line e = refused-read (read_graph text) ws d t n line e

-- ---- accepted

-- a graph was read: the text has no fault
module _ (ws text : List ℕ) (d t : ℕ) (within : d ≤ 1) (slots : (1 ≤ t) × (t ≤ 64)) where
  opens-fitting : (k : Counts) → judge_text text ≡ answered k → (short : Bool)
      → ltb (length ws) (needed (vertex_count (graph_of text)) (edge_count (graph_of text)) t) ≡ short
      → (open_if short (graph_of text) ws d t).reply ≡ answered tt → Opens ws text d t (open_if short (graph_of text) ws d t).words
  opens-fitting k j true e r = absurd (answered-refused tt 5 0 (sym r))
  opens-fitting k j false e r =
      let g : Graph = graph_of text in
      let ok : Accepted g = judged-accepted text k j in
      let fits : needed (vertex_count g) (edge_count g) t ≤ length ws = ltb-false _ _ e in
      let len = opened-length (direction_of d) g t ok in
      record {
        graph = g;
        read = read_is text j;
        accepted = ok;
        direction = within;
        slots = slots;
        fits = fits;
        words = refl;
        cache = read_opened_lem (direction_of d) g t _;
        same_length = written-length (opened_words (direction_of d) g t) ws (omega arith);
        past = λ i h. written-past (opened_words (direction_of d) g t) ws i (omega arith);
      }

  opens-read : (r : Reply Counts) → judge_text text ≡ r → (open_read (graph_by r (graph_of text)) ws d t).reply ≡ answered tt
      → Opens ws text d t (open_read (graph_by r (graph_of text)) ws d t).words
  opens-read (refused n line) j e = absurd (answered-refused tt _ _ (sym e))
  opens-read (answered k) j e = opens-fitting k j _ refl e

opens_by : (f : Option ℕ) (ws text : List ℕ) (d t : ℕ) → first_fault (measure_faults d t) ≡ f → (open_by f ws text d t).reply ≡ answered tt
    → Opens ws text d t (open_by f ws text d t).words
unfolding read_graph
opens_by (Some n) ws text d t q e = absurd (answered-refused tt _ _ (sym e))
opens_by None ws text d t q e =
    let direction = or-none _ _ _ q in
    let count = or-none _ _ _ direction.1 in
    let both = and-true (leb 1 t) (leb t 64) (not-false _ count.0) in
    opens-read ws text d t (ltb-false _ _ direction.0) (leb-true _ _ both.0, leb-true _ _ both.1) (judge_text text) refl e

-- ---- the call, by its promise

pub demand-1 : Demand1OfOpen
unfolding open_cache
demand-1 ws text d t r left p = record {
  refused = λ f e. left_is ∙ refused-by faults ws text d t (number f.refusal) f.line (reply-is e);
  opened = λ e. subst (Opens ws text d t) (sym left_is) (opens_by faults ws text d t refl (reply-is e));
}
  where
    faults : Option ℕ
    faults = first_fault (measure_faults d t)

    left_is : left ≡ (open_cache ws text d t).words
    left_is = ap (λ (x : AfterOpen). x.words) p

    reply-is : {q : Result (Unit {0}) Refused} → r ≡ q → (open_cache ws text d t).reply ≡ open_reply q
    reply-is e = sym (ap (λ (x : AfterOpen). x.reply) p) ∙ ap open_reply e
