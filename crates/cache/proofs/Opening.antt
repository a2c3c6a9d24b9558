-- A text without fault is opened, or refused for the words lent: the two ends of the code.
-- Assumes nothing.
use mathlib.Core.Path.{◌≡◌, sym, ap, ap₂, ◌∙◌}
use Rattle.std.specs.declared.result.Result.{Result}
use Rattle.model.specs.declared.Refused.{Refused}
use Rattle.std.specs.Prelude.{None, Err, Ok}
use mathlib.Core.Bool.{Bool, true, false, not, ◌&&◌, and-false}
use mathlib.Core.List.{List, [], ◌∷◌, ◌++◌}
use Prim.Native.Nat.{ℕ, ◌-◌, ◌<◌, ◌≤◌}
use lib.Dec.{leb}
use lib.ListN.{length, take, drop, replicate}
use native.Mathlib.Omega.{arith}
use borrow.Author.Tests.{lt-ltb, le-ltb, lt-leb, le-leb}
use borrow.Rule.Slice.PartMut.{put_mid, mid_len}
use Rattle.model.specs.declared.Refusal.TheVariants.{OverLimit, ShortCache}
use Rattle.model.specs.Answers.{Reply, answered}
use Rattle.model.specs.Graph.{Graph, vertex_count, edge_count}
use Rattle.model.specs.Calls.{or_else}
use Rattle.text.specs.declared.counts.Counts.{Counts}
use Rattle.text.specs.Read.{judge_text, graph_of, graph_by, judged_reply}
use Rattle.text.proofs.Accepted.{judged-counts, read_is}
use Rattle.text.proofs.Passed.{judged-within}
use Rattle.layout.specs.Layout.{Sized, header_words, slots_at, needed}
use Rattle.layout.specs.Read.{direction_of}
use Rattle.graph.specs.Write.{graph_written}
use Rattle.graph.proofs.Parts.{put-mid}
use Rattle.cache.specs.Open.{AfterOpen, open_if, open_read, open_by, open_cache, after_open, CanOpen}
use Rattle.cache.proofs.Opened.{text-opened}

module _ {text : List ℕ} {d t : ℕ} {z : Counts} (can : CanOpen text d t z) where
  pub can-sized : Sized z.vertices z.edges
  can-sized = let w = judged-within text can.judged in record { vertices = w.vertices; edges = w.edges }

  -- n words are needed
  module _ (ws : List ℕ) {n : ℕ} (en : n ≡ needed z.vertices z.edges t) where
    same : needed (vertex_count (graph_of text)) (edge_count (graph_of text)) t ≡ n
    same = let e = judged-counts text z can.judged in ap₂ (λ (m l : ℕ). needed m l t) e.0 e.1 ∙ sym en

    pub open-short : {r : Result (Unit {0}) Refused} → r ≡ Err (record { refusal = ShortCache; line = 0 }) → length ws < n → after_open r ws ≡ open_read (answered (graph_of text)) ws d t
    open-short short h = rw short (sym (ap (λ (b : Bool). open_if b (graph_of text) ws d t) (lt-ltb (length ws) _ (rw same h))))

    -- the words after the header and after the graph, and the part from a on that was cleared
    pub open-fits : n ≤ length ws → {headed : List ℕ} → headed ≡ (d ∷ z.vertices ∷ z.edges ∷ t ∷ 0 ∷ []) ++ drop header_words ws → length headed ≡ length ws
        → {graphed : List ℕ} → graphed ≡ graph_written (direction_of d) text z headed → length graphed ≡ length headed → {a : ℕ} → a ≡ slots_at z.vertices z.edges
        → {cleared : List ℕ} → cleared ≡ replicate (length (take (n - a) (drop a graphed))) 0
        → after_open (Ok tt) (put_mid a (n - a) graphed cleared) ≡ open_read (answered (graph_of text)) ws d t
    unfolding graph_written
    open-fits fits {headed} header kept {graphed} graph kept₂ {a} start {cleared} zeros =
        ap (after_open (Ok tt))
        (put-mid graphed cleared a n (omega arith)
        ∙ ap (λ (x : List ℕ). take a graphed ++ (x ++ drop n graphed)) (zeros ∙ ap (λ (k : ℕ). replicate {A = ℕ} k 0) (mid_len a n graphed (omega arith)))
        ∙ ap₂ (λ (x y : ℕ). take x graphed ++ (replicate (y - x) 0 ++ drop y graphed)) start en
        ∙ ap (λ (x : List ℕ). take (slots_at z.vertices z.edges) x ++ (replicate (needed z.vertices z.edges t - slots_at z.vertices z.edges) 0 ++ drop (needed z.vertices z.edges t) x))
        (graph ∙ ap (graph_written (direction_of d) text z) header)
        ∙ text-opened text z d t ws can.judged can.direction (omega arith))
        ∙ sym (ap (λ (b : Bool). open_if b (graph_of text) ws d t) (le-ltb (length ws) _ (rw same fits)))

-- ---- direction and slots, then the lines

-- a limit is passed before a line is looked at: the answer r says so
module _ (ws text : List ℕ) (d t : ℕ) where
  module _ {f : Refused} (over : f ≡ record { refusal = OverLimit; line = 0 }) where
    pub open-direction : 1 < d → after_open (Err f) ws ≡ open_cache ws text d t
    unfolding open_cache
    open-direction h = rw (over, lt-ltb 1 d h)

  module _ (within : d ≤ 1) where
    by_slots : (b : Bool) → (leb 1 t && leb t 64) ≡ b
        → open_cache ws text d t ≡ open_by (or_else (not b) 4 None) ws text d t
    unfolding open_cache
    by_slots b e = rw (le-ltb 1 d within, e)

    module _ {f : Refused} (over : f ≡ record { refusal = OverLimit; line = 0 }) where
      pub open-no-slot : t ≡ 0 → after_open (Err f) ws ≡ open_cache ws text d t
      open-no-slot h = rw over (sym (by_slots false (rw (lt-leb 1 t (omega arith)))))

      pub open-many-slots : 64 < t → after_open (Err f) ws ≡ open_cache ws text d t
      open-many-slots h = rw over (sym (by_slots false (rw (lt-leb t 64 h) (and-false (leb 1 t)))))

    module _ (some_slot : t ≡ 0 → ⊥) (few : t ≤ 64) where
      open-judged : {r : Reply Counts} → judge_text text ≡ r → open_read (graph_by r (graph_of text)) ws d t ≡ open_cache ws text d t
      open-judged e =
          sym
          (by_slots true (rw (le-leb 1 t (omega arith), le-leb t 64 few))
          ∙ ap (λ (x : Reply Graph). open_read x ws d t) (read_is text e))

      -- j says how the text was judged
      module _ {j : Result Counts Refused} (answer : judged_reply j ≡ judge_text text) where
        pub open-fault : {f : Refused} → j ≡ Err f → after_open (Err f) ws ≡ open_cache ws text d t
        open-fault e = open-judged (sym answer ∙ ap judged_reply e)

        pub open-sizes : {z : Counts} {after : AfterOpen} → j ≡ Ok z → after ≡ open_read (answered (graph_of text)) ws d t → after ≡ open_cache ws text d t
        open-sizes e opened = opened ∙ open-judged (sym answer ∙ ap judged_reply e)

pub can-open : {text : List ℕ} {d t : ℕ} {j : Result Counts Refused} {z : Counts} → judged_reply j ≡ judge_text text → j ≡ Ok z → d ≤ 1 → t ≤ 64 → CanOpen text d t z
can-open answer e direction slots = record { judged = sym answer ∙ ap judged_reply e; direction = direction; slots = slots }
