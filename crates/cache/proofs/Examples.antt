-- Opening 01's chart, word by word, and the order of the refusals, by computation.
-- Assumes nothing.
use mathlib.Core.Path.{◌≡◌, refl, sym, ap}
use Rattle.std.specs.Prelude.{Err, Ok}
use mathlib.Core.List.{[], ◌∷◌, ◌++◌}
use Prim.Native.Nat.{ℕ}
use native.Mathlib.Omega.{arith}
use lib.ListN.{replicate, get_or}
use Rattle.model.specs.declared.Refusal.TheVariants.{OutOfOrder, OverLimit}
use Rattle.model.specs.Answers.{answered, refused}
use Rattle.model.proofs.Replies.{answered-refused}
use Rattle.model.specs.Graph.{forward, backward, domain, absent}
use Rattle.model.specs.Calls.{opened}
use Rattle.text.specs.Bytes.{bytes}
use Rattle.text.proofs.Examples.{example_text, example_graph}
use Rattle.layout.specs.Layout.{vertex_in}
use Rattle.layout.specs.Read.{read_cache}
use Rattle.cache.specs.Open.{AfterOpen, open_cache, Opening}

-- 01's chart needs 53 words with one slot; n words of 7 are lent
unfoldable lent : ℕ → ℕ → ℕ → AfterOpen
unfolding open_cache
lent n direction slots = open_cache (replicate n 7) (bytes example_text) direction slots

unfoldable refused_with : ℕ → ℕ → ℕ → AfterOpen
refused_with n f line = record { reply = refused f line; words = replicate n 7 }

-- header; initial costs; edges; first places; edge numbers; a slot of 0; what stands past them
opens-forward : lent 55 0 1
    ≡ record {
      reply = answered tt;
      words =
          (0 ∷ 4 ∷ 3 ∷ 1 ∷ 0 ∷ [])
          ++ (0 ∷ 5 ∷ absent ∷ absent ∷ [])
          ++ (0 ∷ 1 ∷ 4 ∷ [])
          ++ (1 ∷ 2 ∷ 3 ∷ [])
          ++ (0 ∷ 2 ∷ 9 ∷ [])
          ++ (0 ∷ 2 ∷ 3 ∷ 3 ∷ 3 ∷ [])
          ++ (0 ∷ 2 ∷ 1 ∷ [])
          ++ replicate 27 0
          ++ (7 ∷ 7 ∷ []);
    }
unfolding lent
opens-forward = refl

-- backward the edges are turned round, and 2 stands before 1: both enter vertex 2, from 0 and from 1
opens-backward : lent 53 1 1
    ≡ record {
      reply = answered tt;
      words =
          (1 ∷ 4 ∷ 3 ∷ 1 ∷ 0 ∷ [])
          ++ (0 ∷ 5 ∷ absent ∷ absent ∷ [])
          ++ (1 ∷ 0 ∷ 4 ∷ [])
          ++ (2 ∷ 1 ∷ 3 ∷ [])
          ++ (2 ∷ 0 ∷ 9 ∷ [])
          ++ (0 ∷ 0 ∷ 1 ∷ 3 ∷ 3 ∷ [])
          ++ (0 ∷ 2 ∷ 1 ∷ [])
          ++ replicate 27 0;
    }
unfolding lent
opens-backward = refl

-- ---- refused: the words stay

one-word-short : lent 52 0 1 ≡ refused_with 52 5 0
unfolding lent refused_with
one-word-short = refl

no_slot : lent 55 0 0 ≡ refused_with 55 4 0
unfolding lent refused_with
no_slot = refl

slots-65 : lent 55 0 65 ≡ refused_with 55 4 0
unfolding lent refused_with
slots-65 = refl

direction-2 : lent 55 2 1 ≡ refused_with 55 4 0
unfolding lent refused_with
direction-2 = refl

-- 64 slots are 1,754 words
slots-64-short : lent 55 1 64 ≡ refused_with 55 5 0
unfolding lent refused_with
slots-64-short = refl

-- a limit before a line, a line before the words
limit-before-line : open_cache (replicate 3 7) (bytes "N\n") 0 65 ≡ refused_with 3 4 0
unfolding open_cache refused_with
limit-before-line = refl

line-before-words : open_cache (replicate 3 7) (bytes "M,0,0\nM,2,0\n") 1 1 ≡ refused_with 3 2 2
unfolding open_cache refused_with
line-before-words = refl

-- the graph without vertices
opens-empty : open_cache (replicate 15 7) [] 1 1 ≡ record { reply = answered tt; words = (1 ∷ 0 ∷ 0 ∷ 1 ∷ 0 ∷ 0 ∷ []) ++ replicate 8 0 ++ (7 ∷ []) }
unfolding open_cache
opens-empty = refl

empty-short : open_cache (replicate 13 7) [] 0 1 ≡ refused_with 13 5 0
unfolding open_cache refused_with
empty-short = refl

-- ---- reading

reads-forward : read_cache (lent 55 0 1).words ≡ opened forward example_graph 1
unfolding lent read_cache opened
reads-forward = refl

reads-backward : read_cache (lent 55 1 1).words ≡ opened backward example_graph 1
unfolding lent read_cache opened
reads-backward = refl

-- a tree in the second slot of two: start, nodes used, queue length; nodes; queue, in any arrangement; closed words
reads-tree : read_cache
    ((0 ∷ 4 ∷ 3 ∷ 2 ∷ 2 ∷ [])
    ++ (0 ∷ 5 ∷ absent ∷ absent ∷ [])
    ++ (0 ∷ 1 ∷ 4 ∷ 1 ∷ 2 ∷ 3 ∷ 0 ∷ 2 ∷ 9 ∷ [])
    ++ (0 ∷ 2 ∷ 3 ∷ 3 ∷ 3 ∷ [])
    ++ (0 ∷ 2 ∷ 1 ∷ [])
    ++ (1 ∷ 1 ∷ 1 ∷ [])
    ++ (1 ∷ 5 ∷ absent ∷ absent ∷ [])
    ++ replicate 12 0
    ++ replicate 4 0
    ++ replicate 4 0
    ++ (0 ∷ 3 ∷ 2 ∷ [])
    ++ (0 ∷ 0 ∷ absent ∷ absent ∷ 1 ∷ 4 ∷ 0 ∷ 0 ∷ 2 ∷ 9 ∷ 0 ∷ 2 ∷ [])
    ++ replicate 4 0
    ++ (2 ∷ 1 ∷ 0 ∷ 0 ∷ [])
    ++ (1 ∷ 0 ∷ 0 ∷ 0 ∷ []))
    ≡ record {
      domain = domain forward example_graph;
      slots = 2;
      trees =
          record {
            start = 1;
            nodes = record { vertex = 1; cost = 5; parent = absent; edge = absent } ∷ [];
            waiting = 0 ∷ [];
            closed = 0 ∷ 0 ∷ 0 ∷ 0 ∷ [];
          }
          ∷ record {
            start = 0;
            nodes =
                record { vertex = 0; cost = 0; parent = absent; edge = absent }
                ∷ record { vertex = 1; cost = 4; parent = 0; edge = 0 }
                ∷ record { vertex = 2; cost = 9; parent = 0; edge = 2 }
                ∷ [];
            waiting = 1 ∷ 2 ∷ [];
            closed = 1 ∷ 0 ∷ 0 ∷ 0 ∷ [];
          }
          ∷ [];
    }
unfolding read_cache vertex_in domain
reads-tree = refl

-- ---- what the promise of `open` shuts out: answers and words that a wrong program would leave, on 01's chart and on a text with a fault

-- an opening that writes nothing
no-word-written : Opening (replicate 55 7) (bytes example_text) 0 1 (Ok tt) (replicate 55 7) → ⊥
unfolding open_cache
no-word-written p = let e : ◌≡◌ {A = ℕ} 7 0 = ap (λ (x : AfterOpen). get_or x.words 0 0) p in omega arith

-- a header written before the fault of the second line was found
header-before-fault : Opening (replicate 3 7) (bytes "M,0,0\nM,2,0\n") 0 1 (Err (record { refusal = OutOfOrder; line = 2 })) (0 ∷ 7 ∷ 7 ∷ []) → ⊥
unfolding open_cache
header-before-fault p = let e : ◌≡◌ {A = ℕ} 0 7 = ap (λ (x : AfterOpen). get_or x.words 0 0) p in omega arith

-- every opening refused
always-refused : Opening (replicate 55 7) (bytes example_text) 0 1 (Err (record { refusal = OverLimit; line = 0 })) (replicate 55 7) → ⊥
unfolding open_cache
always-refused p = answered-refused tt 4 0 (sym (ap (λ (x : AfterOpen). x.reply) p))

-- a word past those needed cleared as well
past-cleared : Opening (replicate 15 7) [] 1 1 (Ok tt) ((1 ∷ 0 ∷ 0 ∷ 1 ∷ []) ++ replicate 11 0) → ⊥
unfolding open_cache
past-cleared p = let e : ◌≡◌ {A = ℕ} 0 7 = ap (λ (x : AfterOpen). get_or x.words 14 0) p in omega arith
