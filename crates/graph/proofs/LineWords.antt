-- The words that the lines of a text write, one line after the other.
-- Assumes nothing.
use mathlib.Core.Path.{◌≡◌, refl, ap, ◌∙◌}
use mathlib.Core.List.{List}
use Prim.Native.Nat.{ℕ, ◌<◌, ◌≤◌}
use native.Mathlib.Omega.{arith}
use lib.ListN.{length, length-set}
use Rattle.std.specs.Prelude.{Some, None}
use Rattle.std.specs.declared.option.Option.{Option}
use Rattle.model.specs.Graph.{Direction}
use Rattle.text.specs.declared.lines.Line.{Line}
use Rattle.text.specs.declared.lines.Line.TheVariants.{Vertex, Edge}
use Rattle.text.specs.declared.counts.Counts.{Counts}
use Rattle.text.specs.Lines.{ended_line, lines_of}
use Rattle.text.specs.Read.{initial_word, counted, no_counts}
use Rattle.text.proofs.Inclusive.{Cut}
use Rattle.text.proofs.LineCuts.{lines-none}
use Rattle.text.proofs.Passed.{Within, Passes, judged-within}
use Rattle.text.proofs.Passing.{Passing, passing-first, passing-line, passing-next}
use Rattle.layout.specs.Layout.{slots_at}
use Rattle.graph.specs.Write.{CanWrite, WritesLine, line_written, lines_written}

-- ---- one line

pub line-length : (dir : Direction) (m : ℕ) (k : Counts) (x : Option Line) (ws : List ℕ) → length (line_written dir m k x ws) ≡ length ws
unfolding line_written
line-length dir m k None ws = refl
line-length dir m k (Some (Vertex n i)) ws = simp length-set
line-length dir m k (Some (Edge a b c)) ws = simp length-set

initial-fits : (i : Option ℕ) → ((c : ℕ) → i ≡ Some c → c ≤ 999999) → initial_word i < 4294967296
initial-fits None h = omega arith
initial-fits (Some c) h = omega (arith, h c refl)

-- a line that is not refused has its place in words that the graph fits
passes-writes : {k z : Counts} {m n : ℕ} (x : Line) → Passes k z (Some x) → Within z → z.vertices ≡ m → slots_at m z.edges ≤ n → WritesLine n m k x
passes-writes (Vertex v i) p w e f = (omega (arith, p.vertex {n = v} {i = i} refl), initial-fits i (λ c q. p.initial refl q))
passes-writes (Edge a b c) p w e f = omega (arith, p.edge {m = a} {n = b} {c = c} refl)

-- ---- all lines

-- l: the bytes left of the text; the lines above count k and are written, and what is left to write is the lines below
pub record Writing (dir : Direction) (text ws₀ : List ℕ) (m : ℕ) (k : Counts) (l ws : List ℕ) : Type 0 where
  pub all : Counts
  pub vertices : all.vertices ≡ m
  pub fits : slots_at m all.edges ≤ length ws
  pub limits : Within all
  pub passing : Passing k all l
  pub len : length ws ≡ length ws₀
  pub same : lines_written dir m k (lines_of l) ws ≡ lines_written dir m no_counts (lines_of text) ws₀

pub writing-first : (dir : Direction) {text ws : List ℕ} {z : Counts} (l : List ℕ) → CanWrite ws text z → l ≡ text → Writing dir text ws z.vertices no_counts l ws
writing-first dir {text} {ws} {z} l w e =
    rw e (record {
      all = z;
      vertices = refl;
      fits = w.fits;
      limits = judged-within text w.judged;
      passing = passing-first text w.judged;
      len = refl;
      same = refl;
    })

pub writing-last : {dir : Direction} {text ws₀ : List ℕ} {m : ℕ} {k : Counts} {l ws : List ℕ}
    → Writing dir text ws₀ m k l ws → length l ≡ 0 → ws ≡ lines_written dir m no_counts (lines_of text) ws₀
unfolding lines_written
writing-last {l = l} s e = rw (lines-none l e) at s.same

-- x: the piece of the line below
module _ {dir : Direction} {text ws₀ : List ℕ} {m : ℕ} {k : Counts} {l x r ws : List ℕ} (s : Writing dir text ws₀ m k l ws) (cut : Cut l x r) {y : Option Line} (read : y ≡ ended_line x) where
  pub writing-line : {z : Line} → y ≡ Some z → WritesLine (length ws) m k z
  writing-line {z} e = passes-writes z (rw e at (passing-line s.passing cut read)) s.limits s.vertices s.fits

  pub writing-next : {us : List ℕ} {v : Counts} → us ≡ line_written dir m k y ws → v ≡ counted k y → Writing dir text ws₀ m v r us
  unfolding lines_written
  writing-next {us} {v} e q =
      let same_length = ap length e ∙ line-length dir m k y ws in
      record {
        all = s.all;
        vertices = s.vertices;
        fits = omega (arith, s.fits, same_length);
        limits = s.limits;
        passing = passing-next s.passing cut read q;
        len = same_length ∙ s.len;
        same = rw (e, q) (rw (cut.lines, ← read) at s.same);
      }

  pub writing-none : y ≡ None → Writing dir text ws₀ m k r ws
  unfolding line_written counted
  writing-none e = writing-next (rw e) (rw e)
