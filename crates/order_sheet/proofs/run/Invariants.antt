-- The bytes lent keep their length, and what was written so far is the start of the sheet.
use Rattle.std.proofs.Common.{length, ◌-◌, ◌≡◌, ℕ, List}
use Rattle.order_sheet.specs.declared.Part.{Part}
use Rattle.order_sheet.specs.Sheet.{WrittenSoFar}
use Rattle.order_sheet.proofs.run.Given as goal

pub record Printing (chart orders fs bs out : List ℕ) (p : Part) (filled : ℕ) : Type 0 where
  pub space : length out ≡ 65536
  pub so_far : WrittenSoFar chart orders fs bs out filled p

abbrev pub invariant-loop-part : goal.invariant-loop-part
invariant-loop-part l = Printing l.chart l.orders l.lent.forward l.lent.backward l.out l.part l.filled

abbrev pub decreases-loop-part : goal.decreases-loop-part
decreases-loop-part l = length l.orders - l.part.at
