use Rattle.std.proofs.Common.{◌≡◌, ◌<◌}
use Rattle.text.specs.Bytes.{digits_from}
use Prim.Native.Nat.{◌^◌}
use lib.ListN.{drop}
use Rattle.text.proofs.bytes.digits.Given as goal

abbrev pub invariant-loop-b : goal.invariant-loop-b
invariant-loop-b l = (l.v < 10 ^ l.b-index) × (digits_from 0 l.s ≡ digits_from l.v (drop l.b-index l.s))
