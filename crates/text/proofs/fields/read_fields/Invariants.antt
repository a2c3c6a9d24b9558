use Rattle.std.proofs.Common.{length}
use Rattle.text.proofs.FieldsRead.{Reading}
use Rattle.text.proofs.Splits.{pieces_left}
use Rattle.text.proofs.fields.read_fields.Given as goal

abbrev pub invariant-loop-field : goal.invariant-loop-field
invariant-loop-field l = Reading l.fn.b l.s l.fields (length l.yielded) (pieces_left l.fn.b l.field-iterator)
