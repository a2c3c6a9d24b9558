use Rattle.std.proofs.Common.{rules, tests}
use Rattle.std.proofs.lemmas.List.{length_push}
use Rattle.text.proofs.FieldsRead.{reading-start, reading-next, reading-end}
use Rattle.text.proofs.Splits.{pieces-start, pieces-end, next_piece}
use Rattle.text.proofs.fields.read_fields.Goals as goal

pub loop-field-init : goal.loop-field-init
loop-field-init c = search (rules, reading-start, pieces-start)

pub loop-field-preserved : goal.loop-field-preserved
loop-field-preserved c =
    let piece = next_piece c.args.b c.loop-field.yielded c.loop-field.field-iterator _ c.in-Some.field c.loop-field.yielded_by c.in-Some.is c.next.ensures.steps c.into_iter-field-iterator.ensures.into_iter_gives c.split-field-items.ensures.closure (λ y o q k. search (rules, tests)) in
    reading-next c.loop-field.invariant piece c.read_field.ensures c.with-fields.ensures (length_push c.loop-field.yielded c.in-Some.field)

pub returns : goal.returns
returns c = reading-end c.loop-field.invariant (pieces-end _ _ _ _ c.in-None.is c.next.ensures.steps)
