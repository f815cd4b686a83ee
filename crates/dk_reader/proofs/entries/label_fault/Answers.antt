use Rattle.dk_reader.proofs.First.{found_here, none_here}
use Rattle.dk_reader.proofs.entries.label_fault.Goals as goal

pub returns-in-Some : goal.returns-in-Some
returns-in-Some c = found_here _ c.args.fields.now c.loop-field.field-index c.field-item.result c.loop-field-test.true c.field-item.is c.in-Some.fault _ c.in-Some.ensures c.loop-field.invariant

pub loop-field-preserved : goal.loop-field-preserved
loop-field-preserved c = none_here _ c.args.fields.now c.loop-field.field-index c.field-item.result c.loop-field-test.true c.field-item.is _ c.in_default.ensures c.loop-field.invariant
