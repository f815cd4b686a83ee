use Rattle.std.proofs.Common.{ap, ◌∙◌}
use Rattle.dk_grammar.specs.Lists.{first}
use Rattle.dk_reader.specs.Study.{measured_values}
use Rattle.dk_reader.specs.Steps.{off_grid_faults}
use Rattle.dk_reader.proofs.First.{found_here, none_here}
use Rattle.dk_reader.proofs.Within.{field_within}
use Rattle.dk_reader.proofs.units.off_grid_of.Goals as goal

pub off_grid-requires : goal.off_grid-requires
off_grid-requires c = rw c.measured_values.ensures (field_within c.args.unit.exponent c.args.fields.now c.loop-field.field-index c.field-item.result c.loop-field-test.true c.field-item.is c.requires)

pub returns-in-Some : goal.returns-in-Some
returns-in-Some c =
    let here = c.in-Some.ensures ∙ ap (λ vs. first (off_grid_faults c.args.unit.exponent vs)) c.measured_values.ensures in
    found_here (λ f. off_grid_faults c.args.unit.exponent (measured_values f)) c.args.fields.now c.loop-field.field-index c.field-item.result c.loop-field-test.true c.field-item.is c.in-Some.fault _ here c.loop-field.invariant

pub loop-field-preserved : goal.loop-field-preserved
loop-field-preserved c =
    let here = c.in_default.ensures ∙ ap (λ vs. first (off_grid_faults c.args.unit.exponent vs)) c.measured_values.ensures in
    none_here (λ f. off_grid_faults c.args.unit.exponent (measured_values f)) c.args.fields.now c.loop-field.field-index c.field-item.result c.loop-field-test.true c.field-item.is _ here c.loop-field.invariant
