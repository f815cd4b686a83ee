use Rattle.std.proofs.Common.{◌≡◌, drop}
use Rattle.dk_grammar.specs.Lists.{first}
use Rattle.dk_reader.specs.Steps.{off_grid_faults_of}
use Rattle.dk_reader.proofs.units.off_grid_of.Given as goal

abbrev pub invariant-loop-field : goal.invariant-loop-field
invariant-loop-field l = first (off_grid_faults_of l.unit.exponent (drop l.field-index l.fields)) ≡ first (off_grid_faults_of l.unit.exponent l.fields)
