use Rattle.std.proofs.Common.{◌≡◌, drop}
use Rattle.dk_grammar.specs.Lists.{first}
use Rattle.dk_reader.specs.Steps.{off_grid_faults}
use Rattle.dk_reader.proofs.units.off_grid.Given as goal

abbrev pub invariant-loop-value : goal.invariant-loop-value
invariant-loop-value l = first (off_grid_faults l.unit.exponent (drop l.value-index l.values)) ≡ first (off_grid_faults l.unit.exponent l.values)
