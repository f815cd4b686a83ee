use Rattle.std.proofs.Common.{◌≡◌, ◌++◌, map, take}
use Rattle.dk_reader.specs.Values.{spread}
use Rattle.dk_reader.specs.Study.{unit_value}
use Rattle.dk_reader.proofs.units.add_units.Given as goal

abbrev pub invariant-loop-value : goal.invariant-loop-value
invariant-loop-value l = l.units.items ≡ l.fn.units.items ++ map (unit_value l.unit.exponent) (spread (take l.value-index l.values))
