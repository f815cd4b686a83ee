use Rattle.std.proofs.Common.{◌≡◌, ◌++◌, map, take}
use Rattle.std.specs.List.{flat_map}
use Rattle.dk_reader.specs.Values.{number}
use Rattle.dk_reader.specs.Study.{measured_values}
use Rattle.dk_reader.proofs.units.add_measured.Given as goal

abbrev pub invariant-loop-field : goal.invariant-loop-field
invariant-loop-field l = l.numbers.items ≡ l.fn.numbers.items ++ map number (flat_map measured_values (take l.field-index l.fields))
