use Rattle.std.proofs.Common.{◌≡◌, ◌++◌, map, take}
use Rattle.dk_reader.specs.Values.{number}
use Rattle.dk_reader.proofs.units.add_numbers.Given as goal

abbrev pub invariant-loop-value : goal.invariant-loop-value
invariant-loop-value l = l.numbers.items ≡ l.fn.numbers.items ++ map number (take l.value-index l.values)
