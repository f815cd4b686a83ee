use Rattle.std.proofs.Common.{◌≡◌, take, map}
use Rattle.dk_reader.specs.Values.{spread, number}
use Rattle.dk_reader.proofs.parts.numbers_of.Given as goal

abbrev pub invariant-loop-value : goal.invariant-loop-value
invariant-loop-value l = l.numbers.items ≡ map number (spread (take l.value-index l.values))
