use Rattle.std.proofs.Common.{◌≡◌, take, map}
use Rattle.dk_reader.specs.Values.{spread, string}
use Rattle.dk_reader.proofs.parts.labels_of.Given as goal

abbrev pub invariant-loop-value : goal.invariant-loop-value
invariant-loop-value l = l.labels.items ≡ map string (spread (take l.value-index l.values))
