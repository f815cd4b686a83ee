use Rattle.std.proofs.Common.{◌≡◌, take, map}
use Rattle.dk_reader.specs.Values.{spread, whole}
use Rattle.dk_reader.proofs.parts.counts_of.Given as goal

abbrev pub invariant-loop-value : goal.invariant-loop-value
invariant-loop-value l = l.counts.items ≡ map whole (spread (take l.value-index l.values))
