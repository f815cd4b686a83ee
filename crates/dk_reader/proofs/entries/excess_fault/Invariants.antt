use Rattle.std.proofs.Common.{◌≡◌, ◌≤◌, take, drop}
use Rattle.std.specs.List.{flat_map}
use Rattle.dk_grammar.specs.Lists.{first, places_after}
use Rattle.dk_reader.specs.Values.{count_of}
use Rattle.dk_reader.specs.Steps.{excess_at, excess_faults}
use Rattle.dk_reader.proofs.entries.excess_fault.Given as goal

abbrev pub invariant-loop-value : goal.invariant-loop-value
invariant-loop-value l = (first (flat_map excess_at (places_after (take l.value-index l.values) (drop l.value-index l.values))) ≡ first (excess_faults l.values)) × (l.sum ≡ count_of (take l.value-index l.values)) × (l.sum ≤ 4000000)
