use Rattle.std.proofs.Common.{◌≡◌, take, drop}
use Rattle.std.specs.List.{flat_map}
use Rattle.dk_grammar.specs.Lists.{first, places_after}
use Rattle.dk_reader.specs.Steps.{twice_at, twice_faults}
use Rattle.dk_reader.proofs.entries.twice_fault.Given as goal

abbrev pub invariant-loop-place : goal.invariant-loop-place
invariant-loop-place l = first (flat_map twice_at (places_after (take l.place l.labels) (drop l.place l.labels))) ≡ first (twice_faults l.labels)
