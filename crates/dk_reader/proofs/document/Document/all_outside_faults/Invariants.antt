use Rattle.std.proofs.Common.{◌≡◌, ◌-◌}
use Rattle.std.specs.List.{flat_map, range_with_len}
use Rattle.dk_grammar.specs.Lists.{first}
use Rattle.dk_reader.specs.Steps.{outside_faults, all_outside_faults}
use Rattle.dk_reader.proofs.document.Document.all_outside_faults.Given as goal

abbrev pub invariant-loop-place : goal.invariant-loop-place
invariant-loop-place l = first (flat_map (outside_faults l.self) (range_with_len l.place (l.place-end - l.place))) ≡ first (all_outside_faults l.self)
