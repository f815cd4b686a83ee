use Rattle.std.proofs.Common.{◌≡◌, drop}
use Rattle.dk_grammar.specs.Lists.{first}
use Rattle.dk_reader.specs.Steps.{label_faults}
use Rattle.dk_reader.proofs.entries.label_fault.Given as goal

abbrev pub invariant-loop-field : goal.invariant-loop-field
invariant-loop-field l = first (label_faults (drop l.field-index l.fields)) ≡ first (label_faults l.fields)
