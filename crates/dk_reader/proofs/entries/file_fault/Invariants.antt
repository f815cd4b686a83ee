use Rattle.std.proofs.Common.{◌≡◌, drop}
use Rattle.dk_grammar.specs.Lists.{first}
use Rattle.dk_reader.specs.Steps.{file_faults}
use Rattle.dk_reader.proofs.entries.file_fault.Given as goal

abbrev pub invariant-loop-field : goal.invariant-loop-field
invariant-loop-field l = first (file_faults (drop l.field-index l.fields)) ≡ first (file_faults l.fields)
