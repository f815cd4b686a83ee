use Rattle.std.proofs.Common.{◌≡◌, drop}
use Rattle.dk_grammar.specs.Lists.{first}
use Rattle.dk_reader.specs.Steps.{faults_of_fields}
use Rattle.dk_reader.proofs.document.Document.first_field_fault.Given as goal

abbrev pub invariant-loop-field : goal.invariant-loop-field
invariant-loop-field l = first (faults_of_fields l.self (drop l.field-index l.fields)) ≡ first (faults_of_fields l.self l.fields)
