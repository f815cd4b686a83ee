use Rattle.std.proofs.Common.{◌≡◌, drop}
use Rattle.dk_grammar.specs.Lists.{first}
use Rattle.dk_reader.specs.Steps.{twice_faults_of}
use Rattle.dk_reader.proofs.entries.twice_fault_of.Given as goal

abbrev pub invariant-loop-field : goal.invariant-loop-field
invariant-loop-field l = first (twice_faults_of (drop l.field-index l.fields)) ≡ first (twice_faults_of l.fields)
