use Rattle.std.proofs.Common.{◌≡◌, drop}
use Rattle.std.specs.List.{flat_map}
use Rattle.dk_grammar.specs.Lists.{first}
use Rattle.dk_reader.specs.Checks.{faults_of}
use Rattle.dk_reader.proofs.document.Document.first_fault_among.Given as goal

abbrev pub invariant-loop-step : goal.invariant-loop-step
invariant-loop-step l = first (flat_map (faults_of l.self) (drop l.step-index l.steps)) ≡ first (flat_map (faults_of l.self) l.steps)
