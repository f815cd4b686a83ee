use Rattle.std.proofs.Common.{get_or}
use Rattle.std.proofs.lemmas.List.{get_or_default}
use Rattle.dk_reader.specs.declared.check.Step.TheVariants as named
use Rattle.dk_reader.specs.Checks.{faults_of}
use Rattle.dk_reader.proofs.First.{found_here, none_here}
use Rattle.dk_reader.proofs.document.Document.first_fault_among.Goals as goal

pub returns-in-Some : goal.returns-in-Some
returns-in-Some c =
    let steps = c.args.steps.now in
    let i = c.loop-step.step-index in
    let step = get_or steps i named.Method in
    found_here (faults_of c.args.self.now) steps i step c.loop-step-test.true (get_or_default steps i named.Method step c.loop-step-test.true) c.in-Some.fault _ c.in-Some.ensures c.loop-step.invariant

pub loop-step-preserved : goal.loop-step-preserved
loop-step-preserved c =
    let steps = c.args.steps.now in
    let i = c.loop-step.step-index in
    let step = get_or steps i named.Method in
    none_here (faults_of c.args.self.now) steps i step c.loop-step-test.true (get_or_default steps i named.Method step c.loop-step-test.true) _ c.in_default.ensures c.loop-step.invariant
