-- The steps by name, and what a document gives.
use Rattle.std.specs.Prelude.{◌≡◌, List, [], ◌∷◌, ◌++◌, Result, Ok, Err}
use Rattle.std.specs.List.{flat_map}
use Rattle.dk_grammar.specs.Lists.{IsFirst}
use Rattle.dk_types.specs.declared.study.Study.{Study}
use Rattle.dk_reader.specs.declared.document.Document.{Document}
use Rattle.dk_reader.specs.declared.fault.ReadRefusal.{ReadRefusal}
use Rattle.dk_reader.specs.declared.fault.ReadRefusal.TheVariants as refusal
use Rattle.dk_reader.specs.declared.check.Step.{Step}
use Rattle.dk_reader.specs.declared.check.Step.TheVariants as named
use Rattle.dk_reader.specs.Study.{study_of}
use Rattle.dk_reader.specs.Steps as steps

abbrev pub faults_of : Document → Step → steps.Faults
faults_of d named.Method = steps.step1 d
faults_of d named.Variables = steps.step2 d
faults_of d named.Responses = steps.step3 d
faults_of d named.Driver = steps.step4 d
faults_of d named.Values = steps.step5 d
faults_of d named.Labels = steps.step6 d
faults_of d named.Keywords = steps.step7 d
faults_of d named.Rules = steps.step8 d
faults_of d named.Bounds = steps.step9 d
faults_of d named.Size = steps.step10 d

-- the steps before the unit's
abbrev pub steps_before_unit : List Step
steps_before_unit =
    named.Method ∷ (named.Variables ∷ (named.Responses ∷ (named.Driver ∷ (named.Values ∷ (named.Labels ∷ (named.Keywords ∷ (named.Rules ∷ (named.Bounds ∷ (named.Size ∷ [])))))))))

abbrev pub faults_before_unit : Document → steps.Faults
faults_before_unit d = flat_map (faults_of d) steps_before_unit

-- the unit's step and the last
abbrev pub faults_from_unit : Document → steps.Faults
faults_from_unit d = steps.step11 d ++ steps.step12 d

-- the study of a document without a fault, or its first fault; want of memory says nothing
abbrev pub DocumentRead : Document → Result Study ReadRefusal → Type 0
DocumentRead d (Ok study) = (steps.study_faults d ≡ []) × (study ≡ study_of d)
DocumentRead d (Err (refusal.Study f)) = IsFirst f (steps.study_faults d)
DocumentRead d (Err refusal.NoMemory) = Unit {0}
