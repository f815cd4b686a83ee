-- What a document gives, from its first fault or none.
use Rattle.std.proofs.Common.{◌≡◌, ◌≤◌, List, [], ◌++◌, map, refl, sym, ap, ◌∙◌, subst, append_assoc, Some, None}
use Rattle.std.proofs.lemmas.List.{append-nil}
use Rattle.dk_num.specs.Units.{AreModerate}
use Rattle.dk_grammar.specs.Lists.{first, IsFirst}
use Rattle.dk_grammar.proofs.Growing.{no_first, some_first, first_of_front}
use Rattle.dk_grammar.specs.declared.words.Block.TheVariants as block
use Rattle.dk_grammar.specs.declared.words.Name.TheVariants as name
use Rattle.dk_reader.specs.declared.document.Document.{Document}
use Rattle.dk_reader.specs.declared.fault.StudyFault.{StudyFault}
use Rattle.dk_reader.specs.Values.{number}
use Rattle.dk_reader.specs.Document.{AreNamed}
use Rattle.dk_reader.specs.Study.{unit_exponent, written_values, limit}
use Rattle.dk_reader.specs.Steps.{study_faults, step1, step2, step3, step4, step5, step6, step7, step8, step9, step10, step11, step12}
use Rattle.dk_reader.specs.Checks.{faults_before_unit, faults_from_unit}
use Rattle.dk_reader.specs.Measured.{AreMeasured}
use Rattle.dk_reader.proofs.SoundLists.{empty_parts}
use Rattle.dk_reader.proofs.SoundUnits.{are_moderate, are_within}
use Rattle.dk_reader.proofs.SoundSteps.{few_of_size}
use Rattle.dk_reader.proofs.Within.{values_within}

ten : {X : Type 0} (a b c e f g h i j k l m : List X) →
    (a ++ (b ++ (c ++ (e ++ (f ++ (g ++ (h ++ (i ++ (j ++ (k ++ [])))))))))) ++ (l ++ m) ≡ a ++ (b ++ (c ++ (e ++ (f ++ (g ++ (h ++ (i ++ (j ++ (k ++ (l ++ (m ++ [])))))))))))
ten a b c e f g h i j k l m = simp (append_assoc, append-nil) refl

-- all faults are those before the unit's, and then the others
pub in_two : (d : Document) → study_faults d ≡ faults_before_unit d ++ faults_from_unit d
unfolding study_faults
in_two d = sym (ten (step1 d) (step2 d) (step3 d) (step4 d) (step5 d) (step6 d) (step7 d) (step8 d) (step9 d) (step10 d) (step11 d) (step12 d))

-- a fault before the unit's step is the first
pub first_before : (d : Document) (f : StudyFault) → Some f ≡ first (faults_before_unit d) → IsFirst f (study_faults d)
first_before d f e = subst (IsFirst f) (sym (in_two d)) (first_of_front f (faults_before_unit d) (faults_from_unit d) (some_first (faults_before_unit d) f (sym e)))

module _ (d : Document) (none : None ≡ first (faults_before_unit d)) where
  empty : faults_before_unit d ≡ []
  empty = no_first (faults_before_unit d) (sym none)

  -- all faults are those from the unit's step on
  from_unit : study_faults d ≡ faults_from_unit d
  from_unit = in_two d ∙ ap (λ l. l ++ faults_from_unit d) empty

  -- a fault of the unit's step or the last is the first
  pub first_after : (f : StudyFault) → Some f ≡ first (faults_from_unit d) → IsFirst f (study_faults d)
  first_after f e = subst (IsFirst f) (sym from_unit) (some_first (faults_from_unit d) f (sym e))

  pub faultless : None ≡ first (faults_from_unit d) → study_faults d ≡ []
  faultless e = from_unit ∙ no_first (faults_from_unit d) (sym e)

  -- the steps that the unit and the limit rest on have no fault
  values_and_size : (step5 d ≡ []) × (step10 d ≡ [])
  values_and_size =
      let p1 = empty_parts (step1 d) _ empty in let p2 = empty_parts (step2 d) _ p1.1 in let p3 = empty_parts (step3 d) _ p2.1 in
      let p4 = empty_parts (step4 d) _ p3.1 in let p5 = empty_parts (step5 d) _ p4.1 in let p6 = empty_parts (step6 d) _ p5.1 in
      let p7 = empty_parts (step7 d) _ p6.1 in let p8 = empty_parts (step8 d) _ p7.1 in let p9 = empty_parts (step9 d) _ p8.1 in
      (p5.0, (empty_parts (step10 d) [] p9.1).0)

  pub moderate : AreNamed d.fields → AreModerate (map number (written_values d))
  moderate named = are_moderate d named values_and_size.0

  pub few : limit d ≤ 100000
  few = (few_of_size d values_and_size.1).0

-- the numbers of each keyword can be told in units
pub measured : (d : Document) → AreNamed d.fields → AreMeasured (unit_exponent d) d
measured d named = let within = are_within d in let e = unit_exponent d in record {
  initial_point = values_within block.Variables name.InitialPoint _ refl refl refl e d named within;
  lower_bounds = values_within block.Variables name.LowerBounds _ refl refl refl e d named within;
  upper_bounds = values_within block.Variables name.UpperBounds _ refl refl refl e d named within;
  step_vector = values_within block.Method name.StepVector _ refl refl refl e d named within;
  final_point = values_within block.Method name.FinalPoint _ refl refl refl e d named within;
  list_of_points = values_within block.Method name.ListOfPoints _ refl refl refl e d named within;
  initial_delta = values_within block.Method name.InitialDelta _ refl refl refl e d named within;
  threshold_delta = values_within block.Method name.ThresholdDelta _ refl refl refl e d named within;
}
