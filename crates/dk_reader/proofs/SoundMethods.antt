-- The method of a document without faults is sound.
use Rattle.std.proofs.Common.{◌≡◌, inl, true, false, not, List, [], ◌∷◌, length, refl, sym, ap, ◌∙◌, subst, lit≤, Some, None}
use Rattle.std.specs.Prelude.{◌&&◌, ◌==◌, is_none, if◌then◌else◌}
use Rattle.std.specs.List.{list_any}
use Rattle.std.proofs.lemmas.Bool.{and_parts, or_parts}
use Rattle.dk_types.specs.declared.study.Method.{Method}
use Rattle.dk_types.specs.declared.study.Method.TheVariants as method
use Rattle.dk_types.specs.Sound.{IsPoint, AreCounts, ArePoints, IsWay, IsSoundMethod}
use Rattle.dk_grammar.specs.Lists.{first}
use Rattle.dk_grammar.specs.Meanings.{same_name}
use Rattle.dk_grammar.specs.declared.words.Block.TheVariants as block
use Rattle.dk_grammar.specs.declared.words.Name.{Name}
use Rattle.dk_grammar.specs.declared.words.Name.TheVariants as name
use Rattle.dk_grammar.specs.declared.words.Count.TheVariants as counts
use Rattle.dk_reader.specs.declared.document.Field.{Field}
use Rattle.dk_reader.specs.declared.document.Document.{Document}
use Rattle.dk_reader.specs.Document.{fields_of, field_of, has, whole_at, method_names, method_is, variable_count, response_count}
use Rattle.dk_reader.specs.Study.{unit_exponent, variables_of, responses_of, method_of, way_of, units_at, unit_at, units_if, counts_at, each_count}
use Rattle.dk_reader.specs.Steps.{needs_of, lacks, has_bounds, has_objective}
use Rattle.dk_reader.proofs.SoundLists.{not_false, equal_from}
use Rattle.dk_reader.proofs.SoundSteps.{Checked}
use Rattle.dk_reader.proofs.SoundKeywords.{in_names}
use Rattle.dk_reader.proofs.SoundReading.{AreWritten}
use Rattle.dk_reader.proofs.SoundValues.{whole_in}
use Rattle.dk_reader.proofs.SoundMethod.{way, points, point_at, partitions, steps}
use Rattle.dk_reader.proofs.SoundLengths.{length_at}
use Rattle.dk_reader.proofs.SoundFiles.{variables_labelled, responses_labelled}
use Rattle.dk_reader.proofs.SoundCases.{other_one, if_true, if_false, HasMethod, has_method, method_told}

-- the methods that a document may say
abbrev vector_of : Document → Method
vector_of d = method.Vector (whole_at d block.Method name.NumSteps 0) (way_of d)

abbrev list_of : Document → Method
list_of d = method.List (units_at d block.Method name.ListOfPoints)

abbrev centered_of : Document → Method
centered_of d = method.Centered (units_at d block.Method name.StepVector) (each_count d (counts_at d name.StepsPerVariable))

abbrev multidim_of : Document → Method
multidim_of d = method.Multidim (counts_at d name.Partitions)

abbrev compass_of : Document → Method
compass_of d = method.Compass (unit_at d name.InitialDelta) (unit_at d name.ThresholdDelta) (whole_at d block.Method name.MaxIterations 1000) (whole_at d block.Method name.MaxFunctionEvaluations 1000)

-- the method, where it isn't one of the first
abbrev fourth_of : Document → Method
fourth_of d = if method_is d name.MultidimParameterStudy then multidim_of d else compass_of d

abbrev third_of : Document → Method
third_of d = if method_is d name.CenteredParameterStudy then centered_of d else fourth_of d

abbrev second_of : Document → Method
second_of d = if method_is d name.ListParameterStudy then list_of d else third_of d

module _ (d : Document) (c : Checked d) (w : AreWritten d) where
  abbrev Sound : Method → Type 0
  Sound = IsSoundMethod (unit_exponent d) (variables_of d) (responses_of d)

  labelled : length (variables_of d).labels ≡ variable_count d
  labelled = (variables_labelled d c w).1

  -- none of what a method needs is missing
  needs : (m : Field) (n : Name) → HasMethod d m → m.entry.name ≡ n → list_any (lacks d) (needs_of n) ≡ false
  needs m n h e = subst (λ k. list_any (lacks d) (needs_of k) ≡ false) e h.needs

  vector : (m : Field) → HasMethod d m → m.entry.name ≡ name.VectorParameterStudy → Sound (method_of d)
  vector m h e =
      let p = or_parts (is_none (field_of d block.Method name.NumSteps)) _ (needs m name.VectorParameterStudy h e) in
      let q = or_parts (is_none (first (fields_of d block.Method (name.StepVector ∷ (name.FinalPoint ∷ []))))) false p.1 in
      let count = whole_in d c block.Method name.NumSteps 0 10000 counts.One 0 refl refl (inl (lit≤ tt, lit≤ tt)) in
      if_true Sound (method_is d name.VectorParameterStudy) (vector_of d) (second_of d) (method_told d m name.VectorParameterStudy name.VectorParameterStudy h.is e)
      (count.1, subst (λ n. IsWay (unit_exponent d) n (way_of d)) (sym labelled) (way d c w (other_one block.Method name.StepVector name.FinalPoint d.fields (not_false _ q.0))))

  list : (m : Field) → HasMethod d m → m.entry.name ≡ name.ListParameterStudy → Sound (method_of d)
  list m h e =
      let n = name.ListParameterStudy in
      let p = or_parts (is_none (field_of d block.Method name.ListOfPoints)) false (needs m n h e) in
      if_false Sound (method_is d name.VectorParameterStudy) (vector_of d) (second_of d) (method_told d m n name.VectorParameterStudy h.is e)
      (if_true Sound (method_is d n) (list_of d) (third_of d) (method_told d m n n h.is e)
      (subst (λ k. ArePoints (unit_exponent d) k (units_at d block.Method name.ListOfPoints)) (sym labelled) (points d c w (not_false _ p.0))))

  centered : (m : Field) → HasMethod d m → m.entry.name ≡ name.CenteredParameterStudy → Sound (method_of d)
  centered m h e =
      let n = name.CenteredParameterStudy in
      let p = or_parts (is_none (field_of d block.Method name.StepVector)) _ (needs m n h e) in
      let q = or_parts (is_none (field_of d block.Method name.StepsPerVariable)) false p.1 in
      if_false Sound (method_is d name.VectorParameterStudy) (vector_of d) (second_of d) (method_told d m n name.VectorParameterStudy h.is e)
      (if_false Sound (method_is d name.ListParameterStudy) (list_of d) (third_of d) (method_told d m n name.ListParameterStudy h.is e)
      (if_true Sound (method_is d n) (centered_of d) (fourth_of d) (method_told d m n n h.is e) (
        subst (λ k. IsPoint (unit_exponent d) k (units_at d block.Method name.StepVector)) (sym labelled) (point_at d c w block.Method name.StepVector (not_false _ p.0) refl refl refl refl),
        subst (λ k. AreCounts k 0 10000 (each_count d (counts_at d name.StepsPerVariable))) (sym labelled) (steps d c w (not_false _ q.0)),
      )))

  -- bounds that are there
  bounds_there : (n : Name) → has d block.Variables n ≡ true → (ks : List _) × (units_if d n ≡ Some ks)
  bounds_there n e = (units_at d block.Variables n, ap (λ t. if t then Some (units_at d block.Variables n) else None) e)

  multidim : (m : Field) → HasMethod d m → m.entry.name ≡ name.MultidimParameterStudy → Sound (method_of d)
  multidim m h e =
      let n = name.MultidimParameterStudy in
      let p = or_parts (is_none (field_of d block.Method name.Partitions)) false (needs m n h e) in
      let bounded : not (has_bounds d) ≡ false
      = subst (λ k. (same_name k name.MultidimParameterStudy && not (has_bounds d)) ≡ false) e h.bounded in
      let both = and_parts (has d block.Variables name.LowerBounds) (has d block.Variables name.UpperBounds) (not_false _ bounded) in
      if_false Sound (method_is d name.VectorParameterStudy) (vector_of d) (second_of d) (method_told d m n name.VectorParameterStudy h.is e)
      (if_false Sound (method_is d name.ListParameterStudy) (list_of d) (third_of d) (method_told d m n name.ListParameterStudy h.is e)
      (if_false Sound (method_is d name.CenteredParameterStudy) (centered_of d) (fourth_of d) (method_told d m n name.CenteredParameterStudy h.is e)
      (if_true Sound (method_is d n) (multidim_of d) (compass_of d) (method_told d m n n h.is e) (
        subst (λ k. AreCounts k 1 10000 (counts_at d name.Partitions)) (sym labelled) (partitions d c w (not_false _ p.0)),
        bounds_there name.LowerBounds both.0,
        bounds_there name.UpperBounds both.1,
      ))))

  compass : (m : Field) → HasMethod d m → m.entry.name ≡ name.CompassSearch → Sound (method_of d)
  compass m h e =
      let n = name.CompassSearch in
      let p = or_parts (is_none (field_of d block.Method name.InitialDelta)) _ (needs m n h e) in
      let q = or_parts (is_none (field_of d block.Method name.ThresholdDelta)) false p.1 in
      let searched : not (has_objective d) ≡ false
      = subst (λ k. (same_name k name.CompassSearch && not (has_objective d)) ≡ false) e h.searched in
      let both = and_parts (has d block.Responses name.ObjectiveFunctions) (response_count d == 1) (not_false _ searched) in
      let iterations = whole_in d c block.Method name.MaxIterations 0 10000 counts.One 1000 refl refl (inl (lit≤ tt, lit≤ tt)) in
      let evaluations = whole_in d c block.Method name.MaxFunctionEvaluations 1 100000 counts.One 1000 refl refl (inl (lit≤ tt, lit≤ tt)) in
      if_false Sound (method_is d name.VectorParameterStudy) (vector_of d) (second_of d) (method_told d m n name.VectorParameterStudy h.is e)
      (if_false Sound (method_is d name.ListParameterStudy) (list_of d) (third_of d) (method_told d m n name.ListParameterStudy h.is e)
      (if_false Sound (method_is d name.CenteredParameterStudy) (centered_of d) (fourth_of d) (method_told d m n name.CenteredParameterStudy h.is e)
      (if_false Sound (method_is d name.MultidimParameterStudy) (multidim_of d) (compass_of d) (method_told d m n name.MultidimParameterStudy h.is e) (
        length_at d c w name.InitialDelta (not_false _ p.0) refl refl refl refl,
        length_at d c w name.ThresholdDelta (not_false _ q.0) refl refl refl refl,
        iterations.1,
        evaluations,
        both.0,
        (responses_labelled d c w).1 ∙ equal_from (response_count d) 1 both.1,
      ))))

  -- the method is sound
  pub method_sound : Sound (method_of d)
  method_sound = let m = has_method d c in by m.0 m.1
    where
      by : (m : Field) → HasMethod d m → Sound (method_of d)
      by m h = in_names (λ k. m.entry.name ≡ k → Sound (method_of d)) method_names m.entry.name (vector m h, (list m h, (centered m h, (multidim m h, (compass m h, tt))))) h.named refl
