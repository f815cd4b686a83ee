-- The study of a text without faults is sound.
use Rattle.std.proofs.Common.{◌≡◌, inl, inr, ℕ, ◌+◌, ◌*◌, ◌≤◌, Bool, true, false, List, [], map, length, refl, sym, ap, ◌∙◌, subst, arith, lit≤}
use Rattle.std.specs.Prelude.{if◌then◌else◌}
use Rattle.std.proofs.lemmas.List.{length-map}
use Rattle.dk_types.specs.declared.study.FailRule.TheVariants as rule
use Rattle.dk_types.specs.declared.study.Driver.TheVariants as driver
use Rattle.dk_types.specs.Limits.{limit_by}
use Rattle.dk_types.specs.Sound.{IsBetween, IsPoint, IsBound, IsSoundDriver, IsSoundRule, IsSound}
use Rattle.dk_grammar.specs.declared.words.Block.TheVariants as block
use Rattle.dk_grammar.specs.declared.words.Name.TheVariants as name
use Rattle.dk_grammar.specs.declared.words.Takes.TheVariants as takes
use Rattle.dk_grammar.specs.declared.words.Count.TheVariants as counts
use Rattle.dk_grammar.specs.declared.parts.Tree.{Tree}
use Rattle.dk_reader.specs.declared.document.Document.{Document}
use Rattle.dk_reader.specs.Values.{spread, number}
use Rattle.dk_reader.specs.Document.{AreNamed, document_of, has, values_at, whole_at, string_at, variable_count, response_count}
use Rattle.dk_reader.specs.Study.{unit_exponent, variables_of, responses_of, initial_units, units_if, words_of, driver_of, rule_of, concurrency_of, method_of, limit, study_of}
use Rattle.dk_reader.specs.Steps.{study_faults}
use Rattle.dk_reader.proofs.SoundLists.{equal_from}
use Rattle.dk_reader.proofs.SoundSteps.{Checked, checked, few_rows}
use Rattle.dk_reader.proofs.SoundUnits.{is_unit}
use Rattle.dk_reader.proofs.SoundReading.{AreWritten, are_written}
use Rattle.dk_reader.proofs.SoundValues.{length_spread, right_count, some_counted, whole_in}
use Rattle.dk_reader.proofs.SoundInterface.{driver_named, direct_sizes}
use Rattle.dk_reader.proofs.SoundFiles.{variables_labelled, responses_labelled, parameters_named, results_named, names_differ}
use Rattle.dk_reader.proofs.SoundMethod.{bound_at, initial_point}
use Rattle.dk_reader.proofs.SoundMethods.{method_sound}

module _ (d : Document) (c : Checked d) (w : AreWritten d) where
  variables : length (variables_of d).labels ≡ variable_count d
  variables = (variables_labelled d c w).1

  responses : length (responses_of d).labels ≡ response_count d
  responses = (responses_labelled d c w).1

  driver_sound : IsSoundDriver (length (variables_of d).labels) (length (responses_of d).labels) (driver_of d)
  driver_sound = by (has d block.Interface name.Direct) refl
    where
      by : (t : Bool) → has d block.Interface name.Direct ≡ t →
          IsSoundDriver (length (variables_of d).labels) (length (responses_of d).labels) (if t then driver.Direct else driver.Fork (words_of (string_at d block.Interface name.AnalysisDrivers [])))
      by true t = let sizes = direct_sizes d c t in (variables ∙ sizes.0, responses ∙ sizes.1)
      by false t = driver_named d c

  rule_sound : IsSoundRule (length (responses_of d).labels) (rule_of d)
  rule_sound = by (has d block.Interface name.Retry) refl (has d block.Interface name.Recover) refl
    where
      by : (t : Bool) → has d block.Interface name.Retry ≡ t → (s : Bool) → has d block.Interface name.Recover ≡ s →
          IsSoundRule (length (responses_of d).labels) (if t then rule.Retry (whole_at d block.Interface name.Retry 0) else (if s then rule.Recover (map number (spread (values_at d block.Interface name.Recover))) else rule.Abort))
      by true t s u =
          let one = equal_from _ 1 (right_count d c block.Interface name.Retry (record { name = name.Retry; takes = takes.Wholes 1 1000; count = counts.One }) t refl refl) in
          whole_in d c block.Interface name.Retry 1 1000 counts.One 0 refl refl (inr (some_counted (values_at d block.Interface name.Retry) one))
      by false t true u =
          length-map (spread (values_at d block.Interface name.Recover)) number ∙ length_spread (values_at d block.Interface name.Recover)
          ∙ equal_from _ (response_count d) (right_count d c block.Interface name.Recover (record { name = name.Recover; takes = takes.Numbers; count = counts.PerResponse }) u refl refl) ∙ sym responses
      by false t false u = tt

  concurrency_sound : IsBetween 1 64 (concurrency_of d)
  concurrency_sound = by (has d block.Interface name.Asynchronous)
    where
      by : (t : Bool) → IsBetween 1 64 (if t then whole_at d block.Interface name.EvaluationConcurrency 64 else 1)
      by true = whole_in d c block.Interface name.EvaluationConcurrency 1 64 counts.One 64 refl refl (inl (lit≤ tt, lit≤ tt))
      by false = (lit≤ tt, lit≤ tt)

  -- a document without faults, whose numbers are canonical and whose strings stand for themselves once, says a sound study
  pub document_sound : IsSound (study_of d)
  unfolding study_of
  document_sound = record {
    unit = is_unit d c;
    variables = (variables_labelled d c w).0;
    responses = (responses_labelled d c w).0;
    initial = subst (λ n. IsPoint (unit_exponent d) n (initial_units d)) (sym variables) (initial_point d c w);
    lower = subst (λ n. IsBound (unit_exponent d) n (units_if d name.LowerBounds)) (sym variables) (bound_at d c w name.LowerBounds refl refl refl);
    upper = subst (λ n. IsBound (unit_exponent d) n (units_if d name.UpperBounds)) (sym variables) (bound_at d c w name.UpperBounds refl refl refl);
    method = method_sound d c w;
    driver = driver_sound;
    rule = rule_sound;
    concurrency = concurrency_sound;
    parameters = parameters_named d c;
    results = results_named d c;
    files_differ = names_differ d c;
    limit_is = ap (λ n. limit_by n (method_of d)) (sym variables);
    few_rows = (few_rows d c).0;
    few_numbers = subst (λ n. limit d * n ≤ 4000000) (sym (sizes variables responses)) (few_rows d c).1;
  }
    where
      sizes : {a b m n : ℕ} → a ≡ m → b ≡ n → a + b ≡ m + n
      sizes p q = omega arith

-- a text without faults says a sound study
pub study_is_sound : (text : List ℕ) (tree : Tree) → AreNamed (document_of text tree).fields → study_faults (document_of text tree) ≡ [] → IsSound (study_of (document_of text tree))
study_is_sound text tree named e = document_sound (document_of text tree) (checked (document_of text tree) named e) (are_written text tree)
