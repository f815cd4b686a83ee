-- The study that a file without faults says: each part as written, or by default.
-- After the Dakota Reference Manual: the blocks environment, method, variables, interface and responses.
use Rattle.std.specs.Prelude.{ℕ, ◌+◌, ◌*◌, Bool, true, false, List, [], ◌∷◌, ◌++◌, length, map, filter, Option, Some, None, unwrap_or, codes, decimal, ◌==◌, ◌&&◌, not, if◌then◌else◌, ℤ, pos, replicate, nat_lt}
use Rattle.std.specs.List.{flat_map, fold, slice_split, range_with_len}
use Rattle.std.specs.Option.{option_map_or}
use Rattle.dk_num.specs.Units as units
use Rattle.dk_grammar.specs.Lists.{first}
use Rattle.dk_grammar.specs.declared.words.Takes.{Takes}
use Rattle.dk_grammar.specs.declared.words.Takes.TheVariants as takes
use Rattle.dk_grammar.specs.declared.words.Block.{Block}
use Rattle.dk_grammar.specs.declared.words.Block.TheVariants as block
use Rattle.dk_grammar.specs.declared.words.Name.{Name}
use Rattle.dk_grammar.specs.declared.words.Name.TheVariants as name
use Rattle.dk_types.specs.declared.study.Study.{Study}
use Rattle.dk_types.specs.declared.study.Variables.{Variables}
use Rattle.dk_types.specs.declared.study.Responses.{Responses}
use Rattle.dk_types.specs.declared.study.Interface.{Interface}
use Rattle.dk_types.specs.declared.study.Way.{Way}
use Rattle.dk_types.specs.declared.study.Way.TheVariants.{Step, Final}
use Rattle.dk_types.specs.declared.study.Method.{Method}
use Rattle.dk_types.specs.declared.study.Method.TheVariants as method
use Rattle.dk_types.specs.declared.study.Driver.{Driver}
use Rattle.dk_types.specs.declared.study.Driver.TheVariants as driver
use Rattle.dk_types.specs.declared.study.ParamForm.{ParamForm}
use Rattle.dk_types.specs.declared.study.ParamForm.TheVariants as form
use Rattle.dk_types.specs.declared.study.FailRule.{FailRule}
use Rattle.dk_types.specs.declared.study.FailRule.TheVariants as rule
use Rattle.dk_types.specs.Limits.{limit_by}
use Rattle.dk_reader.specs.declared.value.Value.{Value}
use Rattle.dk_reader.specs.declared.document.Field.{Field}
use Rattle.dk_reader.specs.declared.document.Document.{Document}
use Rattle.dk_reader.specs.Values.{spread, whole, number, string}
use Rattle.dk_reader.specs.Document.{fields_of, has, values_at, label_names, whole_at, string_at, method_is, variable_count, response_count, parameters_name, results_name}

-- the blocks whose numbers are told in units
abbrev pub is_measured : Block → Bool
is_measured block.Variables = true
is_measured block.Method = true
is_measured _ = false

abbrev pub is_numbers : Takes → Bool
is_numbers takes.Numbers = true
is_numbers _ = false

-- the keyword takes numbers
abbrev pub takes_numbers : Field → Bool
takes_numbers f = is_numbers f.entry.takes

-- the values of a keyword that are told in units: numbers of variables and method
abbrev pub measured_values : Field → List Value
measured_values f = if is_measured f.block && takes_numbers f then f.values else []

-- a value in units, which are this power of ten
abbrev pub unit_value : ℤ → Value → ℤ
unit_value e v = unwrap_or (units.units_of e (number v)) (pos 0)

-- the points of a grid that has so many already, with more variables cut in so many parts
abbrev pub grid_from : ℕ → List ℕ → ℕ
grid_from points partitions = fold (λ product p. product * (p + 1)) points partitions

-- PREFIX1, PREFIX2, ..
abbrev pub numbered : List ℕ → ℕ → List (List ℕ)
numbered prefix k = map (λ i. prefix ++ decimal i) (range_with_len 1 k)

-- the pieces of a text between blanks
abbrev pub words_of : List ℕ → List (List ℕ)
words_of text = filter (λ w. nat_lt 0 (length w)) (slice_split (λ b. b == 32) text)

module _ (d : Document) where
  -- all number values of variables and method that are written, in text order
  abbrev pub written_values : List Value
  written_values = flat_map measured_values d.fields

  -- the exponent of their unit
  abbrev pub unit_exponent : ℤ
  unit_exponent = units.unit_exponent (map number written_values)

  -- numbers in units
  abbrev pub in_units : List Value → List ℤ
  in_units vs = map (unit_value unit_exponent) (spread vs)

  abbrev pub units_at : Block → Name → List ℤ
  units_at b n = in_units (values_at d b n)

  -- the one number of a keyword
  abbrev pub unit_at : Name → ℤ
  unit_at n = unwrap_or (first (units_at block.Method n)) (pos 0)

  -- bounds, where they are written
  abbrev pub units_if : Name → Option (List ℤ)
  units_if n = if has d block.Variables n then Some (units_at block.Variables n) else None

  abbrev pub counts_at : Name → List ℕ
  counts_at n = map whole (spread (values_at d block.Method n))

  -- one count for all variables, or one for each
  abbrev pub each_count : List ℕ → List ℕ
  each_count (k ∷ []) = replicate (variable_count d) k
  each_count ks = ks

  -- labels, where they are written: each string stands for itself
  abbrev pub labels_at : Block → List Name → List (List ℕ) → List (List ℕ)
  labels_at b names otherwise = option_map_or (λ f. map string (spread f.values)) (first (fields_of d b names)) otherwise

  abbrev pub has_objectives : Bool
  has_objectives = has d block.Responses name.ObjectiveFunctions

  -- obj_fn for one objective function, obj_fn_1, obj_fn_2, .. for more, and response_fn_1, .. for response functions
  abbrev pub default_responses : List (List ℕ)
  default_responses =
      if not has_objectives then numbered (codes "response_fn_") (response_count d)
      else (if response_count d == 1 then codes "obj_fn" ∷ [] else numbered (codes "obj_fn_") (response_count d))

  -- the initial point, 0 for each variable by default
  abbrev pub initial_units : List ℤ
  initial_units = if has d block.Variables name.InitialPoint then units_at block.Variables name.InitialPoint else replicate (variable_count d) (pos 0)

  -- labels, as they are written or by default
  abbrev pub variable_labels : List (List ℕ)
  variable_labels = labels_at block.Variables (name.Descriptors ∷ []) (numbered (codes "cdv_") (variable_count d))

  abbrev pub response_labels : List (List ℕ)
  response_labels = labels_at block.Responses label_names default_responses

  abbrev pub variables_of : Variables
  variables_of = record {
    labels = variable_labels;
    initial = initial_units;
    lower = units_if name.LowerBounds;
    upper = units_if name.UpperBounds;
  }

  abbrev pub responses_of : Responses
  responses_of = record { labels = response_labels; objectives = has_objectives }

  -- by a step where one is written, else up to a final point
  abbrev pub way_of : Way
  way_of = if has d block.Method name.StepVector then Step (units_at block.Method name.StepVector) else Final (units_at block.Method name.FinalPoint)

  -- the methods, each by its own keywords
  abbrev pub vector_study : Method
  vector_study = method.Vector (whole_at d block.Method name.NumSteps 0) way_of

  abbrev pub list_study : Method
  list_study = method.List (units_at block.Method name.ListOfPoints)

  abbrev pub centered_study : Method
  centered_study = method.Centered (units_at block.Method name.StepVector) (each_count (counts_at name.StepsPerVariable))

  abbrev pub grid_study : Method
  grid_study = method.Multidim (counts_at name.Partitions)

  abbrev pub compass_search : Method
  compass_search =
      method.Compass (unit_at name.InitialDelta) (unit_at name.ThresholdDelta)
      (whole_at d block.Method name.MaxIterations 1000) (whole_at d block.Method name.MaxFunctionEvaluations 1000)

  -- the one that the file names
  abbrev pub method_of : Method
  method_of =
      if method_is d name.VectorParameterStudy then vector_study
      else (if method_is d name.ListParameterStudy then list_study
      else (if method_is d name.CenteredParameterStudy then centered_study
      else (if method_is d name.MultidimParameterStudy then grid_study else compass_search)))

  -- the greatest number of rows
  abbrev pub limit : ℕ
  limit = limit_by (variable_count d) method_of

  abbrev pub rule_of : FailRule
  rule_of =
      if has d block.Interface name.Retry then rule.Retry (whole_at d block.Interface name.Retry 0)
      else (if has d block.Interface name.Recover then rule.Recover (map number (spread (values_at d block.Interface name.Recover))) else rule.Abort)

  abbrev pub driver_of : Driver
  driver_of = if has d block.Interface name.Direct then driver.Direct else driver.Fork (words_of (string_at d block.Interface name.AnalysisDrivers []))

  -- one at a time, or as many as are asked for, 64 by default
  abbrev pub concurrency_of : ℕ
  concurrency_of = if has d block.Interface name.Asynchronous then whole_at d block.Interface name.EvaluationConcurrency 64 else 1

  abbrev pub form_of : ParamForm
  form_of = if has d block.Interface name.Aprepro then form.Aprepro else form.Standard

  abbrev pub interface_of : Interface
  interface_of = record {
    driver = driver_of;
    parameters = parameters_name d;
    results = results_name d;
    form = form_of;
    tag = has d block.Interface name.FileTag;
    save = has d block.Interface name.FileSave;
    concurrency = concurrency_of;
    rule = rule_of;
  }

  abbrev pub table_of : Option (List ℕ)
  table_of = if has d block.Environment name.TabularData then Some (string_at d block.Environment name.TabularDataFile (codes "dakota_tabular.dat")) else None

  unfoldable pub study_of : Study
  study_of = record {
    unit = record { exponent = unit_exponent };
    variables = variables_of;
    responses = responses_of;
    method = method_of;
    interface = interface_of;
    table = table_of;
    limit = limit;
  }
