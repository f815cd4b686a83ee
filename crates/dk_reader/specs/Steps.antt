-- The faults of what a study file says, step by step. Each step lists its faults in order, and the first of all counts.
-- After the Dakota Reference Manual on each keyword, and the User's Manual, chapter "Parameter Study Capabilities".
use Rattle.std.specs.Prelude.{ℕ, ◌+◌, ◌*◌, ◌%◌, Bool, true, false, List, [], ◌∷◌, ◌++◌, length, map, Option, is_some, is_none, codes, ◌==◌, ◌&&◌, ◌||◌, not, nat_lt, nat_le, if◌then◌else◌, slice_get, ℤ}
use Rattle.std.specs.List.{flat_map, list_any, list_all, range_with_len}
use Rattle.std.specs.Option.{option_map_or, option_to_list}
use Rattle.std.specs.Str.{bytes_eq}
use Rattle.std.specs.Ordering.{is_gt}
use Rattle.dk_num.specs.Decimal.{Decimal, zero_decimal}
use Rattle.dk_num.specs.Arithmetic.{decimal_cmp}
use Rattle.dk_num.specs.Units.{is_moderate, units_of}
use Rattle.dk_lex.specs.declared.token.Span.{Span}
use Rattle.dk_grammar.specs.Lists.{first, when, Place, places}
use Rattle.dk_grammar.specs.Meanings.{same_block, same_name}
use Rattle.dk_grammar.specs.declared.words.Block.{Block}
use Rattle.dk_grammar.specs.declared.words.Block.TheVariants as block
use Rattle.dk_grammar.specs.declared.words.Name.{Name}
use Rattle.dk_grammar.specs.declared.words.Name.TheVariants as name
use Rattle.dk_grammar.specs.declared.words.Takes.{Takes}
use Rattle.dk_grammar.specs.declared.words.Takes.TheVariants as takes
use Rattle.dk_grammar.specs.declared.words.Count.{Count}
use Rattle.dk_grammar.specs.declared.words.Count.TheVariants as counts
use Rattle.dk_types.specs.Labels.{is_label}
use Rattle.dk_reader.specs.declared.fault.StudyKind.{StudyKind}
use Rattle.dk_reader.specs.declared.fault.StudyKind.TheVariants as kind
use Rattle.dk_reader.specs.declared.fault.StudyFault.{StudyFault}
use Rattle.dk_reader.specs.declared.value.Value.{Value}
use Rattle.dk_reader.specs.declared.document.Field.{Field}
use Rattle.dk_reader.specs.declared.document.Document.{Document}
use Rattle.dk_reader.specs.Values.{count_of, spread, number, string}
use Rattle.dk_reader.specs.Document.{block_span, fields_of, field_of, has, values_at, method_names, function_names, label_names, is_name_in, method_field, method_is, variable_count, response_count, parameters_name, results_name}
use Rattle.dk_reader.specs.Study.{is_measured, measured_values, written_values, unit_exponent, limit}

abbrev pub Faults : Type 0
Faults = List StudyFault

abbrev pub fault : StudyKind → Span → StudyFault
fault k s = record { kind = k; span = s }

-- a fault where a test holds
abbrev pub wrong_if : Bool → StudyKind → Span → Faults
wrong_if b k s = when b (fault k s)

-- a fault at a keyword, if it is there
abbrev pub at_field : StudyKind → Option Field → Faults
at_field k f = map (λ x. fault k x.keyword) (option_to_list f)

-- a fault at the second of these keywords, if there are two
abbrev pub at_second : StudyKind → List Field → Faults
at_second k fields = at_field k (slice_get fields 1)

-- what a keyword is checked for, where it is there
abbrev pub of_field : (Field → Faults) → Option Field → Faults
of_field check f = flat_map check (option_to_list f)

-- a fault at each value that fails a test
abbrev pub at_values : StudyKind → (Value → Bool) → List Value → Faults
at_values k is_bad vs = flat_map (λ v. wrong_if (is_bad v) k v.span) vs

-- no whole number of this range, or an N that is in no range
abbrev pub is_bad_whole : (low high : ℕ) → Value → Bool
is_bad_whole low high v = is_none v.copies || not (option_map_or (λ n. nat_le low n && nat_le n high) v.whole false)

abbrev pub delta_names : List Name
delta_names = name.InitialDelta ∷ (name.ThresholdDelta ∷ [])

abbrev pub is_above : Decimal → Decimal → Bool
is_above x y = is_gt (decimal_cmp x y)

-- a number, led by a power of ten in -400..400 in the blocks of numbers, and above 0 if it is a delta
abbrev pub is_good_number : Block → Name → Decimal → Bool
is_good_number b n x = (not (is_measured b) || is_moderate x) && (not (is_name_in delta_names n) || is_above x zero_decimal)

abbrev pub is_bad_number : Block → Name → Value → Bool
is_bad_number b n v = not (option_map_or (is_good_number b n) v.number false)

-- an N that isn't from 1 to 4,000,000
abbrev pub is_bad_copies : Value → Bool
is_bad_copies v = is_none v.copies

abbrev pub copies_faults : Field → Faults
copies_faults f = at_values kind.BadWhole is_bad_copies f.values

abbrev pub bad_number_faults : Field → Faults
bad_number_faults f = at_values kind.BadNumber (is_bad_number f.block f.entry.name) f.values

abbrev pub number_faults : Field → Faults
number_faults f = copies_faults f ++ bad_number_faults f

-- the values, by what the keyword takes
abbrev pub value_faults : Takes → Field → Faults
value_faults (takes.Wholes low high) f = at_values kind.BadWhole (is_bad_whole low high) f.values
value_faults takes.Numbers f = number_faults f
value_faults _ f = []

-- one value, of those that the keyword takes
abbrev pub size_faults : Field → Faults
size_faults f = wrong_if (not (count_of f.values == 1)) kind.WrongCount f.keyword ++ value_faults f.entry.takes f

-- just one keyword of a block has one of these names
abbrev pub one_of : Document → Block → List Name → Faults
one_of d b names = wrong_if (is_none (first (fields_of d b names))) kind.Missing (block_span d b) ++ at_second kind.Conflict (fields_of d b names)

-- a keyword that its block needs
abbrev pub needed : Document → Block → Name → Faults
needed d b n = wrong_if (not (has d b n)) kind.Missing (block_span d b)

-- one method
abbrev pub step1 : Document → Faults
step1 d = one_of d block.Method method_names

-- the number of variables
abbrev pub step2 : Document → Faults
step2 d = needed d block.Variables name.ContinuousDesign ++ of_field size_faults (field_of d block.Variables name.ContinuousDesign)

-- the number of responses
abbrev pub step3 : Document → Faults
step3 d = one_of d block.Responses function_names ++ of_field size_faults (first (fields_of d block.Responses function_names))

-- a string of blanks alone, or an empty one
abbrev pub is_blank : Value → Bool
is_blank v = list_all (λ b. b == 32) (string v)

-- one driver, of more than blanks
abbrev pub driver_faults : Field → Faults
driver_faults f =
    wrong_if (length f.values == 0) kind.WrongCount f.keyword ++ (wrong_if (nat_lt 1 (length f.values)) kind.Unsupported f.keyword
    ++ at_values kind.WrongCount is_blank f.values)

abbrev pub is_other_driver : Value → Bool
is_other_driver v = not (bytes_eq (string v) (codes "rosenbrock"))

-- rosenbrock alone is called directly
abbrev pub other_driver_faults : Document → Faults
other_driver_faults d = at_values kind.Unsupported is_other_driver (values_at d block.Interface name.AnalysisDrivers)

-- it has two variables and one response
abbrev pub fits_rosenbrock : Document → Bool
fits_rosenbrock d = variable_count d == 2 && response_count d == 1

abbrev pub direct_faults : Document → Field → Faults
direct_faults d f = other_driver_faults d ++ wrong_if (not (fits_rosenbrock d)) kind.Conflict f.keyword

-- the driver and how it is called
abbrev pub step4 : Document → Faults
step4 d =
    needed d block.Interface name.AnalysisDrivers
    ++ (of_field driver_faults (field_of d block.Interface name.AnalysisDrivers)
    ++ (one_of d block.Interface (name.Fork ∷ (name.Direct ∷ []))
    ++ of_field (direct_faults d) (field_of d block.Interface name.Direct)))

-- the value with which there are too many
abbrev pub excess_at : Place Value → Faults
excess_at p = wrong_if (nat_lt 4000000 (count_of (p.before ++ p.here ∷ []))) kind.TooMany p.here.span

abbrev pub excess_faults : List Value → Faults
excess_faults vs = flat_map excess_at (places vs)

-- whole rows of so many numbers
abbrev pub are_rows : (values variables : ℕ) → Bool
are_rows values variables = if variables == 0 then values == 0 else values % variables == 0

-- so many values are what the keyword takes
abbrev pub is_right_count : (variables responses : ℕ) → Count → ℕ → Bool
is_right_count variables responses counts.None k = k == 0
is_right_count variables responses counts.One k = k == 1
is_right_count variables responses counts.PerVariable k = k == variables
is_right_count variables responses counts.OneOrPerVariable k = k == 1 || k == variables
is_right_count variables responses counts.RowsOfVariables k = nat_lt 0 k && are_rows k variables
is_right_count variables responses counts.PerResponse k = k == responses
is_right_count variables responses counts.Any k = true

-- the values of a keyword, and then their count
abbrev pub entry_faults : Document → Field → Faults
entry_faults d f =
    value_faults f.entry.takes f ++ (excess_faults f.values
    ++ wrong_if (not (is_right_count (variable_count d) (response_count d) f.entry.count (count_of f.values))) kind.WrongCount f.keyword)

-- the keywords of steps 2 to 4
abbrev pub checked_names : List Name
checked_names = name.ContinuousDesign ∷ (name.ObjectiveFunctions ∷ (name.ResponseFunctions ∷ (name.AnalysisDrivers ∷ [])))

-- what all other keywords are checked for
abbrev pub field_faults : Document → Field → Faults
field_faults d f = if is_name_in checked_names f.entry.name then [] else entry_faults d f

abbrev pub faults_of_fields : Document → List Field → Faults
faults_of_fields d fields = flat_map (field_faults d) fields

-- values and their counts
abbrev pub step5 : Document → Faults
step5 d = faults_of_fields d d.fields

abbrev pub is_bad_label : Value → Bool
is_bad_label v = not (is_label (string v))

abbrev pub is_empty : Value → Bool
is_empty v = length (string v) == 0

-- a fault at each value of a keyword that fails a test, if it has one of these names
abbrev pub at_values_in : StudyKind → (Value → Bool) → List Name → Field → Faults
at_values_in k is_bad names f = if is_name_in names f.entry.name then at_values k is_bad f.values else []

-- strings that are no labels
abbrev pub label_faults : List Field → Faults
label_faults fields = flat_map (at_values_in kind.BadLabel is_bad_label label_names) fields

abbrev pub file_names : List Name
file_names = name.TabularDataFile ∷ (name.ParametersFile ∷ (name.ResultsFile ∷ []))

-- empty names of files
abbrev pub file_faults : List Field → Faults
file_faults fields = flat_map (at_values_in kind.BadLabel is_empty file_names) fields

abbrev pub is_string_in : List Value → List ℕ → Bool
is_string_in vs text = list_any (λ v. bytes_eq (string v) text) vs

abbrev pub twice_at : Place Value → Faults
twice_at p = wrong_if (is_string_in p.before (string p.here)) kind.Conflict p.here.span

-- labels that stand before in the same list
abbrev pub twice_faults : List Value → Faults
twice_faults labels = flat_map twice_at (places labels)

abbrev pub twice_faults_in : Field → Faults
twice_faults_in f = if is_name_in label_names f.entry.name then twice_faults f.values else []

abbrev pub twice_faults_of : List Field → Faults
twice_faults_of fields = flat_map twice_faults_in fields

-- labels and file names
abbrev pub step6 : Document → Faults
step6 d =
    label_faults d.fields ++ (twice_faults_of d.fields
    ++ (at_second kind.Conflict (fields_of d block.Responses label_names) ++ file_faults d.fields))

-- the keywords of a method, beside its own and output
abbrev pub names_of : Name → List Name
names_of name.VectorParameterStudy = name.NumSteps ∷ (name.StepVector ∷ (name.FinalPoint ∷ []))
names_of name.ListParameterStudy = name.ListOfPoints ∷ []
names_of name.CenteredParameterStudy = name.StepVector ∷ (name.StepsPerVariable ∷ [])
names_of name.MultidimParameterStudy = name.Partitions ∷ []
names_of name.CompassSearch = name.InitialDelta ∷ (name.ThresholdDelta ∷ (name.MaxIterations ∷ (name.MaxFunctionEvaluations ∷ [])))
names_of _ = []

-- what a method needs: one of each of these
abbrev pub needs_of : Name → List (List Name)
needs_of name.VectorParameterStudy = (name.NumSteps ∷ []) ∷ ((name.StepVector ∷ (name.FinalPoint ∷ [])) ∷ [])
needs_of name.ListParameterStudy = (name.ListOfPoints ∷ []) ∷ []
needs_of name.CenteredParameterStudy = (name.StepVector ∷ []) ∷ ((name.StepsPerVariable ∷ []) ∷ [])
needs_of name.MultidimParameterStudy = (name.Partitions ∷ []) ∷ []
needs_of name.CompassSearch = (name.InitialDelta ∷ []) ∷ ((name.ThresholdDelta ∷ []) ∷ [])
needs_of _ = []

-- a keyword of the block of methods that is of another one
abbrev pub is_foreign : Field → Field → Bool
is_foreign m f = same_block block.Method f.block && not (is_name_in (m.entry.name ∷ (name.Output ∷ names_of m.entry.name)) f.entry.name)

abbrev pub foreign_faults : Field → List Field → Faults
foreign_faults m fields = flat_map (λ f. wrong_if (is_foreign m f) kind.Conflict f.keyword) fields

-- the block of methods has none of these keywords
abbrev pub lacks : Document → List Name → Bool
lacks d names = is_none (first (fields_of d block.Method names))

-- a vector study goes by a step or up to a final point, and not both
abbrev pub both_faults : Document → Name → Faults
both_faults d n = if same_name n name.VectorParameterStudy then at_second kind.Conflict (fields_of d block.Method (name.StepVector ∷ (name.FinalPoint ∷ []))) else []

abbrev pub has_bounds : Document → Bool
has_bounds d = has d block.Variables name.LowerBounds && has d block.Variables name.UpperBounds

-- just one objective function
abbrev pub has_objective : Document → Bool
has_objective d = has d block.Responses name.ObjectiveFunctions && response_count d == 1

-- what a grid and a search need of other blocks
abbrev pub other_block_faults : Document → Field → Faults
other_block_faults d m =
    wrong_if (same_name m.entry.name name.MultidimParameterStudy && not (has_bounds d)) kind.Missing (block_span d block.Variables)
    ++ wrong_if (same_name m.entry.name name.CompassSearch && not (has_objective d)) kind.Conflict m.keyword

-- the keywords of this method
abbrev pub method_faults : Document → Field → Faults
method_faults d m =
    foreign_faults m d.fields
    ++ (wrong_if (list_any (lacks d) (needs_of m.entry.name)) kind.Missing m.keyword
    ++ (both_faults d m.entry.name
    ++ other_block_faults d m))

-- the method
abbrev pub step7 : Document → Faults
step7 d = of_field (method_faults d) (method_field d)

abbrev pub rule_names : List Name
rule_names = name.Abort ∷ (name.Retry ∷ (name.Recover ∷ []))

-- a keyword that stands without the one that it needs
abbrev pub needs_another : Option Field → Bool → Faults
needs_another f other = if other then [] else at_field kind.Missing f

abbrev pub rules_of : Document → List Field
rules_of d = fields_of d block.Interface rule_names

-- a rule without failure_capture
abbrev pub uncaptured_faults : Document → Faults
uncaptured_faults d = needs_another (first (rules_of d)) (has d block.Interface name.FailureCapture)

-- failure_capture without a rule
abbrev pub ruleless_faults : Document → Faults
ruleless_faults d = needs_another (field_of d block.Interface name.FailureCapture) (is_some (first (rules_of d)))

-- evaluation_concurrency without asynchronous
abbrev pub unasked_faults : Document → Faults
unasked_faults d = needs_another (field_of d block.Interface name.EvaluationConcurrency) (has d block.Interface name.Asynchronous)

-- one name for both files, defaults counted
abbrev pub same_file_faults : Document → Faults
same_file_faults d = wrong_if (bytes_eq (parameters_name d) (results_name d)) kind.Conflict (block_span d block.Interface)

-- failures, concurrency and file names
abbrev pub step8 : Document → Faults
step8 d = at_second kind.Conflict (rules_of d) ++ (uncaptured_faults d ++ (ruleless_faults d ++ (unasked_faults d ++ same_file_faults d)))

-- the value of component j, where a keyword gives one
abbrev pub component : Document → Name → ℕ → Option Value
component d n j = slice_get (spread (values_at d block.Variables n)) j

-- a value is above a number, where it is given
abbrev pub is_value_above : Option Value → Decimal → Bool
is_value_above v x = option_map_or (λ w. is_above (number w) x) v false

-- a number is above a value, where that is given
abbrev pub is_above_value : Decimal → Option Value → Bool
is_above_value x v = option_map_or (λ w. is_above x (number w)) v false

-- a value is above another, where both are given
abbrev pub are_crossed : Option Value → Option Value → Bool
are_crossed lower upper = option_map_or (λ w. is_above_value (number w) upper) lower false

-- the span of a value, or that of variables where it is a default
abbrev pub span_at : Document → Option Value → Span
span_at d v = option_map_or (λ w. w.span) v (block_span d block.Variables)

-- the lower bound of a component is above its upper bound
abbrev pub bound_faults : Document → ℕ → Faults
bound_faults d j = wrong_if (are_crossed (component d name.LowerBounds j) (component d name.UpperBounds j)) kind.Conflict (span_at d (component d name.UpperBounds j))

-- a number, 0 by default
abbrev pub number_or_zero : Option Value → Decimal
number_or_zero v = option_map_or number v zero_decimal

-- the initial value of a component is outside a bound that is given
abbrev pub is_outside : (lower upper initial : Option Value) → Bool
is_outside lower upper initial = is_value_above lower (number_or_zero initial) || is_above_value (number_or_zero initial) upper

abbrev pub outside_faults : Document → ℕ → Faults
outside_faults d j =
    wrong_if (is_outside (component d name.LowerBounds j) (component d name.UpperBounds j) (component d name.InitialPoint j))
    kind.OutsideBounds (span_at d (component d name.InitialPoint j))

abbrev pub starts_at_point : Document → Bool
starts_at_point d = method_is d name.VectorParameterStudy || method_is d name.CenteredParameterStudy || method_is d name.CompassSearch

abbrev pub all_bound_faults : Document → Faults
all_bound_faults d = flat_map (bound_faults d) (range_with_len 0 (variable_count d))

abbrev pub all_outside_faults : Document → Faults
all_outside_faults d = flat_map (outside_faults d) (range_with_len 0 (variable_count d))

-- initial values, where the method starts at them
abbrev pub start_faults : Document → Faults
start_faults d = if starts_at_point d then all_outside_faults d else []

-- bounds
abbrev pub step9 : Document → Faults
step9 d = all_bound_faults d ++ start_faults d

-- the keyword that says how many rows there are
abbrev pub limit_field : Document → Option Field
limit_field d =
    if method_is d name.CompassSearch then method_field d
    else first (fields_of d block.Method (name.NumSteps ∷ (name.ListOfPoints ∷ (name.StepsPerVariable ∷ (name.Partitions ∷ [])))))

-- too many rows, or numbers in them
abbrev pub is_too_great : Document → Bool
is_too_great d = nat_lt 100000 (limit d) || nat_lt 4000000 (limit d * (variable_count d + response_count d))

-- where it stands
abbrev pub limit_span : Document → Span
limit_span d = option_map_or (λ f. f.keyword) (limit_field d) (block_span d block.Method)

-- the size of the study
abbrev pub step10 : Document → Faults
step10 d = wrong_if (is_too_great d) kind.TooMany (limit_span d)

-- no whole number of units, which are this power of ten
abbrev pub is_off_grid : ℤ → Value → Bool
is_off_grid e v = is_none (units_of e (number v))

abbrev pub off_grid_faults : ℤ → List Value → Faults
off_grid_faults e vs = at_values kind.OffGrid (is_off_grid e) vs

-- the same at each keyword whose values are told in units
abbrev pub off_grid_faults_of : ℤ → List Field → Faults
off_grid_faults_of e fields = flat_map (λ f. off_grid_faults e (measured_values f)) fields

-- the unit
abbrev pub step11 : Document → Faults
step11 d = off_grid_faults (unit_exponent d) (written_values d)

-- the table's name
abbrev pub step12 : Document → Faults
step12 d = needs_another (field_of d block.Environment name.TabularDataFile) (has d block.Environment name.TabularData)

-- the steps, in order
abbrev pub steps : List (Document → Faults)
steps = step1 ∷ (step2 ∷ (step3 ∷ (step4 ∷ (step5 ∷ (step6 ∷ (step7 ∷ (step8 ∷ (step9 ∷ (step10 ∷ (step11 ∷ (step12 ∷ [])))))))))))

-- all faults, in order
unfoldable pub study_faults : Document → Faults
study_faults d = flat_map (λ step. step d) steps
