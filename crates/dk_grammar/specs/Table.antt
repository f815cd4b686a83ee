-- The table of words: blocks, keywords of each block with their values, refused words and the words that output takes.
-- After the Dakota Reference Manual, keywords environment, method, model, variables, interface and responses.
use Rattle.std.specs.Prelude.{ℕ, List, [], ◌∷◌, codes}
use Rattle.dk_grammar.specs.declared.words.Block.{Block}
use Rattle.dk_grammar.specs.declared.words.Block.TheVariants as block
use Rattle.dk_grammar.specs.declared.words.Name.{Name}
use Rattle.dk_grammar.specs.declared.words.Name.TheVariants as name
use Rattle.dk_grammar.specs.declared.words.Takes.{Takes}
use Rattle.dk_grammar.specs.declared.words.Takes.TheVariants as takes
use Rattle.dk_grammar.specs.declared.words.Count.{Count}
use Rattle.dk_grammar.specs.declared.words.Count.TheVariants as counts
use Rattle.dk_grammar.specs.declared.words.Entry.{Entry}

-- a block, and its name as it is spelled
pub record BlockRow : Type 0 where
  pub block : Block
  pub word : List ℕ

-- a keyword of a block as it is spelled, with the name that code gives it, which values it takes and how many
pub record KeywordRow : Type 0 where
  pub block : Block
  pub word : List ℕ
  pub entry : Entry

abbrev opens : Block → List ℕ → BlockRow
opens b word = record { block = b; word = word }

abbrev keyword : Block → List ℕ → Name → Takes → Count → KeywordRow
keyword b word n t c = record { block = b; word = word; entry = record { name = n; takes = t; count = c } }

-- the blocks
abbrev pub block_table : List BlockRow
block_table =
    opens block.Environment (codes "environment") ∷
    opens block.Method (codes "method") ∷
    opens block.Model (codes "model") ∷
    opens block.Variables (codes "variables") ∷
    opens block.Interface (codes "interface") ∷
    opens block.Responses (codes "responses") ∷ []

-- the keywords: block, word, name, which values, how many
abbrev pub keyword_table : List KeywordRow
keyword_table =
    keyword block.Environment (codes "tabular_data") name.TabularData takes.Nothing counts.None ∷
    keyword block.Environment (codes "tabular_data_file") name.TabularDataFile takes.Strings counts.One ∷
    keyword block.Method (codes "vector_parameter_study") name.VectorParameterStudy takes.Nothing counts.None ∷
    keyword block.Method (codes "list_parameter_study") name.ListParameterStudy takes.Nothing counts.None ∷
    keyword block.Method (codes "centered_parameter_study") name.CenteredParameterStudy takes.Nothing counts.None ∷
    keyword block.Method (codes "multidim_parameter_study") name.MultidimParameterStudy takes.Nothing counts.None ∷
    keyword block.Method (codes "compass_search") name.CompassSearch takes.Nothing counts.None ∷
    keyword block.Method (codes "num_steps") name.NumSteps (takes.Wholes 0 10000) counts.One ∷
    keyword block.Method (codes "step_vector") name.StepVector takes.Numbers counts.PerVariable ∷
    keyword block.Method (codes "final_point") name.FinalPoint takes.Numbers counts.PerVariable ∷
    keyword block.Method (codes "list_of_points") name.ListOfPoints takes.Numbers counts.RowsOfVariables ∷
    keyword block.Method (codes "steps_per_variable") name.StepsPerVariable (takes.Wholes 0 10000) counts.OneOrPerVariable ∷
    keyword block.Method (codes "partitions") name.Partitions (takes.Wholes 1 10000) counts.PerVariable ∷
    keyword block.Method (codes "initial_delta") name.InitialDelta takes.Numbers counts.One ∷
    keyword block.Method (codes "threshold_delta") name.ThresholdDelta takes.Numbers counts.One ∷
    keyword block.Method (codes "max_iterations") name.MaxIterations (takes.Wholes 0 10000) counts.One ∷
    keyword block.Method (codes "max_function_evaluations") name.MaxFunctionEvaluations (takes.Wholes 1 100000) counts.One ∷
    keyword block.Method (codes "output") name.Output takes.Mode counts.One ∷
    keyword block.Model (codes "single") name.Single takes.Nothing counts.None ∷
    keyword block.Variables (codes "continuous_design") name.ContinuousDesign (takes.Wholes 1 100) counts.One ∷
    keyword block.Variables (codes "initial_point") name.InitialPoint takes.Numbers counts.PerVariable ∷
    keyword block.Variables (codes "lower_bounds") name.LowerBounds takes.Numbers counts.PerVariable ∷
    keyword block.Variables (codes "upper_bounds") name.UpperBounds takes.Numbers counts.PerVariable ∷
    keyword block.Variables (codes "descriptors") name.Descriptors takes.Strings counts.PerVariable ∷
    keyword block.Interface (codes "analysis_drivers") name.AnalysisDrivers takes.Strings counts.Any ∷
    keyword block.Interface (codes "fork") name.Fork takes.Nothing counts.None ∷
    keyword block.Interface (codes "direct") name.Direct takes.Nothing counts.None ∷
    keyword block.Interface (codes "parameters_file") name.ParametersFile takes.Strings counts.One ∷
    keyword block.Interface (codes "results_file") name.ResultsFile takes.Strings counts.One ∷
    keyword block.Interface (codes "file_tag") name.FileTag takes.Nothing counts.None ∷
    keyword block.Interface (codes "file_save") name.FileSave takes.Nothing counts.None ∷
    keyword block.Interface (codes "aprepro") name.Aprepro takes.Nothing counts.None ∷
    keyword block.Interface (codes "asynchronous") name.Asynchronous takes.Nothing counts.None ∷
    keyword block.Interface (codes "evaluation_concurrency") name.EvaluationConcurrency (takes.Wholes 1 64) counts.One ∷
    keyword block.Interface (codes "failure_capture") name.FailureCapture takes.Nothing counts.None ∷
    keyword block.Interface (codes "abort") name.Abort takes.Nothing counts.None ∷
    keyword block.Interface (codes "retry") name.Retry (takes.Wholes 1 1000) counts.One ∷
    keyword block.Interface (codes "recover") name.Recover takes.Numbers counts.PerResponse ∷
    keyword block.Responses (codes "objective_functions") name.ObjectiveFunctions (takes.Wholes 1 100) counts.One ∷
    keyword block.Responses (codes "response_functions") name.ResponseFunctions (takes.Wholes 1 100) counts.One ∷
    keyword block.Responses (codes "descriptors") name.Descriptors takes.Strings counts.PerResponse ∷
    keyword block.Responses (codes "response_descriptors") name.ResponseDescriptors takes.Strings counts.PerResponse ∷
    keyword block.Responses (codes "no_gradients") name.NoGradients takes.Nothing counts.None ∷
    keyword block.Responses (codes "no_hessians") name.NoHessians takes.Nothing counts.None ∷ []

-- the refused words, which are refused wherever they stand but right behind output
abbrev pub refused_table : List (List ℕ)
refused_table =
    codes "continuation" ∷
    codes "system" ∷
    codes "python" ∷
    codes "matlab" ∷
    codes "scilab" ∷
    codes "grid" ∷
    codes "batch" ∷
    codes "input_filter" ∷
    codes "output_filter" ∷
    codes "analysis_components" ∷
    codes "analysis_concurrency" ∷
    codes "deactivate" ∷
    codes "verbatim" ∷
    codes "work_directory" ∷
    codes "analytic_gradients" ∷
    codes "numerical_gradients" ∷
    codes "mixed_gradients" ∷
    codes "analytic_hessians" ∷
    codes "numerical_hessians" ∷
    codes "quasi_hessians" ∷
    codes "mixed_hessians" ∷
    codes "calibration_terms" ∷
    codes "nonlinear_inequality_constraints" ∷
    codes "nonlinear_equality_constraints" ∷
    codes "weights" ∷
    codes "discrete_design_range" ∷
    codes "discrete_design_set" ∷
    codes "continuous_state" ∷
    codes "normal_uncertain" ∷
    codes "uniform_uncertain" ∷
    codes "surrogate" ∷
    codes "nested" ∷
    codes "freeform" ∷
    codes "output_precision" ∷
    codes "import_points_file" ∷
    codes "id_method" ∷
    codes "id_model" ∷
    codes "id_variables" ∷
    codes "id_interface" ∷
    codes "id_responses" ∷
    codes "model_pointer" ∷
    codes "variables_pointer" ∷
    codes "interface_pointer" ∷
    codes "responses_pointer" ∷
    codes "method_pointer" ∷
    codes "top_method_pointer" ∷ []

-- the words that output takes
abbrev pub mode_table : List (List ℕ)
mode_table = codes "silent" ∷ codes "quiet" ∷ codes "normal" ∷ codes "verbose" ∷ codes "debug" ∷ []
