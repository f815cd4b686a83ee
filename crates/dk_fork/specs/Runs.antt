-- The run of a child that an attempt asks for.
use Rattle.std.specs.Prelude.{ℕ, List, []}
use Rattle.dk_num.specs.Decimal.{Decimal}
use Rattle.dk_outside.specs.declared.run.Run.{Run}
use Rattle.dk_types.specs.declared.study.Study.{Study}
use Rattle.dk_types.specs.declared.study.Driver.{Driver}
use Rattle.dk_types.specs.declared.study.Driver.TheVariants.{Direct, Fork}
use Rattle.dk_params.specs.declared.task.Task.{Task}
use Rattle.dk_params.specs.Params.{task_of, params_of}
use Rattle.dk_fork.specs.Names.{file_name}

abbrev pub driver_words : Driver → List (List ℕ)
driver_words Direct = []
driver_words (Fork words) = words

-- the driver's words over the two files of a row, with the row's parameters
abbrev pub run_of : Task → (row : ℕ) → (point : List Decimal) → (attempt : ℕ) → Run
run_of task row point attempt = record {
  driver = driver_words task.interface.driver;
  parameters = file_name task.interface task.interface.parameters row;
  results = file_name task.interface task.interface.results row;
  bytes = params_of task row point;
  attempt = attempt;
}

-- for a study
abbrev pub run : Study → (row : ℕ) → (point : List Decimal) → (attempt : ℕ) → Run
run study row point attempt = run_of (task_of study) row point attempt
