-- What an attempt says, and what it does to its bench.
use Rattle.std.specs.Prelude.{◌≡◌, ◌≢◌, ℕ, List, length, Option, Result, Ok, Err}
use Rattle.dk_num.specs.Decimal.{Decimal}
use Rattle.dk_outside.specs.Benches.{Contents, Leaves}
use Rattle.dk_types.specs.declared.study.Driver.TheVariants.{Direct}
use Rattle.dk_types.specs.declared.entry.Said.{Said}
use Rattle.dk_types.specs.Labels.{AreLabels}
use Rattle.dk_params.specs.declared.task.Task.{Task}
use Rattle.dk_params.specs.Params.{params_of}
use Rattle.dk_results.specs.Results.{read_as}
use Rattle.dk_results.specs.declared.reading.Reading.{Reading}
use Rattle.dk_fork.specs.declared.station.BenchFault.{BenchFault}
use Rattle.dk_fork.specs.declared.serve.BenchStep.{BenchStep}
use Rattle.dk_fork.specs.Names.{file_name}
use Rattle.dk_fork.specs.Runs.{run_of}
use Rattle.dk_fork.specs.Allowed.{reads, said_of}
use Rattle.dk_fork.specs.Serving.{Stands, KeepsOthers, one_more, LeavesFiles, IsBroken}

-- the outcome is this reading, with the values that were written
abbrev pub IsRead : Said → Reading → (values : List Decimal) → Type 0
IsRead outcome reading values = outcome ≡ said_of (read_as reading values)

-- the names of a row's two files go together, for each row
abbrev pub GoTogether : (List ℕ → List ℕ → Type 0) → Task → Type 0
GoTogether together task = (row : ℕ) → together (file_name task.interface task.interface.parameters row) (file_name task.interface task.interface.results row)

-- what a station has: its bench, its number, what files depend on, and the values of the last attempt that gave some
pub record StationState (B : Type 0) : Type 0 where
  pub bench : B
  pub slot : ℕ
  pub task : Task
  pub values : List Decimal

-- what files depend on, of a sound study
pub record IsSoundTask (task : Task) : Type 0 where
  pub variables : AreLabels task.variables
  pub responses : AreLabels task.responses
  pub apart : task.interface.parameters ≢ task.interface.results
  pub direct : task.interface.driver ≡ Direct → length task.responses ≡ 1

-- the child ran once, and what it left says this
pub record HasAttempted (leaves : Leaves) (task : Task) (row : ℕ) (point : List Decimal) (attempt : ℕ) (reading : Reading) (values : List Decimal) (old now : Contents) : Type 0 where
  pub runs : now.runs ≡ one_more old (run_of task row point attempt)
  pub left : Option (List ℕ)
  pub may : leaves (params_of task row point) attempt left
  pub says : IsRead (reads left (length task.responses)) reading values
  pub files : LeavesFiles task.interface.save (run_of task row point attempt) left now
  pub others : KeepsOthers (run_of task row point attempt) old now

-- an attempt by a child
abbrev pub AttemptsOn : Leaves → Task → (row : ℕ) → (point : List Decimal) → (attempt : ℕ) → Result Reading BenchStep → (values : List Decimal) → (old : Contents) → Option Contents → Type 0
AttemptsOn leaves task row point attempt (Ok reading) values old new = Stands new (HasAttempted leaves task row point attempt reading values old)
AttemptsOn leaves task row point attempt (Err step) values old new = Stands new (IsBroken step task.interface.save (run_of task row point attempt) old)

-- the same by a station
abbrev pub Attempts : Leaves → Task → (row : ℕ) → (point : List Decimal) → (attempt : ℕ) → Result Reading BenchFault → (values : List Decimal) → (old : Contents) → Option Contents → Type 0
Attempts leaves task row point attempt (Ok reading) values old new = Stands new (HasAttempted leaves task row point attempt reading values old)
Attempts leaves task row point attempt (Err fault) values old new = Stands new (IsBroken fault.step task.interface.save (run_of task row point attempt) old)
