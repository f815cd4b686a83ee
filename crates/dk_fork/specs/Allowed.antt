-- Which outcomes an attempt may have.
use Rattle.std.specs.Prelude.{◌≡◌, ℕ, List, length, Option, Some, None, nat_lt, if◌then◌else◌}
use Rattle.dk_num.specs.Decimal.{Decimal}
use Rattle.dk_outside.specs.Benches.{Leaves}
use Rattle.dk_types.specs.declared.study.Study.{Study}
use Rattle.dk_types.specs.declared.study.Driver.{Driver}
use Rattle.dk_types.specs.declared.study.Driver.TheVariants.{Direct, Fork}
use Rattle.dk_types.specs.declared.entry.Said.{Said}
use Rattle.dk_types.specs.declared.entry.Said.TheVariants.{Values, Failed}
use Rattle.dk_types.specs.Solo.{Child, rosenbrock_child}
use Rattle.dk_params.specs.declared.task.Task.{Task}
use Rattle.dk_params.specs.Params.{params_of, task_of}
use Rattle.dk_results.specs.Results.{results_of}

-- the most bytes that a results file may have
abbrev pub most_bytes : ℕ
most_bytes = 65536

abbrev pub said_of : Option (List Decimal) → Said
said_of (Some values) = Values values
said_of None = Failed

-- what a results file says for so many values: that the attempt failed also where it is absent or too long
abbrev pub reads : Option (List ℕ) → (count : ℕ) → Said
reads None count = Failed
reads (Some bytes) count = if nat_lt most_bytes (length bytes) then Failed else said_of (results_of bytes count)

-- the child may leave something that comes to this
pub record IsAnswer (leaves : Leaves) (task : Task) (row : ℕ) (point : List Decimal) (attempt : ℕ) (outcome : Said) : Type 0 where
  pub left : Option (List ℕ)
  pub may : leaves (params_of task row point) attempt left
  pub is : outcome ≡ reads left (length task.responses)

abbrev pub AllowedBy : Driver → Leaves → Task → (row : ℕ) → (point : List Decimal) → (attempt : ℕ) → Said → Type 0
AllowedBy Direct leaves task row point attempt outcome = outcome ≡ rosenbrock_child point attempt
AllowedBy (Fork words) leaves task row point attempt outcome = IsAnswer leaves task row point attempt outcome

-- an outcome that an attempt at a row's point may have
abbrev pub Allowed : Leaves → Study → (row : ℕ) → (point : List Decimal) → (attempt : ℕ) → Said → Type 0
Allowed leaves study row point attempt outcome = AllowedBy study.interface.driver leaves (task_of study) row point attempt outcome

-- each allowed outcome of an attempt is the child's one answer, whatever the row
abbrev pub IsSingleValued : Leaves → Study → Child → Type 0
IsSingleValued leaves study child =
    (row : ℕ) (point : List Decimal) (attempt : ℕ) (outcome : Said) → length point ≡ length study.variables.labels → Allowed leaves study row point attempt outcome → outcome ≡ child point attempt
