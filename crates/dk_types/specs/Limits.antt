-- The greatest number of rows that a study can have.
use Rattle.std.specs.Prelude.{ℕ, ◌+◌, ◌*◌, ◌/◌, List, length, sum}
use Rattle.std.specs.List.{fold}
use Rattle.dk_types.specs.declared.study.Study.{Study}
use Rattle.dk_types.specs.declared.study.Method.{Method}
use Rattle.dk_types.specs.declared.study.Method.TheVariants as method

-- the points of a grid: each choice of one of p + 1 values for each variable
abbrev pub grid_size : List ℕ → ℕ
grid_size partitions = fold (λ product p. product * (p + 1)) 1 partitions

-- the number of points, or the most evaluations of a search
abbrev pub limit_by : (variables : ℕ) → Method → ℕ
limit_by variables (method.Vector steps way) = steps + 1
limit_by variables (method.List points) = length points / variables
limit_by variables (method.Centered step counts) = 1 + 2 * sum counts
limit_by variables (method.Multidim partitions) = grid_size partitions
limit_by variables (method.Compass delta threshold iterations evaluations) = evaluations

abbrev pub limit : Study → ℕ
limit study = limit_by (length study.variables.labels) study.method
