-- Which points come next in a study, and in which batch.
use Rattle.std.specs.Prelude.{◌≡◌, ℕ, ◌+◌, ◌-◌, ◌≤◌, ℤ, List, [], ◌∷◌, ◌++◌, length, map, nat_lt, if◌then◌else◌}
use Rattle.std.specs.List.{range_with_len}
use Rattle.dk_num.specs.Decimal.{Decimal}
use Rattle.dk_num.specs.Units.{in_units}
use Rattle.dk_types.specs.declared.study.Study.{Study}
use Rattle.dk_types.specs.declared.study.Method.{Method}
use Rattle.dk_types.specs.declared.study.Method.TheVariants as method
use Rattle.dk_types.specs.declared.study.Why.{Why}
use Rattle.dk_types.specs.declared.study.Why.TheVariants.{Complete}
use Rattle.dk_types.specs.declared.rows.Row.{Row}
use Rattle.dk_types.specs.declared.planner.Plan.{Plan}
use Rattle.dk_types.specs.declared.planner.Plan.TheVariants.{Batch, Finished}
use Rattle.dk_types.specs.Points.{point, size}
use Rattle.dk_types.specs.Search.{search, Found, Poll, Ends}

pub data Next : Type 0 where
  At : List Decimal → Next
  Over : Why → Next

-- so many points from this one on, of a study whose points are known from the beginning
abbrev pub points_from : Study → (i count : ℕ) → List (List Decimal)
points_from study i count = map (point study) (range_with_len i count)

-- what a search found, as decimals
abbrev pub next_found : (exponent : ℤ) → Found → Next
next_found exponent (Poll p behind) = At (map (in_units exponent) p)
next_found exponent (Ends why) = Over why

abbrev pub rest_found : (exponent : ℤ) → Found → List (List Decimal)
rest_found exponent (Poll p behind) = map (in_units exponent) p ∷ map (map (in_units exponent)) behind
rest_found exponent (Ends why) = []

-- the values of rows, in order
abbrev pub values_in : List Row → List (List Decimal)
values_in rows = map (λ row. row.values) rows

-- by the method of a study: a compass search goes by the values so far, and each other study from one point to the next
abbrev pub next_by : Study → List Row → Method → Next
next_by study rows (method.Compass delta threshold iterations evaluations) =
    next_found study.unit.exponent (search study.variables delta threshold iterations evaluations (values_in rows))
next_by study rows _ = if nat_lt (length rows) (size study) then At (point study (length rows)) else Over Complete

abbrev pub rest_by : Study → List Row → Method → List (List Decimal)
rest_by study rows (method.Compass delta threshold iterations evaluations) =
    rest_found study.unit.exponent (search study.variables delta threshold iterations evaluations (values_in rows))
rest_by study rows _ = points_from study (length rows) (size study - length rows)

-- what comes after these rows: the next point, or the end
abbrev pub next : Study → List Row → Next
next study rows = next_by study rows study.method

-- the points of the current batch from the next one on: all that are left, or the polls of a search that have no values
abbrev pub rest : Study → List Row → List (List Decimal)
rest study rows = rest_by study rows study.method

-- the batch that begins behind these rows, or the end
abbrev pub plan_by : (rows : ℕ) → List (List Decimal) → Next → Plan
plan_by rows points (At p) = Batch (rows + 1) (length points)
plan_by rows points (Over why) = Finished why

abbrev pub plan : Study → List Row → Plan
plan study rows = plan_by (length rows) (rest study rows) (next study rows)

-- the rows are those of before, and behind them one for each point of a batch, in order
pub record AnswersBatch (before : List Row) (batch : List (List Decimal)) (rows : List Row) : Type 0 where
  pub behind : List Row
  pub split : rows ≡ before ++ behind
  pub points : map (λ row. row.point) behind ≡ batch

-- rows that a planner was given, and behind them one for each point of the batch that it handed out then
pub record AnswersLast (was_given : List Row → Type 0) (batch : List (List Decimal)) (rows : List Row) : Type 0 where
  pub before : List Row
  pub given : was_given before
  pub answers : AnswersBatch before batch rows

-- a row's number, counted from 1, is in the batch behind so many rows
abbrev pub IsInBatch : (before : ℕ) → List (List Decimal) → (row : ℕ) → Type 0
IsInBatch before batch row = (before + 1 ≤ row) × (row ≤ before + length batch)
