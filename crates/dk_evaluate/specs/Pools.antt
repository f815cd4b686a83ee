-- Rows in room that is made once.
use Rattle.std.specs.Prelude.{◌≡◌, ℕ, ◌+◌, ◌-◌, ◌^◌, ◌<◌, ◌≤◌, List, [], ◌∷◌, length, Some, slice_get}
use Rattle.dk_num.specs.Decimal.{Decimal}
use Rattle.dk_types.specs.declared.rows.Row.{Row}
use Rattle.dk_types.specs.Best.{first_with_point}
use Rattle.dk_pool.specs.Pool.{PoolState}

-- the rows, how many decimals their points and their values have, and for how many more there is room
pub record RowsState : Type 0 where
  pub rows : List Row
  pub variables : ℕ
  pub responses : ℕ
  pub spare : ℕ

-- each point with its values
abbrev pub rows_by : (points values : List (List Decimal)) → List Row
rows_by [] values = []
rows_by (p ∷ points) [] = []
rows_by (p ∷ points) (v ∷ values) = record { point = p; values = v } ∷ rows_by points values

abbrev pub rows_in : (points values : PoolState) → RowsState
rows_in points values = record { rows = rows_by points.rows values.rows; variables = points.width; responses = values.width; spare = points.spare }

-- a row's number, counted from 1, is that of the first row with its point
pub record IsFirst (rows : List Row) (place number : ℕ) : Type 0 where
  pub from : 1 ≤ number
  pub is : first_with_point rows (place + 1) ≡ Some (number - 1)

-- there are as many points as values and as much room for both; the first row of each row's point is kept
pub record AreInPools (points values : PoolState) (firsts : List ℕ) : Type 0 where
  pub paired : length values.rows ≡ length points.rows
  pub spare : values.spare ≡ points.spare
  pub enough : length firsts ≡ length points.rows + points.spare
  pub few : length points.rows + points.spare < 2 ^ 32
  pub first : (place number : ℕ) → place < length points.rows → slice_get firsts place ≡ Some number → IsFirst (rows_by points.rows values.rows) place number
