-- Rows that lie one behind another in a region.
use Rattle.std.specs.Prelude.{◌≡◌, ℕ, zero, suc, ◌-◌, ◌*◌, ◌^◌, ◌<◌, ◌≤◌, List, [], ◌∷◌, length, take, drop, Option, Some, None, IfSome}
use Rattle.std.specs.Global.{Global}
use Rattle.dk_num.specs.Decimal.{Decimal}
use Rattle.dk_pool.specs.Pool.{PoolState}
use Rattle.dk_pool.specs.declared.region.Region.{Region}

-- so many rows of the width, cut off the front of a list
abbrev pub rows_of : (width count : ℕ) → List Decimal → List (List Decimal)
rows_of width zero xs = []
rows_of width (suc count) xs = take width xs ∷ rows_of width count (drop width xs)

-- the decimals that are written, where there is a region
abbrev pub written : Option (Region Decimal Global) → List Decimal
written None = []
written (Some region) = region.values

-- for how many decimals there is memory
abbrev pub places : Option (Region Decimal Global) → ℕ
places None = 0
places (Some region) = region.room

-- the region has places for all rows, and the rows that are put are written
pub record IsPool (alloc : Global) (region : Option (Region Decimal Global)) (room count width : ℕ) : Type 0 where
  pub enough : count ≤ room
  pub few : room < 2 ^ 32
  pub fits : room * width ≤ places region
  pub small : room * width ≤ 2 ^ 25
  pub filled : count * width ≤ length (written region)
  pub owned : IfSome region (λ r. r.alloc ≡ alloc)

-- the rows that are put, and room for as many as are left
abbrev pub pool_of : Option (Region Decimal Global) → (room count width : ℕ) → PoolState
pool_of region room count width = record { rows = rows_of width count (written region); width = width; spare = room - count }
