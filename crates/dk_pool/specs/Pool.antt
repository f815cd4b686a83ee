-- What a pool of rows holds.
use Rattle.std.specs.Prelude.{ℕ, List}
use Rattle.dk_num.specs.Decimal.{Decimal}

-- the rows in order, how many decimals each has, and for how many more there is room
pub record PoolState : Type 0 where
  pub rows : List (List Decimal)
  pub width : ℕ
  pub spare : ℕ
