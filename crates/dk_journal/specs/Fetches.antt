-- The bytes of a file that were read.
use Rattle.std.specs.Prelude.{◌≡◌, ℕ, ◌≤◌, List, length, take}

-- the first bytes of a buffer, so many, are those of the file
pub record HasFetched (file bytes : List ℕ) (count : ℕ) : Type 0 where
  pub within : count ≤ length bytes
  pub same : take count bytes ≡ take count file
