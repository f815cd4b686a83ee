-- An index of hashes: which place has a hash, and which one before has it too.
use Rattle.std.specs.Prelude.{◌≡◌, ℕ, zero, suc, ◌<◌, Bool, ◌==◌, List, length, get_or, Option, Some, None, if◌then◌else◌}

-- the last number below this one that passes the test
abbrev pub last_below : (ℕ → Bool) → ℕ → Option ℕ
last_below test zero = None
last_below test (suc n) = if test n then Some n else last_below test n

-- the last of the places before this one that has the hash
abbrev pub last_with : (hashes : List ℕ) (hash place : ℕ) → Option ℕ
last_with hashes hash place = last_below (λ k. get_or hashes k 0 == hash) place

-- the last place with each hash is known, and for each place the last one before it with the same hash
pub record IsIndex (hashes : List ℕ) (last : ℕ → Option ℕ) (before : List (Option ℕ)) : Type 0 where
  pub known : (hash : ℕ) → last hash ≡ last_with hashes hash (length hashes)
  pub chained : (place : ℕ) → place < length hashes → get_or before place None ≡ last_with hashes (get_or hashes place 0) place
