-- The star of N*value.
use Rattle.std.proofs.Common.{◌≡◌, ℕ, ◌+◌, ◌<◌, Bool, true, false, List, [], ◌∷◌, length, refl, arith}
use Rattle.std.specs.List.{list_any, position_or_len, before_first}
use Rattle.dk_reader.specs.Values.{is_star, is_numeral, is_copied}

-- the first element that passes stands in the list exactly where one passes
passed : {X : Type 0} (p : X → Bool) (xs : List X) → position_or_len p xs < length xs → list_any p xs ≡ true
passed p [] h = absurd (omega arith)
passed p (x ∷ xs) h = at (p x) refl (passed p xs)
  where
    at : (b : Bool) → p x ≡ b → (position_or_len p xs < length xs → list_any p xs ≡ true) → list_any p (x ∷ xs) ≡ true
    at true e rest = rw e refl
    at false e rest = let within : position_or_len p (x ∷ xs) ≡ 1 + position_or_len p xs = rw e refl in rw e (rest (omega (arith, within, h)))

failed : {X : Type 0} (p : X → Bool) (xs : List X) → position_or_len p xs ≡ length xs → list_any p xs ≡ false
failed p [] h = refl
failed p (x ∷ xs) h = at (p x) refl (failed p xs)
  where
    at : (b : Bool) → p x ≡ b → (position_or_len p xs ≡ length xs → list_any p xs ≡ false) → list_any p (x ∷ xs) ≡ false
    at true e rest = let first : position_or_len p (x ∷ xs) ≡ 0 = rw e refl in absurd (omega (arith, first, h))
    at false e rest = let within : position_or_len p (x ∷ xs) ≡ 1 + position_or_len p xs = rw e refl in rw e (rest (omega (arith, within, h)))

-- without a star nothing is copied
pub no_star : (bytes : List ℕ) → position_or_len is_star bytes ≡ length bytes → is_copied bytes ≡ false
no_star bytes h = rw (failed is_star bytes h) refl

-- with a star it is copied exactly where digits stand before it
pub star_copies : (bytes : List ℕ) → position_or_len is_star bytes < length bytes → is_copied bytes ≡ is_numeral (before_first is_star bytes)
star_copies bytes h = rw (passed is_star bytes h) refl
