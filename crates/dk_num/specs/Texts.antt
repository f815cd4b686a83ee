-- The texts of a decimal.
use Rattle.std.specs.Prelude.{ℕ, ◌-◌, ◌&&◌, List, [], ◌∷◌, ◌++◌, length, take, drop, replicate, codes, decimal, ℤ, pos, neg_ℤ, unsigned_abs, int_le, int_lt, nat_lt, if◌then◌else◌}
use Rattle.dk_num.specs.Decimal.{Decimal, leading, is_zero}

-- pieces, one after another
abbrev pub joined : List (List ℕ) → List ℕ
joined [] = []
joined (p ∷ ps) = p ++ joined ps

abbrev pub sign_text : ℤ → List ℕ
sign_text z = if int_lt z (pos 0) then codes "-" else []

-- digits with a point so many places from their end, and zeros where there are none
abbrev pub with_point : List ℕ → ℕ → List ℕ
with_point ds places =
    if nat_lt places (length ds)
    then joined (take (length ds - places) ds ∷ codes "." ∷ drop (length ds - places) ds ∷ [])
    else joined (codes "0." ∷ replicate (places - length ds) 48 ∷ ds ∷ [])

abbrev pub plain_digits : List ℕ → ℤ → List ℕ
plain_digits ds e = if int_lt e (pos 0) then with_point ds (unsigned_abs e) else joined (ds ∷ replicate (unsigned_abs e) 48 ∷ [])

-- a mark, and a number in at least two digits
abbrev pub places_text : List ℕ → ℕ → List ℕ
places_text mark n = joined (mark ∷ (if nat_lt n 10 then codes "0" else []) ∷ decimal n ∷ [])

abbrev pub exponent_text : ℤ → List ℕ
exponent_text e = if int_lt e (pos 0) then places_text (codes "e-") (unsigned_abs e) else places_text (codes "e+") (unsigned_abs e)

-- the first digit, and a point and the others where there are others
abbrev pub pointed : List ℕ → List ℕ
pointed ds = if nat_lt 1 (length ds) then joined (take 1 ds ∷ codes "." ∷ drop 1 ds ∷ []) else take 1 ds

-- digits with an exponent, plainly where they lead with a power in -6..33
abbrev pub body_text : List ℕ → (e l : ℤ) → List ℕ
body_text ds e l = if int_le (neg_ℤ (pos 6)) l && int_le l (pos 33) then plain_digits ds e else pointed ds ++ exponent_text l

unfoldable pub table_text : Decimal → List ℕ
table_text d =
    if is_zero d then codes "0"
    else sign_text d.mantissa ++ body_text (decimal (unsigned_abs d.mantissa)) d.exponent (leading d)

-- the digits behind the first, filled with zeros up to 15
abbrev pub filled : List ℕ → List ℕ
filled ds = joined (ds ∷ replicate (15 - length ds) 48 ∷ [])

-- the first digit, a point and at least 15 others
abbrev pub pointed_fully : List ℕ → List ℕ
pointed_fully ds = joined (take 1 ds ∷ codes "." ∷ filled (drop 1 ds) ∷ [])

-- with a point behind the first digit and an exponent, as in a parameters file; zero is 0.000000000000000e+00
unfoldable pub sci_text : Decimal → List ℕ
sci_text d =
    if is_zero d then pointed_fully (codes "0") ++ exponent_text (pos 0)
    else sign_text d.mantissa ++ (pointed_fully (decimal (unsigned_abs d.mantissa)) ++ exponent_text (leading d))
