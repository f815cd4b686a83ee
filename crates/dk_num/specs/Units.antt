-- Whole numbers of a unit: a power of ten of which a study's numbers are multiples.
use Rattle.std.specs.Prelude.{◌≡◌, ◌^◌, Bool, ◌&&◌, ◌||◌, List, [], ◌∷◌, ℤ, pos, neg_ℤ, ◌+ℤ◌, ◌-ℤ◌, ◌*ℤ◌, ◌≤ℤ◌, unsigned_abs, int_le, Option, Some, None, IsTrue, if◌then◌else◌, unwrap_or}
use Rattle.std.specs.Int.{int_max}
use Rattle.dk_num.specs.Decimal.{Decimal, decimal_of, zero_decimal, leading, is_zero}
use Rattle.dk_num.specs.Arithmetic.{whole_value}

-- zero, or led by a power of ten in -400..400
abbrev pub is_moderate : Decimal → Bool
is_moderate d = is_zero d || (int_le (neg_ℤ (pos 400)) (leading d) && int_le (leading d) (pos 400))

abbrev pub AreModerate : List Decimal → Type 0
AreModerate [] = Unit {0}
AreModerate (d ∷ ds) = IsTrue (is_moderate d) × AreModerate ds

-- a leading exponent that the numbers of a study have
abbrev pub IsModerateExponent : ℤ → Type 0
IsModerateExponent l = (neg_ℤ (pos 400) ≤ℤ l) × (l ≤ℤ pos 400)

-- the greater of two, where there are any
abbrev pub greater_of : Option ℤ → Option ℤ → Option ℤ
greater_of None b = b
greater_of (Some l) None = Some l
greater_of (Some l) (Some k) = Some (int_max l k)

-- the greatest leading exponent of those that aren't zero, where one isn't
abbrev pub greatest_leading : List Decimal → Option ℤ
greatest_leading [] = None
greatest_leading (d ∷ ds) = if is_zero d then greatest_leading ds else greater_of (Some (leading d)) (greatest_leading ds)

-- the exponent of the unit: 28 below that of the greatest number, or -28 where all are zero
abbrev pub unit_exponent : List Decimal → ℤ
unit_exponent ds = unwrap_or (greatest_leading ds) (pos 0) -ℤ pos 28

-- d is k times ten to the power of e
abbrev pub IsUnits : (e : ℤ) → Decimal → (k : ℤ) → Type 0
IsUnits e d k = whole_value d ≡ whole_value (record { mantissa = k; exponent = e })

-- how many units a decimal is, where it is a whole number of them
abbrev pub units_of : ℤ → Decimal → Option ℤ
units_of e d =
    if is_zero d then Some (pos 0)
    else (if int_le e d.exponent then Some (d.mantissa *ℤ pos (10 ^ unsigned_abs (d.exponent -ℤ e))) else None)

-- d isn't greater than can be said in 29 digits of the unit
abbrev pub IsWithin : ℤ → Decimal → Type 0
IsWithin e d = IsTrue (is_zero d || int_le (leading d) (e +ℤ pos 28))

-- each of them is
abbrev pub AreWithin : ℤ → List Decimal → Type 0
AreWithin e [] = Unit {0}
AreWithin e (d ∷ ds) = IsWithin e d × AreWithin e ds

-- the exponents that a unit has
abbrev pub IsUnitExponent : ℤ → Type 0
IsUnitExponent e = (neg_ℤ (pos 428) ≤ℤ e) × (e ≤ℤ pos 372)

-- the decimal of so many units
abbrev pub in_units : ℤ → ℤ → Decimal
in_units e k = unwrap_or (decimal_of (record { mantissa = k; exponent = e })) zero_decimal
