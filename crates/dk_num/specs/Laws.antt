-- What the laws of sums, products and units say, in numbers alone.
use Rattle.std.specs.Prelude.{◌≡◌, ◌≢◌, ◌⊎◌, ◌^◌, ◌≤◌, List, Contains, ℤ, pos, neg_ℤ, ◌+ℤ◌, ◌-ℤ◌, ◌*ℤ◌, ◌<ℤ◌, ◌≤ℤ◌, unsigned_abs}
use Rattle.std.specs.Int.{int_min}
use Rattle.dk_num.specs.Decimal.{Decimal, leading}

-- not below 10^34 in absolute value
abbrev pub IsTooWide : ℤ → Type 0
IsTooWide m = 10 ^ 34 ≤ unsigned_abs m

-- the power of ten of the first digit isn't in -9999..9999
abbrev pub LeadsOutOfRange : Decimal → Type 0
LeadsOutOfRange d = (leading d <ℤ neg_ℤ (pos 9999)) ⊎ (pos 9999 <ℤ leading d)

-- too wide, or not zero and led by a power out of range
abbrev pub HasNoDecimal : Decimal → Type 0
HasNoDecimal d = IsTooWide d.mantissa ⊎ ((d.mantissa ≢ pos 0) × LeadsOutOfRange d)

-- the mantissa that d has with an exponent that isn't greater than its own
abbrev pub mantissa_with : (exponent : ℤ) → Decimal → ℤ
mantissa_with e d = d.mantissa *ℤ pos (10 ^ unsigned_abs (d.exponent -ℤ e))

-- neither is zero and, written with the lesser of the exponents, one mantissa is too wide or the sum has no decimal
abbrev pub HasNoSum : Decimal → Decimal → Type 0
HasNoSum x y =
    let e = int_min x.exponent y.exponent in
    let a = mantissa_with e x in
    let b = mantissa_with e y in
    (x.mantissa ≢ pos 0) × (y.mantissa ≢ pos 0) ×
    (IsTooWide a ⊎ IsTooWide b ⊎ HasNoDecimal (record { mantissa = a +ℤ b; exponent = e }))

-- neither is zero, and the product of the mantissas, with all its zeros, is too wide or leads out of range
abbrev pub HasNoProduct : Decimal → Decimal → Type 0
HasNoProduct x y =
    (x.mantissa ≢ pos 0) × (y.mantissa ≢ pos 0) ×
    (IsTooWide (x.mantissa *ℤ y.mantissa) ⊎
    LeadsOutOfRange (record { mantissa = x.mantissa *ℤ y.mantissa; exponent = x.exponent +ℤ y.exponent }))

-- some number that isn't zero has this leading exponent
abbrev pub SomeLeads : List Decimal → ℤ → Type 0
SomeLeads ds l = (d : Decimal) × Contains ds d × (d.mantissa ≢ pos 0) × (leading d ≡ l)

-- the greatest leading exponent of the numbers that aren't zero
pub record IsGreatestLeading (ds : List Decimal) (l : ℤ) : Type 0 where
  pub reached : SomeLeads ds l
  pub greatest : (d : Decimal) → Contains ds d → d.mantissa ≢ pos 0 → leading d ≤ℤ l
