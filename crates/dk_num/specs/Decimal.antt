-- A decimal is a whole number, its mantissa, times a power of ten.
use Rattle.std.specs.Prelude.{◌≡◌, ℕ, ◌^◌, ◌<◌, Bool, ◌==◌, ◌&&◌, length, reverse, ℤ, pos, neg_ℤ, ◌+ℤ◌, ◌-ℤ◌, ◌≤ℤ◌, unsigned_abs, int_le, int_div, Option, Some, None, if◌then◌else◌, nat_lt}
use Rattle.std.specs.Int.Digits.{digits_of}
use Rattle.std.specs.List.{prefix_len}

pub record Decimal : Type 0 where
  pub mantissa : ℤ
  pub exponent : ℤ

-- how many decimal digits a number has: none for 0
abbrev pub digit_count : ℕ → ℕ
digit_count n = length (digits_of 10 n)

-- how many zeros the digits of a number end with
abbrev pub zero_count : ℕ → ℕ
zero_count n = prefix_len (λ d. d == 0) (reverse (digits_of 10 n))

-- the power of ten of the first digit
abbrev pub leading : Decimal → ℤ
leading d = (d.exponent +ℤ pos (digit_count (unsigned_abs d.mantissa))) -ℤ pos 1

abbrev pub is_in_range : ℤ → Bool
is_in_range l = int_le (neg_ℤ (pos 9999)) l && int_le l (pos 9999)

-- below 10^34 in absolute value
abbrev pub is_small : ℤ → Bool
is_small m = nat_lt (unsigned_abs m) (10 ^ 34)

abbrev pub is_zero : Decimal → Bool
is_zero d = unsigned_abs d.mantissa == 0

abbrev pub zero_decimal : Decimal
zero_decimal = record { mantissa = pos 0; exponent = pos 0 }

-- the pairs that stand for a decimal: one for each value
pub record IsCanonical (d : Decimal) : Type 0 where
  pub small : unsigned_abs d.mantissa < 10 ^ 34
  pub zero : unsigned_abs d.mantissa ≡ 0 → d.exponent ≡ pos 0
  pub stripped : 0 < unsigned_abs d.mantissa → zero_count (unsigned_abs d.mantissa) ≡ 0
  pub lowest : 0 < unsigned_abs d.mantissa → neg_ℤ (pos 9999) ≤ℤ leading d
  pub highest : 0 < unsigned_abs d.mantissa → leading d ≤ℤ pos 9999

-- the same value with no zeros at the mantissa's end
abbrev pub canonical : Decimal → Decimal
canonical d = let zeros = zero_count (unsigned_abs d.mantissa) in
    record { mantissa = int_div d.mantissa (pos (10 ^ zeros)); exponent = d.exponent +ℤ pos zeros }

-- the decimal with this value, where the mantissa as written is small and the leading exponent is in range
unfoldable pub decimal_of : Decimal → Option Decimal
decimal_of d =
    if is_zero d then Some zero_decimal
    else (if is_small d.mantissa && is_in_range (leading d) then Some (canonical d) else None)
