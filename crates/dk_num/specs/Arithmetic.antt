-- Exact sums and products of decimals.
use Rattle.std.specs.Prelude.{ℕ, ◌^◌, ℤ, pos, neg_ℤ, ◌+ℤ◌, ◌-ℤ◌, ◌*ℤ◌, unsigned_abs, Option, Some, None, if◌then◌else◌, option_and_then}
use Rattle.std.specs.Int.{int_min}
use Rattle.std.specs.declared.cmp.Ordering.{Ordering}
use Rattle.std.specs.Ordering.{int_cmp, on}
use Rattle.dk_num.specs.Decimal.{Decimal, decimal_of, is_zero, is_small}

-- the mantissa with so many zeros more, where that is small
abbrev pub small_product : ℤ → ℕ → Option ℤ
small_product m places = let z = m *ℤ pos (10 ^ places) in if is_small z then Some z else None

-- the mantissa of d, written with an exponent that isn't greater, where that is small
abbrev pub mantissa_at : ℤ → Decimal → Option ℤ
mantissa_at e d = small_product d.mantissa (unsigned_abs (d.exponent -ℤ e))

-- the value in units of 10^-10032, of which each decimal is a whole number
abbrev pub whole_value : Decimal → ℤ
whole_value d = d.mantissa *ℤ pos (10 ^ unsigned_abs (d.exponent +ℤ pos 10032))

abbrev pub common_exponent : Decimal → Decimal → ℤ
common_exponent x y = int_min x.exponent y.exponent

-- the order by value
abbrev pub decimal_cmp : Decimal → Decimal → Ordering
decimal_cmp = on whole_value int_cmp

abbrev pub negated : Decimal → Decimal
negated d = record { mantissa = neg_ℤ d.mantissa; exponent = d.exponent }

abbrev pub product : Decimal → Decimal → Option Decimal
product x y = decimal_of (record { mantissa = x.mantissa *ℤ y.mantissa; exponent = x.exponent +ℤ y.exponent })

-- x and y, written with the exponent e and added
abbrev pub sum_at : ℤ → Decimal → Decimal → Option Decimal
sum_at e x y =
    option_and_then (λ a. option_and_then (λ b. decimal_of (record { mantissa = a +ℤ b; exponent = e }))
    (mantissa_at e y)) (mantissa_at e x)

abbrev pub sum_of : Decimal → Decimal → Option Decimal
sum_of x y =
    if is_zero x then Some y
    else (if is_zero y then Some x
    else sum_at (common_exponent x y) x y)

abbrev pub difference : Decimal → Decimal → Option Decimal
difference x y = sum_of x (negated y)

-- 100 * (x2 - x1 * x1)^2 + (1 - x1)^2, where each of the seven steps has a value
abbrev pub ros : Decimal → Decimal → Option Decimal
ros x1 x2 =
    option_and_then (λ a. option_and_then (λ b. option_and_then (λ c. option_and_then (λ d.
    option_and_then (λ f. option_and_then (λ g. sum_of d g)
    (product f f)) (difference (record { mantissa = pos 1; exponent = pos 0 }) x1))
    (product (record { mantissa = pos 1; exponent = pos 2 }) c)) (product b b)) (difference x2 a)) (product x1 x1)
