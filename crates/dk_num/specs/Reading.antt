-- What the code reads off a number's text.
use Rattle.std.specs.Prelude.{◌≡◌, ℕ, ◌+◌, ◌-◌, ◌*◌, ◌^◌, ◌≤◌, List, map}
use Rattle.std.specs.Int.Digits.{number_from_digits_after}
use Rattle.dk_num.specs.Decimal.{digit_count, zero_count}
use Rattle.dk_num.specs.Numbers.{Spelling}
use Rattle.dk_num.specs.declared.mantissa.Significand.{Significand}
use Rattle.dk_num.specs.declared.scan.Pieces.{Pieces}

-- the pieces, without what stands behind them
abbrev pub spelling : Pieces → Spelling
spelling p = record { sign = p.sign.now; whole = p.whole.now; point = p.point.now; fraction = p.fraction.now; mark = p.mark.now; exponent_sign = p.exponent_sign.now; exponent = p.exponent.now }

-- a number with these digits behind it
abbrev pub after_digits : ℕ → List ℕ → ℕ
after_digits n ds = number_from_digits_after 10 n (map (λ b. b - 48) ds)

-- how many digits a number has without the zeros at its end
abbrev pub significant_count : ℕ → ℕ
significant_count n = digit_count n - zero_count n

-- a number as at most 34 digits and the zeros behind them
pub record IsSignificand (n : ℕ) (s : Significand) : Type 0 where
  pub whole : n ≡ s.core * 10 ^ s.zeros
  pub digits : digit_count n ≡ s.count + s.zeros
  pub ended : zero_count n ≡ s.zeros
  pub core : digit_count s.core ≡ s.count
  pub ends : zero_count s.core ≡ 0
  pub few : s.count ≤ 34

-- the number itself
abbrev pub value_of : Significand → ℕ
value_of s = s.core * 10 ^ s.zeros
