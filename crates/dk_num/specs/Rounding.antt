-- Quotients that are rounded to whole numbers.
use Rattle.std.specs.Prelude.{◌≡◌, ℕ, ◌+◌, ◌*◌, ◌/◌, ◌≤◌, ℤ, pos, neg_ℤ, ◌-ℤ◌, ◌*ℤ◌, unsigned_abs, int_lt, if◌then◌else◌}

-- the magnitude with the sign of another number
abbrev pub signed_as : ℤ → ℕ → ℤ
signed_as z n = if int_lt z (pos 0) then neg_ℤ (pos n) else pos n

-- n divided by d, rounded to the nearest whole number and, in the middle between two, away from zero
abbrev pub rounded_quotient : ℤ → ℕ → ℤ
rounded_quotient n d = signed_as n ((2 * unsigned_abs n + d) / (2 * d))

-- no whole number is nearer to n/d than q, and of two that are as near q is farther from zero
pub record IsNearest (n : ℤ) (d : ℕ) (q : ℤ) : Type 0 where
  pub near : 2 * unsigned_abs (n -ℤ (q *ℤ pos d)) ≤ d
  pub away : 2 * unsigned_abs (n -ℤ (q *ℤ pos d)) ≡ d → unsigned_abs n ≤ unsigned_abs (q *ℤ pos d)
