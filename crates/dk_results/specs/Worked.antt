-- Decimals, as worked examples write them.
use Rattle.std.specs.Prelude.{List, [], ◌∷◌, ℤ, Option, Some}
use Rattle.dk_num.specs.Decimal.{Decimal}

-- one value, m * 10 ^ e
abbrev pub one : (m e : ℤ) → Option (List Decimal)
one m e = Some (record { mantissa = m; exponent = e } ∷ [])
