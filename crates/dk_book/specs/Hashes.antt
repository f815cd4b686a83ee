-- The hash of a point.
use Rattle.std.specs.Prelude.{ℕ, ◌*◌, ◌/◌, ◌%◌, ◌^◌, List, fold, bit_xor}
use Rattle.std.specs.Int.{cast_unsigned, w32, w128}
use Rattle.dk_num.specs.Decimal.{Decimal}
use Rattle.dk_book.specs.declared.hash.TheConstants.{START, MULTIPLIER}

-- a hash with a word of 64 bits more: both are multiplied, and the product's upper half is laid over its lower one
unfoldable pub mixed : (hash word : ℕ) → ℕ
mixed hash word = let product = (bit_xor hash word * MULTIPLIER) % 2 ^ 64 in bit_xor product (product / 2 ^ 32)

-- a hash with a decimal more: the two words of its mantissa, and its exponent
unfoldable pub with_number : (hash : ℕ) → Decimal → ℕ
with_number hash d = mixed (mixed (mixed hash (cast_unsigned w128 d.mantissa % 2 ^ 64)) (cast_unsigned w128 d.mantissa / 2 ^ 64)) (cast_unsigned w32 d.exponent)

abbrev pub hash_of : (point : List Decimal) → ℕ
hash_of point = fold with_number START point
