-- Quotients that are rounded.
use Rattle.std.proofs.Common.{◌≡◌, ℕ, zero, suc, ◌+◌, ◌*◌, ◌/◌, ◌<◌, ◌≤◌, false, refl, ◌∙◌, arith, ℤ, pos, negsuc, neg_ℤ, int_lt}
use Rattle.std.proofs.lemmas.Grind.{common_steps}
use Rattle.std.proofs.lemmas.Int.{ints}
use Rattle.dk_num.specs.Rounding.{signed_as, rounded_quotient, IsNearest}

-- a product that is less than half a divisor above a magnitude, or as much, and less than half below it
record IsClose (a d p : ℕ) : Type 0 where
  above : 2 * p ≤ 2 * a + d
  below : 2 * a < 2 * p + d

rounded_is_close : (a d : ℕ) → 0 < d → IsClose a d ((2 * a + d) / (2 * d) * d)
rounded_is_close a d some = record { above = omega arith; below = omega arith }

close_is_nearest : (a d q : ℕ) → IsClose a d (q * d) → IsNearest (pos a) d (pos q)
close_is_nearest a d q h = record { near = omega (arith, ints); away = λ tie. omega (arith, ints) }

negative_is_nearest : (a d q : ℕ) → IsClose (suc a) d (q * d) → IsNearest (negsuc a) d (neg_ℤ (pos q))
negative_is_nearest a d zero h = record { near = omega (arith, ints); away = λ tie. omega (arith, ints) }
negative_is_nearest a d (suc q) h = record { near = omega (arith, ints); away = λ tie. omega (arith, ints) }

not_negative : (a n : ℕ) → signed_as (pos a) n ≡ pos n
not_negative a n = let t : int_lt (pos a) (pos 0) ≡ false = grind (arith, common_steps) in rw t refl

pub rounded_is_nearest : (n : ℤ) (d : ℕ) (q : ℤ) → 0 < d → q ≡ rounded_quotient n d → IsNearest n d q
rounded_is_nearest (pos a) d q some is =
    rw (is ∙ not_negative a ((2 * a + d) / (2 * d))) (close_is_nearest a d ((2 * a + d) / (2 * d)) (rounded_is_close a d some))
rounded_is_nearest (negsuc a) d q some is =
    rw is (negative_is_nearest a d ((2 * suc a + d) / (2 * d)) (rounded_is_close (suc a) d some))
