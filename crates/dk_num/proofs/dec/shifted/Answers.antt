use Rattle.std.proofs.Common.{◌≡◌, ◌<◌, ◌-◌, ◌^◌, ◌∙◌, sym, ap, arith, pos, ◌*ℤ◌, Some, to_z, of_z, unsigned_abs, FitsSigned}
use Rattle.std.proofs.lemmas.Int.{to_z-of_z, to_z_pos, fits_signed_from_abs}
use Rattle.dk_num.proofs.Sums.{far_product, near_product, large_product, near_abs}
use Rattle.dk_num.proofs.dec.shifted.Goals as goal
use mir.Syntax.{w128}

pub returns-then-places-gt34-clause-value : goal.returns-then-places-gt34-clause-value
returns-then-places-gt34-clause-value c = sym (far_product _ _ c.requires.some c.if-places-gt34.true)

pub returns-then-unsigned_abs-power_of_ten-clause-value : goal.returns-then-unsigned_abs-power_of_ten-clause-value
returns-then-unsigned_abs-power_of_ten-clause-value c =
    let m : to_z w128 (of_z w128 c.args.mantissa) ≡ c.args.mantissa = to_z-of_z w128 _ c.ranges.mantissa in
    let u : c.unsigned_abs.result ≡ unsigned_abs c.args.mantissa = c.unsigned_abs.ensures.value ∙ ap unsigned_abs m in
    large_product c.args.mantissa c.args.places (omega arith) (omega (arith, c.power_of_ten.ensures.value))

near : (c : goal.After-power_of_ten-2) → unsigned_abs c.args.mantissa < 10 ^ (34 - c.args.places)
near c =
    let m : to_z w128 (of_z w128 c.args.mantissa) ≡ c.args.mantissa = to_z-of_z w128 _ c.ranges.mantissa in
    let u : c.unsigned_abs.result ≡ unsigned_abs c.args.mantissa = c.unsigned_abs.ensures.value ∙ ap unsigned_abs m in
    omega (arith, c.power_of_ten.ensures.value)

power : (c : goal.After-power_of_ten-2) → to_z w128 c.power_of_ten-2.result ≡ pos (10 ^ c.args.places)
power c = to_z_pos w128 _ (omega (arith, c.power_of_ten-2.ensures.small)) ∙ ap pos c.power_of_ten-2.ensures.value

fits : (c : goal.After-power_of_ten-2) → FitsSigned w128 (c.args.mantissa *ℤ pos (10 ^ c.args.places))
fits c =
    let s : unsigned_abs (c.args.mantissa *ℤ pos (10 ^ c.args.places)) < 10 ^ 34 = near_abs c.args.mantissa c.args.places (omega arith) (near c) in
    let t : unsigned_abs (c.args.mantissa *ℤ pos (10 ^ c.args.places)) < 2 ^ 127 = omega arith in
    fits_signed_from_abs w128 _ t

pub overflow_mul-result : goal.overflow_mul-result
overflow_mul-result c =
    let m : to_z w128 (of_z w128 c.args.mantissa) ≡ c.args.mantissa = to_z-of_z w128 _ c.ranges.mantissa in
    let p = power c in
    rw (m, p) (fits c)

pub returns-clause-value : goal.returns-clause-value
returns-clause-value c =
    let m : to_z w128 (of_z w128 c.args.mantissa) ≡ c.args.mantissa = to_z-of_z w128 _ c.ranges.mantissa in
    let p = power c in
    rw (m, p) (ap Some (to_z-of_z w128 _ (fits c)) ∙ near_product c.args.mantissa c.args.places (omega arith) (near c))

pub returns-clause-small : goal.returns-clause-small
returns-clause-small c =
    let m : to_z w128 (of_z w128 c.args.mantissa) ≡ c.args.mantissa = to_z-of_z w128 _ c.ranges.mantissa in
    let p = power c in
    let z : to_z w128 (of_z w128 (c.args.mantissa *ℤ pos (10 ^ c.args.places))) ≡ c.args.mantissa *ℤ pos (10 ^ c.args.places) = to_z-of_z w128 _ (fits c) in
    rw (m, p, z) (near_abs c.args.mantissa c.args.places (omega arith) (near c))
