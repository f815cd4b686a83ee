use Rattle.std.proofs.Common.{◌≡◌, refl, ◌<◌, ◌^◌, ◌*ℤ◌, pos, unsigned_abs, ◌∙◌, arith, to_z, of_z, FitsSigned}
use Rattle.std.proofs.lemmas.Int.{to_z-of_z, to_z_pos, fits_signed_from_abs}
use Rattle.dk_num.proofs.Multiples.{lengthened_below}
use Rattle.dk_num.proofs.units.lengthened.Goals as goal
use mir.Syntax.{w128}

product_is : (c : goal.After-power_of_ten) → to_z w128 (of_z w128 c.args.mantissa) *ℤ to_z w128 c.power_of_ten.result ≡ c.args.mantissa *ℤ pos (10 ^ c.args.places)
product_is c =
    let m : to_z w128 (of_z w128 c.args.mantissa) ≡ c.args.mantissa = to_z-of_z w128 _ c.ranges.mantissa in
    let p : to_z w128 c.power_of_ten.result ≡ pos c.power_of_ten.result = to_z_pos w128 _ (omega arith) in
    rw (m, p, c.power_of_ten.ensures.value) refl

fits : (c : goal.After-power_of_ten) → FitsSigned w128 (to_z w128 (of_z w128 c.args.mantissa) *ℤ to_z w128 c.power_of_ten.result)
fits c =
    let few : unsigned_abs (c.args.mantissa *ℤ pos (10 ^ c.args.places)) < 10 ^ 29 = lengthened_below c.args.mantissa c.args.places c.requires in
    rw (product_is c) (fits_signed_from_abs w128 (c.args.mantissa *ℤ pos (10 ^ c.args.places)) (omega arith))

pub overflow_mul-result : goal.overflow_mul-result
overflow_mul-result c = fits c

pub returns-clause-value : goal.returns-clause-value
returns-clause-value c = to_z-of_z w128 _ (fits c) ∙ product_is c

pub returns-clause-few : goal.returns-clause-few
returns-clause-few c = rw (to_z-of_z w128 (to_z w128 (of_z w128 c.args.mantissa) *ℤ to_z w128 c.power_of_ten.result) (fits c), product_is c) (lengthened_below c.args.mantissa c.args.places c.requires)
