use Rattle.std.proofs.Common.{◌≡◌, ◌<◌, ◌*◌, ◌^◌, ◌∙◌, sym, ap, arith, to_z, of_z, unsigned_abs, ◌*ℤ◌, FitsSigned}
use Rattle.std.proofs.lemmas.Int.{to_z-of_z, unsigned_abs-mul, fits_signed_from_abs}
use Rattle.dk_num.proofs.Powers.{wide_product, narrow_product}
use Rattle.dk_num.proofs.dec.mantissa_product.Goals as goal
use mir.Syntax.{w128}

pub returns-then-unsigned_abs-lt129-clause-wide : goal.returns-then-unsigned_abs-lt129-clause-wide
returns-then-unsigned_abs-lt129-clause-wide c =
    let a : to_z w128 (of_z w128 c.args.a) ≡ c.args.a = to_z-of_z w128 _ c.ranges.a in
    let b : to_z w128 (of_z w128 c.args.b) ≡ c.args.b = to_z-of_z w128 _ c.ranges.b in
    let m : c.unsigned_abs.result ≡ unsigned_abs c.args.a = c.unsigned_abs.ensures.value ∙ ap unsigned_abs a in
    let n : c.unsigned_abs-2.result ≡ unsigned_abs c.args.b = c.unsigned_abs-2.ensures.value ∙ ap unsigned_abs b in
    let wide = wide_product c.unsigned_abs.result c.unsigned_abs-2.result (omega arith) (omega arith) c.if-unsigned_abs-lt129.true in
    let p : c.unsigned_abs.result * c.unsigned_abs-2.result ≡ unsigned_abs (c.args.a *ℤ c.args.b)
    = ap (λ x. x * c.unsigned_abs-2.result) m ∙ ap (λ y. unsigned_abs c.args.a * y) n ∙ sym (unsigned_abs-mul c.args.a c.args.b) in
    omega arith

fits : (c : goal.Else-unsigned_abs-lt129) → FitsSigned w128 (c.args.a *ℤ c.args.b)
fits c =
    let a : to_z w128 (of_z w128 c.args.a) ≡ c.args.a = to_z-of_z w128 _ c.ranges.a in
    let b : to_z w128 (of_z w128 c.args.b) ≡ c.args.b = to_z-of_z w128 _ c.ranges.b in
    let m : c.unsigned_abs.result ≡ unsigned_abs c.args.a = c.unsigned_abs.ensures.value ∙ ap unsigned_abs a in
    let n : c.unsigned_abs-2.result ≡ unsigned_abs c.args.b = c.unsigned_abs-2.ensures.value ∙ ap unsigned_abs b in
    let narrow = narrow_product c.unsigned_abs.result c.unsigned_abs-2.result (omega arith) (omega arith) c.if-unsigned_abs-lt129.false in
    let p : c.unsigned_abs.result * c.unsigned_abs-2.result ≡ unsigned_abs (c.args.a *ℤ c.args.b)
    = ap (λ x. x * c.unsigned_abs-2.result) m ∙ ap (λ y. unsigned_abs c.args.a * y) n ∙ sym (unsigned_abs-mul c.args.a c.args.b) in
    let below : unsigned_abs (c.args.a *ℤ c.args.b) < 2 ^ 127 = omega arith in
    fits_signed_from_abs w128 _ below

pub overflow_mul-result : goal.overflow_mul-result
overflow_mul-result c =
    let a : to_z w128 (of_z w128 c.args.a) ≡ c.args.a = to_z-of_z w128 _ c.ranges.a in
    let b : to_z w128 (of_z w128 c.args.b) ≡ c.args.b = to_z-of_z w128 _ c.ranges.b in
    rw (a, b) (fits c)

pub returns-clause-value : goal.returns-clause-value
returns-clause-value c =
    let a : to_z w128 (of_z w128 c.args.a) ≡ c.args.a = to_z-of_z w128 _ c.ranges.a in
    let b : to_z w128 (of_z w128 c.args.b) ≡ c.args.b = to_z-of_z w128 _ c.ranges.b in
    rw (a, b) (to_z-of_z w128 _ (fits c))
