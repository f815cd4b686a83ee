use Rattle.std.proofs.Common.{◌≡◌, ◌<◌, ◌%◌, arith, ap, ◌∙◌, unsigned_abs, to_z, of_z}
use Rattle.std.proofs.lemmas.Int.{to_z-of_z}
use Rattle.dk_num.proofs.Canonical.{exponent_near}
use Rattle.dk_num.proofs.Endings.{no_zeros_ends}
use Rattle.dk_num.proofs.dec.is_canonical.Goals as goal
use mir.Syntax.{w32}

pub returns-then-ends_with_zero : goal.returns-then-ends_with_zero
returns-then-ends_with_zero c =
    let some : 0 < c.args.magnitude = omega arith in
    let even : c.args.magnitude % 10 ≡ 0 = c.ends_with_zero.ensures.0 c.if-ends_with_zero.true in
    (λ e. cc, λ is. absurd (no_zeros_ends c.args.magnitude some (is.stripped some) even))

pub returns-then-unsigned_abs-gt20000 : goal.returns-then-unsigned_abs-gt20000
returns-then-unsigned_abs-gt20000 c =
    let e : to_z w32 (of_z w32 c.args.exponent) ≡ c.args.exponent = to_z-of_z w32 _ c.ranges.exponent in
    let is : c.unsigned_abs.result ≡ unsigned_abs c.args.exponent = c.unsigned_abs.ensures.value ∙ ap unsigned_abs e in
    (λ e. cc, λ near. absurd (let few = exponent_near _ near in omega arith))
