use Rattle.std.proofs.Common.{◌≡◌, arith, sym, ◌∙◌, ap, subst, ℤ, take, FitsSigned, w16, w32}
use Rattle.std.specs.Int.{w128, to_le_bytes, cast_unsigned, cast_signed}
use Rattle.std.proofs.Math.Facts.{to_z-of_z}
use Rattle.dk_record.proofs.Bytes.{mantissa_fits, exponent_fits, exponent_word, joined, kept}
use Rattle.dk_record.proofs.pieces.put_decimal.Goals as goal

pub overflow_cast-exponent : goal.overflow_cast-exponent
overflow_cast-exponent c =
    let d = c.args.decimal.now in
    let canonical = c.pair-mantissa.ensures.is_canonical in
    let word : cast_signed w32 (cast_unsigned w32 c.pair-mantissa.result.1) ≡ d.exponent = ap (λ (z : ℤ). cast_signed w32 (cast_unsigned w32 z)) c.pair-mantissa.ensures.gives_exponent ∙ exponent_word d canonical in
    subst (λ (z : ℤ). FitsSigned w16 z) (sym word) (exponent_fits d canonical)

pub returns-clause-bytes : goal.returns-clause-bytes
returns-clause-bytes c =
    let d = c.args.decimal.now in
    let canonical = c.pair-mantissa.ensures.is_canonical in
    let word : cast_signed w32 (cast_unsigned w32 c.pair-mantissa.result.1) ≡ d.exponent = ap (λ (z : ℤ). cast_signed w32 (cast_unsigned w32 z)) c.pair-mantissa.ensures.gives_exponent ∙ exponent_word d canonical in
    joined (take c.args.at c.args.out.now) (to_le_bytes w128 (cast_unsigned w128 (cast_signed w128 (cast_unsigned w128 c.pair-mantissa.result.0)))) (to_le_bytes w16 (cast_unsigned w16 (cast_signed w16 (cast_unsigned w16 (cast_signed w32 (cast_unsigned w32 c.pair-mantissa.result.1)))))) (take c.put_mantissa-middle.result c.put_mantissa-middle.new.out) (take c.put_exponent.result c.put_exponent.new.out) (to_le_bytes w128 (cast_unsigned w128 d.mantissa)) (to_le_bytes w16 (cast_unsigned w16 d.exponent))
    c.put_exponent.ensures.bytes c.put_mantissa-middle.ensures.bytes
    (ap (λ (z : ℤ). to_le_bytes w128 (cast_unsigned w128 (cast_signed w128 (cast_unsigned w128 z)))) c.pair-mantissa.ensures.gives_mantissa ∙ ap (λ (z : ℤ). to_le_bytes w128 (cast_unsigned w128 z)) (to_z-of_z {w = w128} {z = d.mantissa} (mantissa_fits d canonical)))
    (ap (λ (z : ℤ). to_le_bytes w16 (cast_unsigned w16 z)) (ap (λ (z : ℤ). cast_signed w16 (cast_unsigned w16 z)) word ∙ to_z-of_z {w = w16} {z = d.exponent} (exponent_fits d canonical)))

pub returns-clause-rest : goal.returns-clause-rest
returns-clause-rest c =
    kept c.put_mantissa-middle.result c.put_exponent.result c.args.out.now c.put_mantissa-middle.new.out c.put_exponent.new.out (omega arith) c.put_mantissa-middle.ensures.rest c.put_exponent.ensures.rest
