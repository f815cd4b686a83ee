use Rattle.std.proofs.Common.{◌≡◌, sym, ◌∙◌, subst, refl, FitsSigned, rules}
use Rattle.std.specs.Int.{w16, w32, w128, cast_signed, cast_unsigned}
use Rattle.std.proofs.Math.Facts.{to_z-of_z}
use Rattle.std.proofs.lemmas.Bool.{false≢true}
use Rattle.dk_num.specs.Decimal.{Decimal, IsCanonical}
use Rattle.dk_record.proofs.Bytes.{decimal_is}
use Rattle.dk_record.proofs.Numbers.{exponent_wide, decimal_found, decimal_none}
use Rattle.dk_record.proofs.cursor.read_decimal.Goals as goal

pub returns-in-Some-of_pair : goal.returns-in-Some-of_pair
returns-in-Some-of_pair c =
    let m = c.in-Some.mantissa in
    let e = c.in-Some-read_exponent.exponent in
    let first : FitsSigned w128 m = search rules in
    let second : FitsSigned w16 e = search rules in
    let told = c.in-Some-of_pair.ensures in
    let d = c.in-Some-of_pair.decimal in
    let one : Decimal = record { mantissa = cast_signed w128 (cast_unsigned w128 m); exponent = cast_signed w32 (cast_unsigned w32 (cast_signed w16 (cast_unsigned w16 e))) } in
    let two : Decimal = record { mantissa = m; exponent = e } in
    let pair : one ≡ two = decimal_is one two (to_z-of_z {w = w128} {z = m} first) (exponent_wide e second) in
    decimal_found c.args.bytes.now c.in-Some.rest.now c.in-Some-read_exponent.rest.now m e c.in-Some.ensures c.in-Some-read_exponent.ensures d (told.is_the_pair ∙ pair) (subst IsCanonical (sym told.is_the_pair) (told.tells_canonical.0 refl))

pub returns-in-None : goal.returns-in-None
returns-in-None c =
    let m = c.in-Some.mantissa in
    let e = c.in-Some-read_exponent.exponent in
    let first : FitsSigned w128 m = search rules in
    let second : FitsSigned w16 e = search rules in
    let told = c.in-None.ensures in
    let one : Decimal = record { mantissa = cast_signed w128 (cast_unsigned w128 m); exponent = cast_signed w32 (cast_unsigned w32 (cast_signed w16 (cast_unsigned w16 e))) } in
    let two : Decimal = record { mantissa = m; exponent = e } in
    let pair : one ≡ two = decimal_is one two (to_z-of_z {w = w128} {z = m} first) (exponent_wide e second) in
    decimal_none c.args.bytes.now c.in-Some.rest.now c.in-Some-read_exponent.rest.now m e c.in-Some.ensures c.in-Some-read_exponent.ensures first second
    (λ canonical. false≢true (told.tells_canonical.1 (subst IsCanonical (sym pair) canonical)))
