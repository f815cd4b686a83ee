use Rattle.std.proofs.Common.{◌∙◌, ap, length, arith, length-append, ◌∷◌, []}
use Rattle.dk_num.proofs.Lengths.{one_digit, four_digits}
use Rattle.dk_num.proofs.text.put_number.Goals as goal

pub returns-then-number-lt10-clause-short : goal.returns-then-number-lt10-clause-short
returns-then-number-lt10-clause-short c =
    let digits = ap length (c.as_bytes-digits.ensures.value ∙ c.format.ensures.text) in
    let first = ap length c.put.ensures ∙ length-append c.args.line.now (48 ∷ []) in
    let second = ap length c.put-then-number-lt10.ensures ∙ length-append c.put.new.self c.as_bytes-digits.result.now in
    omega (arith, digits, first, second, one_digit c.args.number c.if-number-lt10.true)

pub returns-else-number-lt10-clause-short : goal.returns-else-number-lt10-clause-short
returns-else-number-lt10-clause-short c =
    let digits = ap length (c.as_bytes-digits.ensures.value ∙ c.format.ensures.text) in
    let first = ap length c.put-else-number-lt10.ensures ∙ length-append c.args.line.now c.as_bytes-digits.result.now in
    omega (arith, digits, first, four_digits c.args.number c.requires.near)
