use Rattle.std.proofs.Common.{arith, ap, ◌+◌, ◌*◌, ◌^◌, ◌≤◌, ◌≡◌, refl}
use Rattle.dk_num.proofs.Significands.{too_many, core_fits, digit_more}
use Rattle.dk_num.proofs.mantissa.digit_behind.Goals as goal

pub returns-then-number-ge34-clause-is : goal.returns-then-number-ge34-clause-is
returns-then-number-ge34-clause-is c = too_many c.args.number c.args.digit c.requires.low c.requires.high c.requires.is (omega arith)

pub returns-then-count-gt-MOST_DIGITS-clause-is : goal.returns-then-count-gt-MOST_DIGITS-clause-is
returns-then-count-gt-MOST_DIGITS-clause-is c = too_many c.args.number c.args.digit c.requires.low c.requires.high c.requires.is (omega arith)

pub overflow_mul-result : goal.overflow_mul-result
overflow_mul-result c =
    let fits : c.args.number.core * 10 ^ (c.args.number.zeros + 1) ≤ 10 ^ 34 = core_fits c.args.number _ (c.args.number.zeros + 1) c.requires.is c.if-count-gt-MOST_DIGITS.false in
    let is : c.args.number.core * c.power_of_ten.result ≡ c.args.number.core * 10 ^ (c.args.number.zeros + 1) = ap (λ p. c.args.number.core * p) c.power_of_ten.ensures.value in
    omega arith

pub overflow_add-result : goal.overflow_add-result
overflow_add-result c =
    let fits : c.args.number.core * 10 ^ (c.args.number.zeros + 1) ≤ 10 ^ 34 = core_fits c.args.number _ (c.args.number.zeros + 1) c.requires.is c.if-count-gt-MOST_DIGITS.false in
    let is : c.args.number.core * c.power_of_ten.result ≡ c.args.number.core * 10 ^ (c.args.number.zeros + 1) = ap (λ p. c.args.number.core * p) c.power_of_ten.ensures.value in
    omega arith

pub returns-clause-is : goal.returns-clause-is
returns-clause-is c = digit_more c.args.number _ c.args.digit c.requires.low c.requires.high c.requires.is (ap (λ p. c.args.number.core * p + c.args.digit) c.power_of_ten.ensures.value) refl refl c.if-count-gt-MOST_DIGITS.false
